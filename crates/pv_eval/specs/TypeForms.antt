-- What operations ask of a type (C17 6.2.5, 6.3.1.1, 6.5.3.4).
use Rattle.std.specs.Prelude.{ℕ, List, Bool, true, false, if◌then◌else◌, position, unwrap_or}
use Rattle.pv_num.specs.declared.kinds.IntKind.{IntKind}
use Rattle.pv_num.specs.declared.kinds.IntKind.TheVariants as kind
use Rattle.pv_types.specs.Ty.{Ty, VoidTy, IntTy, PointerTo, ArrayOf, FunctionTy, ConstOf}
use Rattle.pv_types.specs.Layouts.{Entry, layout_in, is_complete_in}
use Rattle.pv_types.specs.Known.{Known, trees}
use Rattle.pv_types.specs.Sorts.{bare_type, pointed_by, kind_of as kind_if, is_void}
use Rattle.pv_types.specs.SameTypes.{same_type}
use Rattle.pv_typed.specs.TypedUnits.{layouts}
use Rattle.pv_world.specs.declared.got.Shape.{Shape}
use Rattle.pv_world.specs.declared.got.Shape.TheVariants as shape
use Rattle.pv_eval.specs.States.{Setting}

-- 6.3.2.1p1: an lvalue, qualifiers aside: its type and the number of that, its size, its alignment and its shape
pub record Lvalue : Type 0 where
  pub t : Ty
  pub number : ℕ
  pub size : ℕ
  pub align : ℕ
  pub shape : Shape

-- 6.3.2.1p2: what is read or written through it: an integer, a pointer, or a structure or union whole
abbrev pub shape_of : Ty → Shape
shape_of (IntTy k) = shape.Int k
shape_of (PointerTo t) = shape.Pointer
shape_of (ConstOf t) = shape_of t
shape_of _ = shape.Whole

-- 6.5p6: the number of a type in the table, by which a store marks its bytes
abbrev pub number_of : Known → Ty → ℕ
number_of m t = unwrap_or (position (same_type t) (trees m)) 0

-- 6.5.3.4p2: the size of a type
abbrev pub size_of : Setting → Ty → ℕ
size_of b t = (layout_in (layouts b.unit) t).size

-- 6.2.8p1: the alignment of a type
abbrev pub align_of : Setting → Ty → ℕ
align_of b t = (layout_in (layouts b.unit) t).align

-- 6.3.2.1p1: the lvalues of a type
abbrev pub lvalue : Setting → Ty → Lvalue
lvalue b t = record { t = bare_type t; number = number_of b.types (bare_type t); size = size_of b t; align = align_of b t; shape = shape_of t }

-- 6.2.5p17: the kind of an integer type
abbrev pub kind_of : Ty → IntKind
kind_of t = unwrap_or (kind_if t) kind.Int

-- 6.2.5p20: what a pointer type points to
abbrev pub pointed_to : Ty → Ty
pointed_to t = unwrap_or (pointed_by t) VoidTy

-- 6.3.2.3p7: a pointer to this type is aligned for what it points to; an incomplete type asks for nothing
abbrev pub alignment_by : List Entry → Ty → ℕ
alignment_by env t = if is_complete_in env t then (layout_in env t).align else 1

-- 6.5.6p8: the size of what it points to
abbrev pub element_size : Setting → Ty → ℕ
element_size b t = size_of b (pointed_to t)

-- 6.7.3p6, p9: the declared type, or the innermost element type, is const-qualified
abbrev pub is_constant : Ty → Bool
is_constant (ConstOf t) = true
is_constant (ArrayOf t n) = is_constant t
is_constant _ = false

-- 6.7.6.3, 6.8.6.4: a function that returns nothing
abbrev pub gives_none : Ty → Bool
gives_none (FunctionTy t ts v) = is_void t
gives_none _ = false
