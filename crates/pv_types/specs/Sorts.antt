-- What sort of type a type is, qualifiers aside (6.2.5).
use Rattle.std.specs.Prelude.{Bool, true, false, Option, Some, None, is_some}
use Rattle.std.specs.Option.{option_map_or}
use Rattle.pv_num.specs.declared.kinds.IntKind.{IntKind}
use Rattle.pv_num.specs.Kinds.{is_character_kind}
use Rattle.pv_types.specs.Ty.{Ty, VoidTy, IntTy, PointerTo, StructTag, UnionTag, ConstOf}

-- 6.2.5p26: the unqualified version of a type: without the qualifiers around it
abbrev pub bare_type : Ty → Ty
bare_type (ConstOf t) = bare_type t
bare_type t = t

-- 6.2.5p17: the kind of an integer type without qualifiers
abbrev pub kind_in : Ty → Option IntKind
kind_in (IntTy k) = Some k
kind_in _ = None

-- 6.2.5p17: the kind of an integer type
abbrev pub kind_of : Ty → Option IntKind
kind_of t = kind_in (bare_type t)

-- 6.2.5p15: a character type
abbrev pub is_character : Ty → Bool
is_character t = option_map_or is_character_kind (kind_of t) false

-- 6.2.5p20: what a pointer type without qualifiers points to
abbrev pub pointed_in : Ty → Option Ty
pointed_in (PointerTo t) = Some t
pointed_in _ = None

-- 6.2.5p20: what a pointer type points to
abbrev pub pointed_by : Ty → Option Ty
pointed_by t = pointed_in (bare_type t)

-- 6.2.5p20: a pointer type
abbrev pub is_pointer : Ty → Bool
is_pointer t = is_some (pointed_by t)

-- 6.2.5p21: a type without qualifiers is a scalar type
abbrev pub is_scalar_in : Ty → Bool
is_scalar_in (IntTy k) = true
is_scalar_in (PointerTo t) = true
is_scalar_in _ = false

-- 6.2.5p21: the scalar types are the integer and the pointer types
abbrev pub is_scalar : Ty → Bool
is_scalar t = is_scalar_in (bare_type t)

-- 6.2.5p19: a type without qualifiers is the void type
abbrev pub is_void_in : Ty → Bool
is_void_in VoidTy = true
is_void_in _ = false

-- 6.2.5p19: the void type
abbrev pub is_void : Ty → Bool
is_void t = is_void_in (bare_type t)

-- 6.2.5p20: a type without qualifiers is a structure or union
abbrev pub is_composite_in : Ty → Bool
is_composite_in (StructTag n) = true
is_composite_in (UnionTag n) = true
is_composite_in _ = false

-- 6.2.5p20: a structure or a union
abbrev pub is_composite : Ty → Bool
is_composite t = is_composite_in (bare_type t)
