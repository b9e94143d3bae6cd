-- What typing keeps true of its state (C17 6.2.1, 6.2.5, 6.7): told of the types that the unit has at its end.
use Rattle.std.specs.Prelude.{◌≡◌, ◌<◌, ℕ, true, false, Option, Some, None, List, length}
use Rattle.pv_library.specs.declared.library.Library.{Library}
use Rattle.pv_library.specs.LibraryTypes.{prototype}
use Rattle.pv_num.specs.declared.kinds.IntKind.TheVariants.{Int}
use Rattle.pv_num.specs.Kinds.{Fits}
use Rattle.pv_types.specs.Ty.{Ty, FunctionTy}
use Rattle.pv_types.specs.Known.{heading_at}
use Rattle.pv_types.specs.Layouts.{Completed, Entry, Named, look, layout_of, is_complete_in}
use Rattle.pv_typed.specs.Known.{Each}
use Rattle.pv_typed.specs.TypedUnits.{WholeUnit, TypedObject, layouts, object_at, function_at}
use Rattle.pv_tree.specs.Syntax.{ExpressionTree}
use Rattle.pv_check.specs.State.{State, Scope, Meaning, ObjectName, FunctionName, TypedefOf, ConstantOf, TagMeaning, CompositeTag, EnumerationTag, OpenEnumeration}
use Rattle.pv_guards.specs.Typed.{IsIn, IsResultOf, AreParametersOf}
use Rattle.pv_well_typed.specs.Proper.{IsProper, IsValueOrVoid}
use Rattle.pv_well_typed.specs.Later.{library_of}
use Rattle.pv_well_typed.specs.Characters.{HasCharacters}

-- 7.1.4p2: the type of a function of the library, compatible with its prototype: so its parameters have the values of those there
abbrev pub IsLibraryType : WholeUnit → Library → Ty → Type 0
IsLibraryType v l (FunctionTy t ts variadic) = IsResultOf l t × IsValueOrVoid t × IsProper v t × AreParametersOf (prototype l) ts variadic
IsLibraryType v l _ = ⊥

-- our choice: a type without `...`
abbrev pub IsFixed : Ty → Type 0
IsFixed (FunctionTy t ts variadic) = variadic ≡ false
IsFixed _ = Unit {0}

-- 6.9.1, 7.1.4p2: the type of a function of the program, which has no `...`, or of the library
abbrev pub HasFunctionType : WholeUnit → Option Library → Ty → Type 0
HasFunctionType v None t = IsProper v t × IsFixed t
HasFunctionType v (Some l) t = IsLibraryType v l t

-- 6.7.2.1p3: a member has a complete type
abbrev pub IsMember : WholeUnit → List Entry → Named → Type 0
IsMember v es m = IsProper v m.t × (is_complete_in es m.t ≡ true)

-- 6.7.2.1p8, 6.7.2.3p1: a tag is completed once, behind the word that it was declared with
pub record IsCompleted (v : WholeUnit) (es : List Entry) (d : Completed) : Type 0 where
  pub word : (heading_at v.headings d.tag).union ≡ d.union
  pub laid : look es d.tag ≡ Some (layout_of es d.tag d.union d.members)
  pub members : Each (IsMember v es) d.members

-- 6.2.3: what an identifier designates: a function that there is, a type, a value of type `int` (6.7.2.2p2)
abbrev pub IsMeaning : WholeUnit → (functions : ℕ) → Meaning → Type 0
IsMeaning v n (ObjectName o) = Unit {0}
IsMeaning v n (FunctionName f) = f < n
IsMeaning v n (TypedefOf t) = IsProper v t
IsMeaning v n (ConstantOf value) = Fits Int value

-- 6.7.2.3p2: what a tag designates: a structure or a union, by the word that it was declared with
abbrev pub IsTagMeaning : WholeUnit → TagMeaning → Type 0
IsTagMeaning v (CompositeTag union n) = (heading_at v.headings n).union ≡ union
IsTagMeaning v EnumerationTag = Unit {0}
IsTagMeaning v OpenEnumeration = Unit {0}

-- 6.2.1p4: the names of a scope, and its tags
abbrev pub IsScope : WholeUnit → (functions : ℕ) → Scope → Type 0
IsScope v n x = Each (λ (e : ℕ × Meaning). IsMeaning v n e.1) x.names × Each (λ (e : ℕ × TagMeaning). IsTagMeaning v e.1) x.tags

-- the types of a unit's objects, functions and members are as declarations make them
pub record HasProperTypes (v u : WholeUnit) : Type 0 where
  pub objects : Each (λ (x : TypedObject). IsProper v x.t) u.objects
  pub functions : (f : ℕ) → f < length u.functions → HasFunctionType v (library_of u f) (function_at u f).t
  pub completed : Each (IsCompleted v (layouts u)) u.completed

-- what typing keeps true of its state: there is a scope, and all types are as declarations make them
pub record IsProperState (v : WholeUnit) (s : State) : Type 0 where
  pub unit : HasProperTypes v s.unit
  pub some : 0 < length s.scopes
  pub scopes : Each (IsScope v (length s.unit.functions)) s.scopes

-- 6.2.1p4, 6.2.4p5: a name of an object with automatic storage stands for one of these
abbrev pub IsVisible : WholeUnit → (automatic : List ℕ) → Meaning → Type 0
IsVisible v os (ObjectName o) = (object_at v o).lasting ≡ false → IsIn o os
IsVisible v os (FunctionName f) = Unit {0}
IsVisible v os (TypedefOf t) = Unit {0}
IsVisible v os (ConstantOf value) = Unit {0}

-- 6.2.1p4: each name of all scopes that is one of an object with automatic storage stands for one of these
abbrev pub AreVisible : WholeUnit → (automatic : List ℕ) → List Scope → Type 0
AreVisible v os ss = Each (λ (x : Scope). Each (λ (e : ℕ × Meaning). IsVisible v os e.1) x.names) ss

-- 6.5: an expression that is evaluated: it stands in no operand of sizeof (6.5.3.4p2), each name of an object with automatic storage
-- stands for one of these, and its character constants are values of type `int`
pub record IsEvaluated (v : WholeUnit) (automatic : List ℕ) (s : State) (e : ExpressionTree) : Type 0 where
  pub proper : IsProperState v s
  pub evaluated : s.unevaluated ≡ false
  pub visible : AreVisible v automatic s.scopes
  pub characters : HasCharacters e
