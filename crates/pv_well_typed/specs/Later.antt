-- What a unit at its end has of a state in which a part of it was typed (C17 6.2.7p4, 6.9p5, 6.9.2): a unit that is later than a state.
use Rattle.std.specs.Prelude.{◌≡◌, ◌<◌, ◌≤◌, ◌^◌, ℕ, true, false, Option, None, List, ◌++◌, length}
use Rattle.pv_library.specs.declared.library.Library.{Library}
use Rattle.pv_types.specs.Ty.{Ty, Tys, StructTag, FunctionTy}
use Rattle.pv_types.specs.Known.{heading_at}
use Rattle.pv_types.specs.Layouts.{Entry, layout_in, AllFill}
use Rattle.pv_typed.specs.Known.{Each}
use Rattle.pv_typed.specs.TypedUnits.{WholeUnit, layouts, object_at, function_at, literal_at, name_at}
use Rattle.pv_library.specs.LibraryNames.{library_named}
use Rattle.pv_check.specs.State.{State, Used, UsedObject, UsedFunction, PointedFunction}
use Rattle.pv_guards.specs.Typed.{HasBody, IsIn, IsSignature}

-- 5.2.4.1p1, 6.7.2.1p8: a unit at its end: each structure and union that is completed has a byte, and none of its types is larger than
-- 2 ^ 32 bytes, nor is a string literal (6.4.5)
pub record IsFinished (v : WholeUnit) : Type 0 where
  pub filled : AllFill (layouts v)
  pub small : (n : ℕ) → (layout_in (layouts v) (StructTag n)).size ≤ 2 ^ 32
  pub texts : (l : ℕ) → length (literal_at v l).bytes ≤ 2 ^ 32

-- 6.7.2.3p4: the layouts of completed tags are those of before, perhaps with more behind
abbrev pub Extends : List Entry → WholeUnit → Type 0
Extends es v = (more : List Entry) × (layouts v ≡ es ++ more)

-- 7.1.3p1: the function of the library whose name a function of the unit has, if it has that of one
abbrev pub library_of : WholeUnit → ℕ → Option Library
library_of u f = library_named (name_at u (function_at u f).name)

-- 6.9p5: what an expression named is there: an object with static storage, the body of a function that is none of the library's, and an
-- instance of a function that is pointed to (6.3.2.1p4)
abbrev pub IsThere : WholeUnit → Used → Type 0
IsThere v (UsedObject o) = (object_at v o).lasting ≡ true → IsIn o v.statics
IsThere v (UsedFunction f) = library_of v f ≡ None → HasBody v f
IsThere v (PointedFunction f) = IsIn f v.placed

-- 6.2.7p4: the later unit has a function of a unit, with its name, and with a type of the same values
pub record Stays (u v : WholeUnit) (f : ℕ) : Type 0 where
  pub there : f < length v.functions
  pub named : library_of v f ≡ library_of u f
  pub signed : (t : Ty) (ts : Tys) → (function_at u f).t ≡ FunctionTy t ts false → IsSignature (function_at v f).t t ts

-- what a later unit has of a unit: the layouts of complete tags, and all tags (6.7.2.3); functions (6.2.7p4); string literals and
-- their instances (6.4.5p6); of an object its storage duration (6.2.4p3), since its type may be completed
pub record IsLaterUnit (u v : WholeUnit) : Type 0 where
  pub layouts : Extends (layouts u) v
  pub headings : (n : ℕ) → n < length u.headings → heading_at v.headings n ≡ heading_at u.headings n
  pub functions : (f : ℕ) → f < length u.functions → Stays u v f
  pub literals : (l : ℕ) → l < length u.literals → literal_at v l ≡ literal_at u l
  pub instances : (l : ℕ) → IsIn l u.instances → IsIn l v.instances
  pub lasting : (o : ℕ) → o < length u.objects → (object_at v o).lasting ≡ (object_at u o).lasting

-- a unit that is later than a state: it has what the state's unit has, and what expressions named (6.9p5)
pub record Later (s : State) (v : WholeUnit) : Type 0 where
  pub unit : IsLaterUnit s.unit v
  pub used : Each (IsThere v) s.used
