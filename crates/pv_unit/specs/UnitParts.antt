-- A bridge: what functions answer that do a part of what Units says.
use Rattle.pv_typed.specs.TypedUnits.{name_at, TypedFunction}
use Rattle.pv_typed.specs.Mains.{named_main}
use Rattle.std.specs.Prelude.{is_some, Bool, ◌&&◌, ℕ, List}
use Rattle.std.specs.List.{list_any}
use Rattle.pv_check.specs.State.{State, Used}
use Rattle.pv_library.specs.LibraryNames.{library_named}
use Rattle.pv_unit.specs.Redeclarations.{Entity, unit_name}
use Rattle.pv_unit.specs.Units.{uses, points}

-- 7.1.3p1: a function that has a name of the library
abbrev pub is_of_library : State → Entity → Bool
is_of_library s e = e.function && is_some (library_named (name_at s.unit (unit_name e.name)))

-- a function of this name that has a body
abbrev pub is_main_function : List (List ℕ) → TypedFunction → Bool
is_main_function names f = is_some f.body && named_main names f.name

-- 6.9p5: one of the expressions names it; the operand of sizeof counts as well (our choice)
abbrev pub is_used : Bool → ℕ → List Used → Bool
is_used function k xs = list_any (uses function k) xs

-- 5.1.2.2.1p1: one of the functions has this name and a body
abbrev pub has_main_in : List (List ℕ) → List TypedFunction → Bool
has_main_in names fs = list_any (λ (f : TypedFunction). is_some f.body && named_main names f.name) fs

-- 6.3.2.1p4: so it is in one of the expressions
abbrev pub is_pointed : ℕ → List Used → Bool
is_pointed k xs = list_any (points k) xs
