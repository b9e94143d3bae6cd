-- A bridge: what the code that looks for names without a definition has.
use Rattle.std.specs.Prelude.{◌≡◌, ℕ, Bool, true, false, if◌then◌else◌, nat_eq, List, map}
use Rattle.std.specs.List.{list_any}
use Rattle.pv_typed.specs.Entries.{with_placed}
use Rattle.pv_typed.specs.TypedUnits.{WholeUnit}
use Rattle.pv_check.specs.declared.scopes.Named.{Named}
use Rattle.pv_check.specs.Raw.{used_of}
use Rattle.pv_unit.specs.declared.resolving.Uses.{Uses}
use Rattle.pv_unit.specs.UnitParts.{is_used, is_pointed}

-- the object, or the function, is among the numbers that were named (6.9p5)
abbrev pub has_in : (objects functions : List ℕ) → Bool → ℕ → Bool
has_in objects functions false k = list_any (nat_eq k) objects
has_in objects functions true k = list_any (nat_eq k) functions

-- the same of the sets that the code keeps (6.9p5)
abbrev pub has_use : Uses → Bool → ℕ → Bool
has_use x f k = has_in x.objects.keys x.functions.keys f k

-- the sets have what expressions named (6.9p5)
abbrev pub AreUses : List Named → Uses → Type 0
AreUses us x = (f : Bool) (k : ℕ) → has_use x f k ≡ is_used f k (map used_of us)

-- the numbers are those of the functions to which pointers are evaluated (6.3.2.1p4)
abbrev pub ArePointed : List Named → (numbers : List ℕ) → Type 0
ArePointed us numbers = (k : ℕ) → list_any (nat_eq k) numbers ≡ is_pointed k (map used_of us)

-- the unit with one more function that is pointed to (6.3.2.1p4), or as it was
abbrev pub placed_if : Bool → ℕ → WholeUnit → WholeUnit
placed_if b f u = if b then with_placed u f else u
