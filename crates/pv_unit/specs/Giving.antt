-- A bridge: what the answers of the code that gives an object its initializer stand for (C17 6.7.9).
use Rattle.std.specs.Prelude.{ℕ, ◌<◌, length, List, [], ◌∷◌, Option, Some, None}
use Rattle.pv_types.specs.Known.{tree}
use Rattle.pv_typed.specs.declared.entries.Init.{Init}
use Rattle.pv_typed.specs.Entries.{with_store}
use Rattle.pv_typed.specs.Tables.{Stored}
use Rattle.pv_typed.specs.TypedUnits.{Store, WholeUnit}
use Rattle.pv_check.specs.Raw.{Raw}
use Rattle.pv_check.specs.Open.{state_in}
use Rattle.pv_check.specs.State.{State}
use Rattle.pv_unit.specs.declared.giving.Completion.{Completion}
use Rattle.pv_unit.specs.Initializers.{Given as WholeGiven}
use Rattle.pv_unit.specs.Rules.{After}
use Rattle.pv_unit.specs.Stores.{stores_in}

-- what an object gets by its initializer (6.7.9), as the code has it
abbrev pub given_in : Stored → List Init → Completion → WholeGiven
given_in m out x = record { t = tree m.known x.t.0; braced = x.braced; stores = stores_in m out }

-- what an object gets by its initializer (6.7.9) as an answer, and the state behind it
abbrev pub given_if : List (List ℕ) → Raw → Stored → List Init → Option Completion → Option (After State WholeGiven)
given_if texts s m out None = None
given_if texts s m out (Some x) = Some (record { value = given_in m out x; state = state_in texts s m })

-- the type that an object gets (6.7.9p22) is in the table of types
abbrev pub IsGivenIf : Stored → Option Completion → Type 0
IsGivenIf m None = Unit {0}
IsGivenIf m (Some x) = x.t.0 < length m.known.terms

-- stores behind those of an object (6.7.9), one after the other
abbrev pub with_stores : WholeUnit → ℕ → List Store → WholeUnit
with_stores u o [] = u
with_stores u o (x ∷ xs) = with_stores (with_store u o x) o xs
