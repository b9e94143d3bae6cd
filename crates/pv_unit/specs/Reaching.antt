-- A bridge: the automatic objects that the code of a declaration in a block reaches.
use Rattle.std.specs.Prelude.{ℕ, ◌<◌, Bool, true, false, List, map, length, Option, Some, None}
use Rattle.pv_typed.specs.Known.{Each}
use Rattle.pv_typed.specs.Tables.{Stored}
use Rattle.pv_check.specs.Raw.{Raw}
use Rattle.pv_check.specs.Open.{state_in}
use Rattle.pv_check.specs.State.{After}
use Rattle.pv_unit.specs.declared.blocks.Reached.{Reached}
use Rattle.pv_unit.specs.Blocks.{Reached as WholeReached}

-- an automatic object that a declaration reaches (6.2.4p5), as the code has it
abbrev pub reached_of : Reached → WholeReached
reached_of x = record { object = x.object; line = x.line }

-- those that were reached (6.2.4p5), and the state behind them
abbrev pub reached_in : List (List ℕ) → Raw → Stored → List Reached → After (List WholeReached)
reached_in texts s m xs = record { value = map reached_of xs; state = state_in texts s m }

-- the same as an answer (6.2.4p5)
abbrev pub reached_if : List (List ℕ) → Raw → Stored → List Reached → Bool → Option (After (List WholeReached))
reached_if texts s m xs false = None
reached_if texts s m xs true = Some (reached_in texts s m xs)

-- the reached objects (6.2.4p5) are in the tables
abbrev pub AreReached : Stored → List Reached → Type 0
AreReached m xs = Each (λ (x : Reached). x.object < length m.objects) xs

-- the reached objects (6.2.4p5) are in the tables, where there is an answer
abbrev pub ReachedOn : Stored → List Reached → Bool → Type 0
ReachedOn m xs false = Unit {0}
ReachedOn m xs true = AreReached m xs
