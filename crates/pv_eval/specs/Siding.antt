-- Which side a pair keeps that an operation made, in a settled run: bridges to the code.
use Rattle.std.specs.Prelude.{◌≡◌, ℕ, Bool, true, false, nat_lt, List, Option, Some, None, slice_get, Result, Ok, Err, slice_index_or}
use Rattle.pv_world.specs.Worlds.{Worth, World}
use Rattle.pv_world.specs.Telling.{Told}
use Rattle.pv_world.specs.Coming.{wrong_for}
use Rattle.pv_eval.specs.declared.failure.Failure.{Failure}
use Rattle.pv_eval.specs.declared.failure.Failure.TheVariants as failure
use Rattle.pv_eval.specs.declared.siding.Side.{Side}
use Rattle.pv_eval.specs.declared.siding.Side.TheVariants.{Free, Ended, Keeps}
use Rattle.pv_eval.specs.States.{State, Stopped, Res, Gives, Stops}
use Rattle.pv_eval.specs.Acting.{after_telling, by_side}
use Rattle.pv_eval.specs.Constants.{is_high_pair}

-- the memory model: any side, where the run isn't settled, or no pair was made; none, where the list has ended; else that of the list
abbrev pub side_by : (made : Bool) → Option Bool → Side
side_by false o = Free
side_by true None = Ended
side_by true (Some high) = Keeps high

-- the memory model: the same, by how many pairs there were before and after an operation
abbrev pub side_for : Option (List Bool) → (before after : ℕ) → Side
side_for None n m = Free
side_for (Some sides) n m = side_by (nat_lt n m) (slice_get sides n)

-- the memory model: the value of an operation, by the side that its pair keeps
abbrev pub answered_by : Side → Worth → (line : ℕ) → World → Told → State → Res Worth
answered_by Free v line w t s = Gives v (after_telling w t s)
answered_by Ended v line w t s = by_side None v line w t s
answered_by (Keeps high) v line w t s = by_side (Some high) v line w t s

-- the memory model: the operation gives this value, or its pair has no side
abbrev pub Settled : Worth → Res Worth → Result (Unit {0}) Failure → State → Type 0
Settled v r (Ok u) s = r ≡ Gives v s
Settled v r (Err (failure.Stop y line)) s = r ≡ Stops (Stopped (wrong_for y) line) s
Settled v r (Err failure.NoMemory) s = Unit {0}

-- the memory model: whether a pair of candidates keeps its high one alone
abbrev pub high_side : World → (pair : ℕ) → Bool
high_side w k = is_high_pair (slice_index_or w.memory.table.pairs k (record { low = 0; high = 0; keeps_low = true; keeps_high = true }))
