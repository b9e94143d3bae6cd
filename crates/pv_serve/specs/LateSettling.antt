-- Late settling is right (the memory model): what the run whose pairs of candidates are settled late says of the runs whose pairs each stand for a side
-- from their making.
use Rattle.std.specs.Prelude.{◌≡◌, ℕ, ◌≤◌, Bool, true, false, List, length, map, Option, Some}
use Rattle.pv_exec.specs.Settling.{IsDecided, IsUndefined}
use Rattle.pv_exec.specs.Sided.{is_high}
use Rattle.pv_serve.specs.Verdicts.{Verdict, Ending, Settled}

-- ---- of whatever gives verdicts, a source (5.1.1.1) or a unit, by the sides that are given

-- 5.1.2.3p6, the memory model: settled by the sides to which it settled its pairs, a run ends in the same way (5.1.2.2.3), after as many turns, with the
-- same output
pub record EndsAgain (Gives : Option (List Bool) → Verdict → Type 0) (bound : ℕ) (e : Ending) : Type 0 where
  pub again : Ending
  pub gives : Gives (Some (map is_high e.sides)) (Settled again bound false)
  pub outcome : again.outcome ≡ e.outcome
  pub turns : again.turns ≡ e.turns
  pub output : again.output ≡ e.output
  pub names : again.names ≡ e.names

-- 3.4.3, the memory model: settled by these sides, a run ends undefined, at this turn at the latest
pub record EndsSooner (Gives : Option (List Bool) → Verdict → Type 0) (bound turns : ℕ) (sides : List Bool) : Type 0 where
  pub again : Ending
  pub gives : Gives (Some sides) (Settled again bound false)
  pub undefined : IsUndefined again.outcome
  pub sooner : again.turns ≤ turns

-- the memory model: a run that ends neither undefined nor undecided is the one that its own sides settle; one that ends undefined (3.4.3) does so by every
-- list that has a side for each of its pairs, no later
pub record IsRight (Gives : Option (List Bool) → Verdict → Type 0) (bound : ℕ) (e : Ending) : Type 0 where
  pub alike : IsDecided e.outcome → EndsAgain Gives bound e
  pub sooner : IsUndefined e.outcome → (sides : List Bool) → length e.sides ≤ length sides → EndsSooner Gives bound e.turns sides

-- the memory model: that is so of a verdict that lists its sides; of any other nothing is said
abbrev pub SettlesRight : (Gives : Option (List Bool) → Verdict → Type 0) → Verdict → Type 0
SettlesRight Gives (Settled e bound true) = IsRight Gives bound e
SettlesRight Gives _ = Unit {0}
