-- What comes later in a run comes to what there is: bytes that were printed and events that came stay as they are (C17 5.1.2.3).
use Rattle.std.specs.Prelude.{◌≡◌, ℕ, ◌≤◌, List, ◌++◌}
use Rattle.pv_typed.specs.Known.{Each}
use Rattle.pv_eval.specs.declared.marked.Marked.{Marked}
use Rattle.pv_eval.specs.States.{State}

-- 5.1.2.3: an event of this turn or of a later one
abbrev pub IsFrom : (turn : ℕ) → Marked → Type 0
IsFrom n m = n ≤ m.event.turn

-- 5.1.2.3: from one moment to a later one, where nothing comes before this turn: bytes that were printed and events stay as they are
pub record Grew (turn : ℕ) (s t : State) : Type 0 where
  pub taken : turn ≤ t.taken
  pub more : List Marked
  pub events : t.events ≡ s.events ++ more
  pub later : Each (IsFrom turn) more
  pub bytes : List ℕ
  pub output : t.output ≡ s.output ++ bytes
