-- A bridge: what is told of a run.
use Rattle.std.specs.Prelude.{ℕ, List, codes, Option, Some, None}
use Rattle.pv_watch.specs.declared.event.Event.{Event}
use Rattle.pv_watch.specs.Lines.{instance_text}

-- the events of the memory model that were seen, and the texts of the names by number
pub record Told : Type 0 where
  pub seen : List Event
  pub names : List (List ℕ)

-- a watcher of one of the kinds: how many events of the memory model it wants to see, and those that it has seen
pub record Watching : Type 0 where
  pub wants : ℕ
  pub seen : List Event

-- one of the candidates of a pair (memory model), `?` where its making isn't told
abbrev pub survivor : List Event → List (List ℕ) → Option ℕ → List ℕ
survivor seen names None = codes "?"
survivor seen names (Some i) = instance_text seen names i
