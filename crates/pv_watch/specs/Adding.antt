-- A bridge: what a watcher sees and adds.
use Rattle.std.specs.Prelude.{◌≡◌, ◌≢◌, ℕ, List, [], ◌∷◌, ◌++◌, length}
use Rattle.pv_watch.specs.declared.event.Event.{Event}
use Rattle.pv_watch.specs.declared.watch.Attend.{Attend}
use Rattle.pv_watch.specs.declared.watch.Attend.TheVariants.{More, Enough, NoMemory}
use Rattle.pv_watch.specs.Slots.{Slot, Says}

-- an event (of the memory model) was seen, and there are as many now as are wanted, or not; or it was not seen
abbrev pub Sees : List Event → List Event → ℕ → Event → Attend → Type 0
Sees old new wants event More = (new ≡ old ++ event ∷ []) × (length new ≢ wants)
Sees old new wants event Enough = (new ≡ old ++ event ∷ []) × (length new ≡ wants)
Sees old new wants event NoMemory = new ≡ old

-- the text of a slot was added (docs/FORMATS.md, What watchers say; memory model)
pub record Adds (names : List (List ℕ)) (slot : Slot) (old new : List ℕ) : Type 0 where
  pub text : List ℕ
  pub says : Says names slot text
  pub whole : new ≡ old ++ text
