-- A hall as a list of slots.
use Rattle.std.specs.Prelude.{ℕ, List}
use Rattle.std.specs.declared.alloc.Global.{Global}
use Rattle.std.specs.declared.dyn_box.DynBox.{DynBox}
use Rattle.pv_watch.specs.declared.event.Event.{Event}
use Rattle.pv_watch.specs.declared.hall.Hall.{Hall}
use Rattle.pv_watch.specs.Seen.{Kind}
use Rattle.pv_watch.specs.Slots.{Slot, slots, watcher}

-- by what the trait says of a boxed watcher of a run's events (memory model)
abbrev pub slots_in : {X : Type 0} {P : X → Type 0} → (DynBox X Global P → Slot) → Hall X P → List Slot
slots_in view h = slots view h.seats.items

-- by what the trait itself says of the watchers of a run's events (memory model), whatever boxes they are in
abbrev pub hall_slots : {X : Type 0} {P : X → Type 0} → Hall X P → ((x : X) × P x → Kind) → ((x : X) × P x → ℕ) → ((x : X) × P x → List Event) → List Slot
hall_slots h kind wants seen = slots_in (watcher (λ b. kind (b.vtable, b.value)) (λ b. wants (b.vtable, b.value)) (λ b. seen (b.vtable, b.value))) h
