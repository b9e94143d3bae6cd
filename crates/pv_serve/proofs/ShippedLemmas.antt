-- A call before the watchers of the program.
use Rattle.std.proofs.Common.{◌≡◌, ℕ, List, subst}
use Rattle.std.specs.Prelude.{Option}
use Rattle.pv_watch.specs.Shipped.{shipped}
use Rattle.pv_watch.specs.Slots.{Slot}
use Rattle.pv_serve.specs.Outside.{Sunk, Halls}
use Rattle.pv_serve.specs.Causes.{Served, ServedShipped}

pub shipped_served : (words : List (List ℕ)) (held : List ℕ → Option (List ℕ)) (faults_old faults_new : List ℕ → ℕ) (out report : Sunk) (hall : Halls) (status : ℕ) → hall.old ≡ shipped
    → Served (record { words = words; held = held; faults_old = faults_old; faults_new = faults_new; out = out; report = report; hall = hall; status = status })
    → ServedShipped words held faults_old faults_new out report status
shipped_served words held faults_old faults_new out report hall status fresh served = (
  hall.new,
  subst (λ (old : List Slot). Served (record {
    words = words;
    held = held;
    faults_old = faults_old;
    faults_new = faults_new;
    out = out;
    report = report;
    hall = record { old = old; new = hall.new };
    status = status;
  })) fresh served,
)
