-- A watcher of another number than those that are given has the text of its own kind.
use Rattle.std.proofs.Common.{◌≡◌, ℕ, ◌<◌, List, false, arith, refl}
use Rattle.std.specs.Prelude.{◌==◌}
use Rattle.std.proofs.lemmas.Bool.Decides.{nat_tests}
use Rattle.pv_watch.specs.Seen.{Kind}
use Rattle.pv_watch.specs.Kinds.{kind_meant, IsText}
use Rattle.pv_watch.specs.declared.event.Event.{Event}

other : (number given : ℕ) → given < 5 → 4 < number → (number == given) ≡ false
other number given small large = grind (arith, nat_tests)

own_kind : (kind : Kind) → 4 < kind.number → kind_meant kind ≡ kind
own_kind kind large = rw (other kind.number 1 (omega arith) large) (rw (other kind.number 2 (omega arith) large) (rw (other kind.number 3 (omega arith) large) (rw (other kind.number 4 (omega arith) large) refl)))

pub own_text : (kind : Kind) (wants : ℕ) (seen : List Event) (names : List (List ℕ)) (text : List ℕ) → 4 < kind.number → text ≡ kind.text wants seen names → IsText kind wants seen names text
own_text kind wants seen names text large is = rw (own_kind kind large) is
