-- A unit whose parts are all there may be run.
use Rattle.std.proofs.Common.{◌≡◌, ◌<◌, ℕ, zero, suc, Some, List, [], ◌∷◌, length, arith}
use Rattle.std.specs.List.{slice_get}
use Rattle.std.proofs.lemmas.Option.{none-some, get_or_from_slice_get}
use Rattle.pv_typed.specs.Mains.{literal_text, heap_text}
use Rattle.pv_typed.specs.Tables.{Stored}
use Rattle.pv_typed.specs.Known.{AreKnown}
use Rattle.pv_eval.specs.Runnable.{IsRunnable}

there : (names : List (List ℕ)) (i : ℕ) (text : List ℕ) → slice_get names i ≡ Some text → i < length names
there [] i text e = absurd (none-some text e)
there (x ∷ names) zero text e = omega arith
there (x ∷ names) (suc i) text e = let lt = there names i text e in omega (arith, lt)

-- its first two names are those of literals and of allocations
pub runnable : (u : Stored) → AreKnown u → IsRunnable u
runnable u k = record {
  known = k;
  two = there u.names 1 heap_text k.own.1;
  literal = get_or_from_slice_get u.names 0 literal_text [] k.own.0;
  heap = get_or_from_slice_get u.names 1 heap_text [] k.own.1;
}
