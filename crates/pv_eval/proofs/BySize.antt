-- Operations that go by the size of a type: by a size that was found, and by none.
use Rattle.std.proofs.Common.{◌≡◌, ℕ, Bool, true, List, ◌++◌, None, sym, subst}
use Rattle.std.specs.Prelude.{◌&&◌, Result, Err}
use Rattle.pv_types.specs.Layouts.{up_to}
use Rattle.pv_watch.specs.declared.event.What.{What}
use Rattle.pv_world.specs.declared.got.Got.{Got}
use Rattle.pv_world.specs.declared.got.Failure.{Failure}
use Rattle.pv_world.specs.declared.got.Shape.{Shape}
use Rattle.pv_world.specs.Worlds.{Worth, World}
use Rattle.pv_world.specs.Worths.{missing_value}
use Rattle.pv_world.specs.Telling.{fault_of, verdict_of}
use Rattle.pv_world.specs.Doing.{Done}
use Rattle.pv_world.specs.Accesses.{takes_bytes}
use Rattle.pv_world.specs.Suiting.{where_suiting, is_size, has_part, knows_worth}
use Rattle.pv_world.specs.Coming.{Did, Faulted, worth_of}
use Rattle.pv_world.proofs.Guards as looked
use Rattle.pv_eval.specs.TypeForms.{Lvalue}
use Rattle.pv_eval.proofs.Numbers.{IsKept, lost}
use Rattle.pv_eval.proofs.Through.{left_false}

module _ (works : ℕ → World → Done) (fits : ℕ → Bool) (n : ℕ) where
  pub by_size : (m : ℕ) (r : Result Got Failure) (w v : World) (es fs : List What) → IsKept n m
      → Did worth_of (where_suiting (fits m) (works m)) r w v es fs → Did worth_of (where_suiting (is_size n && fits n) (works n)) r w v es fs
  by_size m r w v es fs k h =
      let same : Did worth_of (where_suiting (fits n) (works n)) r w v es fs = subst (λ (j : ℕ). Did worth_of (where_suiting (fits j) (works j)) r w v es fs) (sym k.same) h in
      subst (λ (c : Bool). Did worth_of (where_suiting (c && fits n) (works n)) r w v es fs) (sym k.test) same

  pub by_none : (f : Failure) (w : World) (es fs : List What) → up_to n ≡ None → Faulted f missing_value fs (es ++ fault_of None (verdict_of missing_value))
      → Did worth_of (where_suiting (is_size n && fits n) (works n)) (Err f) w w es fs
  by_none f w es fs e h = looked.unsuited worth_of (works n) w (is_size n && fits n) f es fs (left_false (is_size n) (fits n) (lost n e)) h

-- a member of a value, at the size and the shape that were found
pub part_sized : (offset : ℕ) (l : Lvalue) (v : Worth) (m : ℕ) (s : Shape) (r : Result Got Failure) (w z : World) (es fs : List What) → IsKept l.size m → s ≡ l.shape
    → Did worth_of (where_suiting (has_part v offset m && knows_worth w.memory.table v) (takes_bytes offset m s v)) r w z es fs
    → Did worth_of (where_suiting (is_size l.size && (has_part v offset l.size && knows_worth w.memory.table v)) (takes_bytes offset l.size l.shape v)) r w z es fs
part_sized offset l v m s r w z es fs k e h =
    by_size (λ n. takes_bytes offset n l.shape v) (λ n. has_part v offset n && knows_worth w.memory.table v) l.size m r w z es fs k
    (subst (λ (x : Shape). Did worth_of (where_suiting (has_part v offset m && knows_worth w.memory.table v) (takes_bytes offset m x v)) r w z es fs) e h)
