use Rattle.std.proofs.Common.{ℕ, ◌+◌, ◌-◌, ◌<◌, ◌≤◌, ◌^◌, IsSomeAnd}
use Rattle.pv_shadow.specs.Packed.{digit_at, IsNameless}
use Rattle.pv_shadow.specs.Pages.{slot_at}
use Rattle.pv_shadow.proofs.page.Page.composed.Given as goal

-- the number so far is that of the bytes from place k on
abbrev pub invariant-loop-k : goal.invariant-loop-k
invariant-loop-k l = record {
  within : l.k ≤ l.n;
  bound : l.number < 256 ^ (l.n - l.k);
  so_far : (j : ℕ) → l.k + j < l.n → IsSomeAnd (slot_at l.self (l.i + (l.k + j))) (IsNameless (digit_at l.number j));
}
