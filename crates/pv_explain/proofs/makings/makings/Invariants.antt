use Rattle.std.proofs.Common.{◌≡◌, ℕ, nat_eq, ◌≤◌, length, drop}
use Rattle.indexmap.specs.IndexMap.{get}
use Rattle.pv_watch.specs.Lines.{first_told, making_of}
use Rattle.pv_explain.proofs.makings.makings.Given as goal

abbrev pub invariant-loop-at : goal.invariant-loop-at
invariant-loop-at l = record {
  within : l.at ≤ length l.seen;
  told : (i : ℕ) → get nat_eq l.makings i ≡ first_told (making_of i) (drop l.at l.seen);
}

abbrev pub decreases-loop-at : goal.decreases-loop-at
decreases-loop-at l = l.at
