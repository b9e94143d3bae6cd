use Rattle.std.proofs.Common.{◌≡◌, ℕ, ◌+◌}
use Rattle.pv_shadow.specs.Packed.{digit_at}
use Rattle.pv_shadow.proofs.packed.digit_at.Given as goal

-- what is left has the digit at as much less
abbrev pub invariant-loop-i : goal.invariant-loop-i
invariant-loop-i l = (k : ℕ) → digit_at l.rest k ≡ digit_at l.n (l.i + k)
