use Rattle.std.proofs.Common.{◌≡◌, ℕ, ◌≤◌, length}
use Rattle.pv_lex.specs.Markers.{groups}
use Rattle.pv_lex.proofs.comments.groups.Given as goal

abbrev pub invariant-loop-after : goal.invariant-loop-after
invariant-loop-after l = (k : ℕ) × (length l.rest ≤ k) × (groups k l.rest ≡ groups (length l.text) l.text)

abbrev pub decreases-loop-after : goal.decreases-loop-after
decreases-loop-after l = length l.rest
