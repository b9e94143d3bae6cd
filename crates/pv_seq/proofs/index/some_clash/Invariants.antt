use Rattle.std.proofs.Common.{◌≡◌, ◌≤◌, ◌<◌, ℕ, false, get_or}
use Rattle.pv_seq.specs.Sequencing.{clash}
use Rattle.pv_seq.specs.Found.{no_access}
use Rattle.pv_seq.proofs.index.some_clash.Given as goal

abbrev pub invariant-loop-i : goal.invariant-loop-i
invariant-loop-i l = (j : ℕ) → j < l.i → l.start ≤ get_or l.wide j 0 → get_or l.wide j 0 < l.end → clash l.a (get_or l.accesses (get_or l.wide j 0) no_access) ≡ false
