use Rattle.std.proofs.Common.{◌≡◌, ℕ, ◌+◌, ◌-◌, get_or, length}
use Rattle.pv_journal.proofs.held.give_room.Given as goal

abbrev pub invariant-loop-tops : goal.invariant-loop-tops
invariant-loop-tops l = (n : ℕ) → get_or l.tops.items n 0 ≡ get_or l.fn.tops.items n 0

abbrev pub decreases-loop-tops : goal.decreases-loop-tops
decreases-loop-tops l = l.name + 1 - length l.tops.items
