use Rattle.std.proofs.Common.{ℕ, ◌<◌, sym, subst}
use Rattle.pv_journal.proofs.Long.{ids_unread}
use Rattle.pv_journal.proofs.reading.ids_in.Goals as goal

pub returns-then-marks-gt1 : goal.returns-then-marks-gt1
returns-then-marks-gt1 c = sym (ids_unread c.args.left.now (subst (λ (n : ℕ). 1 < n) c.marks.ensures c.if-marks-gt1.true))
