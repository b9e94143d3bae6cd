use Rattle.std.proofs.Common.{ℕ, ◌<◌, sym, subst}
use Rattle.pv_journal.proofs.Long.{unread}
use Rattle.pv_journal.proofs.reading.said.Goals as goal

pub returns-then-marks-gt5 : goal.returns-then-marks-gt5
returns-then-marks-gt5 c = sym (unread c.args.line.now (subst (λ (n : ℕ). 5 < n) c.marks.ensures c.if-marks-gt5.true))
