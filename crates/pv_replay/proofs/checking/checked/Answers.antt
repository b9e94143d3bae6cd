use Rattle.std.proofs.Common.{◌∙◌, arith}
use Rattle.pv_replay.proofs.CheckLemmas.{obeyed, broken}
use Rattle.pv_replay.proofs.checking.checked.Goals as goal

pub returns-in-Ok-clause-checked : goal.returns-in-Ok-clause-checked
returns-in-Ok-clause-checked c =
    obeyed _ _ c.in-Ok.lines.items _ _ (omega (arith, c.if-bytes-gt-JOURNAL_LIMIT.false)) c.in-Ok.ensures.lines (c.len.ensures ∙ c.in-Ok.lines.ok.0) c.accepted.ensures

pub returns-in-Err-Bad-clause-checked : goal.returns-in-Err-Bad-clause-checked
returns-in-Err-Bad-clause-checked c =
    broken _ _ _ (omega (arith, c.if-bytes-gt-JOURNAL_LIMIT.false)) (rw c.in-Err-Bad.field-0-is at c.in-Err-Bad.ensures.bad) c.rejected.ensures
