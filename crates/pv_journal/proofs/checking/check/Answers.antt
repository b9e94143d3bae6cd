use Rattle.pv_journal.proofs.Added.{name_kept}
use Rattle.pv_journal.proofs.Judging.{verdict_is}
use Rattle.pv_journal.proofs.Walking.{judged_lines, judged_fault}
use Rattle.pv_journal.specs.Reading.{rows_or_wrong}
use Rattle.pv_journal.proofs.checking.check.Goals as goal

pub returns-clause-lines : goal.returns-clause-lines
returns-clause-lines c =
    judged_lines c.lines_in.new.names (λ v. v.items) c.args.bytes.now (rows_or_wrong c.args.bytes.now) c.lines_in.result (verdict_is c.args.bytes.now c.is_text.ensures) c.lines_in.ensures.judges

pub returns-clause-named : goal.returns-clause-named
returns-clause-named c = c.lines_in.ensures.named

pub returns-clause-bad : goal.returns-clause-bad
returns-clause-bad c =
    judged_fault c.lines_in.new.names (λ v. v.items) c.args.bytes.now (rows_or_wrong c.args.bytes.now) c.lines_in.result (verdict_is c.args.bytes.now c.is_text.ensures) c.lines_in.ensures.judges

pub returns-clause-names : goal.returns-clause-names
returns-clause-names c = name_kept _ _ c.lines_in.ensures.more
