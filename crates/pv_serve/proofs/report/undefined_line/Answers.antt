use Rattle.std.proofs.Common.{sym, ◌∙◌, codes}
use Rattle.std.specs.Fmt.{decimal}
use Rattle.pv_serve.specs.Report.{line_feed}
use Rattle.pv_serve.proofs.ReportLemmas.{nine}
use Rattle.pv_serve.proofs.report.undefined_line.Goals as goal

pub returns : goal.returns
returns c =
    rw (← c.text-clause.ensures, ← c.text-reason.ensures)
    (c.in_ok-format.ensures.ok ∙ sym (nine (codes "undefined clause=") c.text-clause.result.now (codes " reason=") c.text-reason.result.now (codes " line=") (decimal c.args.line) (codes " turn=") (decimal c.args.turns) line_feed))
