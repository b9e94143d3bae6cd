use Rattle.std.proofs.Common.{sym, ◌∙◌, codes}
use Rattle.std.specs.Fmt.{decimal}
use Rattle.pv_serve.specs.Report.{line_feed}
use Rattle.pv_serve.proofs.ReportLemmas.{nine}
use Rattle.pv_serve.proofs.report.storage_line.Goals as goal

pub returns : goal.returns
returns c =
    c.in_ok-format.ensures.ok
    ∙ sym (nine (codes "storage live=") (decimal c.args.live) (codes " size=") (decimal c.args.size) (codes " line=") (decimal c.args.line) (codes " turn=") (decimal c.args.turns) line_feed)
