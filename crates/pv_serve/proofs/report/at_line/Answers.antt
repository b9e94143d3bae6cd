use Rattle.std.proofs.Common.{sym, ◌∙◌, codes}
use Rattle.std.specs.Fmt.{decimal}
use Rattle.pv_serve.specs.Report.{line_feed}
use Rattle.pv_serve.proofs.ReportLemmas.{six}
use Rattle.pv_serve.proofs.report.at_line.Goals as goal

pub returns : goal.returns
returns c = c.in_ok-format.ensures.ok ∙ sym (six c.args.word.now (codes " line=") (decimal c.args.line) (codes " turn=") (decimal c.args.turns) line_feed)
