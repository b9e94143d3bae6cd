use Rattle.std.proofs.Common.{sym, ◌∙◌, codes}
use Rattle.std.specs.Fmt.{decimal}
use Rattle.pv_serve.specs.Report.{line_feed}
use Rattle.pv_serve.proofs.ReportLemmas.{five}
use Rattle.pv_serve.proofs.report.repeated_line.Goals as goal

pub returns : goal.returns
returns c = c.in_ok-format.ensures.ok ∙ sym (five (codes "script reason=repeated line=") (decimal c.args.line) (codes " first=") (decimal c.args.first) line_feed)
