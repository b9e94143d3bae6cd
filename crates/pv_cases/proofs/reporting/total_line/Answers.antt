use Rattle.std.proofs.Common.{sym, ◌∙◌, codes}
use Rattle.std.specs.Fmt.{decimal}
use Rattle.pv_cases.specs.Suites.{line_feed}
use Rattle.pv_cases.proofs.Texts.{five, bytes_are}
use Rattle.pv_cases.proofs.reporting.total_line.Goals as goal

pub returns : goal.returns
returns c =
    bytes_are _ _ _ c.into_bytes.ensures.value c.in_ok-format.ensures.ok
    ∙ sym (five (codes "suite cases=") (decimal c.args.cases) (codes " passed=") (decimal c.args.passed) line_feed)
