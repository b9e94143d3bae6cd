use Rattle.std.proofs.Common.{sym, ◌∙◌, codes}
use Rattle.std.specs.Fmt.{decimal}
use Rattle.pv_cases.specs.Suites.{line_feed}
use Rattle.pv_cases.proofs.Texts.{five, bytes_are}
use Rattle.pv_cases.proofs.comparing.output_line.Goals as goal

pub returns : goal.returns
returns c =
    bytes_are _ _ _ c.into_bytes.ensures.value c.in_ok-format.ensures.ok
    ∙ sym (five (codes "fail ") (decimal c.args.number) (codes " output at=") (decimal c.args.at) line_feed)
