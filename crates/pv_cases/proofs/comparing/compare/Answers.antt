use Rattle.std.proofs.Common.{sym, ap, ◌∙◌, rules}
use Rattle.pv_cases.specs.Suites.{output_line}
use Rattle.pv_cases.specs.Views.{wanted_view, gave_view}
use Rattle.pv_cases.proofs.Texts.{output_told}
use Rattle.pv_cases.proofs.comparing.compare.Goals as goal

pub returns-then-not-has_output : goal.returns-then-not-has_output
returns-then-not-has_output c =
    output_told c.args.number (wanted_view c.args.expected) (gave_view c.args.got) _ (search rules) (sym c.has_output.ensures ∙ c.if-not-has_output.true)
    (c.in_ok-line-2.ensures ∙ ap (output_line c.args.number) c.differs_at-at.ensures)
