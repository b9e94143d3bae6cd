use Rattle.std.proofs.Common.{arith, sym, ◌∙◌}
use Rattle.std.proofs.lemmas.List.Folds.{flat_map-map}
use Rattle.pv_cases.specs.declared.comparing.Told.{Told}
use Rattle.pv_cases.specs.Suites.{CaseTold}
use Rattle.pv_cases.specs.Views.{told_view}
use Rattle.pv_cases.proofs.Walks.{all_told}
use Rattle.pv_cases.proofs.reporting.case_lines.Goals as goal

pub returns : goal.returns
returns c =
    all_told (λ (t : Told). t.line.items) c.args.told.now c.loop-case.case-index c.loop-case.text.items _ (omega (arith, c.loop-case-test.false)) c.loop-case.invariant
    ∙ sym (flat_map-map (λ (t : CaseTold). t.line) told_view c.args.told.now)
