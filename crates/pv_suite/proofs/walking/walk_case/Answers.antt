use Rattle.std.proofs.Common.{sym, ◌∙◌}
use Rattle.pv_cases.specs.Views.{case_view, told_view}
use Rattle.pv_suite.specs.Answers.{given_of}
use Rattle.pv_suite.specs.Answering.{text_view}
use Rattle.pv_suite.proofs.CaseLemmas.{case_long, case_told}
use Rattle.pv_suite.proofs.walking.walk_case.Goals as goal

pub returns-then-is_too_long-clause-told : goal.returns-then-is_too_long-clause-told
returns-then-is_too_long-clause-told g c =
    case_long c.args.number (case_view c.args.case) (given_of (case_view c.args.case) (g.F.Files.held c.args.files.now)) (text_view c.in-Ok.text) c.in-Ok.ensures.read (sym c.is_too_long.ensures ∙ c.if-is_too_long.true)

pub returns-in-Ok-run_case-clause-told : goal.returns-in-Ok-run_case-clause-told
returns-in-Ok-run_case-clause-told g c =
    case_told c.args.number (case_view c.args.case) (given_of (case_view c.args.case) (g.F.Files.held c.args.files.now)) (text_view c.in-Ok.text) (told_view c.in-Ok-run_case.told) c.in-Ok.ensures.read (sym c.is_too_long.ensures ∙ c.if-is_too_long.false) c.in-Ok-run_case.ensures
