use Rattle.pv_cases.specs.Views.{case_view}
use Rattle.pv_suite.proofs.FilesLemmas.{case_read}
use Rattle.pv_suite.proofs.RoseLemmas.{script_rose, output_rose, other_err}
use Rattle.pv_suite.proofs.files.read_case.Goals as goal

pub returns-in-Err-read_script-clause-cause : goal.returns-in-Err-read_script-clause-cause
returns-in-Err-read_script-clause-cause g c = λ h.
    script_rose (case_view c.args.case) _ _ _ c.in-Ok.ensures.later (c.in-Err-read_script.ensures.cause (other_err _ _ h))

pub returns-in-Ok-read_output-clause-read : goal.returns-in-Ok-read_output-clause-read
returns-in-Ok-read_output-clause-read g c =
    case_read (case_view c.args.case) (g.F.Files.held c.args.files.now) _ _ c.in-Ok.source.items c.in-Ok-read_script.script.items _
    c.in-Ok.ensures.same c.in-Ok-read_script.ensures.same c.in-Ok.ensures.bytes c.in-Ok-read_script.ensures.read c.in-Ok-read_output.ensures.read

pub returns-in-Err-read_output-clause-cause : goal.returns-in-Err-read_output-clause-cause
returns-in-Err-read_output-clause-cause g c = λ h.
    output_rose (case_view c.args.case) _ _ _ _ c.in-Ok.ensures.later c.in-Ok-read_script.ensures.later (c.in-Err-read_output.ensures.cause (other_err _ _ h))
