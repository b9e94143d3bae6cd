use Rattle.pv_suite.specs.Answering.{walked_view}
use Rattle.pv_suite.proofs.RoseLemmas.{other_err}
use Rattle.pv_suite.proofs.answering.answer_cases.Goals as goal

pub returns-in-Err-clause-cause : goal.returns-in-Err-clause-cause
returns-in-Err-clause-cause g c = λ h. c.in-Err.ensures.cause (other_err _ _ h)

pub returns-in-Ok-report_on-clause-reply : goal.returns-in-Ok-report_on-clause-reply
returns-in-Ok-report_on-clause-reply g c = (walked_view c.in-Ok.walked, c.in-Ok.ensures.walked, c.in-Ok-report_on.ensures)
