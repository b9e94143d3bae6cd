use Rattle.pv_suite.proofs.FilesLemmas.{some_bytes}
use Rattle.pv_suite.proofs.RoseLemmas.{other_err}
use Rattle.pv_suite.proofs.files.read_some.Goals as goal

pub returns-in-Ok-clause-read : goal.returns-in-Ok-clause-read
returns-in-Ok-clause-read g c = some_bytes c.in-Ok.bytes.items (g.F.Files.held c.args.files.now c.args.name.now) c.in-Ok.ensures.bytes

pub returns-in-Err-clause-cause : goal.returns-in-Err-clause-cause
returns-in-Err-clause-cause g c = λ h. c.in-Err.ensures.cause (other_err _ _ h)
