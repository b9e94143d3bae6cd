use Rattle.pv_serve.proofs.FilesLemmas.{rose_some}
use Rattle.pv_suite.proofs.FilesLemmas.{output_some, output_none}
use Rattle.pv_suite.proofs.files.read_output.Goals as goal

pub returns-in-Some-clause-read : goal.returns-in-Some-clause-read
returns-in-Some-clause-read g c = output_some (λ s. s.now) _ _ _ _ c.in-Some.is c.read_some.ensures.read

pub returns-in-Some-clause-cause : goal.returns-in-Some-clause-cause
returns-in-Some-clause-cause g c = λ h. rose_some (λ s. s.now) _ _ _ _ c.in-Some.is (c.read_some.ensures.cause h)

pub returns-in-None-clause-read : goal.returns-in-None-clause-read
returns-in-None-clause-read g c = output_none (λ s. s.now) _ _ c.in-None.is
