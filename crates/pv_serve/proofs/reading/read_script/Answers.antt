use Rattle.std.proofs.Common.{rules}
use Rattle.pv_serve.proofs.FilesLemmas.{script_some, script_none, rose_some}
use Rattle.pv_serve.proofs.reading.read_script.Goals as goal

pub returns-in-Some-clause-read : goal.returns-in-Some-clause-read
returns-in-Some-clause-read g c = script_some (λ s. s.now) _ _ _ _ c.in-Some.is c.read_all.ensures.bytes

pub returns-in-Some-clause-cause : goal.returns-in-Some-clause-cause
returns-in-Some-clause-cause g c = λ h. rose_some (λ s. s.now) _ _ _ _ c.in-Some.is (c.read_all.ensures.cause h)

pub returns-in-None-clause-read : goal.returns-in-None-clause-read
returns-in-None-clause-read g c = script_none (λ s. s.now) _ _ _ c.in-None.is (search rules)
