use Rattle.pv_laws.proofs.Numbered.{run-laid, run-formed}
use Rattle.pv_laws.proofs.laws.memory_is_well_formed.Goals as goal

pub returns-clause-laid : goal.returns-clause-laid
returns-clause-laid c = run-laid

pub returns-clause-formed : goal.returns-clause-formed
returns-clause-formed c = run-formed
