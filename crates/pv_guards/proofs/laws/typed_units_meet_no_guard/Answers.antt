use Rattle.pv_exec.specs.Run.{setting_of}
use Rattle.pv_guards.proofs.Readying.{run-same, run-never, run-gives}
use Rattle.pv_guards.proofs.laws.typed_units_meet_no_guard.Goals as goal

pub returns-clause-same : goal.returns-clause-same
returns-clause-same c = λ u unit sides zap script n. run-same (setting_of u n sides zap) unit script

pub returns-clause-ruled : goal.returns-clause-ruled
returns-clause-ruled c = λ u unit sides zap script n s e. run-never u unit sides zap script n s e

pub returns-clause-status : goal.returns-clause-status
returns-clause-status c = λ u unit f e sides zap script n v s g. run-gives (setting_of u n sides zap) unit script f e v s g
