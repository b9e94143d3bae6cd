use Rattle.pv_exec.proofs.Reaching.{within-bound, all-taken}
use Rattle.pv_exec.proofs.laws.turns_keep_the_bound.Goals as goal

pub returns-clause-within : goal.returns-clause-within
returns-clause-within c = λ u sides zap script n. within-bound u n sides zap script

pub returns-clause-all : goal.returns-clause-all
returns-clause-all c = λ u sides zap script n. all-taken u n sides zap script
