use Rattle.std.proofs.Common.{refl}
use Rattle.pvwhere.specs.Answers.{Nothing}
use Rattle.pvwhere.proofs.AnswerLemmas.{reads_err, reads_ok}
use Rattle.pvwhere.proofs.telling.told.Goals as goal

pub refusal_lines-requires : goal.refusal_lines-requires
refusal_lines-requires c = reads_err _ _ _ c.in-Err.is c.in_ok-_unit.ensures.reads

pub returns-in-Ok : goal.returns-in-Ok
returns-in-Ok c = Nothing _ (reads_ok _ _ _ c.in-Ok.is c.in_ok-_unit.ensures.reads) refl
