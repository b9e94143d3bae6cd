use Rattle.pv_check.proofs.Keeping.{kept_lent}
use Rattle.pv_check.proofs.conditional.type_of_both.Goals as goal

pub returns-clause-kept : goal.returns-clause-kept
returns-clause-kept c = kept_lent c.args.into.now c.types_mut.result.now c.result_type.new.types c.types_mut.ensures.value c.requires.known c.in_ok-r.ensures.grows
