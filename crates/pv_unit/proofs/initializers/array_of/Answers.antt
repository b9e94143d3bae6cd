use Rattle.pv_check.proofs.Keeping.{kept_lent}
use Rattle.pv_unit.proofs.initializers.array_of.Goals as goal

pub returns-clause-kept : goal.returns-clause-kept
returns-clause-kept c = kept_lent c.args.into.now c.types_mut.result.now c.interned.new.types c.types_mut.ensures.value c.requires.known c.in_ok-r.ensures.grows
