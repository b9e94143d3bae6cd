use Rattle.pv_check.proofs.Opening.{goes_types, whole_types}
use Rattle.pv_unit.proofs.mains.main_type_in.Goals as goal

pub returns-clause-whole : goal.returns-clause-whole
returns-clause-whole c = whole_types c.args.into.now _ _ c.types_mut.ensures.value c.requires.known c.in_ok-r.ensures.grows

pub returns-clause-goes : goal.returns-clause-goes
returns-clause-goes c = goes_types c.args.into.now _ _ c.types_mut.ensures.value c.requires.known c.in_ok-r.ensures.grows
