use Rattle.pv_unit.specs.Outside.{unit_state}
use Rattle.pv_unit.proofs.Causes.{memory_lack, memory_named, resolved_on}
use Rattle.pv_unit.proofs.checking.finished.Goals as goal

pub returns-in-Ok-clause-fine : goal.returns-in-Ok-clause-fine
returns-in-Ok-clause-fine c = resolved_on c.with_both.result c.in-Ok.ensures.fine

pub returns-in-Ok-clause-refused : goal.returns-in-Ok-clause-refused
returns-in-Ok-clause-refused c = memory_lack (unit_state c.args.t.now.texts c.args.s.now c.args.into.now c.args.outer.now) c.with_both.result c.with_both.ensures.refused

pub returns-in-Ok-clause-named : goal.returns-in-Ok-clause-named
returns-in-Ok-clause-named c = memory_named c.args.t.now c.with_both.result c.with_both.ensures.refused

pub returns-in-Ok-clause-whole : goal.returns-in-Ok-clause-whole
returns-in-Ok-clause-whole c = c.with_both.ensures.whole c.args.t.now.texts
