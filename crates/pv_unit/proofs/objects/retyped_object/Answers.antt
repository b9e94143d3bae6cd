use Rattle.pv_check.proofs.Literals.{goes_same_types}
use Rattle.pv_check.proofs.Opening.{open_goes}
use Rattle.pv_unit.proofs.Naming.{object_retyped}
use Rattle.pv_unit.proofs.objects.retyped_object.Goals as goal

pub set_object-requires-clause-named : goal.set_object-requires-clause-named
set_object-requires-clause-named c = c.object-old.ensures.named c.requires.opened.known

pub returns-clause-goes : goal.returns-clause-goes
returns-clause-goes c = goes_same_types c.args.into.now c.set_object.new.self c.set_object.ensures.grown c.set_object.ensures.types

pub returns-clause-opened : goal.returns-clause-opened
returns-clause-opened c = open_goes c.args.into.now c.set_object.new.self c.args.s.now c.requires.opened (returns-clause-goes c)

pub returns-clause-answer : goal.returns-clause-answer
returns-clause-answer c = λ texts u.
    object_retyped texts u c.args.into.now c.set_object.new.self c.args.s.now c.args.o c.object-old.result c.args.t.0 c.requires.opened (returns-clause-goes c) c.object-old.ensures.object c.set_object.ensures.whole
