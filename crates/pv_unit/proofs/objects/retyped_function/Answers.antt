use Rattle.pv_check.proofs.Literals.{goes_same_types}
use Rattle.pv_check.proofs.Opening.{open_goes}
use Rattle.pv_unit.proofs.Naming.{function_retyped}
use Rattle.pv_unit.proofs.objects.retyped_function.Goals as goal

pub set_function-requires-clause-named : goal.set_function-requires-clause-named
set_function-requires-clause-named c = c.function-old.ensures.named c.requires.opened.known

pub returns-clause-goes : goal.returns-clause-goes
returns-clause-goes c = goes_same_types c.args.into.now c.set_function.new.self c.set_function.ensures.grown c.set_function.ensures.types

pub returns-clause-opened : goal.returns-clause-opened
returns-clause-opened c = open_goes c.args.into.now c.set_function.new.self c.args.s.now c.requires.opened (returns-clause-goes c)

pub returns-clause-answer : goal.returns-clause-answer
returns-clause-answer c = λ texts u.
    function_retyped texts u c.args.into.now c.set_function.new.self c.args.s.now c.args.f c.function-old.result c.args.t.0 c.requires.opened (returns-clause-goes c) c.function-old.ensures.function c.set_function.ensures.whole
