use Rattle.pv_check.proofs.Literals.{goes_same_types}
use Rattle.pv_unit.proofs.FunctionRows.{body_set}
use Rattle.pv_unit.proofs.Moving.{moves_tables}
use Rattle.pv_unit.proofs.functions.set_body.Goals as goal

pub set_function-requires-clause-named : goal.set_function-requires-clause-named
set_function-requires-clause-named c = c.function-old.ensures.named c.requires.opened.known

pub set_function-requires-clause-known : goal.set_function-requires-clause-known
set_function-requires-clause-known c = c.function-old.ensures.known c.requires.opened.known

pub returns-clause-moves : goal.returns-clause-moves
returns-clause-moves c =
    moves_tables c.args.into.now c.set_function.new.self c.args.s.now c.requires.opened (goes_same_types c.args.into.now c.set_function.new.self c.set_function.ensures.grown c.set_function.ensures.types)

pub returns-clause-state : goal.returns-clause-state
returns-clause-state c = λ texts.
    body_set texts c.args.into.now c.set_function.new.self c.args.s.now c.args.f c.function-old.result c.args.body c.requires.opened
    (goes_same_types c.args.into.now c.set_function.new.self c.set_function.ensures.grown c.set_function.ensures.types) c.function-old.ensures.function c.set_function.ensures.whole
