use Rattle.std.proofs.Common.{◌∙◌, ◌<◌, ◌≤◌, ap, length, false, arith}
use Rattle.pv_typed.specs.TypedStatement.{TypedStatement}
use Rattle.pv_check.specs.Declarators.{parameters_shown}
use Rattle.pv_check.specs.Open.{state_of}
use Rattle.pv_check.proofs.ParameterRows.{parameters_known, parameters_stay}
use Rattle.pv_unit.specs.Functions.{with_parameters}
use Rattle.pv_unit.specs.FunctionParts.{with_body}
use Rattle.pv_unit.specs.Statements.{block_of}
use Rattle.pv_unit.specs.Stated.{statements_in}
use Rattle.pv_unit.proofs.Moving.{moves_on, statement_stays, statement_same}
use Rattle.pv_unit.proofs.functions.finish.Goals as goal

pub add_parameters-requires-clause-opened : goal.add_parameters-requires-clause-opened
add_parameters-requires-clause-opened c = c.in_ok-made.ensures.moves.opened

pub add_parameters-requires-clause-function : goal.add_parameters-requires-clause-function
add_parameters-requires-clause-function c =
    let more : length c.args.into.now.functions ≤ length c.add_block.new.into.functions = c.in_ok-made.ensures.moves.goes.grown.functions in
    let here : c.args.f < length c.args.into.now.functions = c.requires.function in
    omega (arith, here, more)

pub add_parameters-requires-clause-parameters : goal.add_parameters-requires-clause-parameters
add_parameters-requires-clause-parameters c = parameters_known c.args.into.now c.add_block.new.into c.args.parameters.now c.in_ok-made.ensures.moves.goes c.requires.parameters

pub set_body-requires-clause-opened : goal.set_body-requires-clause-opened
set_body-requires-clause-opened c = c.in_ok-add_parameters.ensures.moves.opened

pub set_body-requires-clause-function : goal.set_body-requires-clause-function
set_body-requires-clause-function c =
    let more : length c.args.into.now.functions ≤ length c.add_block.new.into.functions = c.in_ok-made.ensures.moves.goes.grown.functions in
    let again : length c.add_block.new.into.functions ≤ length c.add_parameters.new.into.functions = c.in_ok-add_parameters.ensures.moves.goes.grown.functions in
    let here : c.args.f < length c.args.into.now.functions = c.requires.function in
    omega (arith, here, more, again)

pub set_body-requires-clause-body : goal.set_body-requires-clause-body
set_body-requires-clause-body c = statement_stays c.add_block.new.into c.add_parameters.new.into c.in_ok-made.made c.in_ok-add_parameters.ensures.moves.goes c.in_ok-made.ensures.there

pub returns-clause-moves : goal.returns-clause-moves
returns-clause-moves c =
    let s = c.args.s.now in
    moves_on c.args.into.now c.add_block.new.into c.set_body.new.into s s s c.in_ok-made.ensures.moves
    (moves_on c.add_block.new.into c.add_parameters.new.into c.set_body.new.into s s s c.in_ok-add_parameters.ensures.moves c.set_body.ensures.moves)

pub returns-clause-state : goal.returns-clause-state
returns-clause-state c = λ texts.
    let f = c.args.f in
    let s = c.args.s.now in
    let a = c.args.into.now in
    let b = c.add_block.new.into in
    let d = c.add_parameters.new.into in
    let ps = c.args.parameters.now in
    c.set_body.ensures.state texts
    ∙ ap (λ (x : TypedStatement). with_body f x (state_of texts false s d)) (statement_same b d c.in_ok-made.made c.in_ok-add_parameters.ensures.moves.goes c.in_ok-made.ensures.there ∙ c.in_ok-made.ensures.tree)
    ∙ ap (with_body f (block_of c.args.line (statements_in a c.args.items.now)))
    (c.in_ok-add_parameters.ensures.state texts
    ∙ ap (λ qs. with_parameters f qs (state_of texts false s b)) (parameters_stay a b ps c.in_ok-made.ensures.moves.goes c.requires.parameters)
    ∙ ap (with_parameters f (parameters_shown a.known ps)) (c.in_ok-made.ensures.state texts))
