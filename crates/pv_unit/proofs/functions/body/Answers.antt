use Rattle.std.proofs.Common.{rules, ◌≡◌, ◌<◌, ◌≤◌, List, length, false, Some, None, sym, subst, arith}
use Rattle.pv_tree.specs.TreeLines.{tree_line}
use Rattle.pv_tree.specs.Syntax.{Block}
use Rattle.pv_tree.specs.Tables.{tree_at, trees_at, statement_at, is_item, HasList}
use Rattle.pv_types.specs.Known.{tree}
use Rattle.pv_typed.specs.Known.{Each}
use Rattle.pv_check.specs.declared.parameters.Parameter.{Parameter}
use Rattle.pv_check.specs.Declarators.{ParameterKnown, parameters_shown}
use Rattle.pv_check.specs.Open.{state_of}
use Rattle.pv_check.specs.Raw.{raw_of, scope_shown}
use Rattle.pv_typed.specs.Constants.{and_then}
use Rattle.pv_check.proofs.ParameterRows.{parameters_known, parameters_stay}
use Rattle.pv_tree.specs.Places.{is_block}
use Rattle.pv_unit.specs.Bodies.{left_items}
use Rattle.pv_unit.specs.Functions.{within, with_parameters}
use Rattle.pv_unit.specs.FunctionParts.{with_body, body_of}
use Rattle.pv_unit.specs.Stated.{items_in, statements_in, Moves}
use Rattle.pv_unit.specs.Statements.{block_of}
use Rattle.pv_unit.specs.TypedStatements.{typed_items}
use Rattle.pv_unit.proofs.Ends.{there_goes}
use Rattle.pv_unit.proofs.FunctionRows.{body_is, body_none, body_refused}
use Rattle.pv_unit.proofs.Moving.{moves_on}
use Rattle.pv_unit.proofs.functions.body.Goals as goal

pub returns-in_default-clause-answer : goal.returns-in_default-clause-answer
returns-in_default-clause-answer c =
    let z = statement_at c.args.u.now.forest c.args.block in
    let no : is_block z ≡ false = search rules in
    body_none z c.args.t.now.texts c.args.into.now c.args.s.now c.args.outer.now c.args.defined c.args.own no

pub finish-requires-clause-opened : goal.finish-requires-clause-opened
finish-requires-clause-opened c =
    let m : Moves c.args.into.now c.args.s.now c.scoped.new.into c.scoped.new.s = search rules in
    m.opened

pub finish-requires-clause-function : goal.finish-requires-clause-function
finish-requires-clause-function c =
    let m : Moves c.args.into.now c.args.s.now c.scoped.new.into c.scoped.new.s = search rules in
    let more : length c.args.into.now.functions ≤ length c.scoped.new.into.functions = m.goes.grown.functions in
    let here : c.args.defined.function < length c.args.into.now.functions = c.requires.function in
    omega (arith, here, more)

pub finish-requires-clause-parameters : goal.finish-requires-clause-parameters
finish-requires-clause-parameters c =
    let m : Moves c.args.into.now c.args.s.now c.scoped.new.into c.scoped.new.s = search rules in
    subst (λ (ps : List Parameter). Each (ParameterKnown c.scoped.new.into) ps) (sym c.deref.ensures.value) (parameters_known c.args.into.now c.scoped.new.into c.args.own.parameters.items m.goes c.requires.own.0)

pub returns-clause-entities : goal.returns-clause-entities
returns-clause-entities c =
    let m : Moves c.args.into.now c.args.s.now c.scoped.new.into c.scoped.new.s = search rules in
    let n : Moves c.scoped.new.into c.scoped.new.s c.finish.new.into c.scoped.new.s = search rules in
    there_goes c.args.into.now c.finish.new.into c.args.outer.now.entities (moves_on c.args.into.now c.scoped.new.into c.finish.new.into c.args.s.now c.scoped.new.s c.scoped.new.s m n).goes c.requires.entities

pub returns-clause-opened : goal.returns-clause-opened
returns-clause-opened c =
    let n : Moves c.scoped.new.into c.scoped.new.s c.finish.new.into c.scoped.new.s = search rules in
    n.opened

pub returns-clause-answer : goal.returns-clause-answer
returns-clause-answer c =
    let texts = c.args.t.now.texts in
    let f = c.args.u.now.forest in
    let a = c.args.into.now in
    let b = c.scoped.new.into in
    let g = c.args.own in
    let d = c.args.defined in
    let l = c.in-Some.list in
    let line = tree_line (tree_at f c.args.block) in
    let m : Moves a c.args.s.now b c.scoped.new.s = search rules in
    let is : (statement_at f c.args.block ≡ Block line (trees_at f l)) × HasList f c.args.block.0 is_item l = search rules in
    let done : Some (items_in texts c.scoped.new.s b c.scoped.new.items.items) ≡ and_then (typed_items (body_of (tree a.known d.result_type.0)) (trees_at f l) (within (scope_shown a.known (raw_of g.scope)) (state_of texts false c.args.s.now a))) left_items = search rules in
    let held = c.in_ok-finish.ensures.state texts in
    let state : state_of texts false c.scoped.new.s c.finish.new.into ≡ with_body d.function (block_of line (statements_in b c.scoped.new.items.items)) (with_parameters d.function (parameters_shown b.known g.parameters.items) (state_of texts false c.scoped.new.s b)) = search rules in
    body_is texts a b c.finish.new.into c.args.s.now c.scoped.new.s c.args.outer.now d g line (trees_at f l) (statement_at f c.args.block) c.scoped.new.items.items
    is.0 done (parameters_stay a b g.parameters.items m.goes c.requires.own.0) state

pub returns-then-not-branch-clause-answer : goal.returns-then-not-branch-clause-answer
returns-then-not-branch-clause-answer c =
    let texts = c.args.t.now.texts in
    let f = c.args.u.now.forest in
    let a = c.args.into.now in
    let g = c.args.own in
    let d = c.args.defined in
    let l = c.in-Some.list in
    let line = tree_line (tree_at f c.args.block) in
    let is : (statement_at f c.args.block ≡ Block line (trees_at f l)) × HasList f c.args.block.0 is_item l = search rules in
    let done : None ≡ and_then (typed_items (body_of (tree a.known d.result_type.0)) (trees_at f l) (within (scope_shown a.known (raw_of g.scope)) (state_of texts false c.args.s.now a))) left_items = search rules in
    body_refused texts a c.args.s.now c.args.outer.now d g line (trees_at f l) (statement_at f c.args.block) is.0 done
