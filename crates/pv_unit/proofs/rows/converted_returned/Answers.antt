use Rattle.std.proofs.Common.{rules, ◌≡◌, ◌∙◌, Some, false}
use Rattle.pv_types.specs.Known.{tree}
use Rattle.pv_typed.specs.TypedStatement.{Return}
use Rattle.pv_typed.specs.TypedTree.{TypedTree}
use Rattle.pv_typed.specs.NodeTrees.{expression_at, statement_at}
use Rattle.pv_check.specs.Open.{state_of}
use Rattle.pv_types.specs.Sorts.{is_void}
use Rattle.pv_check.specs.State.{give}
use Rattle.pv_check.specs.Values.{as_if_assigned}
use Rattle.pv_unit.proofs.Moving.{made_is, moves_on, step_on}
use Rattle.pv_unit.proofs.ValueRows.{returned_not}
use Rattle.pv_unit.proofs.rows.converted_returned.Goals as goal

pub returns-clause-moves : goal.returns-clause-moves
returns-clause-moves c =
    let s = c.args.s.now in
    moves_on c.args.into.now c.assigned.new.into c.add.new.into s s s c.in_ok-converted.ensures.moves c.in_ok-made.ensures.moves

pub returns-clause-typed : goal.returns-clause-typed
returns-clause-typed c = λ texts.
    let a = c.args.into.now in
    let b = c.assigned.new.into in
    let s = c.args.s.now in
    let t = tree a.known c.args.returned.0 in
    let z = state_of texts false s a in
    let no : is_void (tree a.known c.args.returned.0) ≡ false = search rules in
    let some : Some (expression_at b c.in-Some.converted) ≡ as_if_assigned (tree a.known c.args.returned.0) (expression_at a c.args.value) = search rules in
    let is : statement_at c.add.new.into c.in_ok-made.made ≡ Return c.args.line (Some (expression_at b c.in-Some.converted)) = search rules in
    returned_not t c.args.line (record { value = expression_at a c.args.value; state = z }) _ no
    (step_on (as_if_assigned t (expression_at a c.args.value)) (expression_at b c.in-Some.converted) (λ (e : TypedTree). give (Some (Return c.args.line (Some e))) z) _ some
    (made_is texts s a c.add.new.into c.in_ok-made.made (Return c.args.line (Some (expression_at b c.in-Some.converted))) is (c.in_ok-made.ensures.state texts ∙ c.in_ok-converted.ensures.state texts)))
