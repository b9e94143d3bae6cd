use Rattle.std.proofs.Common.{rules, ◌≡◌, ◌∙◌, ap, sym, Some, false}
use Rattle.pv_tree.specs.TreeLines.{tree_line}
use Rattle.pv_tree.specs.Tables.{tree_at, optional_at}
use Rattle.pv_typed.specs.NodeTrees.{statement_at}
use Rattle.pv_check.specs.Open.{state_of}
use Rattle.pv_unit.specs.Stated.{around_in, optional_in, Moves}
use Rattle.pv_unit.specs.Statements.{expression_if_any, taken_value}
use Rattle.pv_unit.specs.TypedStatements.{typed_statement}
use Rattle.pv_unit.specs.Made.{expression_made, expression_of}
use Rattle.pv_unit.proofs.Moving.{made_is, moves_on, step_on}
use Rattle.pv_unit.proofs.ScopedRows.{choice_in}
use Rattle.pv_unit.proofs.plain.expression_statement.Goals as goal

pub returns-clause-moves : goal.returns-clause-moves
returns-clause-moves c =
    let g : Moves c.args.into.now c.args.s.now c.optional_value.new.into c.optional_value.new.s = search rules in
    moves_on c.args.into.now c.optional_value.new.into c.add_expression.new.into c.args.s.now c.optional_value.new.s c.optional_value.new.s g c.in_ok-made.ensures.moves

pub returns-clause-typed : goal.returns-clause-typed
returns-clause-typed c =
    let texts = c.args.t.now.texts in
    let f = c.args.u.now.forest in
    let b = c.optional_value.new.into in
    let s = c.optional_value.new.s in
    let line = tree_line (tree_at f c.args.n) in
    let z0 = state_of texts false c.args.s.now c.args.into.now in
    let e1 : Some (choice_in texts c.optional_value.new.s c.optional_value.new.into c.in-Some.value) ≡ expression_if_any taken_value (optional_at f c.args.a) z0 = search rules in
    let is : statement_at c.add_expression.new.into c.in_ok-made.made ≡ expression_of line (optional_in b c.in-Some.value) = search rules in
    step_on (expression_if_any taken_value (optional_at f c.args.a) z0) (choice_in texts s b c.in-Some.value) (expression_made line) _ e1
    (made_is texts s b c.add_expression.new.into c.in_ok-made.made (expression_of line (optional_in b c.in-Some.value)) is (c.in_ok-made.ensures.state texts))
    ∙ sym (ap (λ x. typed_statement (around_in c.args.into.now.known c.args.w) x z0) c.requires.is)
