-- Selections with two statements, and iterations (C17 6.8.4.1, 6.8.5): what each comes to, and that its parts are there.
use Rattle.std.proofs.Common.{rules, ◌≡◌, false, [], Some, None, sym, ap, ◌∙◌}
use Rattle.pv_tree.specs.TreeLines.{tree_line}
use Rattle.pv_tree.specs.Tables.{tree_at, optional_at, declaration_at, expression_at as expression_of, statement_at as statement_of}
use Rattle.pv_typed.specs.declared.nodes.TypedStmt.TheVariants as stmt
use Rattle.pv_typed.specs.Nodes.{statement_form}
use Rattle.pv_typed.specs.Tables.{nodes}
use Rattle.pv_typed.specs.NodeTrees.{expression_at, statement_at, IsExpression, IsStatement}
use Rattle.pv_typed.specs.TypedStatement.{statements_of}
use Rattle.pv_typed.specs.TypedStatement as typed
use Rattle.pv_check.specs.Open.{state_of}
use Rattle.pv_typed.specs.Constants.{and_then}
use Rattle.pv_check.proofs.Opening.{then_goes}
use Rattle.pv_unit.specs.Blocks.{block_declaration}
use Rattle.pv_unit.specs.Statements.{in_loop, taken_value, condition, expression_if_any, declared_in}
use Rattle.pv_unit.specs.TypedStatements.{if_automatic}
use Rattle.pv_unit.specs.Made.{else_made, while_made, do_made, for_made, round_made}
use Rattle.pv_unit.specs.Scoped.{inner, else_last, else_behind, while_behind, do_behind, for_last, for_step, for_behind, round_last, round_step, round_behind, scoped_statement}
use Rattle.pv_unit.specs.Stated.{around_in, statement_after, statements_in, items_in, optional_in, IsOptional, AreStatements, Moves}
use Rattle.pv_unit.proofs.BlockMade.{for_parts, for_form}
use Rattle.pv_unit.proofs.Moving.{moves_on, expression_stays, statement_stays, optional_stays, statements_stay, statement_same, statements_same, step_on, step_none}
use Rattle.pv_unit.proofs.ScopedRows.{valued_in, choice_in, inner_same, loop_same, while_done, do_done, else_done, for_done, round_done}
use Rattle.pv_unit.proofs.stmts.+stating.Goals as goal

pub while_statement-returns-in_default-clause-typed : goal.while_statement-returns-in_default-clause-typed
while_statement-returns-in_default-clause-typed t c =
    let texts = c.args.t.now.texts in
    let f = c.args.u.now.forest in
    let w0 = around_in c.args.into.now.known c.args.w in
    let z0 = state_of texts false c.args.s.now c.args.into.now in
    let line = tree_line (tree_at f c.args.n) in
    let held : None ≡ condition (expression_of f c.args.a) z0 = search rules in
    step_none (condition (expression_of f c.args.a) z0) (while_behind w0 line (statement_of f c.args.body)) held ∙ sym (ap (λ x. scoped_statement w0 x z0) c.requires.is)

pub while_statement-returns-in_default-2-clause-typed : goal.while_statement-returns-in_default-2-clause-typed
while_statement-returns-in_default-2-clause-typed t c =
    let texts = c.args.t.now.texts in
    let f = c.args.u.now.forest in
    let w0 = around_in c.args.into.now.known c.args.w in
    let z0 = state_of texts false c.args.s.now c.args.into.now in
    let line = tree_line (tree_at f c.args.n) in
    let g : Moves c.args.into.now c.args.s.now c.condition.new.into c.condition.new.s = search rules in
    let first : Some (valued_in texts c.condition.new.s c.condition.new.into c.in-Some.value) ≡ condition (expression_of f c.args.a) z0 = search rules in
    let held : None ≡ inner (in_loop (around_in c.condition.new.into.known c.args.w)) (statement_of f c.args.body) (state_of texts false c.condition.new.s c.condition.new.into) = search rules in
    step_on (condition (expression_of f c.args.a) z0) (valued_in texts c.condition.new.s c.condition.new.into c.in-Some.value) (while_behind w0 line (statement_of f c.args.body)) None first
    (step_none (inner (in_loop w0) (statement_of f c.args.body) (state_of texts false c.condition.new.s c.condition.new.into)) (while_made line (expression_at c.condition.new.into c.in-Some.value)) (held ∙ loop_same c.args.into.now c.condition.new.into c.args.w (statement_of f c.args.body) (state_of texts false c.condition.new.s c.condition.new.into) g.goes c.requires.known)) ∙ sym (ap (λ x. scoped_statement w0 x z0) c.requires.is)

pub while_statement-add-requires-clause-parts : goal.while_statement-add-requires-clause-parts
while_statement-add-requires-clause-parts t c =
    let h : Moves c.condition.new.into c.condition.new.s c.inner.new.into c.inner.new.s = search rules in
    let is_v : IsExpression c.condition.new.into c.in-Some.value = search rules in
    let is_b : IsStatement c.inner.new.into c.in-Some-2.repeated = search rules in
    ((expression_stays c.condition.new.into c.inner.new.into c.in-Some.value h.goes is_v, tt), (is_b, tt), tt)

pub while_statement-returns-clause-moves : goal.while_statement-returns-clause-moves
while_statement-returns-clause-moves t c =
    let g : Moves c.args.into.now c.args.s.now c.condition.new.into c.condition.new.s = search rules in
    let h : Moves c.condition.new.into c.condition.new.s c.inner.new.into c.inner.new.s = search rules in
    moves_on c.args.into.now c.condition.new.into c.add.new.into c.args.s.now c.condition.new.s c.inner.new.s g (moves_on c.condition.new.into c.inner.new.into c.add.new.into c.condition.new.s c.inner.new.s c.inner.new.s h c.in_ok-made.ensures.moves)

pub while_statement-returns-clause-typed : goal.while_statement-returns-clause-typed
while_statement-returns-clause-typed t c =
    let texts = c.args.t.now.texts in
    let f = c.args.u.now.forest in
    let w0 = around_in c.args.into.now.known c.args.w in
    let z0 = state_of texts false c.args.s.now c.args.into.now in
    let line = tree_line (tree_at f c.args.n) in
    let g : Moves c.args.into.now c.args.s.now c.condition.new.into c.condition.new.s = search rules in
    let h : Moves c.condition.new.into c.condition.new.s c.inner.new.into c.inner.new.s = search rules in
    let first : Some (valued_in texts c.condition.new.s c.condition.new.into c.in-Some.value) ≡ condition (expression_of f c.args.a) z0 = search rules in
    let is_v : IsExpression c.condition.new.into c.in-Some.value = search rules in
    let second : Some (statement_after texts c.inner.new.s c.inner.new.into c.in-Some-2.repeated) ≡ inner (in_loop (around_in c.condition.new.into.known c.args.w)) (statement_of f c.args.body) (state_of texts false c.condition.new.s c.condition.new.into) = search rules in
    let tree : statement_at c.add.new.into c.in_ok-made.made ≡ typed.While line (expression_at c.inner.new.into c.in-Some.value) (statement_at c.inner.new.into c.in-Some-2.repeated) = search rules in
    while_done texts c.args.w line (expression_of f c.args.a) (statement_of f c.args.body) c.args.into.now c.condition.new.into c.inner.new.into c.add.new.into c.args.s.now c.condition.new.s c.inner.new.s c.in-Some.value c.in-Some-2.repeated c.in_ok-made.made c.requires.known g.goes h.goes is_v first second tree (c.in_ok-made.ensures.state texts) ∙ sym (ap (λ x. scoped_statement w0 x z0) c.requires.is)

pub do_statement-returns-in_default-clause-typed : goal.do_statement-returns-in_default-clause-typed
do_statement-returns-in_default-clause-typed t c =
    let texts = c.args.t.now.texts in
    let f = c.args.u.now.forest in
    let w0 = around_in c.args.into.now.known c.args.w in
    let z0 = state_of texts false c.args.s.now c.args.into.now in
    let line = tree_line (tree_at f c.args.n) in
    let held : None ≡ inner (in_loop w0) (statement_of f c.args.body) z0 = search rules in
    step_none (inner (in_loop w0) (statement_of f c.args.body) z0) (do_behind line (expression_of f c.args.a)) held ∙ sym (ap (λ x. scoped_statement w0 x z0) c.requires.is)

pub do_statement-returns-in_default-2-clause-typed : goal.do_statement-returns-in_default-2-clause-typed
do_statement-returns-in_default-2-clause-typed t c =
    let texts = c.args.t.now.texts in
    let f = c.args.u.now.forest in
    let w0 = around_in c.args.into.now.known c.args.w in
    let z0 = state_of texts false c.args.s.now c.args.into.now in
    let line = tree_line (tree_at f c.args.n) in
    let first : Some (statement_after texts c.inner.new.s c.inner.new.into c.in-Some.repeated) ≡ inner (in_loop w0) (statement_of f c.args.body) z0 = search rules in
    let held : None ≡ condition (expression_of f c.args.a) (state_of texts false c.inner.new.s c.inner.new.into) = search rules in
    step_on (inner (in_loop w0) (statement_of f c.args.body) z0) (statement_after texts c.inner.new.s c.inner.new.into c.in-Some.repeated) (do_behind line (expression_of f c.args.a)) None first
    (step_none (condition (expression_of f c.args.a) (state_of texts false c.inner.new.s c.inner.new.into)) (do_made line (statement_at c.inner.new.into c.in-Some.repeated)) held) ∙ sym (ap (λ x. scoped_statement w0 x z0) c.requires.is)

pub do_statement-add-requires-clause-parts : goal.do_statement-add-requires-clause-parts
do_statement-add-requires-clause-parts t c =
    let h : Moves c.inner.new.into c.inner.new.s c.condition.new.into c.condition.new.s = search rules in
    let is_v : IsExpression c.condition.new.into c.in-Some-2.value = search rules in
    let is_b : IsStatement c.inner.new.into c.in-Some.repeated = search rules in
    ((is_v, tt), (statement_stays c.inner.new.into c.condition.new.into c.in-Some.repeated h.goes is_b, tt), tt)

pub do_statement-returns-clause-moves : goal.do_statement-returns-clause-moves
do_statement-returns-clause-moves t c =
    let g : Moves c.args.into.now c.args.s.now c.inner.new.into c.inner.new.s = search rules in
    let h : Moves c.inner.new.into c.inner.new.s c.condition.new.into c.condition.new.s = search rules in
    moves_on c.args.into.now c.inner.new.into c.add.new.into c.args.s.now c.inner.new.s c.condition.new.s g (moves_on c.inner.new.into c.condition.new.into c.add.new.into c.inner.new.s c.condition.new.s c.condition.new.s h c.in_ok-made.ensures.moves)

pub do_statement-returns-clause-typed : goal.do_statement-returns-clause-typed
do_statement-returns-clause-typed t c =
    let texts = c.args.t.now.texts in
    let f = c.args.u.now.forest in
    let w0 = around_in c.args.into.now.known c.args.w in
    let z0 = state_of texts false c.args.s.now c.args.into.now in
    let line = tree_line (tree_at f c.args.n) in
    let h : Moves c.inner.new.into c.inner.new.s c.condition.new.into c.condition.new.s = search rules in
    let first : Some (statement_after texts c.inner.new.s c.inner.new.into c.in-Some.repeated) ≡ inner (in_loop w0) (statement_of f c.args.body) z0 = search rules in
    let is_b : IsStatement c.inner.new.into c.in-Some.repeated = search rules in
    let second : Some (valued_in texts c.condition.new.s c.condition.new.into c.in-Some-2.value) ≡ condition (expression_of f c.args.a) (state_of texts false c.inner.new.s c.inner.new.into) = search rules in
    let tree : statement_at c.add.new.into c.in_ok-made.made ≡ typed.DoWhile line (statement_at c.condition.new.into c.in-Some.repeated) (expression_at c.condition.new.into c.in-Some-2.value) = search rules in
    do_done texts c.args.w line (expression_of f c.args.a) (statement_of f c.args.body) c.args.into.now c.inner.new.into c.condition.new.into c.add.new.into c.args.s.now c.inner.new.s c.condition.new.s c.in-Some.repeated c.in-Some-2.value c.in_ok-made.made (statement_same c.inner.new.into c.condition.new.into c.in-Some.repeated h.goes is_b) first second tree (c.in_ok-made.ensures.state texts) ∙ sym (ap (λ x. scoped_statement w0 x z0) c.requires.is)

pub else_statement-returns-in_default-clause-typed : goal.else_statement-returns-in_default-clause-typed
else_statement-returns-in_default-clause-typed t c =
    let texts = c.args.t.now.texts in
    let f = c.args.u.now.forest in
    let w0 = around_in c.args.into.now.known c.args.w in
    let z0 = state_of texts false c.args.s.now c.args.into.now in
    let line = tree_line (tree_at f c.args.n) in
    let held : None ≡ condition (expression_of f c.args.a) z0 = search rules in
    step_none (condition (expression_of f c.args.a) z0) (else_behind w0 line (statement_of f c.args.body) (statement_of f c.args.other)) held ∙ sym (ap (λ x. scoped_statement w0 x z0) c.requires.is)

pub else_statement-returns-in_default-2-clause-typed : goal.else_statement-returns-in_default-2-clause-typed
else_statement-returns-in_default-2-clause-typed t c =
    let texts = c.args.t.now.texts in
    let f = c.args.u.now.forest in
    let w0 = around_in c.args.into.now.known c.args.w in
    let z0 = state_of texts false c.args.s.now c.args.into.now in
    let line = tree_line (tree_at f c.args.n) in
    let g : Moves c.args.into.now c.args.s.now c.condition.new.into c.condition.new.s = search rules in
    let first : Some (valued_in texts c.condition.new.s c.condition.new.into c.in-Some.value) ≡ condition (expression_of f c.args.a) z0 = search rules in
    let held : None ≡ inner (around_in c.condition.new.into.known c.args.w) (statement_of f c.args.body) (state_of texts false c.condition.new.s c.condition.new.into) = search rules in
    step_on (condition (expression_of f c.args.a) z0) (valued_in texts c.condition.new.s c.condition.new.into c.in-Some.value) (else_behind w0 line (statement_of f c.args.body) (statement_of f c.args.other)) None first
    (step_none (inner w0 (statement_of f c.args.body) (state_of texts false c.condition.new.s c.condition.new.into)) (else_last w0 line (statement_of f c.args.other) (expression_at c.condition.new.into c.in-Some.value)) (held ∙ inner_same c.args.into.now c.condition.new.into c.args.w (statement_of f c.args.body) (state_of texts false c.condition.new.s c.condition.new.into) g.goes c.requires.known)) ∙ sym (ap (λ x. scoped_statement w0 x z0) c.requires.is)

pub else_statement-returns-in_default-3-clause-typed : goal.else_statement-returns-in_default-3-clause-typed
else_statement-returns-in_default-3-clause-typed t c =
    let texts = c.args.t.now.texts in
    let f = c.args.u.now.forest in
    let w0 = around_in c.args.into.now.known c.args.w in
    let z0 = state_of texts false c.args.s.now c.args.into.now in
    let line = tree_line (tree_at f c.args.n) in
    let g : Moves c.args.into.now c.args.s.now c.condition.new.into c.condition.new.s = search rules in
    let h : Moves c.condition.new.into c.condition.new.s c.inner.new.into c.inner.new.s = search rules in
    let first : Some (valued_in texts c.condition.new.s c.condition.new.into c.in-Some.value) ≡ condition (expression_of f c.args.a) z0 = search rules in
    let second : Some (statement_after texts c.inner.new.s c.inner.new.into c.in-Some-2.taken) ≡ inner (around_in c.condition.new.into.known c.args.w) (statement_of f c.args.body) (state_of texts false c.condition.new.s c.condition.new.into) = search rules in
    let held : None ≡ inner (around_in c.inner.new.into.known c.args.w) (statement_of f c.args.other) (state_of texts false c.inner.new.s c.inner.new.into) = search rules in
    step_on (condition (expression_of f c.args.a) z0) (valued_in texts c.condition.new.s c.condition.new.into c.in-Some.value) (else_behind w0 line (statement_of f c.args.body) (statement_of f c.args.other)) None first
    (step_on (inner w0 (statement_of f c.args.body) (state_of texts false c.condition.new.s c.condition.new.into)) (statement_after texts c.inner.new.s c.inner.new.into c.in-Some-2.taken) (else_last w0 line (statement_of f c.args.other) (expression_at c.condition.new.into c.in-Some.value)) None (second ∙ inner_same c.args.into.now c.condition.new.into c.args.w (statement_of f c.args.body) (state_of texts false c.condition.new.s c.condition.new.into) g.goes c.requires.known)
    (step_none (inner w0 (statement_of f c.args.other) (state_of texts false c.inner.new.s c.inner.new.into)) (else_made line (expression_at c.condition.new.into c.in-Some.value) (statement_at c.inner.new.into c.in-Some-2.taken)) (held ∙ inner_same c.args.into.now c.inner.new.into c.args.w (statement_of f c.args.other) (state_of texts false c.inner.new.s c.inner.new.into) (then_goes c.args.into.now c.condition.new.into c.inner.new.into g.goes h.goes) c.requires.known))) ∙ sym (ap (λ x. scoped_statement w0 x z0) c.requires.is)

pub else_statement-add-requires-clause-parts : goal.else_statement-add-requires-clause-parts
else_statement-add-requires-clause-parts t c =
    let h : Moves c.condition.new.into c.condition.new.s c.inner.new.into c.inner.new.s = search rules in
    let k : Moves c.inner.new.into c.inner.new.s c.inner-2.new.into c.inner-2.new.s = search rules in
    let is_v : IsExpression c.condition.new.into c.in-Some.value = search rules in
    let is_b : IsStatement c.inner.new.into c.in-Some-2.taken = search rules in
    let is_d : IsStatement c.inner-2.new.into c.in-Some-3.otherwise = search rules in
    ((expression_stays c.condition.new.into c.inner-2.new.into c.in-Some.value (then_goes c.condition.new.into c.inner.new.into c.inner-2.new.into h.goes k.goes) is_v, tt), (statement_stays c.inner.new.into c.inner-2.new.into c.in-Some-2.taken k.goes is_b, (is_d, tt)), tt)

pub else_statement-returns-clause-moves : goal.else_statement-returns-clause-moves
else_statement-returns-clause-moves t c =
    let g : Moves c.args.into.now c.args.s.now c.condition.new.into c.condition.new.s = search rules in
    let h : Moves c.condition.new.into c.condition.new.s c.inner.new.into c.inner.new.s = search rules in
    let k : Moves c.inner.new.into c.inner.new.s c.inner-2.new.into c.inner-2.new.s = search rules in
    moves_on c.args.into.now c.condition.new.into c.add.new.into c.args.s.now c.condition.new.s c.inner-2.new.s g (moves_on c.condition.new.into c.inner.new.into c.add.new.into c.condition.new.s c.inner.new.s c.inner-2.new.s h (moves_on c.inner.new.into c.inner-2.new.into c.add.new.into c.inner.new.s c.inner-2.new.s c.inner-2.new.s k c.in_ok-made.ensures.moves))

pub else_statement-returns-clause-typed : goal.else_statement-returns-clause-typed
else_statement-returns-clause-typed t c =
    let texts = c.args.t.now.texts in
    let f = c.args.u.now.forest in
    let w0 = around_in c.args.into.now.known c.args.w in
    let z0 = state_of texts false c.args.s.now c.args.into.now in
    let line = tree_line (tree_at f c.args.n) in
    let g : Moves c.args.into.now c.args.s.now c.condition.new.into c.condition.new.s = search rules in
    let h : Moves c.condition.new.into c.condition.new.s c.inner.new.into c.inner.new.s = search rules in
    let k : Moves c.inner.new.into c.inner.new.s c.inner-2.new.into c.inner-2.new.s = search rules in
    let first : Some (valued_in texts c.condition.new.s c.condition.new.into c.in-Some.value) ≡ condition (expression_of f c.args.a) z0 = search rules in
    let second : Some (statement_after texts c.inner.new.s c.inner.new.into c.in-Some-2.taken) ≡ inner (around_in c.condition.new.into.known c.args.w) (statement_of f c.args.body) (state_of texts false c.condition.new.s c.condition.new.into) = search rules in
    let is_v : IsExpression c.condition.new.into c.in-Some.value = search rules in
    let is_b : IsStatement c.inner.new.into c.in-Some-2.taken = search rules in
    let third : Some (statement_after texts c.inner-2.new.s c.inner-2.new.into c.in-Some-3.otherwise) ≡ inner (around_in c.inner.new.into.known c.args.w) (statement_of f c.args.other) (state_of texts false c.inner.new.s c.inner.new.into) = search rules in
    let tree : statement_at c.add.new.into c.in_ok-made.made ≡ typed.IfElse line (expression_at c.inner-2.new.into c.in-Some.value) (statement_at c.inner-2.new.into c.in-Some-2.taken) (statement_at c.inner-2.new.into c.in-Some-3.otherwise) = search rules in
    else_done texts c.args.w line (expression_of f c.args.a) (statement_of f c.args.body) (statement_of f c.args.other) c.args.into.now c.condition.new.into c.inner.new.into c.inner-2.new.into c.add.new.into c.args.s.now c.condition.new.s c.inner.new.s c.inner-2.new.s c.in-Some.value c.in-Some-2.taken c.in-Some-3.otherwise c.in_ok-made.made c.requires.known g.goes h.goes k.goes is_v (statement_same c.inner.new.into c.inner-2.new.into c.in-Some-2.taken k.goes is_b) first second third tree (c.in_ok-made.ensures.state texts) ∙ sym (ap (λ x. scoped_statement w0 x z0) c.requires.is)

pub for_statement-returns-in_default-clause-typed : goal.for_statement-returns-in_default-clause-typed
for_statement-returns-in_default-clause-typed t c =
    let texts = c.args.t.now.texts in
    let f = c.args.u.now.forest in
    let w0 = around_in c.args.into.now.known c.args.w in
    let z0 = state_of texts false c.args.s.now c.args.into.now in
    let line = tree_line (tree_at f c.args.n) in
    let held : None ≡ expression_if_any taken_value (optional_at f c.args.first) z0 = search rules in
    step_none (expression_if_any taken_value (optional_at f c.args.first) z0) (for_behind w0 line (optional_at f c.args.a) (optional_at f c.args.step) (statement_of f c.args.body)) held ∙ sym (ap (λ x. scoped_statement w0 x z0) c.requires.is)

pub for_statement-returns-in_default-2-clause-typed : goal.for_statement-returns-in_default-2-clause-typed
for_statement-returns-in_default-2-clause-typed t c =
    let texts = c.args.t.now.texts in
    let f = c.args.u.now.forest in
    let w0 = around_in c.args.into.now.known c.args.w in
    let z0 = state_of texts false c.args.s.now c.args.into.now in
    let line = tree_line (tree_at f c.args.n) in
    let e1 : Some (choice_in texts c.optional_value.new.s c.optional_value.new.into c.in-Some.begin) ≡ expression_if_any taken_value (optional_at f c.args.first) z0 = search rules in
    let held : None ≡ expression_if_any condition (optional_at f c.args.a) (state_of texts false c.optional_value.new.s c.optional_value.new.into) = search rules in
    step_on (expression_if_any taken_value (optional_at f c.args.first) z0) (choice_in texts c.optional_value.new.s c.optional_value.new.into c.in-Some.begin) (for_behind w0 line (optional_at f c.args.a) (optional_at f c.args.step) (statement_of f c.args.body)) None e1 (step_none (expression_if_any condition (optional_at f c.args.a) (state_of texts false c.optional_value.new.s c.optional_value.new.into)) (for_step w0 line (optional_at f c.args.step) (statement_of f c.args.body) (optional_in c.optional_value.new.into c.in-Some.begin)) held) ∙ sym (ap (λ x. scoped_statement w0 x z0) c.requires.is)

pub for_statement-returns-in_default-3-clause-typed : goal.for_statement-returns-in_default-3-clause-typed
for_statement-returns-in_default-3-clause-typed t c =
    let texts = c.args.t.now.texts in
    let f = c.args.u.now.forest in
    let w0 = around_in c.args.into.now.known c.args.w in
    let z0 = state_of texts false c.args.s.now c.args.into.now in
    let line = tree_line (tree_at f c.args.n) in
    let e1 : Some (choice_in texts c.optional_value.new.s c.optional_value.new.into c.in-Some.begin) ≡ expression_if_any taken_value (optional_at f c.args.first) z0 = search rules in
    let e2 : Some (choice_in texts c.optional_condition.new.s c.optional_condition.new.into c.in-Some-2.value) ≡ expression_if_any condition (optional_at f c.args.a) (state_of texts false c.optional_value.new.s c.optional_value.new.into) = search rules in
    let held : None ≡ expression_if_any taken_value (optional_at f c.args.step) (state_of texts false c.optional_condition.new.s c.optional_condition.new.into) = search rules in
    step_on (expression_if_any taken_value (optional_at f c.args.first) z0) (choice_in texts c.optional_value.new.s c.optional_value.new.into c.in-Some.begin) (for_behind w0 line (optional_at f c.args.a) (optional_at f c.args.step) (statement_of f c.args.body)) None e1
    (step_on (expression_if_any condition (optional_at f c.args.a) (state_of texts false c.optional_value.new.s c.optional_value.new.into)) (choice_in texts c.optional_condition.new.s c.optional_condition.new.into c.in-Some-2.value) (for_step w0 line (optional_at f c.args.step) (statement_of f c.args.body) (optional_in c.optional_value.new.into c.in-Some.begin)) None e2 (step_none (expression_if_any taken_value (optional_at f c.args.step) (state_of texts false c.optional_condition.new.s c.optional_condition.new.into)) (for_last w0 line (statement_of f c.args.body) (optional_in c.optional_value.new.into c.in-Some.begin) (optional_in c.optional_condition.new.into c.in-Some-2.value)) held)) ∙ sym (ap (λ x. scoped_statement w0 x z0) c.requires.is)

pub for_statement-returns-in_default-4-clause-typed : goal.for_statement-returns-in_default-4-clause-typed
for_statement-returns-in_default-4-clause-typed t c =
    let texts = c.args.t.now.texts in
    let f = c.args.u.now.forest in
    let w0 = around_in c.args.into.now.known c.args.w in
    let z0 = state_of texts false c.args.s.now c.args.into.now in
    let line = tree_line (tree_at f c.args.n) in
    let g : Moves c.args.into.now c.args.s.now c.optional_value.new.into c.optional_value.new.s = search rules in
    let h : Moves c.optional_value.new.into c.optional_value.new.s c.optional_condition.new.into c.optional_condition.new.s = search rules in
    let k : Moves c.optional_condition.new.into c.optional_condition.new.s c.optional_value-2.new.into c.optional_value-2.new.s = search rules in
    let e1 : Some (choice_in texts c.optional_value.new.s c.optional_value.new.into c.in-Some.begin) ≡ expression_if_any taken_value (optional_at f c.args.first) z0 = search rules in
    let e2 : Some (choice_in texts c.optional_condition.new.s c.optional_condition.new.into c.in-Some-2.value) ≡ expression_if_any condition (optional_at f c.args.a) (state_of texts false c.optional_value.new.s c.optional_value.new.into) = search rules in
    let e3 : Some (choice_in texts c.optional_value-2.new.s c.optional_value-2.new.into c.in-Some-3.next) ≡ expression_if_any taken_value (optional_at f c.args.step) (state_of texts false c.optional_condition.new.s c.optional_condition.new.into) = search rules in
    let held : None ≡ inner (in_loop (around_in c.optional_value-2.new.into.known c.args.w)) (statement_of f c.args.body) (state_of texts false c.optional_value-2.new.s c.optional_value-2.new.into) = search rules in
    let g3 = then_goes c.args.into.now c.optional_value.new.into c.optional_value-2.new.into g.goes (then_goes c.optional_value.new.into c.optional_condition.new.into c.optional_value-2.new.into h.goes k.goes) in
    step_on (expression_if_any taken_value (optional_at f c.args.first) z0) (choice_in texts c.optional_value.new.s c.optional_value.new.into c.in-Some.begin) (for_behind w0 line (optional_at f c.args.a) (optional_at f c.args.step) (statement_of f c.args.body)) None e1
    (step_on (expression_if_any condition (optional_at f c.args.a) (state_of texts false c.optional_value.new.s c.optional_value.new.into)) (choice_in texts c.optional_condition.new.s c.optional_condition.new.into c.in-Some-2.value) (for_step w0 line (optional_at f c.args.step) (statement_of f c.args.body) (optional_in c.optional_value.new.into c.in-Some.begin)) None e2
    (step_on (expression_if_any taken_value (optional_at f c.args.step) (state_of texts false c.optional_condition.new.s c.optional_condition.new.into)) (choice_in texts c.optional_value-2.new.s c.optional_value-2.new.into c.in-Some-3.next) (for_last w0 line (statement_of f c.args.body) (optional_in c.optional_value.new.into c.in-Some.begin) (optional_in c.optional_condition.new.into c.in-Some-2.value)) None e3
    (step_none (inner (in_loop w0) (statement_of f c.args.body) (state_of texts false c.optional_value-2.new.s c.optional_value-2.new.into)) (for_made line (optional_in c.optional_value.new.into c.in-Some.begin) (optional_in c.optional_condition.new.into c.in-Some-2.value) (optional_in c.optional_value-2.new.into c.in-Some-3.next)) (held ∙ loop_same c.args.into.now c.optional_value-2.new.into c.args.w (statement_of f c.args.body) (state_of texts false c.optional_value-2.new.s c.optional_value-2.new.into) g3 c.requires.known)))) ∙ sym (ap (λ x. scoped_statement w0 x z0) c.requires.is)

pub for_statement-add-requires-clause-parts : goal.for_statement-add-requires-clause-parts
for_statement-add-requires-clause-parts t c =
    let h : Moves c.optional_value.new.into c.optional_value.new.s c.optional_condition.new.into c.optional_condition.new.s = search rules in
    let k : Moves c.optional_condition.new.into c.optional_condition.new.s c.optional_value-2.new.into c.optional_value-2.new.s = search rules in
    let l : Moves c.optional_value-2.new.into c.optional_value-2.new.s c.inner.new.into c.inner.new.s = search rules in
    let is_f : IsOptional c.optional_value.new.into c.in-Some.begin = search rules in
    let is_v : IsOptional c.optional_condition.new.into c.in-Some-2.value = search rules in
    let is_n : IsOptional c.optional_value-2.new.into c.in-Some-3.next = search rules in
    let is_b : IsStatement c.inner.new.into c.in-Some-4.repeated = search rules in
    for_parts c.inner.new.into c.in-Some.begin c.in-Some-2.value c.in-Some-3.next c.in-Some-4.repeated (optional_stays c.optional_value.new.into c.inner.new.into c.in-Some.begin (then_goes c.optional_value.new.into c.optional_condition.new.into c.inner.new.into h.goes (then_goes c.optional_condition.new.into c.optional_value-2.new.into c.inner.new.into k.goes l.goes)) is_f) (optional_stays c.optional_condition.new.into c.inner.new.into c.in-Some-2.value (then_goes c.optional_condition.new.into c.optional_value-2.new.into c.inner.new.into k.goes l.goes) is_v) (optional_stays c.optional_value-2.new.into c.inner.new.into c.in-Some-3.next l.goes is_n) is_b

pub for_statement-returns-clause-moves : goal.for_statement-returns-clause-moves
for_statement-returns-clause-moves t c =
    let g : Moves c.args.into.now c.args.s.now c.optional_value.new.into c.optional_value.new.s = search rules in
    let h : Moves c.optional_value.new.into c.optional_value.new.s c.optional_condition.new.into c.optional_condition.new.s = search rules in
    let k : Moves c.optional_condition.new.into c.optional_condition.new.s c.optional_value-2.new.into c.optional_value-2.new.s = search rules in
    let l : Moves c.optional_value-2.new.into c.optional_value-2.new.s c.inner.new.into c.inner.new.s = search rules in
    moves_on c.args.into.now c.optional_value.new.into c.add.new.into c.args.s.now c.optional_value.new.s c.inner.new.s g (moves_on c.optional_value.new.into c.optional_condition.new.into c.add.new.into c.optional_value.new.s c.optional_condition.new.s c.inner.new.s h (moves_on c.optional_condition.new.into c.optional_value-2.new.into c.add.new.into c.optional_condition.new.s c.optional_value-2.new.s c.inner.new.s k (moves_on c.optional_value-2.new.into c.inner.new.into c.add.new.into c.optional_value-2.new.s c.inner.new.s c.inner.new.s l c.in_ok-made.ensures.moves)))

pub for_statement-returns-clause-typed : goal.for_statement-returns-clause-typed
for_statement-returns-clause-typed t c =
    let texts = c.args.t.now.texts in
    let f = c.args.u.now.forest in
    let w0 = around_in c.args.into.now.known c.args.w in
    let z0 = state_of texts false c.args.s.now c.args.into.now in
    let line = tree_line (tree_at f c.args.n) in
    let g : Moves c.args.into.now c.args.s.now c.optional_value.new.into c.optional_value.new.s = search rules in
    let h : Moves c.optional_value.new.into c.optional_value.new.s c.optional_condition.new.into c.optional_condition.new.s = search rules in
    let k : Moves c.optional_condition.new.into c.optional_condition.new.s c.optional_value-2.new.into c.optional_value-2.new.s = search rules in
    let l : Moves c.optional_value-2.new.into c.optional_value-2.new.s c.inner.new.into c.inner.new.s = search rules in
    let e1 : Some (choice_in texts c.optional_value.new.s c.optional_value.new.into c.in-Some.begin) ≡ expression_if_any taken_value (optional_at f c.args.first) z0 = search rules in
    let e2 : Some (choice_in texts c.optional_condition.new.s c.optional_condition.new.into c.in-Some-2.value) ≡ expression_if_any condition (optional_at f c.args.a) (state_of texts false c.optional_value.new.s c.optional_value.new.into) = search rules in
    let e3 : Some (choice_in texts c.optional_value-2.new.s c.optional_value-2.new.into c.in-Some-3.next) ≡ expression_if_any taken_value (optional_at f c.args.step) (state_of texts false c.optional_condition.new.s c.optional_condition.new.into) = search rules in
    let is_f : IsOptional c.optional_value.new.into c.in-Some.begin = search rules in
    let is_v : IsOptional c.optional_condition.new.into c.in-Some-2.value = search rules in
    let is_n : IsOptional c.optional_value-2.new.into c.in-Some-3.next = search rules in
    let e4 : Some (statement_after texts c.inner.new.s c.inner.new.into c.in-Some-4.repeated) ≡ inner (in_loop (around_in c.optional_value-2.new.into.known c.args.w)) (statement_of f c.args.body) (state_of texts false c.optional_value-2.new.s c.optional_value-2.new.into) = search rules in
    let made : statement_at c.add.new.into c.in_ok-made.made ≡ statement_form c.inner.new.into.lists (nodes c.inner.new.into) line [] (stmt.For c.in-Some.begin c.in-Some-2.value c.in-Some-3.next c.in-Some-4.repeated) = search rules in
    let tree = made ∙ for_form c.inner.new.into line c.in-Some.begin c.in-Some-2.value c.in-Some-3.next c.in-Some-4.repeated in
    for_done texts c.args.w line (optional_at f c.args.first) (optional_at f c.args.a) (optional_at f c.args.step) (statement_of f c.args.body) c.args.into.now c.optional_value.new.into c.optional_condition.new.into c.optional_value-2.new.into c.inner.new.into c.add.new.into c.args.s.now c.optional_value.new.s c.optional_condition.new.s c.optional_value-2.new.s c.inner.new.s c.in-Some.begin c.in-Some-2.value c.in-Some-3.next c.in-Some-4.repeated c.in_ok-made.made c.requires.known g.goes h.goes k.goes l.goes is_f is_v is_n e1 e2 e3 e4 tree (c.in_ok-made.ensures.state texts) ∙ sym (ap (λ x. scoped_statement w0 x z0) c.requires.is)

pub for_declaration-returns-then-not-branch-clause-typed : goal.for_declaration-returns-then-not-branch-clause-typed
for_declaration-returns-then-not-branch-clause-typed t c =
    let texts = c.args.t.now.texts in
    let f = c.args.u.now.forest in
    let w0 = around_in c.args.into.now.known c.args.w in
    let z0 = state_of texts false c.args.s.now c.args.into.now in
    let line = tree_line (tree_at f c.args.n) in
    let held : None ≡ (and_then (block_declaration (declaration_at f c.args.declaration) z0) if_automatic) = search rules in
    step_none (and_then (block_declaration (declaration_at f c.args.declaration) z0) if_automatic) (round_behind w0 line (optional_at f c.args.a) (optional_at f c.args.step) (statement_of f c.args.body)) held ∙ sym (ap (λ x. scoped_statement w0 x z0) c.requires.is)

pub for_declaration-returns-in_default-clause-typed : goal.for_declaration-returns-in_default-clause-typed
for_declaration-returns-in_default-clause-typed t c =
    let texts = c.args.t.now.texts in
    let f = c.args.u.now.forest in
    let w0 = around_in c.args.into.now.known c.args.w in
    let z0 = state_of texts false c.args.s.now c.args.into.now in
    let line = tree_line (tree_at f c.args.n) in
    let e1 : Some (items_in texts c.first_declared.new.s c.first_declared.new.into c.first_declared.new.items.items) ≡ (and_then (block_declaration (declaration_at f c.args.declaration) z0) if_automatic) = search rules in
    let held : None ≡ expression_if_any condition (optional_at f c.args.a) (state_of texts false c.first_declared.new.s c.first_declared.new.into) = search rules in
    step_on (and_then (block_declaration (declaration_at f c.args.declaration) z0) if_automatic) (items_in texts c.first_declared.new.s c.first_declared.new.into c.first_declared.new.items.items) (round_behind w0 line (optional_at f c.args.a) (optional_at f c.args.step) (statement_of f c.args.body)) None e1 (step_none (expression_if_any condition (optional_at f c.args.a) (state_of texts false c.first_declared.new.s c.first_declared.new.into)) (round_step w0 line (optional_at f c.args.step) (statement_of f c.args.body) (statements_in c.first_declared.new.into c.first_declared.new.items.items)) held) ∙ sym (ap (λ x. scoped_statement w0 x z0) c.requires.is)

pub for_declaration-returns-in_default-2-clause-typed : goal.for_declaration-returns-in_default-2-clause-typed
for_declaration-returns-in_default-2-clause-typed t c =
    let texts = c.args.t.now.texts in
    let f = c.args.u.now.forest in
    let w0 = around_in c.args.into.now.known c.args.w in
    let z0 = state_of texts false c.args.s.now c.args.into.now in
    let line = tree_line (tree_at f c.args.n) in
    let e1 : Some (items_in texts c.first_declared.new.s c.first_declared.new.into c.first_declared.new.items.items) ≡ (and_then (block_declaration (declaration_at f c.args.declaration) z0) if_automatic) = search rules in
    let e2 : Some (choice_in texts c.optional_condition.new.s c.optional_condition.new.into c.in-Some.value) ≡ expression_if_any condition (optional_at f c.args.a) (state_of texts false c.first_declared.new.s c.first_declared.new.into) = search rules in
    let held : None ≡ expression_if_any taken_value (optional_at f c.args.step) (state_of texts false c.optional_condition.new.s c.optional_condition.new.into) = search rules in
    step_on (and_then (block_declaration (declaration_at f c.args.declaration) z0) if_automatic) (items_in texts c.first_declared.new.s c.first_declared.new.into c.first_declared.new.items.items) (round_behind w0 line (optional_at f c.args.a) (optional_at f c.args.step) (statement_of f c.args.body)) None e1
    (step_on (expression_if_any condition (optional_at f c.args.a) (state_of texts false c.first_declared.new.s c.first_declared.new.into)) (choice_in texts c.optional_condition.new.s c.optional_condition.new.into c.in-Some.value) (round_step w0 line (optional_at f c.args.step) (statement_of f c.args.body) (statements_in c.first_declared.new.into c.first_declared.new.items.items)) None e2 (step_none (expression_if_any taken_value (optional_at f c.args.step) (state_of texts false c.optional_condition.new.s c.optional_condition.new.into)) (round_last w0 line (statement_of f c.args.body) (statements_in c.first_declared.new.into c.first_declared.new.items.items) (optional_in c.optional_condition.new.into c.in-Some.value)) held)) ∙ sym (ap (λ x. scoped_statement w0 x z0) c.requires.is)

pub for_declaration-returns-in_default-3-clause-typed : goal.for_declaration-returns-in_default-3-clause-typed
for_declaration-returns-in_default-3-clause-typed t c =
    let texts = c.args.t.now.texts in
    let f = c.args.u.now.forest in
    let w0 = around_in c.args.into.now.known c.args.w in
    let z0 = state_of texts false c.args.s.now c.args.into.now in
    let line = tree_line (tree_at f c.args.n) in
    let g : Moves c.args.into.now c.args.s.now c.first_declared.new.into c.first_declared.new.s = search rules in
    let h : Moves c.first_declared.new.into c.first_declared.new.s c.optional_condition.new.into c.optional_condition.new.s = search rules in
    let k : Moves c.optional_condition.new.into c.optional_condition.new.s c.optional_value.new.into c.optional_value.new.s = search rules in
    let e1 : Some (items_in texts c.first_declared.new.s c.first_declared.new.into c.first_declared.new.items.items) ≡ (and_then (block_declaration (declaration_at f c.args.declaration) z0) if_automatic) = search rules in
    let e2 : Some (choice_in texts c.optional_condition.new.s c.optional_condition.new.into c.in-Some.value) ≡ expression_if_any condition (optional_at f c.args.a) (state_of texts false c.first_declared.new.s c.first_declared.new.into) = search rules in
    let e3 : Some (choice_in texts c.optional_value.new.s c.optional_value.new.into c.in-Some-2.next) ≡ expression_if_any taken_value (optional_at f c.args.step) (state_of texts false c.optional_condition.new.s c.optional_condition.new.into) = search rules in
    let held : None ≡ inner (in_loop (around_in c.optional_value.new.into.known c.args.w)) (statement_of f c.args.body) (state_of texts false c.optional_value.new.s c.optional_value.new.into) = search rules in
    let g3 = then_goes c.args.into.now c.first_declared.new.into c.optional_value.new.into g.goes (then_goes c.first_declared.new.into c.optional_condition.new.into c.optional_value.new.into h.goes k.goes) in
    step_on (and_then (block_declaration (declaration_at f c.args.declaration) z0) if_automatic) (items_in texts c.first_declared.new.s c.first_declared.new.into c.first_declared.new.items.items) (round_behind w0 line (optional_at f c.args.a) (optional_at f c.args.step) (statement_of f c.args.body)) None e1
    (step_on (expression_if_any condition (optional_at f c.args.a) (state_of texts false c.first_declared.new.s c.first_declared.new.into)) (choice_in texts c.optional_condition.new.s c.optional_condition.new.into c.in-Some.value) (round_step w0 line (optional_at f c.args.step) (statement_of f c.args.body) (statements_in c.first_declared.new.into c.first_declared.new.items.items)) None e2
    (step_on (expression_if_any taken_value (optional_at f c.args.step) (state_of texts false c.optional_condition.new.s c.optional_condition.new.into)) (choice_in texts c.optional_value.new.s c.optional_value.new.into c.in-Some-2.next) (round_last w0 line (statement_of f c.args.body) (statements_in c.first_declared.new.into c.first_declared.new.items.items) (optional_in c.optional_condition.new.into c.in-Some.value)) None e3
    (step_none (inner (in_loop w0) (statement_of f c.args.body) (state_of texts false c.optional_value.new.s c.optional_value.new.into)) (round_made line (statements_in c.first_declared.new.into c.first_declared.new.items.items) (optional_in c.optional_condition.new.into c.in-Some.value) (optional_in c.optional_value.new.into c.in-Some-2.next)) (held ∙ loop_same c.args.into.now c.optional_value.new.into c.args.w (statement_of f c.args.body) (state_of texts false c.optional_value.new.s c.optional_value.new.into) g3 c.requires.known)))) ∙ sym (ap (λ x. scoped_statement w0 x z0) c.requires.is)

pub for_declaration-add_round-requires-clause-items : goal.for_declaration-add_round-requires-clause-items
for_declaration-add_round-requires-clause-items t c =
    let h : Moves c.first_declared.new.into c.first_declared.new.s c.optional_condition.new.into c.optional_condition.new.s = search rules in
    let k : Moves c.optional_condition.new.into c.optional_condition.new.s c.optional_value.new.into c.optional_value.new.s = search rules in
    let l : Moves c.optional_value.new.into c.optional_value.new.s c.inner.new.into c.inner.new.s = search rules in
    let are : AreStatements c.first_declared.new.into c.first_declared.new.items.items = search rules in
    rw c.as_slice.ensures.value (statements_stay c.first_declared.new.into c.inner.new.into c.first_declared.new.items.items (then_goes c.first_declared.new.into c.optional_condition.new.into c.inner.new.into h.goes (then_goes c.optional_condition.new.into c.optional_value.new.into c.inner.new.into k.goes l.goes)) are)

pub for_declaration-add_round-requires-clause-condition : goal.for_declaration-add_round-requires-clause-condition
for_declaration-add_round-requires-clause-condition t c =
    let k : Moves c.optional_condition.new.into c.optional_condition.new.s c.optional_value.new.into c.optional_value.new.s = search rules in
    let l : Moves c.optional_value.new.into c.optional_value.new.s c.inner.new.into c.inner.new.s = search rules in
    let is_v : IsOptional c.optional_condition.new.into c.in-Some.value = search rules in
    optional_stays c.optional_condition.new.into c.inner.new.into c.in-Some.value (then_goes c.optional_condition.new.into c.optional_value.new.into c.inner.new.into k.goes l.goes) is_v

pub for_declaration-add_round-requires-clause-step : goal.for_declaration-add_round-requires-clause-step
for_declaration-add_round-requires-clause-step t c =
    let l : Moves c.optional_value.new.into c.optional_value.new.s c.inner.new.into c.inner.new.s = search rules in
    let is_n : IsOptional c.optional_value.new.into c.in-Some-2.next = search rules in
    optional_stays c.optional_value.new.into c.inner.new.into c.in-Some-2.next l.goes is_n

pub for_declaration-returns-clause-moves : goal.for_declaration-returns-clause-moves
for_declaration-returns-clause-moves t c =
    let g : Moves c.args.into.now c.args.s.now c.first_declared.new.into c.first_declared.new.s = search rules in
    let h : Moves c.first_declared.new.into c.first_declared.new.s c.optional_condition.new.into c.optional_condition.new.s = search rules in
    let k : Moves c.optional_condition.new.into c.optional_condition.new.s c.optional_value.new.into c.optional_value.new.s = search rules in
    let l : Moves c.optional_value.new.into c.optional_value.new.s c.inner.new.into c.inner.new.s = search rules in
    moves_on c.args.into.now c.first_declared.new.into c.add_round.new.into c.args.s.now c.first_declared.new.s c.inner.new.s g (moves_on c.first_declared.new.into c.optional_condition.new.into c.add_round.new.into c.first_declared.new.s c.optional_condition.new.s c.inner.new.s h (moves_on c.optional_condition.new.into c.optional_value.new.into c.add_round.new.into c.optional_condition.new.s c.optional_value.new.s c.inner.new.s k (moves_on c.optional_value.new.into c.inner.new.into c.add_round.new.into c.optional_value.new.s c.inner.new.s c.inner.new.s l c.in_ok-made.ensures.moves)))

pub for_declaration-returns-clause-typed : goal.for_declaration-returns-clause-typed
for_declaration-returns-clause-typed t c =
    let texts = c.args.t.now.texts in
    let f = c.args.u.now.forest in
    let w0 = around_in c.args.into.now.known c.args.w in
    let z0 = state_of texts false c.args.s.now c.args.into.now in
    let line = tree_line (tree_at f c.args.n) in
    let g : Moves c.args.into.now c.args.s.now c.first_declared.new.into c.first_declared.new.s = search rules in
    let h : Moves c.first_declared.new.into c.first_declared.new.s c.optional_condition.new.into c.optional_condition.new.s = search rules in
    let k : Moves c.optional_condition.new.into c.optional_condition.new.s c.optional_value.new.into c.optional_value.new.s = search rules in
    let l : Moves c.optional_value.new.into c.optional_value.new.s c.inner.new.into c.inner.new.s = search rules in
    let e1 : Some (items_in texts c.first_declared.new.s c.first_declared.new.into c.first_declared.new.items.items) ≡ (and_then (block_declaration (declaration_at f c.args.declaration) z0) if_automatic) = search rules in
    let e2 : Some (choice_in texts c.optional_condition.new.s c.optional_condition.new.into c.in-Some.value) ≡ expression_if_any condition (optional_at f c.args.a) (state_of texts false c.first_declared.new.s c.first_declared.new.into) = search rules in
    let e3 : Some (choice_in texts c.optional_value.new.s c.optional_value.new.into c.in-Some-2.next) ≡ expression_if_any taken_value (optional_at f c.args.step) (state_of texts false c.optional_condition.new.s c.optional_condition.new.into) = search rules in
    let is_v : IsOptional c.optional_condition.new.into c.in-Some.value = search rules in
    let is_n : IsOptional c.optional_value.new.into c.in-Some-2.next = search rules in
    let are : AreStatements c.first_declared.new.into c.first_declared.new.items.items = search rules in
    let e4 : Some (statement_after texts c.inner.new.s c.inner.new.into c.in-Some-3.repeated) ≡ inner (in_loop (around_in c.optional_value.new.into.known c.args.w)) (statement_of f c.args.body) (state_of texts false c.optional_value.new.s c.optional_value.new.into) = search rules in
    let tree : statement_at c.add_round.new.into c.in_ok-made.made ≡ typed.ForDeclaration line (declared_in (statements_in c.inner.new.into c.first_declared.new.items.items)) (statements_of (statements_in c.inner.new.into c.first_declared.new.items.items)) (optional_in c.inner.new.into c.in-Some.value) (optional_in c.inner.new.into c.in-Some-2.next) (statement_at c.inner.new.into c.in-Some-3.repeated) = search rules in
    round_done texts c.args.w line (and_then (block_declaration (declaration_at f c.args.declaration) z0) if_automatic) (optional_at f c.args.a) (optional_at f c.args.step) (statement_of f c.args.body) c.args.into.now c.first_declared.new.into c.optional_condition.new.into c.optional_value.new.into c.inner.new.into c.add_round.new.into c.args.s.now c.first_declared.new.s c.optional_condition.new.s c.optional_value.new.s c.inner.new.s c.first_declared.new.items.items c.in-Some.value c.in-Some-2.next c.in-Some-3.repeated c.in_ok-made.made c.requires.known g.goes h.goes k.goes l.goes (statements_same c.first_declared.new.into c.inner.new.into c.first_declared.new.items.items (then_goes c.first_declared.new.into c.optional_condition.new.into c.inner.new.into h.goes (then_goes c.optional_condition.new.into c.optional_value.new.into c.inner.new.into k.goes l.goes)) are) is_v is_n e1 e2 e3 e4 tree (c.in_ok-made.ensures.state texts) ∙ sym (ap (λ x. scoped_statement w0 x z0) c.requires.is)
