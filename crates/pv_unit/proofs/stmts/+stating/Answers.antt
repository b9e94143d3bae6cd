mod Loops
use Rattle.std.proofs.Common.{rules, ◌≡◌, ◌<◌, true, false, Some, None, length, get_or, drop, sym, ap, ◌∙◌, arith}
use Rattle.pv_tree.specs.declared.nodes.NodeId.{NodeId}
use Rattle.pv_tree.specs.TreeLines.{tree_line}
use Rattle.pv_tree.specs.Tables.{tree_at, trees_of, trees_at, expression_at as expression_of, statement_at as statement_of, is_declaration, is_expression, is_item, as_statement}
use Rattle.pv_typed.specs.NodeTrees.{expression_at, statement_at, IsExpression, IsStatement}
use Rattle.pv_typed.specs.TypedStatement as typed
use Rattle.pv_check.specs.Open.{state_of}
use Rattle.pv_check.specs.Scopes.{in_new_scope}
use Rattle.pv_check.proofs.Descending.{has_at, optional_within}
use Rattle.pv_unit.specs.Statements.{condition, switch_value, typed_labels, under, block_of}
use Rattle.pv_unit.specs.StatementParts.{in_switch}
use Rattle.pv_unit.specs.TypedStatements.{typed_statement, typed_items, typed_item, switch_block, switch_items, switch_item}
use Rattle.pv_unit.specs.Made.{if_made, switch_made, block_made, with_statement, body_made}
use Rattle.pv_unit.specs.Scoped.{inner, if_behind, switch_behind, scoped_statement, switch_body, labelled_statement}
use Rattle.pv_unit.specs.Stated.{around_in, statement_after, statements_in, items_in, AreStatements, Moves}
use Rattle.pv_tree.specs.Places.{is_switch_block}
use Rattle.pv_unit.specs.Switching.{labels_of, labels_if, behind_labels, switched_in, body_in, marked_if, is_labelled}
use Rattle.pv_unit.proofs.ItemRows.{item_declared, item_stated, item_pushed, pushed_there}
use Rattle.pv_unit.proofs.ItemRows as items
use Rattle.pv_unit.proofs.Moving.{moves_on, type_stays, within, expression_stays, around_same, step_on, step_none}
use Rattle.pv_unit.proofs.ScopedRows.{valued_in, scope_left, none_left, scope_is, block_scope, scope_moves, scope_within, inner_same, if_done, switch_done, block_done}
use Rattle.pv_unit.proofs.SwitchRows.{unmarked_is, unlabelled, labels_refused, labels_more, under_none, under_done, body_declared, body_none, body_pushed, no_block, body_done}
use Rattle.pv_unit.proofs.SwitchRows as switches
use Rattle.pv_unit.proofs.stmts.+stating.Goals as goal
use Rattle.pv_unit.proofs.stmts.+stating.Answers.Loops as loops

abbrev no_id : NodeId
no_id = record { 0 = 0 }

pub inner-returns-in_default-clause-typed : goal.inner-returns-in_default-clause-typed
inner-returns-in_default-clause-typed t c =
    let texts = c.args.t.now.texts in
    let f = c.args.u.now.forest in
    let w0 = around_in c.args.into.now.known c.args.w in
    let z0 = state_of texts false c.args.s.now c.args.into.now in
    let held : None ≡ typed_statement w0 (statement_of f c.args.n) (state_of texts false c.enter.new.s c.args.into.now) = search rules in
    none_left (typed_statement w0 (statement_of f c.args.n) (in_new_scope z0)) (held ∙ ap (typed_statement w0 (statement_of f c.args.n)) (c.in_ok-enter.ensures.state texts))

pub inner-leave-requires-clause-within : goal.inner-leave-requires-clause-within
inner-leave-requires-clause-within t c =
    let moves : Moves c.args.into.now c.enter.new.s c.statement.new.into c.statement.new.s = search rules in
    scope_within c.args.into.now c.statement.new.into c.args.s.now c.enter.new.s c.statement.new.s c.requires.opened c.in_ok-enter.ensures.deep moves

pub inner-returns-clause-moves : goal.inner-returns-clause-moves
inner-returns-clause-moves t c =
    let moves : Moves c.args.into.now c.enter.new.s c.statement.new.into c.statement.new.s = search rules in
    scope_moves c.args.into.now c.statement.new.into c.args.s.now c.enter.new.s c.statement.new.s c.leave.new.s c.requires.opened c.in_ok-enter.ensures.deep moves c.leave.ensures.opened c.leave.ensures.deep

pub inner-returns-clause-typed : goal.inner-returns-clause-typed
inner-returns-clause-typed t c =
    let texts = c.args.t.now.texts in
    let f = c.args.u.now.forest in
    let w0 = around_in c.args.into.now.known c.args.w in
    let z0 = state_of texts false c.args.s.now c.args.into.now in
    let held : Some (statement_after texts c.statement.new.s c.statement.new.into c.in-Some.made) ≡ typed_statement w0 (statement_of f c.args.n) (state_of texts false c.enter.new.s c.args.into.now) = search rules in
    scope_left texts c.statement.new.s c.leave.new.s c.statement.new.into c.in-Some.made (typed_statement w0 (statement_of f c.args.n) (in_new_scope z0)) (held ∙ ap (typed_statement w0 (statement_of f c.args.n)) (c.in_ok-enter.ensures.state texts)) (c.leave.ensures.state texts)

pub in_scope-returns-in_default-clause-typed : goal.in_scope-returns-in_default-clause-typed
in_scope-returns-in_default-clause-typed t c =
    let texts = c.args.t.now.texts in
    let f = c.args.u.now.forest in
    let w0 = around_in c.args.into.now.known c.args.w in
    let z0 = state_of texts false c.args.s.now c.args.into.now in
    let held : None ≡ scoped_statement w0 (statement_of f c.args.n) (state_of texts false c.enter.new.s c.args.into.now) = search rules in
    none_left (scoped_statement w0 (statement_of f c.args.n) (in_new_scope z0)) (held ∙ ap (scoped_statement w0 (statement_of f c.args.n)) (c.in_ok-enter.ensures.state texts)) ∙ scope_is w0 (statement_of f c.args.n) z0 c.requires.scope

pub in_scope-leave-requires-clause-within : goal.in_scope-leave-requires-clause-within
in_scope-leave-requires-clause-within t c =
    let moves : Moves c.args.into.now c.enter.new.s c.scoped.new.into c.scoped.new.s = search rules in
    scope_within c.args.into.now c.scoped.new.into c.args.s.now c.enter.new.s c.scoped.new.s c.requires.opened c.in_ok-enter.ensures.deep moves

pub in_scope-returns-clause-moves : goal.in_scope-returns-clause-moves
in_scope-returns-clause-moves t c =
    let moves : Moves c.args.into.now c.enter.new.s c.scoped.new.into c.scoped.new.s = search rules in
    scope_moves c.args.into.now c.scoped.new.into c.args.s.now c.enter.new.s c.scoped.new.s c.leave.new.s c.requires.opened c.in_ok-enter.ensures.deep moves c.leave.ensures.opened c.leave.ensures.deep

pub in_scope-returns-clause-typed : goal.in_scope-returns-clause-typed
in_scope-returns-clause-typed t c =
    let texts = c.args.t.now.texts in
    let f = c.args.u.now.forest in
    let w0 = around_in c.args.into.now.known c.args.w in
    let z0 = state_of texts false c.args.s.now c.args.into.now in
    let held : Some (statement_after texts c.scoped.new.s c.scoped.new.into c.in-Some.made) ≡ scoped_statement w0 (statement_of f c.args.n) (state_of texts false c.enter.new.s c.args.into.now) = search rules in
    scope_left texts c.scoped.new.s c.leave.new.s c.scoped.new.into c.in-Some.made (scoped_statement w0 (statement_of f c.args.n) (in_new_scope z0)) (held ∙ ap (scoped_statement w0 (statement_of f c.args.n)) (c.in_ok-enter.ensures.state texts)) (c.leave.ensures.state texts) ∙ scope_is w0 (statement_of f c.args.n) z0 c.requires.scope

pub switch_block-returns-in_default-clause-typed : goal.switch_block-returns-in_default-clause-typed
switch_block-returns-in_default-clause-typed t c =
    let texts = c.args.t.now.texts in
    let f = c.args.u.now.forest in
    let w0 = around_in c.args.into.now.known c.args.w in
    let z0 = state_of texts false c.args.s.now c.args.into.now in
    let held : None ≡ switch_body w0 c.args.kind (statement_of f c.args.n) (state_of texts false c.enter.new.s c.args.into.now) = search rules in
    none_left (switch_body w0 c.args.kind (statement_of f c.args.n) (in_new_scope z0)) (held ∙ ap (switch_body w0 c.args.kind (statement_of f c.args.n)) (c.in_ok-enter.ensures.state texts)) ∙ block_scope w0 c.args.kind (statement_of f c.args.n) z0

pub switch_block-leave-requires-clause-within : goal.switch_block-leave-requires-clause-within
switch_block-leave-requires-clause-within t c =
    let moves : Moves c.args.into.now c.enter.new.s c.switch_body.new.into c.switch_body.new.s = search rules in
    scope_within c.args.into.now c.switch_body.new.into c.args.s.now c.enter.new.s c.switch_body.new.s c.requires.opened c.in_ok-enter.ensures.deep moves

pub switch_block-returns-clause-moves : goal.switch_block-returns-clause-moves
switch_block-returns-clause-moves t c =
    let moves : Moves c.args.into.now c.enter.new.s c.switch_body.new.into c.switch_body.new.s = search rules in
    scope_moves c.args.into.now c.switch_body.new.into c.args.s.now c.enter.new.s c.switch_body.new.s c.leave.new.s c.requires.opened c.in_ok-enter.ensures.deep moves c.leave.ensures.opened c.leave.ensures.deep

pub switch_block-returns-clause-typed : goal.switch_block-returns-clause-typed
switch_block-returns-clause-typed t c =
    let texts = c.args.t.now.texts in
    let f = c.args.u.now.forest in
    let w0 = around_in c.args.into.now.known c.args.w in
    let z0 = state_of texts false c.args.s.now c.args.into.now in
    let held : Some (statement_after texts c.switch_body.new.s c.switch_body.new.into c.in-Some.made) ≡ switch_body w0 c.args.kind (statement_of f c.args.n) (state_of texts false c.enter.new.s c.args.into.now) = search rules in
    scope_left texts c.switch_body.new.s c.leave.new.s c.switch_body.new.into c.in-Some.made (switch_body w0 c.args.kind (statement_of f c.args.n) (in_new_scope z0)) (held ∙ ap (switch_body w0 c.args.kind (statement_of f c.args.n)) (c.in_ok-enter.ensures.state texts)) (c.leave.ensures.state texts) ∙ block_scope w0 c.args.kind (statement_of f c.args.n) z0

pub if_statement-returns-in_default-clause-typed : goal.if_statement-returns-in_default-clause-typed
if_statement-returns-in_default-clause-typed t c =
    let texts = c.args.t.now.texts in
    let f = c.args.u.now.forest in
    let w0 = around_in c.args.into.now.known c.args.w in
    let z0 = state_of texts false c.args.s.now c.args.into.now in
    let line = tree_line (tree_at f c.args.n) in
    let held : None ≡ condition (expression_of f c.args.a) z0 = search rules in
    step_none (condition (expression_of f c.args.a) z0) (if_behind w0 line (statement_of f c.args.body)) held ∙ sym (ap (λ x. scoped_statement w0 x z0) c.requires.is)

pub if_statement-returns-in_default-2-clause-typed : goal.if_statement-returns-in_default-2-clause-typed
if_statement-returns-in_default-2-clause-typed t c =
    let texts = c.args.t.now.texts in
    let f = c.args.u.now.forest in
    let w0 = around_in c.args.into.now.known c.args.w in
    let z0 = state_of texts false c.args.s.now c.args.into.now in
    let line = tree_line (tree_at f c.args.n) in
    let g : Moves c.args.into.now c.args.s.now c.condition.new.into c.condition.new.s = search rules in
    let first : Some (valued_in texts c.condition.new.s c.condition.new.into c.in-Some.value) ≡ condition (expression_of f c.args.a) z0 = search rules in
    let held : None ≡ inner (around_in c.condition.new.into.known c.args.w) (statement_of f c.args.body) (state_of texts false c.condition.new.s c.condition.new.into) = search rules in
    step_on (condition (expression_of f c.args.a) z0) (valued_in texts c.condition.new.s c.condition.new.into c.in-Some.value) (if_behind w0 line (statement_of f c.args.body)) None first
    (step_none (inner w0 (statement_of f c.args.body) (state_of texts false c.condition.new.s c.condition.new.into)) (if_made line (expression_at c.condition.new.into c.in-Some.value)) (held ∙ inner_same c.args.into.now c.condition.new.into c.args.w (statement_of f c.args.body) (state_of texts false c.condition.new.s c.condition.new.into) g.goes c.requires.known)) ∙ sym (ap (λ x. scoped_statement w0 x z0) c.requires.is)

pub if_statement-add-requires-clause-parts : goal.if_statement-add-requires-clause-parts
if_statement-add-requires-clause-parts t c =
    let h : Moves c.condition.new.into c.condition.new.s c.inner.new.into c.inner.new.s = search rules in
    let is_v : IsExpression c.condition.new.into c.in-Some.value = search rules in
    let is_b : IsStatement c.inner.new.into c.in-Some-2.taken = search rules in
    ((expression_stays c.condition.new.into c.inner.new.into c.in-Some.value h.goes is_v, tt), (is_b, tt), tt)

pub if_statement-returns-clause-moves : goal.if_statement-returns-clause-moves
if_statement-returns-clause-moves t c =
    let g : Moves c.args.into.now c.args.s.now c.condition.new.into c.condition.new.s = search rules in
    let h : Moves c.condition.new.into c.condition.new.s c.inner.new.into c.inner.new.s = search rules in
    moves_on c.args.into.now c.condition.new.into c.add.new.into c.args.s.now c.condition.new.s c.inner.new.s g (moves_on c.condition.new.into c.inner.new.into c.add.new.into c.condition.new.s c.inner.new.s c.inner.new.s h c.in_ok-made.ensures.moves)

pub if_statement-returns-clause-typed : goal.if_statement-returns-clause-typed
if_statement-returns-clause-typed t c =
    let texts = c.args.t.now.texts in
    let f = c.args.u.now.forest in
    let w0 = around_in c.args.into.now.known c.args.w in
    let z0 = state_of texts false c.args.s.now c.args.into.now in
    let line = tree_line (tree_at f c.args.n) in
    let g : Moves c.args.into.now c.args.s.now c.condition.new.into c.condition.new.s = search rules in
    let h : Moves c.condition.new.into c.condition.new.s c.inner.new.into c.inner.new.s = search rules in
    let first : Some (valued_in texts c.condition.new.s c.condition.new.into c.in-Some.value) ≡ condition (expression_of f c.args.a) z0 = search rules in
    let is_v : IsExpression c.condition.new.into c.in-Some.value = search rules in
    let second : Some (statement_after texts c.inner.new.s c.inner.new.into c.in-Some-2.taken) ≡ inner (around_in c.condition.new.into.known c.args.w) (statement_of f c.args.body) (state_of texts false c.condition.new.s c.condition.new.into) = search rules in
    let tree : statement_at c.add.new.into c.in_ok-made.made ≡ typed.If line (expression_at c.inner.new.into c.in-Some.value) (statement_at c.inner.new.into c.in-Some-2.taken) = search rules in
    if_done texts c.args.w line (expression_of f c.args.a) (statement_of f c.args.body) c.args.into.now c.condition.new.into c.inner.new.into c.add.new.into c.args.s.now c.condition.new.s c.inner.new.s c.in-Some.value c.in-Some-2.taken c.in_ok-made.made c.requires.known g.goes h.goes is_v first second tree (c.in_ok-made.ensures.state texts) ∙ sym (ap (λ x. scoped_statement w0 x z0) c.requires.is)

pub while_statement-returns-in_default-clause-typed : goal.while_statement-returns-in_default-clause-typed
while_statement-returns-in_default-clause-typed = loops.while_statement-returns-in_default-clause-typed

pub while_statement-returns-in_default-2-clause-typed : goal.while_statement-returns-in_default-2-clause-typed
while_statement-returns-in_default-2-clause-typed = loops.while_statement-returns-in_default-2-clause-typed

pub while_statement-add-requires-clause-parts : goal.while_statement-add-requires-clause-parts
while_statement-add-requires-clause-parts = loops.while_statement-add-requires-clause-parts

pub while_statement-returns-clause-moves : goal.while_statement-returns-clause-moves
while_statement-returns-clause-moves = loops.while_statement-returns-clause-moves

pub while_statement-returns-clause-typed : goal.while_statement-returns-clause-typed
while_statement-returns-clause-typed = loops.while_statement-returns-clause-typed

pub do_statement-returns-in_default-clause-typed : goal.do_statement-returns-in_default-clause-typed
do_statement-returns-in_default-clause-typed = loops.do_statement-returns-in_default-clause-typed

pub do_statement-returns-in_default-2-clause-typed : goal.do_statement-returns-in_default-2-clause-typed
do_statement-returns-in_default-2-clause-typed = loops.do_statement-returns-in_default-2-clause-typed

pub do_statement-add-requires-clause-parts : goal.do_statement-add-requires-clause-parts
do_statement-add-requires-clause-parts = loops.do_statement-add-requires-clause-parts

pub do_statement-returns-clause-moves : goal.do_statement-returns-clause-moves
do_statement-returns-clause-moves = loops.do_statement-returns-clause-moves

pub do_statement-returns-clause-typed : goal.do_statement-returns-clause-typed
do_statement-returns-clause-typed = loops.do_statement-returns-clause-typed

pub else_statement-returns-in_default-clause-typed : goal.else_statement-returns-in_default-clause-typed
else_statement-returns-in_default-clause-typed = loops.else_statement-returns-in_default-clause-typed

pub else_statement-returns-in_default-2-clause-typed : goal.else_statement-returns-in_default-2-clause-typed
else_statement-returns-in_default-2-clause-typed = loops.else_statement-returns-in_default-2-clause-typed

pub else_statement-returns-in_default-3-clause-typed : goal.else_statement-returns-in_default-3-clause-typed
else_statement-returns-in_default-3-clause-typed = loops.else_statement-returns-in_default-3-clause-typed

pub else_statement-add-requires-clause-parts : goal.else_statement-add-requires-clause-parts
else_statement-add-requires-clause-parts = loops.else_statement-add-requires-clause-parts

pub else_statement-returns-clause-moves : goal.else_statement-returns-clause-moves
else_statement-returns-clause-moves = loops.else_statement-returns-clause-moves

pub else_statement-returns-clause-typed : goal.else_statement-returns-clause-typed
else_statement-returns-clause-typed = loops.else_statement-returns-clause-typed

pub for_statement-returns-in_default-clause-typed : goal.for_statement-returns-in_default-clause-typed
for_statement-returns-in_default-clause-typed = loops.for_statement-returns-in_default-clause-typed

pub for_statement-returns-in_default-2-clause-typed : goal.for_statement-returns-in_default-2-clause-typed
for_statement-returns-in_default-2-clause-typed = loops.for_statement-returns-in_default-2-clause-typed

pub for_statement-returns-in_default-3-clause-typed : goal.for_statement-returns-in_default-3-clause-typed
for_statement-returns-in_default-3-clause-typed = loops.for_statement-returns-in_default-3-clause-typed

pub for_statement-returns-in_default-4-clause-typed : goal.for_statement-returns-in_default-4-clause-typed
for_statement-returns-in_default-4-clause-typed = loops.for_statement-returns-in_default-4-clause-typed

pub for_statement-add-requires-clause-parts : goal.for_statement-add-requires-clause-parts
for_statement-add-requires-clause-parts = loops.for_statement-add-requires-clause-parts

pub for_statement-returns-clause-moves : goal.for_statement-returns-clause-moves
for_statement-returns-clause-moves = loops.for_statement-returns-clause-moves

pub for_statement-returns-clause-typed : goal.for_statement-returns-clause-typed
for_statement-returns-clause-typed = loops.for_statement-returns-clause-typed

pub for_declaration-returns-then-not-branch-clause-typed : goal.for_declaration-returns-then-not-branch-clause-typed
for_declaration-returns-then-not-branch-clause-typed = loops.for_declaration-returns-then-not-branch-clause-typed

pub for_declaration-returns-in_default-clause-typed : goal.for_declaration-returns-in_default-clause-typed
for_declaration-returns-in_default-clause-typed = loops.for_declaration-returns-in_default-clause-typed

pub for_declaration-returns-in_default-2-clause-typed : goal.for_declaration-returns-in_default-2-clause-typed
for_declaration-returns-in_default-2-clause-typed = loops.for_declaration-returns-in_default-2-clause-typed

pub for_declaration-returns-in_default-3-clause-typed : goal.for_declaration-returns-in_default-3-clause-typed
for_declaration-returns-in_default-3-clause-typed = loops.for_declaration-returns-in_default-3-clause-typed

pub for_declaration-add_round-requires-clause-items : goal.for_declaration-add_round-requires-clause-items
for_declaration-add_round-requires-clause-items = loops.for_declaration-add_round-requires-clause-items

pub for_declaration-add_round-requires-clause-condition : goal.for_declaration-add_round-requires-clause-condition
for_declaration-add_round-requires-clause-condition = loops.for_declaration-add_round-requires-clause-condition

pub for_declaration-add_round-requires-clause-step : goal.for_declaration-add_round-requires-clause-step
for_declaration-add_round-requires-clause-step = loops.for_declaration-add_round-requires-clause-step

pub for_declaration-returns-clause-moves : goal.for_declaration-returns-clause-moves
for_declaration-returns-clause-moves = loops.for_declaration-returns-clause-moves

pub for_declaration-returns-clause-typed : goal.for_declaration-returns-clause-typed
for_declaration-returns-clause-typed = loops.for_declaration-returns-clause-typed

pub block_statement-returns-then-not-branch-clause-typed : goal.block_statement-returns-then-not-branch-clause-typed
block_statement-returns-then-not-branch-clause-typed t c =
    let texts = c.args.t.now.texts in
    let f = c.args.u.now.forest in
    let w0 = around_in c.args.into.now.known c.args.w in
    let z0 = state_of texts false c.args.s.now c.args.into.now in
    let line = tree_line (tree_at f c.args.n) in
    let held : None ≡ (typed_items w0 (trees_at f c.args.list) z0) = search rules in
    step_none (typed_items w0 (trees_at f c.args.list) z0) (block_made line) held ∙ sym (ap (λ x. scoped_statement w0 x z0) c.requires.is)

pub block_statement-returns-clause-moves : goal.block_statement-returns-clause-moves
block_statement-returns-clause-moves t c =
    let g : Moves c.args.into.now c.args.s.now c.all_items.new.into c.all_items.new.s = search rules in
    moves_on c.args.into.now c.all_items.new.into c.add_block.new.into c.args.s.now c.all_items.new.s c.all_items.new.s g c.in_ok-made.ensures.moves

pub block_statement-returns-clause-typed : goal.block_statement-returns-clause-typed
block_statement-returns-clause-typed t c =
    let texts = c.args.t.now.texts in
    let f = c.args.u.now.forest in
    let w0 = around_in c.args.into.now.known c.args.w in
    let z0 = state_of texts false c.args.s.now c.args.into.now in
    let line = tree_line (tree_at f c.args.n) in
    let first : Some (items_in texts c.all_items.new.s c.all_items.new.into c.all_items.new.items.items) ≡ (typed_items w0 (trees_at f c.args.list) z0) = search rules in
    let tree : statement_at c.add_block.new.into c.in_ok-made.made ≡ block_of line (statements_in c.all_items.new.into c.all_items.new.items.items) = search rules in
    block_done texts c.args.w line (typed_items w0 (trees_at f c.args.list) z0) c.all_items.new.into c.add_block.new.into c.all_items.new.s c.all_items.new.items.items c.in_ok-made.made first tree (c.in_ok-made.ensures.state texts) ∙ sym (ap (λ x. scoped_statement w0 x z0) c.requires.is)

pub switch_body-returns-in_default-clause-typed : goal.switch_body-returns-in_default-clause-typed
switch_body-returns-in_default-clause-typed t c =
    let texts = c.args.t.now.texts in
    let f = c.args.u.now.forest in
    let w0 = around_in c.args.into.now.known c.args.w in
    let z0 = state_of texts false c.args.s.now c.args.into.now in
    let none : is_switch_block (statement_of f c.args.n) ≡ false = search rules in
    no_block w0 c.args.kind (statement_of f c.args.n) z0 none

pub switch_body-returns-then-not-branch-clause-typed : goal.switch_body-returns-then-not-branch-clause-typed
switch_body-returns-then-not-branch-clause-typed t c =
    let texts = c.args.t.now.texts in
    let f = c.args.u.now.forest in
    let w0 = around_in c.args.into.now.known c.args.w in
    let z0 = state_of texts false c.args.s.now c.args.into.now in
    let line = tree_line (tree_at f c.args.n) in
    let held : None ≡ (switch_items (in_switch w0) c.args.kind (trees_at f c.in-Some.list) z0) = search rules in
    step_none (switch_items (in_switch w0) c.args.kind (trees_at f c.in-Some.list) z0) (body_made line) held ∙ sym (ap (λ x. switch_body w0 c.args.kind x z0) c.in-Some.ensures.0)

pub switch_body-returns-clause-moves : goal.switch_body-returns-clause-moves
switch_body-returns-clause-moves t c =
    let g : Moves c.args.into.now c.args.s.now c.switch_items.new.into c.switch_items.new.s = search rules in
    moves_on c.args.into.now c.switch_items.new.into c.add_block.new.into c.args.s.now c.switch_items.new.s c.switch_items.new.s g c.in_ok-made.ensures.moves

pub switch_body-returns-clause-typed : goal.switch_body-returns-clause-typed
switch_body-returns-clause-typed t c =
    let texts = c.args.t.now.texts in
    let f = c.args.u.now.forest in
    let w0 = around_in c.args.into.now.known c.args.w in
    let z0 = state_of texts false c.args.s.now c.args.into.now in
    let line = tree_line (tree_at f c.args.n) in
    let first : Some (body_in texts c.switch_items.new.s c.switch_items.new.into c.switch_items.new.items.items c.switch_items.new.labels.all.items) ≡ (switch_items (in_switch w0) c.args.kind (trees_at f c.in-Some.list) z0) = search rules in
    let tree : statement_at c.add_block.new.into c.in_ok-made.made ≡ block_of line (statements_in c.switch_items.new.into c.switch_items.new.items.items) = search rules in
    body_done texts line (switch_items (in_switch w0) c.args.kind (trees_at f c.in-Some.list) z0) c.switch_items.new.into c.add_block.new.into c.switch_items.new.s c.switch_items.new.items.items c.switch_items.new.labels.all.items c.in_ok-made.made first tree (c.in_ok-made.ensures.state texts) ∙ sym (ap (λ x. switch_body w0 c.args.kind x z0) c.in-Some.ensures.0)

pub switch_statement-returns-in_default-clause-typed : goal.switch_statement-returns-in_default-clause-typed
switch_statement-returns-in_default-clause-typed t c =
    let texts = c.args.t.now.texts in
    let f = c.args.u.now.forest in
    let w0 = around_in c.args.into.now.known c.args.w in
    let z0 = state_of texts false c.args.s.now c.args.into.now in
    let line = tree_line (tree_at f c.args.n) in
    let held : None ≡ switch_value (expression_of f c.args.a) z0 = search rules in
    step_none (switch_value (expression_of f c.args.a) z0) (switch_behind w0 line (statement_of f c.args.body)) held ∙ sym (ap (λ x. scoped_statement w0 x z0) c.requires.is)

pub switch_statement-returns-in_default-2-clause-typed : goal.switch_statement-returns-in_default-2-clause-typed
switch_statement-returns-in_default-2-clause-typed t c =
    let texts = c.args.t.now.texts in
    let f = c.args.u.now.forest in
    let w0 = around_in c.args.into.now.known c.args.w in
    let z0 = state_of texts false c.args.s.now c.args.into.now in
    let line = tree_line (tree_at f c.args.n) in
    let g : Moves c.args.into.now c.args.s.now c.switched.new.into c.switched.new.s = search rules in
    let first : Some (switched_in texts c.switched.new.s c.switched.new.into c.in-Some.controlling) ≡ switch_value (expression_of f c.args.a) z0 = search rules in
    let held : None ≡ switch_block (around_in c.switched.new.into.known c.args.w) c.in-Some.controlling.kind (statement_of f c.args.body) (state_of texts false c.switched.new.s c.switched.new.into) = search rules in
    step_on (switch_value (expression_of f c.args.a) z0) (switched_in texts c.switched.new.s c.switched.new.into c.in-Some.controlling) (switch_behind w0 line (statement_of f c.args.body)) None first
    (step_none (switch_block w0 c.in-Some.controlling.kind (statement_of f c.args.body) (state_of texts false c.switched.new.s c.switched.new.into)) (switch_made line (expression_at c.switched.new.into c.in-Some.controlling.value)) (held ∙ ap (λ y. switch_block y c.in-Some.controlling.kind (statement_of f c.args.body) (state_of texts false c.switched.new.s c.switched.new.into)) (around_same c.args.into.now c.switched.new.into c.args.w g.goes c.requires.known))) ∙ sym (ap (λ x. scoped_statement w0 x z0) c.requires.is)

pub switch_statement-add-requires-clause-parts : goal.switch_statement-add-requires-clause-parts
switch_statement-add-requires-clause-parts t c =
    let h : Moves c.switched.new.into c.switched.new.s c.switch_block.new.into c.switch_block.new.s = search rules in
    let is_v : IsExpression c.switched.new.into c.in-Some.controlling.value = search rules in
    let is_b : IsStatement c.switch_block.new.into c.in-Some-2.block = search rules in
    ((expression_stays c.switched.new.into c.switch_block.new.into c.in-Some.controlling.value h.goes is_v, tt), (is_b, tt), tt)

pub switch_statement-returns-clause-moves : goal.switch_statement-returns-clause-moves
switch_statement-returns-clause-moves t c =
    let g : Moves c.args.into.now c.args.s.now c.switched.new.into c.switched.new.s = search rules in
    let h : Moves c.switched.new.into c.switched.new.s c.switch_block.new.into c.switch_block.new.s = search rules in
    moves_on c.args.into.now c.switched.new.into c.add.new.into c.args.s.now c.switched.new.s c.switch_block.new.s g (moves_on c.switched.new.into c.switch_block.new.into c.add.new.into c.switched.new.s c.switch_block.new.s c.switch_block.new.s h c.in_ok-made.ensures.moves)

pub switch_statement-returns-clause-typed : goal.switch_statement-returns-clause-typed
switch_statement-returns-clause-typed t c =
    let texts = c.args.t.now.texts in
    let f = c.args.u.now.forest in
    let w0 = around_in c.args.into.now.known c.args.w in
    let z0 = state_of texts false c.args.s.now c.args.into.now in
    let line = tree_line (tree_at f c.args.n) in
    let g : Moves c.args.into.now c.args.s.now c.switched.new.into c.switched.new.s = search rules in
    let h : Moves c.switched.new.into c.switched.new.s c.switch_block.new.into c.switch_block.new.s = search rules in
    let first : Some (switched_in texts c.switched.new.s c.switched.new.into c.in-Some.controlling) ≡ switch_value (expression_of f c.args.a) z0 = search rules in
    let is_v : IsExpression c.switched.new.into c.in-Some.controlling.value = search rules in
    let second : Some (statement_after texts c.switch_block.new.s c.switch_block.new.into c.in-Some-2.block) ≡ switch_block (around_in c.switched.new.into.known c.args.w) c.in-Some.controlling.kind (statement_of f c.args.body) (state_of texts false c.switched.new.s c.switched.new.into) = search rules in
    let tree : statement_at c.add.new.into c.in_ok-made.made ≡ typed.Switch line (expression_at c.switch_block.new.into c.in-Some.controlling.value) (statement_at c.switch_block.new.into c.in-Some-2.block) = search rules in
    switch_done texts c.args.w line (expression_of f c.args.a) (statement_of f c.args.body) c.args.into.now c.switched.new.into c.switch_block.new.into c.add.new.into c.args.s.now c.switched.new.s c.switch_block.new.s c.in-Some.controlling c.in-Some-2.block c.in_ok-made.made c.requires.known g.goes h.goes is_v first second tree (c.in_ok-made.ensures.state texts) ∙ sym (ap (λ x. scoped_statement w0 x z0) c.requires.is)

pub item-returns-then-is_declaration-clause-typed : goal.item-returns-then-is_declaration-clause-typed
item-returns-then-is_declaration-clause-typed t c =
    let texts = c.args.t.now.texts in
    let f = c.args.u.now.forest in
    let w0 = around_in c.args.into.now.known c.args.w in
    let z0 = state_of texts false c.args.s.now c.args.into.now in
    let kind : is_declaration (tree_at f c.args.n) ≡ true = search rules in
    item_declared w0 (tree_at f c.args.n) (items_in texts c.args.s.now c.args.into.now c.args.items.now.items) _ kind c.in_ok-b.ensures.typed

pub item-returns-in_default-clause-typed : goal.item-returns-in_default-clause-typed
item-returns-in_default-clause-typed t c =
    let texts = c.args.t.now.texts in
    let f = c.args.u.now.forest in
    let w0 = around_in c.args.into.now.known c.args.w in
    let z0 = state_of texts false c.args.s.now c.args.into.now in
    let other : is_declaration (tree_at f c.args.n) ≡ false = search rules in
    let held : None ≡ typed_statement w0 (statement_of f c.args.n) z0 = search rules in
    item_stated w0 (tree_at f c.args.n) (items_in texts c.args.s.now c.args.into.now c.args.items.now.items) None c.requires.node.1 other (step_none (typed_statement w0 (statement_of f c.args.n) z0) (with_statement (statements_in c.args.into.now c.args.items.now.items)) held)

pub item-returns-clause-there : goal.item-returns-clause-there
item-returns-clause-there t c =
    let g : Moves c.args.into.now c.args.s.now c.statement.new.into c.statement.new.s = search rules in
    let is : IsStatement c.statement.new.into c.in-Some.made = search rules in
    pushed_there c.args.into.now c.statement.new.into c.args.items.now.items c.push.new.self.items c.in-Some.made g.goes c.requires.items is c.in_ok-push.ensures.items

pub item-returns-clause-typed : goal.item-returns-clause-typed
item-returns-clause-typed t c =
    let texts = c.args.t.now.texts in
    let f = c.args.u.now.forest in
    let w0 = around_in c.args.into.now.known c.args.w in
    let z0 = state_of texts false c.args.s.now c.args.into.now in
    let g : Moves c.args.into.now c.args.s.now c.statement.new.into c.statement.new.s = search rules in
    let other : is_declaration (tree_at f c.args.n) ≡ false = search rules in
    let held : Some (statement_after texts c.statement.new.s c.statement.new.into c.in-Some.made) ≡ typed_statement w0 (statement_of f c.args.n) z0 = search rules in
    item_stated w0 (tree_at f c.args.n) (items_in texts c.args.s.now c.args.into.now c.args.items.now.items) _ c.requires.node.1 other (item_pushed texts (typed_statement w0 (statement_of f c.args.n) z0) c.args.into.now c.statement.new.into c.statement.new.s c.args.items.now.items c.push.new.self.items c.in-Some.made g.goes c.requires.items held c.in_ok-push.ensures.items)

pub all_items-loop-node-init : goal.all_items-loop-node-init
all_items-loop-node-init t c =
    items.along_start c.args.t.now.texts c.args.w c.args.u.now.forest c.list-nodes.result.now c.args.s.now c.args.into.now c.args.items.now.items c.requires.opened c.requires.empty

pub all_items-loop-node-preserved : goal.all_items-loop-node-preserved
all_items-loop-node-preserved t c =
    let texts = c.args.t.now.texts in
    let f = c.args.u.now.forest in
    let w0 = around_in c.args.into.now.known c.args.w in
    let z0 = state_of texts false c.args.s.now c.args.into.now in
    let ns = c.list-nodes.result.now in
    let lt : c.loop-node.node-index < length ns = omega arith in
    let held : Some (items_in texts c.item.new.s c.item.new.into c.item.new.items.items) ≡ typed_item (around_in c.loop-node.into.known c.args.w) (tree_at f (get_or ns c.loop-node.node-index no_id)) (items_in texts c.loop-node.s c.loop-node.into c.loop-node.items.items) = search rules in
    let are : AreStatements c.item.new.into c.item.new.items.items = search rules in
    let moves : Moves c.loop-node.into c.loop-node.s c.item.new.into c.item.new.s = search rules in
    items.along_next texts c.args.w f ns c.args.s.now c.loop-node.s c.item.new.s c.args.into.now c.loop-node.into c.item.new.into c.loop-node.node-index c.loop-node.items.items c.item.new.items.items no_id c.loop-node.invariant lt c.requires.known held are moves

pub all_items-returns-then-not-branch-clause-typed : goal.all_items-returns-then-not-branch-clause-typed
all_items-returns-then-not-branch-clause-typed t c =
    let texts = c.args.t.now.texts in
    let f = c.args.u.now.forest in
    let w0 = around_in c.args.into.now.known c.args.w in
    let z0 = state_of texts false c.args.s.now c.args.into.now in
    let ns = c.list-nodes.result.now in
    let lt : c.loop-node.node-index < length ns = omega arith in
    let held : None ≡ typed_item (around_in c.loop-node.into.known c.args.w) (tree_at f (get_or ns c.loop-node.node-index no_id)) (items_in texts c.loop-node.s c.loop-node.into c.loop-node.items.items) = search rules in
    items.along_stop texts c.args.w f ns c.args.s.now c.loop-node.s c.args.into.now c.loop-node.into c.loop-node.node-index c.loop-node.items.items no_id c.loop-node.invariant lt c.requires.known held
    ∙ ap (λ xs. typed_items w0 (trees_of f xs) z0) c.list-nodes.ensures

pub all_items-returns-clause-typed : goal.all_items-returns-clause-typed
all_items-returns-clause-typed t c =
    let texts = c.args.t.now.texts in
    let f = c.args.u.now.forest in
    let w0 = around_in c.args.into.now.known c.args.w in
    let z0 = state_of texts false c.args.s.now c.args.into.now in
    items.along_done texts c.args.w f c.list-nodes.result.now c.args.s.now c.loop-node.s c.args.into.now c.loop-node.into c.loop-node.node-index c.loop-node.items.items c.loop-node.invariant (omega arith)
    ∙ ap (λ xs. typed_items w0 (trees_of f xs) z0) c.list-nodes.ensures

pub under_labels-returns-then-not-branch-clause-typed : goal.under_labels-returns-then-not-branch-clause-typed
under_labels-returns-then-not-branch-clause-typed t c =
    let texts = c.args.t.now.texts in
    let f = c.args.u.now.forest in
    let w0 = around_in c.args.into.now.known c.args.w in
    let z0 = state_of texts false c.args.s.now c.args.into.now in
    let held : None ≡ behind_labels (labels_of c.args.labels.now.all.items) (typed_labels c.args.kind (labels_of c.args.labels.now.all.items) (trees_at f c.args.list) z0) = search rules in
    labels_refused w0 (statement_of f c.args.body) (labels_of c.args.labels.now.all.items) (typed_labels c.args.kind (labels_of c.args.labels.now.all.items) (trees_at f c.args.list) z0) held ∙ sym (ap (λ x. labelled_statement w0 c.args.kind x (labels_of c.args.labels.now.all.items) z0) c.requires.is)

pub under_labels-returns-in_default-clause-typed : goal.under_labels-returns-in_default-clause-typed
under_labels-returns-in_default-clause-typed t c =
    let texts = c.args.t.now.texts in
    let f = c.args.u.now.forest in
    let w0 = around_in c.args.into.now.known c.args.w in
    let z0 = state_of texts false c.args.s.now c.args.into.now in
    let g : Moves c.args.into.now c.args.s.now c.all_labels.new.into c.all_labels.new.s = search rules in
    let first : labels_if texts c.all_labels.new.s c.all_labels.new.into c.all_labels.new.labels.all.items true ≡ behind_labels (labels_of c.args.labels.now.all.items) (typed_labels c.args.kind (labels_of c.args.labels.now.all.items) (trees_at f c.args.list) z0) = search rules in
    let held : None ≡ typed_statement (around_in c.all_labels.new.into.known c.args.w) (statement_of f c.args.body) (state_of texts false c.all_labels.new.s c.all_labels.new.into) = search rules in
    under_none texts c.args.w (statement_of f c.args.body) c.args.into.now c.all_labels.new.into c.all_labels.new.s c.args.labels.now.all.items c.all_labels.new.labels.all.items (typed_labels c.args.kind (labels_of c.args.labels.now.all.items) (trees_at f c.args.list) z0) c.requires.known g.goes first held ∙ sym (ap (λ x. labelled_statement w0 c.args.kind x (labels_of c.args.labels.now.all.items) z0) c.requires.is)

pub under_labels-under-requires-clause-place : goal.under_labels-under-requires-clause-place
under_labels-under-requires-clause-place t c =
    let texts = c.args.t.now.texts in
    let f = c.args.u.now.forest in
    let w0 = around_in c.args.into.now.known c.args.w in
    let z0 = state_of texts false c.args.s.now c.args.into.now in
    let first : labels_if texts c.all_labels.new.s c.all_labels.new.into c.all_labels.new.labels.all.items true ≡ behind_labels (labels_of c.args.labels.now.all.items) (typed_labels c.args.kind (labels_of c.args.labels.now.all.items) (trees_at f c.args.list) z0) = search rules in
    let from : c.len-before.result ≡ length c.args.labels.now.all.items = search rules in
    let more = labels_more texts c.all_labels.new.s c.all_labels.new.into c.args.labels.now.all.items c.all_labels.new.labels.all.items (typed_labels c.args.kind (labels_of c.args.labels.now.all.items) (trees_at f c.args.list) z0) first in
    rw c.as_slice.ensures.value (omega (arith, more, from))

pub under_labels-returns-clause-moves : goal.under_labels-returns-clause-moves
under_labels-returns-clause-moves t c =
    let g : Moves c.args.into.now c.args.s.now c.all_labels.new.into c.all_labels.new.s = search rules in
    let h : Moves c.all_labels.new.into c.all_labels.new.s c.statement.new.into c.statement.new.s = search rules in
    moves_on c.args.into.now c.all_labels.new.into c.under.new.into c.args.s.now c.all_labels.new.s c.statement.new.s g (moves_on c.all_labels.new.into c.statement.new.into c.under.new.into c.all_labels.new.s c.statement.new.s c.statement.new.s h c.in_ok-marked.ensures.moves)

pub under_labels-returns-clause-typed : goal.under_labels-returns-clause-typed
under_labels-returns-clause-typed t c =
    let texts = c.args.t.now.texts in
    let f = c.args.u.now.forest in
    let w0 = around_in c.args.into.now.known c.args.w in
    let z0 = state_of texts false c.args.s.now c.args.into.now in
    let g : Moves c.args.into.now c.args.s.now c.all_labels.new.into c.all_labels.new.s = search rules in
    let first : labels_if texts c.all_labels.new.s c.all_labels.new.into c.all_labels.new.labels.all.items true ≡ behind_labels (labels_of c.args.labels.now.all.items) (typed_labels c.args.kind (labels_of c.args.labels.now.all.items) (trees_at f c.args.list) z0) = search rules in
    let second : Some (statement_after texts c.statement.new.s c.statement.new.into c.in-Some.made) ≡ typed_statement (around_in c.all_labels.new.into.known c.args.w) (statement_of f c.args.body) (state_of texts false c.all_labels.new.s c.all_labels.new.into) = search rules in
    let from : c.len-before.result ≡ length c.args.labels.now.all.items = search rules in
    let tree : statement_at c.under.new.into c.in_ok-marked.marked ≡ under (labels_of (drop c.len-before.result c.all_labels.new.labels.all.items)) (statement_at c.statement.new.into c.in-Some.made) = search rules in
    under_done texts c.args.w (statement_of f c.args.body) c.args.into.now c.all_labels.new.into c.statement.new.into c.under.new.into c.args.s.now c.all_labels.new.s c.statement.new.s c.args.labels.now.all.items c.all_labels.new.labels.all.items (typed_labels c.args.kind (labels_of c.args.labels.now.all.items) (trees_at f c.args.list) z0) c.in-Some.made c.in_ok-marked.marked c.requires.known g.goes first second
    (tree ∙ ap (λ k. under (labels_of (drop k c.all_labels.new.labels.all.items)) (statement_at c.statement.new.into c.in-Some.made)) from) (c.in_ok-marked.ensures.state texts) ∙ sym (ap (λ x. labelled_statement w0 c.args.kind x (labels_of c.args.labels.now.all.items) z0) c.requires.is)

pub labelled-returns-in_ok-made-in-None-clause-typed : goal.labelled-returns-in_ok-made-in-None-clause-typed
labelled-returns-in_ok-made-in-None-clause-typed t c =
    let texts = c.args.t.now.texts in
    let f = c.args.u.now.forest in
    let w0 = around_in c.args.into.now.known c.args.w in
    let z0 = state_of texts false c.args.s.now c.args.into.now in
    let none : is_labelled (statement_of f c.args.n) ≡ false = search rules in
    unmarked_is texts c.statement.new.s c.statement.new.into c.args.labels.now.all.items c.in_ok-made-in-None.made (typed_statement w0 (statement_of f c.args.n) z0) c.in_ok-made-in-None.ensures.typed ∙ unlabelled w0 c.args.kind (statement_of f c.args.n) (labels_of c.args.labels.now.all.items) z0 none

pub switch_item-returns-then-is_declaration-clause-typed : goal.switch_item-returns-then-is_declaration-clause-typed
switch_item-returns-then-is_declaration-clause-typed t c =
    let texts = c.args.t.now.texts in
    let f = c.args.u.now.forest in
    let w0 = around_in c.args.into.now.known c.args.w in
    let z0 = state_of texts false c.args.s.now c.args.into.now in
    let kind : is_declaration (tree_at f c.args.n) ≡ true = search rules in
    body_declared texts w0 c.args.kind (tree_at f c.args.n) c.args.s.now c.add_declaration.new.s c.args.into.now c.add_declaration.new.into c.args.items.now.items c.add_declaration.new.items.items c.args.labels.now.all.items c.in_ok-b.b kind c.in_ok-b.ensures.typed

pub switch_item-returns-in_default-clause-typed : goal.switch_item-returns-in_default-clause-typed
switch_item-returns-in_default-clause-typed t c =
    let texts = c.args.t.now.texts in
    let f = c.args.u.now.forest in
    let w0 = around_in c.args.into.now.known c.args.w in
    let z0 = state_of texts false c.args.s.now c.args.into.now in
    let other : is_declaration (tree_at f c.args.n) ≡ false = search rules in
    let held : None ≡ labelled_statement w0 c.args.kind (statement_of f c.args.n) (labels_of c.args.labels.now.all.items) z0 = search rules in
    body_none texts w0 c.args.kind (tree_at f c.args.n) c.args.s.now c.args.into.now c.args.items.now.items c.args.labels.now.all.items c.requires.node.1 other held

pub switch_item-returns-clause-there : goal.switch_item-returns-clause-there
switch_item-returns-clause-there t c =
    let g : Moves c.args.into.now c.args.s.now c.labelled.new.into c.labelled.new.s = search rules in
    let is : IsStatement c.labelled.new.into c.in-Some.made = search rules in
    pushed_there c.args.into.now c.labelled.new.into c.args.items.now.items c.push.new.self.items c.in-Some.made g.goes c.requires.items is c.in_ok-push.ensures.items

pub switch_item-returns-clause-typed : goal.switch_item-returns-clause-typed
switch_item-returns-clause-typed t c =
    let texts = c.args.t.now.texts in
    let f = c.args.u.now.forest in
    let w0 = around_in c.args.into.now.known c.args.w in
    let z0 = state_of texts false c.args.s.now c.args.into.now in
    let g : Moves c.args.into.now c.args.s.now c.labelled.new.into c.labelled.new.s = search rules in
    let other : is_declaration (tree_at f c.args.n) ≡ false = search rules in
    let held : marked_if texts c.labelled.new.s c.labelled.new.into c.labelled.new.labels.all.items (Some c.in-Some.made) ≡ labelled_statement w0 c.args.kind (statement_of f c.args.n) (labels_of c.args.labels.now.all.items) z0 = search rules in
    body_pushed texts w0 c.args.kind (tree_at f c.args.n) c.args.s.now c.labelled.new.s c.args.into.now c.labelled.new.into c.args.items.now.items c.push.new.self.items c.args.labels.now.all.items c.labelled.new.labels.all.items c.in-Some.made c.requires.node.1 other g.goes c.requires.items held c.in_ok-push.ensures.items

pub switch_items-loop-node-init : goal.switch_items-loop-node-init
switch_items-loop-node-init t c =
    switches.along_start c.args.t.now.texts c.args.w c.args.kind c.args.u.now.forest c.list-nodes.result.now c.args.s.now c.args.into.now c.args.items.now.items c.args.labels.now c.requires.opened c.requires.empty c.requires.none c.requires.same

pub switch_items-loop-node-preserved : goal.switch_items-loop-node-preserved
switch_items-loop-node-preserved t c =
    let texts = c.args.t.now.texts in
    let f = c.args.u.now.forest in
    let w0 = around_in c.args.into.now.known c.args.w in
    let z0 = state_of texts false c.args.s.now c.args.into.now in
    let ns = c.list-nodes.result.now in
    let lt : c.loop-node.node-index < length ns = omega arith in
    let held : Some (body_in texts c.switch_item.new.s c.switch_item.new.into c.switch_item.new.items.items c.switch_item.new.labels.all.items) ≡ switch_item (around_in c.loop-node.into.known c.args.w) c.args.kind (tree_at f (get_or ns c.loop-node.node-index no_id)) (body_in texts c.loop-node.s c.loop-node.into c.loop-node.items.items c.loop-node.labels.all.items) = search rules in
    let are : AreStatements c.switch_item.new.into c.switch_item.new.items.items = search rules in
    let moves : Moves c.loop-node.into c.loop-node.s c.switch_item.new.into c.switch_item.new.s = search rules in
    switches.along_next texts c.args.w c.args.kind f ns c.args.s.now c.loop-node.s c.switch_item.new.s c.args.into.now c.loop-node.into c.switch_item.new.into c.loop-node.node-index c.loop-node.items.items c.switch_item.new.items.items c.loop-node.labels c.switch_item.new.labels no_id c.loop-node.invariant lt c.requires.known held are c.in_ok-switch_item.ensures.same moves

pub switch_items-returns-then-not-branch-clause-typed : goal.switch_items-returns-then-not-branch-clause-typed
switch_items-returns-then-not-branch-clause-typed t c =
    let texts = c.args.t.now.texts in
    let f = c.args.u.now.forest in
    let w0 = around_in c.args.into.now.known c.args.w in
    let z0 = state_of texts false c.args.s.now c.args.into.now in
    let ns = c.list-nodes.result.now in
    let lt : c.loop-node.node-index < length ns = omega arith in
    let held : None ≡ switch_item (around_in c.loop-node.into.known c.args.w) c.args.kind (tree_at f (get_or ns c.loop-node.node-index no_id)) (body_in texts c.loop-node.s c.loop-node.into c.loop-node.items.items c.loop-node.labels.all.items) = search rules in
    switches.along_stop texts c.args.w c.args.kind f ns c.args.s.now c.loop-node.s c.args.into.now c.loop-node.into c.loop-node.node-index c.loop-node.items.items c.loop-node.labels no_id c.loop-node.invariant lt c.requires.known held
    ∙ ap (λ xs. switch_items w0 c.args.kind (trees_of f xs) z0) c.list-nodes.ensures

pub switch_items-returns-clause-typed : goal.switch_items-returns-clause-typed
switch_items-returns-clause-typed t c =
    let texts = c.args.t.now.texts in
    let f = c.args.u.now.forest in
    let w0 = around_in c.args.into.now.known c.args.w in
    let z0 = state_of texts false c.args.s.now c.args.into.now in
    switches.along_done texts c.args.w c.args.kind f c.list-nodes.result.now c.args.s.now c.loop-node.s c.args.into.now c.loop-node.into c.loop-node.node-index c.loop-node.items.items c.loop-node.labels c.loop-node.invariant (omega arith)
    ∙ ap (λ xs. switch_items w0 c.args.kind (trees_of f xs) z0) c.list-nodes.ensures

pub if_statement-inner-requires : goal.if_statement-inner-requires
if_statement-inner-requires t c =
    let g : Moves c.args.into.now c.args.s.now c.condition.new.into c.condition.new.s = search rules in
    let low : c.args.body.0 < c.args.n.0 = c.requires.body.0 in
    let high : c.args.n.0 < length c.args.u.now.forest.trees = c.requires.node.0 in
    (omega (arith, c.decreases, low), ((omega (arith, low, high), c.requires.body.1), (g.opened, type_stays c.args.into.now c.condition.new.into c.args.w.result.0 g.goes c.requires.known)))

pub else_statement-inner-requires : goal.else_statement-inner-requires
else_statement-inner-requires t c =
    let g : Moves c.args.into.now c.args.s.now c.condition.new.into c.condition.new.s = search rules in
    let low : c.args.body.0 < c.args.n.0 = c.requires.body.0 in
    let high : c.args.n.0 < length c.args.u.now.forest.trees = c.requires.node.0 in
    (omega (arith, c.decreases, low), ((omega (arith, low, high), c.requires.body.1), (g.opened, type_stays c.args.into.now c.condition.new.into c.args.w.result.0 g.goes c.requires.known)))

pub else_statement-inner-requires-2 : goal.else_statement-inner-requires-2
else_statement-inner-requires-2 t c =
    let g : Moves c.args.into.now c.args.s.now c.condition.new.into c.condition.new.s = search rules in
    let h : Moves c.condition.new.into c.condition.new.s c.inner.new.into c.inner.new.s = search rules in
    let low : c.args.other.0 < c.args.n.0 = c.requires.other.0 in
    let high : c.args.n.0 < length c.args.u.now.forest.trees = c.requires.node.0 in
    (omega (arith, c.decreases, low), ((omega (arith, low, high), c.requires.other.1), ((moves_on c.args.into.now c.condition.new.into c.inner.new.into c.args.s.now c.condition.new.s c.inner.new.s g h).opened, type_stays c.args.into.now c.inner.new.into c.args.w.result.0 (moves_on c.args.into.now c.condition.new.into c.inner.new.into c.args.s.now c.condition.new.s c.inner.new.s g h).goes c.requires.known)))

pub while_statement-inner-requires : goal.while_statement-inner-requires
while_statement-inner-requires t c =
    let g : Moves c.args.into.now c.args.s.now c.condition.new.into c.condition.new.s = search rules in
    let low : c.args.body.0 < c.args.n.0 = c.requires.body.0 in
    let high : c.args.n.0 < length c.args.u.now.forest.trees = c.requires.node.0 in
    (omega (arith, c.decreases, low), ((omega (arith, low, high), c.requires.body.1), (g.opened, type_stays c.args.into.now c.condition.new.into c.args.w.result.0 g.goes c.requires.known)))

pub for_statement-inner-requires : goal.for_statement-inner-requires
for_statement-inner-requires t c =
    let g : Moves c.args.into.now c.args.s.now c.optional_value.new.into c.optional_value.new.s = search rules in
    let h : Moves c.optional_value.new.into c.optional_value.new.s c.optional_condition.new.into c.optional_condition.new.s = search rules in
    let k : Moves c.optional_condition.new.into c.optional_condition.new.s c.optional_value-2.new.into c.optional_value-2.new.s = search rules in
    let low : c.args.body.0 < c.args.n.0 = c.requires.body.0 in
    let high : c.args.n.0 < length c.args.u.now.forest.trees = c.requires.node.0 in
    (omega (arith, c.decreases, low), ((omega (arith, low, high), c.requires.body.1), ((moves_on c.args.into.now c.optional_value.new.into c.optional_value-2.new.into c.args.s.now c.optional_value.new.s c.optional_value-2.new.s g (moves_on c.optional_value.new.into c.optional_condition.new.into c.optional_value-2.new.into c.optional_value.new.s c.optional_condition.new.s c.optional_value-2.new.s h k)).opened, type_stays c.args.into.now c.optional_value-2.new.into c.args.w.result.0 (moves_on c.args.into.now c.optional_value.new.into c.optional_value-2.new.into c.args.s.now c.optional_value.new.s c.optional_value-2.new.s g (moves_on c.optional_value.new.into c.optional_condition.new.into c.optional_value-2.new.into c.optional_value.new.s c.optional_condition.new.s c.optional_value-2.new.s h k)).goes c.requires.known)))

pub for_declaration-inner-requires : goal.for_declaration-inner-requires
for_declaration-inner-requires t c =
    let g : Moves c.args.into.now c.args.s.now c.first_declared.new.into c.first_declared.new.s = search rules in
    let h : Moves c.first_declared.new.into c.first_declared.new.s c.optional_condition.new.into c.optional_condition.new.s = search rules in
    let k : Moves c.optional_condition.new.into c.optional_condition.new.s c.optional_value.new.into c.optional_value.new.s = search rules in
    let low : c.args.body.0 < c.args.n.0 = c.requires.body.0 in
    let high : c.args.n.0 < length c.args.u.now.forest.trees = c.requires.node.0 in
    (omega (arith, c.decreases, low), ((omega (arith, low, high), c.requires.body.1), ((moves_on c.args.into.now c.first_declared.new.into c.optional_value.new.into c.args.s.now c.first_declared.new.s c.optional_value.new.s g (moves_on c.first_declared.new.into c.optional_condition.new.into c.optional_value.new.into c.first_declared.new.s c.optional_condition.new.s c.optional_value.new.s h k)).opened, type_stays c.args.into.now c.optional_value.new.into c.args.w.result.0 (moves_on c.args.into.now c.first_declared.new.into c.optional_value.new.into c.args.s.now c.first_declared.new.s c.optional_value.new.s g (moves_on c.first_declared.new.into c.optional_condition.new.into c.optional_value.new.into c.first_declared.new.s c.optional_condition.new.s c.optional_value.new.s h k)).goes c.requires.known)))

pub under_labels-statement-requires : goal.under_labels-statement-requires
under_labels-statement-requires t c =
    let g : Moves c.args.into.now c.args.s.now c.all_labels.new.into c.all_labels.new.s = search rules in
    let low : c.args.body.0 < c.args.n.0 = c.requires.body.0 in
    let high : c.args.n.0 < length c.args.u.now.forest.trees = c.requires.node.0 in
    (omega (arith, c.decreases, low), ((omega (arith, low, high), c.requires.body.1), (g.opened, type_stays c.args.into.now c.all_labels.new.into c.args.w.result.0 g.goes c.requires.known)))

pub switch_statement-switch_block-requires : goal.switch_statement-switch_block-requires
switch_statement-switch_block-requires t c =
    let g : Moves c.args.into.now c.args.s.now c.switched.new.into c.switched.new.s = search rules in
    let low : c.args.body.0 < c.args.n.0 = c.requires.body.0 in
    let high : c.args.n.0 < length c.args.u.now.forest.trees = c.requires.node.0 in
    (omega (arith, c.decreases, low), ((omega (arith, low, high), c.requires.body.1), (g.opened, type_stays c.args.into.now c.switched.new.into c.args.w.result.0 g.goes c.requires.known)))

pub all_items-item-requires : goal.all_items-item-requires
all_items-item-requires t c =
    let f = c.args.u.now.forest in
    let ns = c.list-nodes.result.now in
    let lt : c.loop-node.node-index < length ns = omega arith in
    let child = has_at f is_item c.args.n.0 c.args.list ns c.loop-node.node-index no_id c.list-nodes.ensures c.requires.list lt in
    let low : (get_or ns c.loop-node.node-index no_id).0 < c.args.n.0 = child.0 in
    let high : c.args.n.0 < length f.trees = c.requires.node.0 in
    let moves = c.loop-node.invariant.moves in
    (omega (arith, c.decreases, low), ((omega (arith, low, high), child.1), (moves.opened, (type_stays c.args.into.now c.loop-node.into c.args.w.result.0 moves.goes c.requires.known, c.loop-node.invariant.are))))

pub switch_items-switch_item-requires : goal.switch_items-switch_item-requires
switch_items-switch_item-requires t c =
    let f = c.args.u.now.forest in
    let ns = c.list-nodes.result.now in
    let lt : c.loop-node.node-index < length ns = omega arith in
    let child = has_at f is_item c.args.n.0 c.args.list ns c.loop-node.node-index no_id c.list-nodes.ensures c.requires.list lt in
    let low : (get_or ns c.loop-node.node-index no_id).0 < c.args.n.0 = child.0 in
    let high : c.args.n.0 < length f.trees = c.requires.node.0 in
    let moves = c.loop-node.invariant.moves in
    (omega (arith, c.decreases, low), ((omega (arith, low, high), child.1), (moves.opened, (type_stays c.args.into.now c.loop-node.into c.args.w.result.0 moves.goes c.requires.known, (c.loop-node.invariant.are, c.loop-node.invariant.keys)))))

pub scoped-block_statement-requires : goal.scoped-block_statement-requires
scoped-block_statement-requires t c =
    let f = c.args.u.now.forest in
    let high : c.args.n.0 < length f.trees = c.requires.node.0 in
    let ch = c.in-Block.ensures.children in
    let is = ap as_statement c.in-Block.ensures.tree in
    (omega (arith, c.decreases), (c.requires.node, (ch, (is, (c.requires.opened, c.requires.known)))))

pub scoped-if_statement-requires : goal.scoped-if_statement-requires
scoped-if_statement-requires t c =
    let f = c.args.u.now.forest in
    let high : c.args.n.0 < length f.trees = c.requires.node.0 in
    let ch = c.in-If.ensures.children in
    let is = ap as_statement c.in-If.ensures.tree in
    (omega (arith, c.decreases), (c.requires.node, (within f is_expression c.args.n.0 (length f.trees) c.in-If.a high ch.0, (ch.1, (is, (c.requires.opened, c.requires.known))))))

pub scoped-else_statement-requires : goal.scoped-else_statement-requires
scoped-else_statement-requires t c =
    let f = c.args.u.now.forest in
    let high : c.args.n.0 < length f.trees = c.requires.node.0 in
    let ch = c.in-IfElse.ensures.children in
    let is = ap as_statement c.in-IfElse.ensures.tree in
    (omega (arith, c.decreases), (c.requires.node, (within f is_expression c.args.n.0 (length f.trees) c.in-IfElse.a high ch.0, (ch.1, (ch.2, (is, (c.requires.opened, c.requires.known)))))))

pub scoped-while_statement-requires : goal.scoped-while_statement-requires
scoped-while_statement-requires t c =
    let f = c.args.u.now.forest in
    let high : c.args.n.0 < length f.trees = c.requires.node.0 in
    let ch = c.in-While.ensures.children in
    let is = ap as_statement c.in-While.ensures.tree in
    (omega (arith, c.decreases), (c.requires.node, (within f is_expression c.args.n.0 (length f.trees) c.in-While.a high ch.0, (ch.1, (is, (c.requires.opened, c.requires.known))))))

pub scoped-do_statement-requires : goal.scoped-do_statement-requires
scoped-do_statement-requires t c =
    let f = c.args.u.now.forest in
    let high : c.args.n.0 < length f.trees = c.requires.node.0 in
    let ch = c.in-DoWhile.ensures.children in
    let is = ap as_statement c.in-DoWhile.ensures.tree in
    (omega (arith, c.decreases), (c.requires.node, (ch.0, (within f is_expression c.args.n.0 (length f.trees) c.in-DoWhile.a high ch.1, (is, (c.requires.opened, c.requires.known))))))

pub scoped-for_statement-requires : goal.scoped-for_statement-requires
scoped-for_statement-requires t c =
    let f = c.args.u.now.forest in
    let high : c.args.n.0 < length f.trees = c.requires.node.0 in
    let ch = c.in-For.ensures.children in
    let is = ap as_statement c.in-For.ensures.tree in
    (omega (arith, c.decreases), (c.requires.node, (optional_within f is_expression c.args.n.0 (length f.trees) c.in-For.first (omega (arith, high)) ch.0, (optional_within f is_expression c.args.n.0 (length f.trees) c.in-For.a (omega (arith, high)) ch.1, (optional_within f is_expression c.args.n.0 (length f.trees) c.in-For.step (omega (arith, high)) ch.2, (ch.3, (is, (c.requires.opened, c.requires.known))))))))

pub scoped-for_declaration-requires : goal.scoped-for_declaration-requires
scoped-for_declaration-requires t c =
    let f = c.args.u.now.forest in
    let high : c.args.n.0 < length f.trees = c.requires.node.0 in
    let ch = c.in-ForDeclaration.ensures.children in
    let is = ap as_statement c.in-ForDeclaration.ensures.tree in
    (omega (arith, c.decreases), (c.requires.node, (within f is_declaration c.args.n.0 (length f.trees) c.in-ForDeclaration.declaration high ch.0, (optional_within f is_expression c.args.n.0 (length f.trees) c.in-ForDeclaration.a (omega (arith, high)) ch.1, (optional_within f is_expression c.args.n.0 (length f.trees) c.in-ForDeclaration.step (omega (arith, high)) ch.2, (ch.3, (is, (c.requires.opened, c.requires.known))))))))

pub scoped-switch_statement-requires : goal.scoped-switch_statement-requires
scoped-switch_statement-requires t c =
    let f = c.args.u.now.forest in
    let high : c.args.n.0 < length f.trees = c.requires.node.0 in
    let ch = c.in-Switch.ensures.children in
    let is = ap as_statement c.in-Switch.ensures.tree in
    (omega (arith, c.decreases), (c.requires.node, (within f is_expression c.args.n.0 (length f.trees) c.in-Switch.a high ch.0, (ch.1, (is, (c.requires.opened, c.requires.known))))))

pub statement-expression_statement-requires-clause-is : goal.statement-expression_statement-requires-clause-is
statement-expression_statement-requires-clause-is t c = ap as_statement c.in-Expr.ensures.tree

pub statement-break_statement-requires-clause-is : goal.statement-break_statement-requires-clause-is
statement-break_statement-requires-clause-is t c = ap as_statement c.in-Break.ensures.tree

pub statement-continue_statement-requires-clause-is : goal.statement-continue_statement-requires-clause-is
statement-continue_statement-requires-clause-is t c = ap as_statement c.in-Continue.ensures.tree

pub statement-return_statement-requires-clause-is : goal.statement-return_statement-requires-clause-is
statement-return_statement-requires-clause-is t c = ap as_statement c.in-Return.ensures.tree

pub labelled-under_labels-requires : goal.labelled-under_labels-requires
labelled-under_labels-requires t c =
    let e = c.in-Some.ensures in
    (omega (arith, c.decreases), (c.requires.node, (e.1, (e.2, (c.requires.opened, (c.requires.known, (c.requires.same, e.0)))))))
