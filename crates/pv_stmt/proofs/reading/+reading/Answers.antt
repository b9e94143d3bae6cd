use Rattle.std.proofs.Common.{option_map, ◌∙◌, ◌+◌, ◌≤◌, ◌-◌, sym, ap, drop, length, arith, List, Some, vec_len, ◌≡◌, ◌==◌, ℕ, subst, All}
use Rattle.std.proofs.lemmas.Result.{IfOk-from_err}
use Rattle.pv_token.specs.declared.token_table.Token.{Token}
use Rattle.pv_tree.specs.Syntax.{Tree, Trees, OfStatement, DoWhile, While, NoTrees, Switch}
use Rattle.pv_tree.specs.Tables.{tree_at, as_statement, as_expression, statement_at, is_expression, is_declaration, is_statement, is_item, trees_of, Is}
use Rattle.pv_tree.proofs.Kept.{extends_same, extends_then, tree_kept, is_kept}
use Rattle.pv_expr_forms.proofs.Naming.{tied_kept, names_kept}
use Rattle.pv_expr_forms.specs.Reader.{after}
use Rattle.pv_decl_forms.specs.Pieces.{is_semicolon, row}
use Rattle.pv_decl_forms.specs.Reader.{declaration}
use Rattle.pv_decl_forms.proofs.Answered.{moved, nothing}
use Rattle.pv_decl_forms.proofs.Loops.{at_start, no_parts, start_row, goes_forward, part_there, parts_there, row_ends, row_goes, trees_kept, all_kept}
use Rattle.pv_stmt_forms.specs.Parts.{item_in, block_behind, block_tree}
use Rattle.pv_stmt_forms.specs.Statements.{condition, only_declaration, labels_and_statement, else_part, do_end, Statements, SwitchBlocks, readers, block_end}
use Rattle.pv_stmt_forms.proofs.Shorter.{items_shorten}
use Rattle.pv_stmt_forms.proofs.Chains.{do_shut, do_unread, do_so, first_some, first_none, there_of, later_some, later_none, as_items, statement_item, declaration_item, labelled_none, labelled_bare, selection_shut, selection_none, selection_so, loop_shut, loop_none, loop_so, switch_shut, switch_none, switch_so, do_none, do_on, chosen_plain, chosen_open, chosen_unread, chosen_both, alone_kept, both_kept}
use Rattle.pv_stmt_forms.proofs.Begun.{statement_zero, switch_zero, statement_end, begun, switch_begun, switch_not, item_declared, item_stated, item_labelled}
use Rattle.pv_stmt_forms.proofs.Heading.{for_shut, for_none, for_so, for_children, head_there}
use Rattle.pv_stmt_forms.proofs.Labelling.{labelled_as}
use Rattle.pv_decl_forms.proofs.Listing.{some_of, none_of}
use Rattle.pv_tree.specs.Spells.{Names}
use Rattle.pv_tree.specs.declared.nodes.NodeId.{NodeId}
use Rattle.pv_stmt_forms.specs.declared.forms.StatementForm.TheVariants as form
use Rattle.pv_stmt_forms.specs.declared.forms.Within.TheVariants as within
use Rattle.pv_decl_forms.proofs.Growing.{all_as}
use Rattle.pv_expr_forms.specs.Sources.{known_names}
use Rattle.pv_stmt.proofs.reading.+reading.Goals as goal

pub statement-returns-then-depth-eq0 : goal.statement-returns-then-depth-eq0
statement-returns-then-depth-eq0 g t c = record {
  keeps = extends_same _;
  answer =
      nothing _ _ _ _ (statement_zero (known_names g.R.TypeReader.types c.args.source.now c.args.into.now) c.args.depth (drop c.args.at c.args.source.now.tokens.now.tokens) c.if-depth-eq0.true);
}

pub statement-returns-in_default : goal.statement-returns-in_default
statement-returns-in_default g t c = record {
  keeps = extends_same _;
  answer =
      nothing _ _ _ _ (statement_end (known_names g.R.TypeReader.types c.args.source.now c.args.into.now) c.args.depth (drop c.args.at c.args.source.now.tokens.now.tokens) (omega arith) c.in_default.ensures);
}

pub statement-returns-in-Braces : goal.statement-returns-in-Braces
statement-returns-in-Braces g t c = record {
  keeps = c.braced.ensures.keeps;
  answer =
      moved _ _ _ _ _ _ (begun (known_names g.R.TypeReader.types c.args.source.now c.args.into.now) c.args.depth (drop c.args.at c.args.source.now.tokens.now.tokens) c.in-Some.token (drop (c.args.at + 1) c.args.source.now.tokens.now.tokens) form.Braces (omega arith) c.in-Some.ensures.0 (sym c.form_of.ensures ∙ c.in-Braces.is)) c.braced.ensures.answer;
}

pub statement-returns-in-If : goal.statement-returns-in-If
statement-returns-in-If g t c = record {
  keeps = c.selection.ensures.keeps;
  answer =
      moved _ _ _ _ _ _ (begun (known_names g.R.TypeReader.types c.args.source.now c.args.into.now) c.args.depth (drop c.args.at c.args.source.now.tokens.now.tokens) c.in-Some.token (drop (c.args.at + 1) c.args.source.now.tokens.now.tokens) form.If (omega arith) c.in-Some.ensures.0 (sym c.form_of.ensures ∙ c.in-If.is)) c.selection.ensures.answer;
}

pub statement-returns-in-While : goal.statement-returns-in-While
statement-returns-in-While g t c = record {
  keeps = c.while_loop.ensures.keeps;
  answer =
      moved _ _ _ _ _ _ (begun (known_names g.R.TypeReader.types c.args.source.now c.args.into.now) c.args.depth (drop c.args.at c.args.source.now.tokens.now.tokens) c.in-Some.token (drop (c.args.at + 1) c.args.source.now.tokens.now.tokens) form.While (omega arith) c.in-Some.ensures.0 (sym c.form_of.ensures ∙ c.in-While.is)) c.while_loop.ensures.answer;
}

pub statement-returns-in-Do : goal.statement-returns-in-Do
statement-returns-in-Do g t c = record {
  keeps = c.do_loop.ensures.keeps;
  answer =
      moved _ _ _ _ _ _ (begun (known_names g.R.TypeReader.types c.args.source.now c.args.into.now) c.args.depth (drop c.args.at c.args.source.now.tokens.now.tokens) c.in-Some.token (drop (c.args.at + 1) c.args.source.now.tokens.now.tokens) form.Do (omega arith) c.in-Some.ensures.0 (sym c.form_of.ensures ∙ c.in-Do.is)) c.do_loop.ensures.answer;
}

pub statement-returns-in-For : goal.statement-returns-in-For
statement-returns-in-For g t c = record {
  keeps = c.for_loop.ensures.keeps;
  answer =
      moved _ _ _ _ _ _ (begun (known_names g.R.TypeReader.types c.args.source.now c.args.into.now) c.args.depth (drop c.args.at c.args.source.now.tokens.now.tokens) c.in-Some.token (drop (c.args.at + 1) c.args.source.now.tokens.now.tokens) form.For (omega arith) c.in-Some.ensures.0 (sym c.form_of.ensures ∙ c.in-For.is)) c.for_loop.ensures.answer;
}

pub statement-returns-in-Switch : goal.statement-returns-in-Switch
statement-returns-in-Switch g t c = record {
  keeps = c.switch.ensures.keeps;
  answer =
      moved _ _ _ _ _ _ (begun (known_names g.R.TypeReader.types c.args.source.now c.args.into.now) c.args.depth (drop c.args.at c.args.source.now.tokens.now.tokens) c.in-Some.token (drop (c.args.at + 1) c.args.source.now.tokens.now.tokens) form.Switch (omega arith) c.in-Some.ensures.0 (sym c.form_of.ensures ∙ c.in-Switch.is)) c.switch.ensures.answer;
}

pub statement-returns-in-Break : goal.statement-returns-in-Break
statement-returns-in-Break g t c = record {
  keeps = c.found_before.ensures.keeps;
  answer =
      moved _ _ _ _ _ _ (begun (known_names g.R.TypeReader.types c.args.source.now c.args.into.now) c.args.depth (drop c.args.at c.args.source.now.tokens.now.tokens) c.in-Some.token (drop (c.args.at + 1) c.args.source.now.tokens.now.tokens) form.Break (omega arith) c.in-Some.ensures.0 (sym c.form_of.ensures ∙ c.in-Break.is)) c.found_before.ensures.ok;
}

pub statement-returns-in-Continue : goal.statement-returns-in-Continue
statement-returns-in-Continue g t c = record {
  keeps = c.found_before-in-Continue.ensures.keeps;
  answer =
      moved _ _ _ _ _ _ (begun (known_names g.R.TypeReader.types c.args.source.now c.args.into.now) c.args.depth (drop c.args.at c.args.source.now.tokens.now.tokens) c.in-Some.token (drop (c.args.at + 1) c.args.source.now.tokens.now.tokens) form.Continue (omega arith) c.in-Some.ensures.0 (sym c.form_of.ensures ∙ c.in-Continue.is)) c.found_before-in-Continue.ensures.ok;
}

pub statement-returns-in-Return : goal.statement-returns-in-Return
statement-returns-in-Return g t c = record {
  keeps = c.returned.ensures.keeps;
  answer =
      moved _ _ _ _ _ _ (begun (known_names g.R.TypeReader.types c.args.source.now c.args.into.now) c.args.depth (drop c.args.at c.args.source.now.tokens.now.tokens) c.in-Some.token (drop (c.args.at + 1) c.args.source.now.tokens.now.tokens) form.Return (omega arith) c.in-Some.ensures.0 (sym c.form_of.ensures ∙ c.in-Return.is)) c.returned.ensures.answer;
}

pub statement-returns-in-Plain : goal.statement-returns-in-Plain
statement-returns-in-Plain g t c = record {
  keeps = c.plain.ensures.keeps;
  answer =
      moved _ _ _ _ _ _ (begun (known_names g.R.TypeReader.types c.args.source.now c.args.into.now) c.args.depth (drop c.args.at c.args.source.now.tokens.now.tokens) c.in-Some.token (drop (c.args.at + 1) c.args.source.now.tokens.now.tokens) form.Plain (omega arith) c.in-Some.ensures.0 (sym c.form_of.ensures ∙ c.in-Plain.is)) c.plain.ensures.answer;
}

pub selection-returns-in_default : goal.selection-returns-in_default
selection-returns-in_default g t c = record {
  keeps = c.condition.ensures.keeps;
  answer =
      nothing _ _ _ _ (selection_shut (known_names g.R.TypeReader.types c.args.source.now c.args.into.now) c.args.below c.args.line (readers (known_names g.R.TypeReader.types c.args.source.now c.args.into.now) c.args.below Statements) (drop c.args.at c.args.source.now.tokens.now.tokens) (first_none c.condition.new.into is_expression c.args.source.now.tokens.now.tokens c.in_ok-condition.field-0 (condition (known_names g.R.TypeReader.types c.args.source.now c.args.into.now) c.args.below (drop c.args.at c.args.source.now.tokens.now.tokens)) c.in_ok-condition.ensures.answer c.in_default.is));
}

pub selection-statement-requires : goal.selection-statement-requires
selection-statement-requires g t c κs within =
    let place = (there_of c.condition.new.into is_expression c.args.source.now.tokens.now.tokens c.in_ok-condition.field-0 (condition (known_names g.R.TypeReader.types c.args.source.now c.args.into.now) c.args.below (drop c.args.at c.args.source.now.tokens.now.tokens)) c.in_ok-condition.ensures.answer c.in-Some.condition c.in-Some.next c.in-Some.is).1 in
    let tied = tied_kept (g.R.TypeReader.types c.args.source.now.reader.now) c.args.into.now c.condition.new.into c.args.source.now.tokens.now.tokens c.requires.tied c.condition.ensures.keeps in
    (omega arith, (within, record { place = place; tied = tied }))

pub selection-returns-in-None : goal.selection-returns-in-None
selection-returns-in-None g t c = record {
  keeps = extends_then c.args.into.now c.condition.new.into c.statement.new.into c.condition.ensures.keeps c.statement.ensures.keeps;
  answer =
      nothing _ _ _ _ (selection_none (known_names g.R.TypeReader.types c.args.source.now c.args.into.now) c.args.below c.args.line (readers (known_names g.R.TypeReader.types c.args.source.now c.args.into.now) c.args.below Statements) (drop c.args.at c.args.source.now.tokens.now.tokens) (tree_at c.condition.new.into.forest c.in-Some.condition, (drop c.in-Some.next c.args.source.now.tokens.now.tokens)) (first_some c.condition.new.into is_expression c.args.source.now.tokens.now.tokens c.in_ok-condition.field-0 (condition (known_names g.R.TypeReader.types c.args.source.now c.args.into.now) c.args.below (drop c.args.at c.args.source.now.tokens.now.tokens)) c.in_ok-condition.ensures.answer c.in-Some.condition c.in-Some.next c.in-Some.is) (later_none c.args.source.now.typedefs.now (g.R.TypeReader.types c.args.source.now.reader.now) c.args.into.now c.condition.new.into c.statement.new.into c.args.source.now.tokens.now.tokens c.requires.tied c.condition.ensures.keeps is_statement c.in_ok-body.field-0 (λ (n : Names). readers n c.args.below Statements (drop c.in-Some.next c.args.source.now.tokens.now.tokens)) c.in_ok-body.ensures.answer c.in-None.is));
}

pub selection-chosen-requires : goal.selection-chosen-requires
selection-chosen-requires g t c κs within =
    let place = (there_of c.statement.new.into is_statement c.args.source.now.tokens.now.tokens c.in_ok-body.field-0 (readers (known_names g.R.TypeReader.types c.args.source.now c.condition.new.into) c.args.below Statements (drop c.in-Some.next c.args.source.now.tokens.now.tokens)) c.in_ok-body.ensures.answer c.in-Some-2.body c.in-Some-2.end c.in-Some-2.is).1 in
    let tied = tied_kept (g.R.TypeReader.types c.args.source.now.reader.now) c.args.into.now c.statement.new.into c.args.source.now.tokens.now.tokens c.requires.tied (extends_then c.args.into.now c.condition.new.into c.statement.new.into c.condition.ensures.keeps c.statement.ensures.keeps) in
    let condition = is_kept c.condition.new.into c.statement.new.into is_expression c.in-Some.condition c.statement.ensures.keeps (there_of c.condition.new.into is_expression c.args.source.now.tokens.now.tokens c.in_ok-condition.field-0 (condition (known_names g.R.TypeReader.types c.args.source.now c.args.into.now) c.args.below (drop c.args.at c.args.source.now.tokens.now.tokens)) c.in_ok-condition.ensures.answer c.in-Some.condition c.in-Some.next c.in-Some.is).0 in
    let condition_number = condition.0 in
    let condition_kind = condition.1 in
    let body = (there_of c.statement.new.into is_statement c.args.source.now.tokens.now.tokens c.in_ok-body.field-0 (readers (known_names g.R.TypeReader.types c.args.source.now c.condition.new.into) c.args.below Statements (drop c.in-Some.next c.args.source.now.tokens.now.tokens)) c.in_ok-body.ensures.answer c.in-Some-2.body c.in-Some-2.end c.in-Some-2.is).0 in
    let body_number = body.0 in
    let body_kind = body.1 in
    (omega arith, (within, (record { place = place; tied = tied }, (condition, body))))

pub selection-returns-in-Some-2 : goal.selection-returns-in-Some-2
selection-returns-in-Some-2 g t c = record {
  keeps = extends_then c.args.into.now c.statement.new.into c.chosen.new.into (extends_then c.args.into.now c.condition.new.into c.statement.new.into c.condition.ensures.keeps c.statement.ensures.keeps) c.chosen.ensures.keeps;
  answer =
      moved _ _ _ _ _ _
      (ap (λ (n : Names). else_part (readers n c.args.below Statements) c.args.line (tree_at c.statement.new.into.forest c.in-Some.condition) (tree_at c.statement.new.into.forest c.in-Some-2.body) (drop c.in-Some-2.end c.args.source.now.tokens.now.tokens)) (names_kept c.args.source.now.typedefs.now (g.R.TypeReader.types c.args.source.now.reader.now) c.args.into.now c.statement.new.into c.args.source.now.tokens.now.tokens c.requires.tied (extends_then c.args.into.now c.condition.new.into c.statement.new.into c.condition.ensures.keeps c.statement.ensures.keeps))
      ∙ ap (λ (t : Tree). else_part (readers (known_names g.R.TypeReader.types c.args.source.now c.args.into.now) c.args.below Statements) c.args.line t (tree_at c.statement.new.into.forest c.in-Some-2.body) (drop c.in-Some-2.end c.args.source.now.tokens.now.tokens)) (tree_kept c.condition.new.into c.statement.new.into c.in-Some.condition c.statement.ensures.keeps (there_of c.condition.new.into is_expression c.args.source.now.tokens.now.tokens c.in_ok-condition.field-0 (condition (known_names g.R.TypeReader.types c.args.source.now c.args.into.now) c.args.below (drop c.args.at c.args.source.now.tokens.now.tokens)) c.in_ok-condition.ensures.answer c.in-Some.condition c.in-Some.next c.in-Some.is).0.0)
      ∙ selection_so (known_names g.R.TypeReader.types c.args.source.now c.args.into.now) c.args.below c.args.line (readers (known_names g.R.TypeReader.types c.args.source.now c.args.into.now) c.args.below Statements) (drop c.args.at c.args.source.now.tokens.now.tokens) (tree_at c.condition.new.into.forest c.in-Some.condition, (drop c.in-Some.next c.args.source.now.tokens.now.tokens)) (first_some c.condition.new.into is_expression c.args.source.now.tokens.now.tokens c.in_ok-condition.field-0 (condition (known_names g.R.TypeReader.types c.args.source.now c.args.into.now) c.args.below (drop c.args.at c.args.source.now.tokens.now.tokens)) c.in_ok-condition.ensures.answer c.in-Some.condition c.in-Some.next c.in-Some.is) (tree_at c.statement.new.into.forest c.in-Some-2.body, (drop c.in-Some-2.end c.args.source.now.tokens.now.tokens)) (later_some c.args.source.now.typedefs.now (g.R.TypeReader.types c.args.source.now.reader.now) c.args.into.now c.condition.new.into c.statement.new.into c.args.source.now.tokens.now.tokens c.requires.tied c.condition.ensures.keeps is_statement c.in_ok-body.field-0 (λ (n : Names). readers n c.args.below Statements (drop c.in-Some.next c.args.source.now.tokens.now.tokens)) c.in_ok-body.ensures.answer c.in-Some-2.body c.in-Some-2.end c.in-Some-2.is)) c.chosen.ensures.answer;
}

pub while_loop-returns-in_default : goal.while_loop-returns-in_default
while_loop-returns-in_default g t c = record {
  keeps = c.condition.ensures.keeps;
  answer =
      nothing _ _ _ _ (loop_shut (known_names g.R.TypeReader.types c.args.source.now c.args.into.now) c.args.below c.args.line (readers (known_names g.R.TypeReader.types c.args.source.now c.args.into.now) c.args.below Statements) (drop c.args.at c.args.source.now.tokens.now.tokens) (first_none c.condition.new.into is_expression c.args.source.now.tokens.now.tokens c.in_ok-condition.field-0 (condition (known_names g.R.TypeReader.types c.args.source.now c.args.into.now) c.args.below (drop c.args.at c.args.source.now.tokens.now.tokens)) c.in_ok-condition.ensures.answer c.in_default.is));
}

pub while_loop-statement-requires : goal.while_loop-statement-requires
while_loop-statement-requires g t c κs within =
    let place = (there_of c.condition.new.into is_expression c.args.source.now.tokens.now.tokens c.in_ok-condition.field-0 (condition (known_names g.R.TypeReader.types c.args.source.now c.args.into.now) c.args.below (drop c.args.at c.args.source.now.tokens.now.tokens)) c.in_ok-condition.ensures.answer c.in-Some.condition c.in-Some.next c.in-Some.is).1 in
    let tied = tied_kept (g.R.TypeReader.types c.args.source.now.reader.now) c.args.into.now c.condition.new.into c.args.source.now.tokens.now.tokens c.requires.tied c.condition.ensures.keeps in
    (omega arith, (within, record { place = place; tied = tied }))

pub while_loop-returns-in-None : goal.while_loop-returns-in-None
while_loop-returns-in-None g t c = record {
  keeps = extends_then c.args.into.now c.condition.new.into c.statement.new.into c.condition.ensures.keeps c.statement.ensures.keeps;
  answer =
      nothing _ _ _ _ (loop_none (known_names g.R.TypeReader.types c.args.source.now c.args.into.now) c.args.below c.args.line (readers (known_names g.R.TypeReader.types c.args.source.now c.args.into.now) c.args.below Statements) (drop c.args.at c.args.source.now.tokens.now.tokens) (tree_at c.condition.new.into.forest c.in-Some.condition, (drop c.in-Some.next c.args.source.now.tokens.now.tokens)) (first_some c.condition.new.into is_expression c.args.source.now.tokens.now.tokens c.in_ok-condition.field-0 (condition (known_names g.R.TypeReader.types c.args.source.now c.args.into.now) c.args.below (drop c.args.at c.args.source.now.tokens.now.tokens)) c.in_ok-condition.ensures.answer c.in-Some.condition c.in-Some.next c.in-Some.is) (later_none c.args.source.now.typedefs.now (g.R.TypeReader.types c.args.source.now.reader.now) c.args.into.now c.condition.new.into c.statement.new.into c.args.source.now.tokens.now.tokens c.requires.tied c.condition.ensures.keeps is_statement c.in_ok-body.field-0 (λ (n : Names). readers n c.args.below Statements (drop c.in-Some.next c.args.source.now.tokens.now.tokens)) c.in_ok-body.ensures.answer c.in-None.is));
}

pub while_loop-found_statement-requires-clause-place : goal.while_loop-found_statement-requires-clause-place
while_loop-found_statement-requires-clause-place g t c = (there_of c.statement.new.into is_statement c.args.source.now.tokens.now.tokens c.in_ok-body.field-0 (readers (known_names g.R.TypeReader.types c.args.source.now c.condition.new.into) c.args.below Statements (drop c.in-Some.next c.args.source.now.tokens.now.tokens)) c.in_ok-body.ensures.answer c.in-Some-2.body c.in-Some-2.end c.in-Some-2.is).1

pub while_loop-found_statement-requires-clause-children : goal.while_loop-found_statement-requires-clause-children
while_loop-found_statement-requires-clause-children g t c = (is_kept c.condition.new.into c.statement.new.into is_expression c.in-Some.condition c.statement.ensures.keeps (there_of c.condition.new.into is_expression c.args.source.now.tokens.now.tokens c.in_ok-condition.field-0 (condition (known_names g.R.TypeReader.types c.args.source.now c.args.into.now) c.args.below (drop c.args.at c.args.source.now.tokens.now.tokens)) c.in_ok-condition.ensures.answer c.in-Some.condition c.in-Some.next c.in-Some.is).0, (there_of c.statement.new.into is_statement c.args.source.now.tokens.now.tokens c.in_ok-body.field-0 (readers (known_names g.R.TypeReader.types c.args.source.now c.condition.new.into) c.args.below Statements (drop c.in-Some.next c.args.source.now.tokens.now.tokens)) c.in_ok-body.ensures.answer c.in-Some-2.body c.in-Some-2.end c.in-Some-2.is).0)

pub while_loop-returns-in-Some-2 : goal.while_loop-returns-in-Some-2
while_loop-returns-in-Some-2 g t c = record {
  keeps = extends_then c.args.into.now c.statement.new.into c.found_statement.new.into (extends_then c.args.into.now c.condition.new.into c.statement.new.into c.condition.ensures.keeps c.statement.ensures.keeps) c.found_statement.ensures.keeps;
  answer =
      moved _ _ _ _ _ _
      (ap (λ (t : Tree). let x : Tree × List Token = (OfStatement (While c.args.line (as_expression t) (statement_at c.statement.new.into.forest c.in-Some-2.body)), (drop c.in-Some-2.end c.args.source.now.tokens.now.tokens)) in Some x) (tree_kept c.condition.new.into c.statement.new.into c.in-Some.condition c.statement.ensures.keeps (there_of c.condition.new.into is_expression c.args.source.now.tokens.now.tokens c.in_ok-condition.field-0 (condition (known_names g.R.TypeReader.types c.args.source.now c.args.into.now) c.args.below (drop c.args.at c.args.source.now.tokens.now.tokens)) c.in_ok-condition.ensures.answer c.in-Some.condition c.in-Some.next c.in-Some.is).0.0)
      ∙ loop_so (known_names g.R.TypeReader.types c.args.source.now c.args.into.now) c.args.below c.args.line (readers (known_names g.R.TypeReader.types c.args.source.now c.args.into.now) c.args.below Statements) (drop c.args.at c.args.source.now.tokens.now.tokens) (tree_at c.condition.new.into.forest c.in-Some.condition, (drop c.in-Some.next c.args.source.now.tokens.now.tokens)) (first_some c.condition.new.into is_expression c.args.source.now.tokens.now.tokens c.in_ok-condition.field-0 (condition (known_names g.R.TypeReader.types c.args.source.now c.args.into.now) c.args.below (drop c.args.at c.args.source.now.tokens.now.tokens)) c.in_ok-condition.ensures.answer c.in-Some.condition c.in-Some.next c.in-Some.is) (tree_at c.statement.new.into.forest c.in-Some-2.body, (drop c.in-Some-2.end c.args.source.now.tokens.now.tokens)) (later_some c.args.source.now.typedefs.now (g.R.TypeReader.types c.args.source.now.reader.now) c.args.into.now c.condition.new.into c.statement.new.into c.args.source.now.tokens.now.tokens c.requires.tied c.condition.ensures.keeps is_statement c.in_ok-body.field-0 (λ (n : Names). readers n c.args.below Statements (drop c.in-Some.next c.args.source.now.tokens.now.tokens)) c.in_ok-body.ensures.answer c.in-Some-2.body c.in-Some-2.end c.in-Some-2.is)) c.found_statement.ensures.ok;
}

pub switch-returns-in_default : goal.switch-returns-in_default
switch-returns-in_default g t c = record {
  keeps = c.condition.ensures.keeps;
  answer =
      nothing _ _ _ _ (switch_shut (known_names g.R.TypeReader.types c.args.source.now c.args.into.now) c.args.below c.args.line (readers (known_names g.R.TypeReader.types c.args.source.now c.args.into.now) c.args.below SwitchBlocks) (drop c.args.at c.args.source.now.tokens.now.tokens) (first_none c.condition.new.into is_expression c.args.source.now.tokens.now.tokens c.in_ok-value.field-0 (condition (known_names g.R.TypeReader.types c.args.source.now c.args.into.now) c.args.below (drop c.args.at c.args.source.now.tokens.now.tokens)) c.in_ok-value.ensures.answer c.in_default.is));
}

pub switch-returns-in-None : goal.switch-returns-in-None
switch-returns-in-None g t c = record {
  keeps = extends_then c.args.into.now c.condition.new.into c.braced.new.into c.condition.ensures.keeps c.braced.ensures.keeps;
  answer =
      nothing _ _ _ _ (switch_none (known_names g.R.TypeReader.types c.args.source.now c.args.into.now) c.args.below c.args.line (readers (known_names g.R.TypeReader.types c.args.source.now c.args.into.now) c.args.below SwitchBlocks) (drop c.args.at c.args.source.now.tokens.now.tokens) (tree_at c.condition.new.into.forest c.in-Some.value, (drop c.in-Some.next c.args.source.now.tokens.now.tokens)) (first_some c.condition.new.into is_expression c.args.source.now.tokens.now.tokens c.in_ok-value.field-0 (condition (known_names g.R.TypeReader.types c.args.source.now c.args.into.now) c.args.below (drop c.args.at c.args.source.now.tokens.now.tokens)) c.in_ok-value.ensures.answer c.in-Some.value c.in-Some.next c.in-Some.is) (later_none c.args.source.now.typedefs.now (g.R.TypeReader.types c.args.source.now.reader.now) c.args.into.now c.condition.new.into c.braced.new.into c.args.source.now.tokens.now.tokens c.requires.tied c.condition.ensures.keeps is_statement c.in_ok-block.field-0 (λ (n : Names). readers n c.args.below SwitchBlocks (drop c.in-Some.next c.args.source.now.tokens.now.tokens)) (record { is = c.in_ok-block.ensures.answer.is ∙ ap (λ (l : ℕ). block_behind within.Switch (known_names g.R.TypeReader.types c.args.source.now c.condition.new.into) (c.args.below - 1) l (drop c.in-Some-after.inside c.args.source.now.tokens.now.tokens)) c.line_at-first.ensures ∙ switch_begun (known_names g.R.TypeReader.types c.args.source.now c.condition.new.into) c.args.below (drop c.in-Some.next c.args.source.now.tokens.now.tokens) (drop c.in-Some-after.inside c.args.source.now.tokens.now.tokens) (omega arith) c.in-Some-after.ensures.0; there = c.in_ok-block.ensures.answer.there }) c.in-None.is));
}

pub switch-found_statement-requires-clause-place : goal.switch-found_statement-requires-clause-place
switch-found_statement-requires-clause-place g t c = (there_of c.braced.new.into is_statement c.args.source.now.tokens.now.tokens c.in_ok-block.field-0 _ c.in_ok-block.ensures.answer c.in-Some-2.block c.in-Some-2.end c.in-Some-2.is).1

pub switch-found_statement-requires-clause-children : goal.switch-found_statement-requires-clause-children
switch-found_statement-requires-clause-children g t c = (is_kept c.condition.new.into c.braced.new.into is_expression c.in-Some.value c.braced.ensures.keeps (there_of c.condition.new.into is_expression c.args.source.now.tokens.now.tokens c.in_ok-value.field-0 (condition (known_names g.R.TypeReader.types c.args.source.now c.args.into.now) c.args.below (drop c.args.at c.args.source.now.tokens.now.tokens)) c.in_ok-value.ensures.answer c.in-Some.value c.in-Some.next c.in-Some.is).0, (there_of c.braced.new.into is_statement c.args.source.now.tokens.now.tokens c.in_ok-block.field-0 _ c.in_ok-block.ensures.answer c.in-Some-2.block c.in-Some-2.end c.in-Some-2.is).0)

pub switch-returns-in-Some-2 : goal.switch-returns-in-Some-2
switch-returns-in-Some-2 g t c = record {
  keeps = extends_then c.args.into.now c.braced.new.into c.found_statement.new.into (extends_then c.args.into.now c.condition.new.into c.braced.new.into c.condition.ensures.keeps c.braced.ensures.keeps) c.found_statement.ensures.keeps;
  answer =
      moved _ _ _ _ _ _
      (ap (λ (t : Tree). let x : Tree × List Token = (OfStatement (Switch c.args.line (as_expression t) (statement_at c.braced.new.into.forest c.in-Some-2.block)), (drop c.in-Some-2.end c.args.source.now.tokens.now.tokens)) in Some x) (tree_kept c.condition.new.into c.braced.new.into c.in-Some.value c.braced.ensures.keeps (there_of c.condition.new.into is_expression c.args.source.now.tokens.now.tokens c.in_ok-value.field-0 (condition (known_names g.R.TypeReader.types c.args.source.now c.args.into.now) c.args.below (drop c.args.at c.args.source.now.tokens.now.tokens)) c.in_ok-value.ensures.answer c.in-Some.value c.in-Some.next c.in-Some.is).0.0)
      ∙ switch_so (known_names g.R.TypeReader.types c.args.source.now c.args.into.now) c.args.below c.args.line (readers (known_names g.R.TypeReader.types c.args.source.now c.args.into.now) c.args.below SwitchBlocks) (drop c.args.at c.args.source.now.tokens.now.tokens) (tree_at c.condition.new.into.forest c.in-Some.value, (drop c.in-Some.next c.args.source.now.tokens.now.tokens)) (first_some c.condition.new.into is_expression c.args.source.now.tokens.now.tokens c.in_ok-value.field-0 (condition (known_names g.R.TypeReader.types c.args.source.now c.args.into.now) c.args.below (drop c.args.at c.args.source.now.tokens.now.tokens)) c.in_ok-value.ensures.answer c.in-Some.value c.in-Some.next c.in-Some.is) (tree_at c.braced.new.into.forest c.in-Some-2.block, (drop c.in-Some-2.end c.args.source.now.tokens.now.tokens)) (later_some c.args.source.now.typedefs.now (g.R.TypeReader.types c.args.source.now.reader.now) c.args.into.now c.condition.new.into c.braced.new.into c.args.source.now.tokens.now.tokens c.requires.tied c.condition.ensures.keeps is_statement c.in_ok-block.field-0 (λ (n : Names). readers n c.args.below SwitchBlocks (drop c.in-Some.next c.args.source.now.tokens.now.tokens)) (record { is = c.in_ok-block.ensures.answer.is ∙ ap (λ (l : ℕ). block_behind within.Switch (known_names g.R.TypeReader.types c.args.source.now c.condition.new.into) (c.args.below - 1) l (drop c.in-Some-after.inside c.args.source.now.tokens.now.tokens)) c.line_at-first.ensures ∙ switch_begun (known_names g.R.TypeReader.types c.args.source.now c.condition.new.into) c.args.below (drop c.in-Some.next c.args.source.now.tokens.now.tokens) (drop c.in-Some-after.inside c.args.source.now.tokens.now.tokens) (omega arith) c.in-Some-after.ensures.0; there = c.in_ok-block.ensures.answer.there }) c.in-Some-2.block c.in-Some-2.end c.in-Some-2.is)) c.found_statement.ensures.ok;
}

pub chosen-returns-in_default : goal.chosen-returns-in_default
chosen-returns-in_default g t c = record {
  keeps = c.found_statement.ensures.keeps;
  answer =
      moved _ _ _ _ _ _ (chosen_plain (readers (known_names g.R.TypeReader.types c.args.source.now c.args.into.now) c.args.below Statements) c.args.line (tree_at c.args.into.now.forest c.args.condition) (tree_at c.args.into.now.forest c.args.body) (drop c.args.at c.args.source.now.tokens.now.tokens) c.in_default.ensures) c.found_statement.ensures.ok;
}

pub chosen-returns-then-ends_open : goal.chosen-returns-then-ends_open
chosen-returns-then-ends_open g t c = record {
  keeps = c.found_statement-then-ends_open.ensures.keeps;
  answer =
      moved _ _ _ _ _ _ (chosen_open (readers (known_names g.R.TypeReader.types c.args.source.now c.args.into.now) c.args.below Statements) c.args.line (tree_at c.args.into.now.forest c.args.condition) (tree_at c.args.into.now.forest c.args.body) (drop c.args.at c.args.source.now.tokens.now.tokens) (sym c.ends_open.ensures ∙ c.if-ends_open.true)) c.found_statement-then-ends_open.ensures.ok;
}

pub chosen-returns-in-Some-2 : goal.chosen-returns-in-Some-2
chosen-returns-in-Some-2 g t c = record {
  keeps = extends_then c.args.into.now c.statement.new.into c.found_statement-in-Some-2.new.into c.statement.ensures.keeps c.found_statement-in-Some-2.ensures.keeps;
  answer =
      moved _ _ _ _ _ _ (both_kept c.args.into.now c.statement.new.into c.statement.ensures.keeps c.args.line c.args.condition c.args.body c.requires.condition c.requires.body (drop c.in-Some-2.end c.args.source.now.tokens.now.tokens) (tree_at c.statement.new.into.forest c.in-Some-2.other) ∙ chosen_both (readers (known_names g.R.TypeReader.types c.args.source.now c.args.into.now) c.args.below Statements) c.args.line (tree_at c.args.into.now.forest c.args.condition) (tree_at c.args.into.now.forest c.args.body) (drop c.args.at c.args.source.now.tokens.now.tokens) (drop c.in-Some.next c.args.source.now.tokens.now.tokens) c.in-Some.ensures.0 (tree_at c.statement.new.into.forest c.in-Some-2.other, (drop c.in-Some-2.end c.args.source.now.tokens.now.tokens)) (sym c.ends_open.ensures ∙ c.if-ends_open.false) (first_some c.statement.new.into is_statement c.args.source.now.tokens.now.tokens c.in_ok-other.field-0 (readers (known_names g.R.TypeReader.types c.args.source.now c.args.into.now) c.args.below Statements (drop c.in-Some.next c.args.source.now.tokens.now.tokens)) c.in_ok-other.ensures.answer c.in-Some-2.other c.in-Some-2.end c.in-Some-2.is)) c.found_statement-in-Some-2.ensures.ok;
}

pub chosen-returns-in-None : goal.chosen-returns-in-None
chosen-returns-in-None g t c = record {
  keeps = extends_then c.args.into.now c.statement.new.into c.found_statement-in-None.new.into c.statement.ensures.keeps c.found_statement-in-None.ensures.keeps;
  answer =
      moved _ _ _ _ _ _ (alone_kept c.args.into.now c.statement.new.into c.statement.ensures.keeps c.args.line c.args.condition c.args.body c.requires.condition c.requires.body (drop c.args.at c.args.source.now.tokens.now.tokens) ∙ chosen_unread (readers (known_names g.R.TypeReader.types c.args.source.now c.args.into.now) c.args.below Statements) c.args.line (tree_at c.args.into.now.forest c.args.condition) (tree_at c.args.into.now.forest c.args.body) (drop c.args.at c.args.source.now.tokens.now.tokens) (drop c.in-Some.next c.args.source.now.tokens.now.tokens) c.in-Some.ensures.0 (first_none c.statement.new.into is_statement c.args.source.now.tokens.now.tokens c.in_ok-other.field-0 (readers (known_names g.R.TypeReader.types c.args.source.now c.args.into.now) c.args.below Statements (drop c.in-Some.next c.args.source.now.tokens.now.tokens)) c.in_ok-other.ensures.answer c.in-None.is)) c.found_statement-in-None.ensures.ok;
}

pub chosen-found_statement-requires-in-Some-2-clause-place : goal.chosen-found_statement-requires-in-Some-2-clause-place
chosen-found_statement-requires-in-Some-2-clause-place g t c = (there_of c.statement.new.into is_statement c.args.source.now.tokens.now.tokens c.in_ok-other.field-0 (readers (known_names g.R.TypeReader.types c.args.source.now c.args.into.now) c.args.below Statements (drop c.in-Some.next c.args.source.now.tokens.now.tokens)) c.in_ok-other.ensures.answer c.in-Some-2.other c.in-Some-2.end c.in-Some-2.is).1

pub chosen-found_statement-requires-in-Some-2-clause-children : goal.chosen-found_statement-requires-in-Some-2-clause-children
chosen-found_statement-requires-in-Some-2-clause-children g t c = (is_kept c.args.into.now c.statement.new.into is_expression c.args.condition c.statement.ensures.keeps c.requires.condition, is_kept c.args.into.now c.statement.new.into is_statement c.args.body c.statement.ensures.keeps c.requires.body, (there_of c.statement.new.into is_statement c.args.source.now.tokens.now.tokens c.in_ok-other.field-0 (readers (known_names g.R.TypeReader.types c.args.source.now c.args.into.now) c.args.below Statements (drop c.in-Some.next c.args.source.now.tokens.now.tokens)) c.in_ok-other.ensures.answer c.in-Some-2.other c.in-Some-2.end c.in-Some-2.is).0)

pub chosen-found_statement-requires-in-None-clause-children : goal.chosen-found_statement-requires-in-None-clause-children
chosen-found_statement-requires-in-None-clause-children g t c = (is_kept c.args.into.now c.statement.new.into is_expression c.args.condition c.statement.ensures.keeps c.requires.condition, is_kept c.args.into.now c.statement.new.into is_statement c.args.body c.statement.ensures.keeps c.requires.body)

pub for_loop-returns-in_default : goal.for_loop-returns-in_default
for_loop-returns-in_default g t c = record {
  keeps = c.for_head.ensures.keeps;
  answer =
      nothing _ _ _ _ (for_shut c.for_head.new.into (known_names g.R.TypeReader.types c.args.source.now c.args.into.now) c.args.below c.args.source.now.tokens.now.tokens c.in_ok-head.field-0 (drop c.args.at c.args.source.now.tokens.now.tokens) c.in_ok-head.ensures.answer (readers (known_names g.R.TypeReader.types c.args.source.now c.args.into.now) c.args.below Statements) c.args.line c.in_default.is);
}

pub for_loop-statement-requires : goal.for_loop-statement-requires
for_loop-statement-requires g t c κs within =
    let place = (head_there c.for_head.new.into (known_names g.R.TypeReader.types c.args.source.now c.args.into.now) c.args.below c.args.source.now.tokens.now.tokens c.in_ok-head.field-0 (drop c.args.at c.args.source.now.tokens.now.tokens) c.in_ok-head.ensures.answer (readers (known_names g.R.TypeReader.types c.args.source.now c.args.into.now) c.args.below Statements) c.args.line c.in-Some.head c.in-Some.next c.in-Some.is).1 in
    let tied = tied_kept (g.R.TypeReader.types c.args.source.now.reader.now) c.args.into.now c.for_head.new.into c.args.source.now.tokens.now.tokens c.requires.tied c.for_head.ensures.keeps in
    (omega arith, (within, record { place = place; tied = tied }))

pub for_loop-found_statement-requires-clause-place : goal.for_loop-found_statement-requires-clause-place
for_loop-found_statement-requires-clause-place g t c = (there_of c.statement.new.into is_statement c.args.source.now.tokens.now.tokens c.in_ok-body.field-0 (readers (known_names g.R.TypeReader.types c.args.source.now c.for_head.new.into) c.args.below Statements (drop c.in-Some.next c.args.source.now.tokens.now.tokens)) c.in_ok-body.ensures.answer c.in-Some-2.body c.in-Some-2.end c.in-Some-2.is).1

pub for_loop-found_statement-requires-clause-children : goal.for_loop-found_statement-requires-clause-children
for_loop-found_statement-requires-clause-children g t c = c.for_node.ensures.children c.statement.new.into.forest (length c.statement.new.into.forest.trees) (for_children c.for_head.new.into (known_names g.R.TypeReader.types c.args.source.now c.args.into.now) c.args.below c.args.source.now.tokens.now.tokens c.in_ok-head.field-0 (drop c.args.at c.args.source.now.tokens.now.tokens) c.in_ok-head.ensures.answer (readers (known_names g.R.TypeReader.types c.args.source.now c.args.into.now) c.args.below Statements) c.args.line c.in-Some.head c.in-Some.next c.in-Some.is c.statement.new.into c.statement.ensures.keeps) (there_of c.statement.new.into is_statement c.args.source.now.tokens.now.tokens c.in_ok-body.field-0 (readers (known_names g.R.TypeReader.types c.args.source.now c.for_head.new.into) c.args.below Statements (drop c.in-Some.next c.args.source.now.tokens.now.tokens)) c.in_ok-body.ensures.answer c.in-Some-2.body c.in-Some-2.end c.in-Some-2.is).0

pub for_loop-returns-in-Some-2 : goal.for_loop-returns-in-Some-2
for_loop-returns-in-Some-2 g t c = record {
  keeps = extends_then c.args.into.now c.statement.new.into c.found_statement.new.into (extends_then c.args.into.now c.for_head.new.into c.statement.new.into c.for_head.ensures.keeps c.statement.ensures.keeps) c.found_statement.ensures.keeps;
  answer =
      moved _ _ _ _ _ _ (ap (λ (t : Tree). let x : Tree × List Token = (t, (drop c.in-Some-2.end c.args.source.now.tokens.now.tokens)) in Some x) (c.for_node.ensures.is c.statement.new.into.forest c.args.line) ∙ for_so c.for_head.new.into (known_names g.R.TypeReader.types c.args.source.now c.args.into.now) c.args.below c.args.source.now.tokens.now.tokens c.in_ok-head.field-0 (drop c.args.at c.args.source.now.tokens.now.tokens) c.in_ok-head.ensures.answer (readers (known_names g.R.TypeReader.types c.args.source.now c.args.into.now) c.args.below Statements) c.args.line c.in-Some.head c.in-Some.next c.in-Some.is c.statement.new.into c.statement.ensures.keeps (tree_at c.statement.new.into.forest c.in-Some-2.body, (drop c.in-Some-2.end c.args.source.now.tokens.now.tokens)) (later_some c.args.source.now.typedefs.now (g.R.TypeReader.types c.args.source.now.reader.now) c.args.into.now c.for_head.new.into c.statement.new.into c.args.source.now.tokens.now.tokens c.requires.tied c.for_head.ensures.keeps is_statement c.in_ok-body.field-0 (λ (n : Names). readers n c.args.below Statements (drop c.in-Some.next c.args.source.now.tokens.now.tokens)) c.in_ok-body.ensures.answer c.in-Some-2.body c.in-Some-2.end c.in-Some-2.is)) c.found_statement.ensures.ok;
}

pub for_loop-returns-in-None : goal.for_loop-returns-in-None
for_loop-returns-in-None g t c = record {
  keeps = extends_then c.args.into.now c.for_head.new.into c.statement.new.into c.for_head.ensures.keeps c.statement.ensures.keeps;
  answer =
      nothing _ _ _ _ (for_none c.for_head.new.into (known_names g.R.TypeReader.types c.args.source.now c.args.into.now) c.args.below c.args.source.now.tokens.now.tokens c.in_ok-head.field-0 (drop c.args.at c.args.source.now.tokens.now.tokens) c.in_ok-head.ensures.answer (readers (known_names g.R.TypeReader.types c.args.source.now c.args.into.now) c.args.below Statements) c.args.line c.in-Some.head c.in-Some.next c.in-Some.is (later_none c.args.source.now.typedefs.now (g.R.TypeReader.types c.args.source.now.reader.now) c.args.into.now c.for_head.new.into c.statement.new.into c.args.source.now.tokens.now.tokens c.requires.tied c.for_head.ensures.keeps is_statement c.in_ok-body.field-0 (λ (n : Names). readers n c.args.below Statements (drop c.in-Some.next c.args.source.now.tokens.now.tokens)) c.in_ok-body.ensures.answer c.in-None.is));
}

pub braced-returns : goal.braced-returns
braced-returns g t c = record {
  keeps = extends_then c.args.into.now c.items.new.into c.block_of.new.into c.items.ensures.keeps c.block_of.ensures.keeps;
  answer =
      moved _ _ _ _ _ _ (ap (block_end (block_tree c.args.within c.args.line)) (ap (λ (ns : List NodeId). let x : Trees × List Token = (trees_of c.items.new.into.forest ns, drop c.in_ok-items.end c.args.source.now.tokens.now.tokens) in x) c.deref.ensures.value ∙ c.in_ok-items.ensures.answer.is)) c.block_of.ensures.ok;
}

pub items-loop-items-init : goal.items-loop-items-init
items-loop-items-init g t c = record {
  nodes = no_parts is_item c.args.into.now _ c.new-items.ensures.items;
  place = c.requires.place;
  keeps = extends_same _;
  tied = c.requires.tied;
  same = start_row _ c.args.into.now _ _ c.new-items.ensures.items;
}

pub items-returns-in_default : goal.items-returns-in_default
items-returns-in_default g t c = record {
  keeps = extends_then c.args.into.now c.loop-items.into c.item.new.into c.loop-items.invariant.keeps c.item.ensures.keeps;
  answer =
      row_ends is_item c.loop-items.into c.item.new.into c.item.ensures.keeps c.args.source.now.tokens.now.tokens (item_in c.args.within (known_names g.R.TypeReader.types c.args.source.now c.args.into.now) c.args.depth) c.loop-items.items.items c.loop-items.invariant.nodes c.loop-items.next c.loop-items.invariant.place c.in_ok-found.field-0 (at_start c.args.source.now.typedefs.now (g.R.TypeReader.types c.args.source.now.reader.now) c.args.into.now c.loop-items.into c.item.new.into c.args.source.now.tokens.now.tokens c.requires.tied c.loop-items.invariant.keeps is_item c.in_ok-found.field-0 (λ n. item_in c.args.within n c.args.depth (drop c.loop-items.next c.args.source.now.tokens.now.tokens)) c.in_ok-found.ensures.answer) (items_shorten c.args.source.now.typedefs.now (g.R.TypeReader.types c.args.source.now.reader.now) c.args.into.now c.args.source.now.tokens.now.tokens c.requires.tied c.args.within c.args.depth) (row (item_in c.args.within (known_names g.R.TypeReader.types c.args.source.now c.args.into.now) c.args.depth) NoTrees (drop c.args.at c.args.source.now.tokens.now.tokens)) c.loop-items.invariant.same c.in_default.is;
}

pub items-loop-items-smaller : goal.items-loop-items-smaller
items-loop-items-smaller g t c =
    let far = goes_forward is_item c.loop-items.into c.item.new.into c.item.ensures.keeps c.args.source.now.tokens.now.tokens (item_in c.args.within (known_names g.R.TypeReader.types c.args.source.now c.args.into.now) c.args.depth) c.loop-items.items.items c.loop-items.invariant.nodes c.loop-items.next c.loop-items.invariant.place c.in_ok-found.field-0 (at_start c.args.source.now.typedefs.now (g.R.TypeReader.types c.args.source.now.reader.now) c.args.into.now c.loop-items.into c.item.new.into c.args.source.now.tokens.now.tokens c.requires.tied c.loop-items.invariant.keeps is_item c.in_ok-found.field-0 (λ n. item_in c.args.within n c.args.depth (drop c.loop-items.next c.args.source.now.tokens.now.tokens)) c.in_ok-found.ensures.answer) (items_shorten c.args.source.now.typedefs.now (g.R.TypeReader.types c.args.source.now.reader.now) c.args.into.now c.args.source.now.tokens.now.tokens c.requires.tied c.args.within c.args.depth) c.in-Some.found c.in-Some.end c.in-Some.is in
    let there = part_there is_item c.loop-items.into c.item.new.into c.item.ensures.keeps c.args.source.now.tokens.now.tokens (item_in c.args.within (known_names g.R.TypeReader.types c.args.source.now c.args.into.now) c.args.depth) c.loop-items.items.items c.loop-items.invariant.nodes c.loop-items.next c.loop-items.invariant.place c.in_ok-found.field-0 (at_start c.args.source.now.typedefs.now (g.R.TypeReader.types c.args.source.now.reader.now) c.args.into.now c.loop-items.into c.item.new.into c.args.source.now.tokens.now.tokens c.requires.tied c.loop-items.invariant.keeps is_item c.in_ok-found.field-0 (λ n. item_in c.args.within n c.args.depth (drop c.loop-items.next c.args.source.now.tokens.now.tokens)) c.in_ok-found.ensures.answer) c.in-Some.found c.in-Some.end c.in-Some.is in
    let end : c.in-Some.end ≤ length c.args.source.now.tokens.now.tokens = there.1 in
    omega (arith, far, end)

pub items-loop-items-preserved : goal.items-loop-items-preserved
items-loop-items-preserved g t c =
    let keeps = extends_then c.args.into.now c.loop-items.into c.item.new.into c.loop-items.invariant.keeps c.item.ensures.keeps in
    record {
      nodes = parts_there is_item c.loop-items.into c.item.new.into c.item.ensures.keeps c.args.source.now.tokens.now.tokens (item_in c.args.within (known_names g.R.TypeReader.types c.args.source.now c.args.into.now) c.args.depth) c.loop-items.items.items c.loop-items.invariant.nodes c.loop-items.next c.loop-items.invariant.place c.in_ok-found.field-0 (at_start c.args.source.now.typedefs.now (g.R.TypeReader.types c.args.source.now.reader.now) c.args.into.now c.loop-items.into c.item.new.into c.args.source.now.tokens.now.tokens c.requires.tied c.loop-items.invariant.keeps is_item c.in_ok-found.field-0 (λ n. item_in c.args.within n c.args.depth (drop c.loop-items.next c.args.source.now.tokens.now.tokens)) c.in_ok-found.ensures.answer) c.in-Some.found c.in-Some.end c.in-Some.is c.push.new.self.items c.in_ok-push.ensures.items;
      place = (part_there is_item c.loop-items.into c.item.new.into c.item.ensures.keeps c.args.source.now.tokens.now.tokens (item_in c.args.within (known_names g.R.TypeReader.types c.args.source.now c.args.into.now) c.args.depth) c.loop-items.items.items c.loop-items.invariant.nodes c.loop-items.next c.loop-items.invariant.place c.in_ok-found.field-0 (at_start c.args.source.now.typedefs.now (g.R.TypeReader.types c.args.source.now.reader.now) c.args.into.now c.loop-items.into c.item.new.into c.args.source.now.tokens.now.tokens c.requires.tied c.loop-items.invariant.keeps is_item c.in_ok-found.field-0 (λ n. item_in c.args.within n c.args.depth (drop c.loop-items.next c.args.source.now.tokens.now.tokens)) c.in_ok-found.ensures.answer) c.in-Some.found c.in-Some.end c.in-Some.is).1;
      keeps = keeps;
      tied = tied_kept (g.R.TypeReader.types c.args.source.now.reader.now) c.args.into.now c.item.new.into c.args.source.now.tokens.now.tokens c.requires.tied keeps;
      same = row_goes is_item c.loop-items.into c.item.new.into c.item.ensures.keeps c.args.source.now.tokens.now.tokens (item_in c.args.within (known_names g.R.TypeReader.types c.args.source.now c.args.into.now) c.args.depth) c.loop-items.items.items c.loop-items.invariant.nodes c.loop-items.next c.loop-items.invariant.place c.in_ok-found.field-0 (at_start c.args.source.now.typedefs.now (g.R.TypeReader.types c.args.source.now.reader.now) c.args.into.now c.loop-items.into c.item.new.into c.args.source.now.tokens.now.tokens c.requires.tied c.loop-items.invariant.keeps is_item c.in_ok-found.field-0 (λ n. item_in c.args.within n c.args.depth (drop c.loop-items.next c.args.source.now.tokens.now.tokens)) c.in_ok-found.ensures.answer) (items_shorten c.args.source.now.typedefs.now (g.R.TypeReader.types c.args.source.now.reader.now) c.args.into.now c.args.source.now.tokens.now.tokens c.requires.tied c.args.within c.args.depth) (row (item_in c.args.within (known_names g.R.TypeReader.types c.args.source.now c.args.into.now) c.args.depth) NoTrees (drop c.args.at c.args.source.now.tokens.now.tokens)) c.loop-items.invariant.same c.in-Some.found c.in-Some.end c.in-Some.is c.push.new.self.items c.in_ok-push.ensures.items;
    }

pub item-returns-then-begins_type : goal.item-returns-then-begins_type
item-returns-then-begins_type g t c = record {
  keeps = c.declared.ensures.keeps;
  answer =
      as_items c.declared.result c.declared.new.into is_declaration c.args.source.now.tokens.now.tokens (only_declaration (declaration (known_names g.R.TypeReader.types c.args.source.now c.args.into.now) c.args.depth (drop c.args.at c.args.source.now.tokens.now.tokens))) (item_in c.args.within (known_names g.R.TypeReader.types c.args.source.now c.args.into.now) c.args.depth (drop c.args.at c.args.source.now.tokens.now.tokens)) declaration_item (item_declared c.args.within (known_names g.R.TypeReader.types c.args.source.now c.args.into.now) c.args.depth (drop c.args.at c.args.source.now.tokens.now.tokens) (sym (c.begins_type.ensures (g.R.TypeReader.types c.args.source.now.reader.now) c.args.into.now) ∙ c.if-begins_type.true)) c.declared.ensures.answer;
}

pub item-returns-in-Block : goal.item-returns-in-Block
item-returns-in-Block g t c = record {
  keeps = c.statement.ensures.keeps;
  answer =
      as_items c.statement.result c.statement.new.into is_statement c.args.source.now.tokens.now.tokens (readers (known_names g.R.TypeReader.types c.args.source.now c.args.into.now) c.args.depth Statements (drop c.args.at c.args.source.now.tokens.now.tokens)) (item_in c.args.within (known_names g.R.TypeReader.types c.args.source.now c.args.into.now) c.args.depth (drop c.args.at c.args.source.now.tokens.now.tokens)) statement_item (item_stated c.args.within (known_names g.R.TypeReader.types c.args.source.now c.args.into.now) c.args.depth (drop c.args.at c.args.source.now.tokens.now.tokens) (sym (c.begins_type.ensures (g.R.TypeReader.types c.args.source.now.reader.now) c.args.into.now) ∙ c.if-begins_type.false) c.in-Block.is) c.statement.ensures.answer;
}

pub item-returns-in-Switch : goal.item-returns-in-Switch
item-returns-in-Switch g t c = record {
  keeps = c.labelled.ensures.keeps;
  answer =
      as_items c.labelled.result c.labelled.new.into is_statement c.args.source.now.tokens.now.tokens (labels_and_statement (known_names g.R.TypeReader.types c.args.source.now c.args.into.now) c.args.depth (readers (known_names g.R.TypeReader.types c.args.source.now c.args.into.now) c.args.depth Statements) (drop c.args.at c.args.source.now.tokens.now.tokens)) (item_in c.args.within (known_names g.R.TypeReader.types c.args.source.now c.args.into.now) c.args.depth (drop c.args.at c.args.source.now.tokens.now.tokens)) statement_item (item_labelled c.args.within (known_names g.R.TypeReader.types c.args.source.now c.args.into.now) c.args.depth (drop c.args.at c.args.source.now.tokens.now.tokens) (sym (c.begins_type.ensures (g.R.TypeReader.types c.args.source.now.reader.now) c.args.into.now) ∙ c.if-begins_type.false) c.in-Switch.is) c.labelled.ensures.answer;
}

pub labelled-statement-requires : goal.labelled-statement-requires
labelled-statement-requires g t c κs within =
    let place = c.in_ok-labels.ensures.answer.place in
    let tied = tied_kept (g.R.TypeReader.types c.args.source.now.reader.now) c.args.into.now c.labels.new.into c.args.source.now.tokens.now.tokens c.requires.tied c.labels.ensures.keeps in
    (omega arith, (within, record { place = place; tied = tied }))

pub labelled-returns-in_default : goal.labelled-returns-in_default
labelled-returns-in_default g t c = record {
  keeps = extends_then c.args.into.now c.labels.new.into c.statement.new.into c.labels.ensures.keeps c.statement.ensures.keeps;
  answer =
      nothing _ _ _ _ (labelled_none (known_names g.R.TypeReader.types c.args.source.now c.args.into.now) c.args.depth (readers (known_names g.R.TypeReader.types c.args.source.now c.args.into.now) c.args.depth Statements) (drop c.args.at c.args.source.now.tokens.now.tokens) (trees_of c.labels.new.into.forest c.in_ok-labels.labels.items, (drop c.in_ok-labels.next c.args.source.now.tokens.now.tokens)) c.in_ok-labels.ensures.answer.is (later_none c.args.source.now.typedefs.now (g.R.TypeReader.types c.args.source.now.reader.now) c.args.into.now c.labels.new.into c.statement.new.into c.args.source.now.tokens.now.tokens c.requires.tied c.labels.ensures.keeps is_statement c.in_ok-statement.field-0 (λ (n : Names). readers n c.args.depth Statements (drop c.in_ok-labels.next c.args.source.now.tokens.now.tokens)) c.in_ok-statement.ensures.answer c.in_default.is));
}

pub labelled-returns-then-is_empty : goal.labelled-returns-then-is_empty
labelled-returns-then-is_empty g t c = record {
  keeps = extends_then c.args.into.now c.labels.new.into c.statement.new.into c.labels.ensures.keeps c.statement.ensures.keeps;
  answer =
      let e : length c.in_ok-labels.labels.items ≡ vec_len c.in_ok-labels.labels = omega (arith, c.in_ok-labels.labels.ok.0) in
      record {
        is = labelled_bare (known_names g.R.TypeReader.types c.args.source.now c.args.into.now) c.args.depth (readers (known_names g.R.TypeReader.types c.args.source.now c.args.into.now) c.args.depth Statements) (drop c.args.at c.args.source.now.tokens.now.tokens) (trees_of c.labels.new.into.forest c.in_ok-labels.labels.items, (drop c.in_ok-labels.next c.args.source.now.tokens.now.tokens)) c.in_ok-labels.ensures.answer.is (tree_at c.statement.new.into.forest c.in-Some.statement, (drop c.in-Some.end c.args.source.now.tokens.now.tokens)) (none_of c.labels.new.into.forest c.in_ok-labels.labels.items (ap (λ n. n == 0) e ∙ sym c.is_empty.ensures ∙ c.if-is_empty.true)) (later_some c.args.source.now.typedefs.now (g.R.TypeReader.types c.args.source.now.reader.now) c.args.into.now c.labels.new.into c.statement.new.into c.args.source.now.tokens.now.tokens c.requires.tied c.labels.ensures.keeps is_statement c.in_ok-statement.field-0 (λ (n : Names). readers n c.args.depth Statements (drop c.in_ok-labels.next c.args.source.now.tokens.now.tokens)) c.in_ok-statement.ensures.answer c.in-Some.statement c.in-Some.end c.in-Some.is);
        there = (there_of c.statement.new.into is_statement c.args.source.now.tokens.now.tokens c.in_ok-statement.field-0 (readers (known_names g.R.TypeReader.types c.args.source.now c.labels.new.into) c.args.depth Statements (drop c.in_ok-labels.next c.args.source.now.tokens.now.tokens)) c.in_ok-statement.ensures.answer c.in-Some.statement c.in-Some.end c.in-Some.is);
      };
}

pub labelled-returns : goal.labelled-returns
labelled-returns g t c = record {
  keeps = extends_then c.args.into.now c.statement.new.into c.labelled_of.new.into (extends_then c.args.into.now c.labels.new.into c.statement.new.into c.labels.ensures.keeps c.statement.ensures.keeps) c.labelled_of.ensures.keeps;
  answer =
      let e : length c.in_ok-labels.labels.items ≡ vec_len c.in_ok-labels.labels = omega (arith, c.in_ok-labels.labels.ok.0) in
      moved _ _ _ _ _ _ (labelled_as (known_names g.R.TypeReader.types c.args.source.now c.args.into.now) c.args.depth (readers (known_names g.R.TypeReader.types c.args.source.now c.args.into.now) c.args.depth Statements) (drop c.args.at c.args.source.now.tokens.now.tokens) (trees_of c.labels.new.into.forest c.in_ok-labels.labels.items, (drop c.in_ok-labels.next c.args.source.now.tokens.now.tokens)) c.in_ok-labels.ensures.answer.is c.statement.new.into.forest _ c.deref.result.now c.in_ok-labels.labels.items (tree_at c.statement.new.into.forest c.in-Some.statement, (drop c.in-Some.end c.args.source.now.tokens.now.tokens)) c.line_at-line.ensures c.deref.ensures.value (trees_kept is_statement c.labels.new.into c.statement.new.into c.statement.ensures.keeps c.in_ok-labels.labels.items c.in_ok-labels.ensures.answer.there) (some_of c.labels.new.into.forest c.in_ok-labels.labels.items (ap (λ n. n == 0) e ∙ sym c.is_empty.ensures ∙ c.if-is_empty.false)) (later_some c.args.source.now.typedefs.now (g.R.TypeReader.types c.args.source.now.reader.now) c.args.into.now c.labels.new.into c.statement.new.into c.args.source.now.tokens.now.tokens c.requires.tied c.labels.ensures.keeps is_statement c.in_ok-statement.field-0 (λ (n : Names). readers n c.args.depth Statements (drop c.in_ok-labels.next c.args.source.now.tokens.now.tokens)) c.in_ok-statement.ensures.answer c.in-Some.statement c.in-Some.end c.in-Some.is)) c.labelled_of.ensures.ok;
}

pub labelled-labelled_of-requires-clause-place : goal.labelled-labelled_of-requires-clause-place
labelled-labelled_of-requires-clause-place g t c = (there_of c.statement.new.into is_statement c.args.source.now.tokens.now.tokens c.in_ok-statement.field-0 (readers (known_names g.R.TypeReader.types c.args.source.now c.labels.new.into) c.args.depth Statements (drop c.in_ok-labels.next c.args.source.now.tokens.now.tokens)) c.in_ok-statement.ensures.answer c.in-Some.statement c.in-Some.end c.in-Some.is).1

pub labelled-labelled_of-requires-clause-labels : goal.labelled-labelled_of-requires-clause-labels
labelled-labelled_of-requires-clause-labels g t c = subst (λ (ns : List NodeId). All (λ n. Is c.statement.new.into is_statement n) ns) (sym c.deref.ensures.value) (all_kept is_statement c.labels.new.into c.statement.new.into c.statement.ensures.keeps c.in_ok-labels.labels.items c.in_ok-labels.ensures.answer.there)

pub labelled-labelled_of-requires-clause-statement : goal.labelled-labelled_of-requires-clause-statement
labelled-labelled_of-requires-clause-statement g t c = (there_of c.statement.new.into is_statement c.args.source.now.tokens.now.tokens c.in_ok-statement.field-0 (readers (known_names g.R.TypeReader.types c.args.source.now c.labels.new.into) c.args.depth Statements (drop c.in_ok-labels.next c.args.source.now.tokens.now.tokens)) c.in_ok-statement.ensures.answer c.in-Some.statement c.in-Some.end c.in-Some.is).0

pub chosen-after-requires : goal.chosen-after-requires
chosen-after-requires g t c = c.requires.ready.place

pub chosen-found_statement-requires-clause-place : goal.chosen-found_statement-requires-clause-place
chosen-found_statement-requires-clause-place g t c = c.requires.ready.place

pub chosen-found_statement-requires-clause-children : goal.chosen-found_statement-requires-clause-children
chosen-found_statement-requires-clause-children g t c = (c.requires.condition, c.requires.body)

pub chosen-ends_open-requires : goal.chosen-ends_open-requires
chosen-ends_open-requires g t c = c.requires.body

pub chosen-found_statement-requires-then-ends_open-clause-place : goal.chosen-found_statement-requires-then-ends_open-clause-place
chosen-found_statement-requires-then-ends_open-clause-place g t c = c.requires.ready.place

pub chosen-found_statement-requires-then-ends_open-clause-children : goal.chosen-found_statement-requires-then-ends_open-clause-children
chosen-found_statement-requires-then-ends_open-clause-children g t c = (c.requires.condition, c.requires.body)

pub chosen-found_statement-requires-in-None-clause-place : goal.chosen-found_statement-requires-in-None-clause-place
chosen-found_statement-requires-in-None-clause-place g t c = c.requires.ready.place

pub for_loop-for_head-requires : goal.for_loop-for_head-requires
for_loop-for_head-requires g t c = c.requires

pub selection-condition-requires : goal.selection-condition-requires
selection-condition-requires g t c = c.requires

pub switch-condition-requires : goal.switch-condition-requires
switch-condition-requires g t c = c.requires

pub while_loop-condition-requires : goal.while_loop-condition-requires
while_loop-condition-requires g t c = c.requires

pub item-begins_type-requires : goal.item-begins_type-requires
item-begins_type-requires g t c = c.requires.place

pub item-declared-requires : goal.item-declared-requires
item-declared-requires g t c = c.requires

pub labelled-line_at-line-requires : goal.labelled-line_at-line-requires
labelled-line_at-line-requires g t c = c.requires.place

pub labelled-labels-requires : goal.labelled-labels-requires
labelled-labels-requires g t c = c.requires

pub statement-peek-requires : goal.statement-peek-requires
statement-peek-requires g t c = c.requires.place

pub statement-found_before-requires-clause-children : goal.statement-found_before-requires-clause-children
statement-found_before-requires-clause-children g t c = tt

pub statement-found_before-requires-in-Continue-clause-children : goal.statement-found_before-requires-in-Continue-clause-children
statement-found_before-requires-in-Continue-clause-children g t c = tt

pub statement-plain-requires : goal.statement-plain-requires
statement-plain-requires g t c = c.requires

pub statement-found_before-requires-clause-place : goal.statement-found_before-requires-clause-place
statement-found_before-requires-clause-place g t c = omega (arith, c.in-Some.ensures.1)

pub statement-found_before-requires-in-Continue-clause-place : goal.statement-found_before-requires-in-Continue-clause-place
statement-found_before-requires-in-Continue-clause-place g t c = omega (arith, c.in-Some.ensures.1)

pub statement-returned-requires : goal.statement-returned-requires
statement-returned-requires g t c = record { place = omega (arith, c.in-Some.ensures.1); tied = c.requires.tied }

pub braced-returns-in_err-items : goal.braced-returns-in_err-items
braced-returns-in_err-items g t c = record {
  keeps = c.items.ensures.keeps;
  answer = IfOk-from_err _ _ c.from_residual.ensures.0;
}

pub chosen-returns-in_err-other : goal.chosen-returns-in_err-other
chosen-returns-in_err-other g t c = record {
  keeps = c.statement.ensures.keeps;
  answer = IfOk-from_err _ _ c.from_residual.ensures.0;
}

pub do_loop-returns-in_err-body : goal.do_loop-returns-in_err-body
do_loop-returns-in_err-body g t c = record {
  keeps = c.statement.ensures.keeps;
  answer = IfOk-from_err _ _ c.from_residual.ensures.0;
}

pub for_loop-returns-in_err-head : goal.for_loop-returns-in_err-head
for_loop-returns-in_err-head g t c = record {
  keeps = c.for_head.ensures.keeps;
  answer = IfOk-from_err _ _ c.from_residual.ensures.0;
}

pub for_loop-returns-in_err-body : goal.for_loop-returns-in_err-body
for_loop-returns-in_err-body g t c = record {
  keeps = extends_then c.args.into.now c.for_head.new.into c.statement.new.into c.for_head.ensures.keeps c.statement.ensures.keeps;
  answer = IfOk-from_err _ _ c.from_residual-in_err-body.ensures.0;
}

pub items-returns-in_err-found : goal.items-returns-in_err-found
items-returns-in_err-found g t c = record {
  keeps = extends_then c.args.into.now c.loop-items.into c.item.new.into c.loop-items.invariant.keeps c.item.ensures.keeps;
  answer = IfOk-from_err _ _ c.from_residual.ensures.0;
}

pub items-returns-in_err-push : goal.items-returns-in_err-push
items-returns-in_err-push g t c = record {
  keeps = extends_then c.args.into.now c.loop-items.into c.item.new.into c.loop-items.invariant.keeps c.item.ensures.keeps;
  answer = IfOk-from_err _ _ c.from_residual-in_err-push.ensures.0;
}

pub labelled-returns-in_err-labels : goal.labelled-returns-in_err-labels
labelled-returns-in_err-labels g t c = record {
  keeps = c.labels.ensures.keeps;
  answer = IfOk-from_err _ _ c.from_residual.ensures.0;
}

pub labelled-returns-in_err-statement : goal.labelled-returns-in_err-statement
labelled-returns-in_err-statement g t c = record {
  keeps = extends_then c.args.into.now c.labels.new.into c.statement.new.into c.labels.ensures.keeps c.statement.ensures.keeps;
  answer = IfOk-from_err _ _ c.from_residual-in_err-statement.ensures.0;
}

pub selection-returns-in_err-condition : goal.selection-returns-in_err-condition
selection-returns-in_err-condition g t c = record {
  keeps = c.condition.ensures.keeps;
  answer = IfOk-from_err _ _ c.from_residual.ensures.0;
}

pub selection-returns-in_err-body : goal.selection-returns-in_err-body
selection-returns-in_err-body g t c = record {
  keeps = extends_then c.args.into.now c.condition.new.into c.statement.new.into c.condition.ensures.keeps c.statement.ensures.keeps;
  answer = IfOk-from_err _ _ c.from_residual-in_err-body.ensures.0;
}

pub switch-returns-in_err-value : goal.switch-returns-in_err-value
switch-returns-in_err-value g t c = record {
  keeps = c.condition.ensures.keeps;
  answer = IfOk-from_err _ _ c.from_residual.ensures.0;
}

pub switch-returns-in_err-block : goal.switch-returns-in_err-block
switch-returns-in_err-block g t c = record {
  keeps = extends_then c.args.into.now c.condition.new.into c.braced.new.into c.condition.ensures.keeps c.braced.ensures.keeps;
  answer = IfOk-from_err _ _ c.from_residual-in_err-block.ensures.0;
}

pub while_loop-returns-in_err-condition : goal.while_loop-returns-in_err-condition
while_loop-returns-in_err-condition g t c = record {
  keeps = c.condition.ensures.keeps;
  answer = IfOk-from_err _ _ c.from_residual.ensures.0;
}

pub while_loop-returns-in_err-body : goal.while_loop-returns-in_err-body
while_loop-returns-in_err-body g t c = record {
  keeps = extends_then c.args.into.now c.condition.new.into c.statement.new.into c.condition.ensures.keeps c.statement.ensures.keeps;
  answer = IfOk-from_err _ _ c.from_residual-in_err-body.ensures.0;
}

pub braced-block_of-requires-clause-place : goal.braced-block_of-requires-clause-place
braced-block_of-requires-clause-place g t c = c.in_ok-items.ensures.answer.place

pub braced-block_of-requires-clause-items : goal.braced-block_of-requires-clause-items
braced-block_of-requires-clause-items g t c = all_as c.items.new.into is_item _ _ c.deref.ensures.value c.in_ok-items.ensures.answer.there

pub statement-braced-requires : goal.statement-braced-requires
statement-braced-requires g t c κs within = (omega arith, (within, record { place = omega (arith, c.in-Some.ensures.1); tied = c.requires.tied }))

pub statement-selection-requires : goal.statement-selection-requires
statement-selection-requires g t c κs within = (omega arith, (within, record { place = omega (arith, c.in-Some.ensures.1); tied = c.requires.tied }))

pub statement-while_loop-requires : goal.statement-while_loop-requires
statement-while_loop-requires g t c κs within = (omega arith, (within, record { place = omega (arith, c.in-Some.ensures.1); tied = c.requires.tied }))

pub statement-do_loop-requires : goal.statement-do_loop-requires
statement-do_loop-requires g t c κs within = (omega arith, (within, record { place = omega (arith, c.in-Some.ensures.1); tied = c.requires.tied }))

pub statement-for_loop-requires : goal.statement-for_loop-requires
statement-for_loop-requires g t c κs within = (omega arith, (within, record { place = omega (arith, c.in-Some.ensures.1); tied = c.requires.tied }))

pub statement-switch-requires : goal.statement-switch-requires
statement-switch-requires g t c κs within = (omega arith, (within, record { place = omega (arith, c.in-Some.ensures.1); tied = c.requires.tied }))

pub chosen-statement-requires : goal.chosen-statement-requires
chosen-statement-requires g t c κs within = (omega arith, (within, record { place = c.in-Some.ensures.1; tied = c.requires.ready.tied }))

pub do_loop-statement-requires : goal.do_loop-statement-requires
do_loop-statement-requires g t c κs within = (omega arith, (within, c.requires))

pub item-statement-requires : goal.item-statement-requires
item-statement-requires g t c κs within = (omega arith, (within, c.requires))

pub item-labelled-requires : goal.item-labelled-requires
item-labelled-requires g t c κs within = (omega arith, (within, c.requires))

pub braced-items-requires : goal.braced-items-requires
braced-items-requires g t c κs within = (omega arith, (within, c.requires))

pub items-item-requires : goal.items-item-requires
items-item-requires g t c κs within = (omega arith, (within, record { place = c.loop-items.invariant.place; tied = c.loop-items.invariant.tied }))

pub switch-returns-then-below-eq0 : goal.switch-returns-then-below-eq0
switch-returns-then-below-eq0 g t c = record {
  keeps = c.condition.ensures.keeps;
  answer =
      nothing _ _ _ _ (switch_none (known_names g.R.TypeReader.types c.args.source.now c.args.into.now) c.args.below c.args.line (readers (known_names g.R.TypeReader.types c.args.source.now c.args.into.now) c.args.below SwitchBlocks) (drop c.args.at c.args.source.now.tokens.now.tokens) (tree_at c.condition.new.into.forest c.in-Some.value, (drop c.in-Some.next c.args.source.now.tokens.now.tokens)) (first_some c.condition.new.into is_expression c.args.source.now.tokens.now.tokens c.in_ok-value.field-0 (condition (known_names g.R.TypeReader.types c.args.source.now c.args.into.now) c.args.below (drop c.args.at c.args.source.now.tokens.now.tokens)) c.in_ok-value.ensures.answer c.in-Some.value c.in-Some.next c.in-Some.is) (sym (switch_zero (known_names g.R.TypeReader.types c.args.source.now c.args.into.now) c.args.below (drop c.in-Some.next c.args.source.now.tokens.now.tokens) c.if-below-eq0.true)));
}

pub switch-after-requires : goal.switch-after-requires
switch-after-requires g t c = (there_of c.condition.new.into is_expression c.args.source.now.tokens.now.tokens c.in_ok-value.field-0 (condition (known_names g.R.TypeReader.types c.args.source.now c.args.into.now) c.args.below (drop c.args.at c.args.source.now.tokens.now.tokens)) c.in_ok-value.ensures.answer c.in-Some.value c.in-Some.next c.in-Some.is).1

pub switch-returns-in_default-after : goal.switch-returns-in_default-after
switch-returns-in_default-after g t c = record {
  keeps = c.condition.ensures.keeps;
  answer =
      nothing _ _ _ _ (switch_none (known_names g.R.TypeReader.types c.args.source.now c.args.into.now) c.args.below c.args.line (readers (known_names g.R.TypeReader.types c.args.source.now c.args.into.now) c.args.below SwitchBlocks) (drop c.args.at c.args.source.now.tokens.now.tokens) (tree_at c.condition.new.into.forest c.in-Some.value, (drop c.in-Some.next c.args.source.now.tokens.now.tokens)) (first_some c.condition.new.into is_expression c.args.source.now.tokens.now.tokens c.in_ok-value.field-0 (condition (known_names g.R.TypeReader.types c.args.source.now c.args.into.now) c.args.below (drop c.args.at c.args.source.now.tokens.now.tokens)) c.in_ok-value.ensures.answer c.in-Some.value c.in-Some.next c.in-Some.is) (sym (switch_not (known_names g.R.TypeReader.types c.args.source.now c.args.into.now) c.args.below (drop c.in-Some.next c.args.source.now.tokens.now.tokens) (omega arith) c.in_default-after.ensures)));
}

pub switch-line_at-first-requires : goal.switch-line_at-first-requires
switch-line_at-first-requires g t c = (there_of c.condition.new.into is_expression c.args.source.now.tokens.now.tokens c.in_ok-value.field-0 (condition (known_names g.R.TypeReader.types c.args.source.now c.args.into.now) c.args.below (drop c.args.at c.args.source.now.tokens.now.tokens)) c.in_ok-value.ensures.answer c.in-Some.value c.in-Some.next c.in-Some.is).1

pub switch-braced-requires : goal.switch-braced-requires
switch-braced-requires g t c κs within = (omega arith, (within, record { place = c.in-Some-after.ensures.1; tied = tied_kept (g.R.TypeReader.types c.args.source.now.reader.now) c.args.into.now c.condition.new.into c.args.source.now.tokens.now.tokens c.requires.tied c.condition.ensures.keeps }))

pub do_loop-returns-in_default : goal.do_loop-returns-in_default
do_loop-returns-in_default g t c = record {
  keeps = c.statement.ensures.keeps;
  answer =
      nothing _ _ _ _ (do_none (known_names g.R.TypeReader.types c.args.source.now c.args.into.now) c.args.below c.args.line (readers (known_names g.R.TypeReader.types c.args.source.now c.args.into.now) c.args.below Statements) (drop c.args.at c.args.source.now.tokens.now.tokens) (first_none c.statement.new.into is_statement c.args.source.now.tokens.now.tokens c.in_ok-body.field-0 (readers (known_names g.R.TypeReader.types c.args.source.now c.args.into.now) c.args.below Statements (drop c.args.at c.args.source.now.tokens.now.tokens)) c.in_ok-body.ensures.answer c.in_default.is));
}

pub do_loop-after-requires : goal.do_loop-after-requires
do_loop-after-requires g t c = (there_of c.statement.new.into is_statement c.args.source.now.tokens.now.tokens c.in_ok-body.field-0 _ c.in_ok-body.ensures.answer c.in-Some.body c.in-Some.next c.in-Some.is).1

pub do_loop-returns-in_default-after : goal.do_loop-returns-in_default-after
do_loop-returns-in_default-after g t c = record {
  keeps = c.statement.ensures.keeps;
  answer =
      nothing _ _ _ _ (do_shut (known_names g.R.TypeReader.types c.args.source.now c.statement.new.into) c.args.below c.args.line (tree_at c.statement.new.into.forest c.in-Some.body) (drop c.in-Some.next c.args.source.now.tokens.now.tokens) c.in_default-after.ensures ∙ ap (λ (n : Names). do_end n c.args.below c.args.line (tree_at c.statement.new.into.forest c.in-Some.body) (drop c.in-Some.next c.args.source.now.tokens.now.tokens)) (names_kept c.args.source.now.typedefs.now (g.R.TypeReader.types c.args.source.now.reader.now) c.args.into.now c.statement.new.into c.args.source.now.tokens.now.tokens c.requires.tied c.statement.ensures.keeps) ∙ do_on (known_names g.R.TypeReader.types c.args.source.now c.args.into.now) c.args.below c.args.line (readers (known_names g.R.TypeReader.types c.args.source.now c.args.into.now) c.args.below Statements) (drop c.args.at c.args.source.now.tokens.now.tokens) (tree_at c.statement.new.into.forest c.in-Some.body, (drop c.in-Some.next c.args.source.now.tokens.now.tokens)) (first_some c.statement.new.into is_statement c.args.source.now.tokens.now.tokens c.in_ok-body.field-0 (readers (known_names g.R.TypeReader.types c.args.source.now c.args.into.now) c.args.below Statements (drop c.args.at c.args.source.now.tokens.now.tokens)) c.in_ok-body.ensures.answer c.in-Some.body c.in-Some.next c.in-Some.is));
}

pub do_loop-condition-requires : goal.do_loop-condition-requires
do_loop-condition-requires g t c = record { place = c.in-Some-after.ensures.1; tied = tied_kept (g.R.TypeReader.types c.args.source.now.reader.now) c.args.into.now c.statement.new.into c.args.source.now.tokens.now.tokens c.requires.tied c.statement.ensures.keeps }

pub do_loop-returns-in_err-value : goal.do_loop-returns-in_err-value
do_loop-returns-in_err-value g t c = record {
  keeps = extends_then c.args.into.now c.statement.new.into c.condition.new.into c.statement.ensures.keeps c.condition.ensures.keeps;
  answer = IfOk-from_err _ _ c.from_residual-in_err-value.ensures.0;
}

pub do_loop-found_before-requires-clause-place : goal.do_loop-found_before-requires-clause-place
do_loop-found_before-requires-clause-place g t c = (there_of c.condition.new.into is_expression c.args.source.now.tokens.now.tokens c.in_ok-value.field-0 _ c.in_ok-value.ensures.answer c.in-Some-2.value c.in-Some-2.end c.in-Some-2.is).1

pub do_loop-found_before-requires-clause-children : goal.do_loop-found_before-requires-clause-children
do_loop-found_before-requires-clause-children g t c = (is_kept c.statement.new.into c.condition.new.into is_statement c.in-Some.body c.condition.ensures.keeps (there_of c.statement.new.into is_statement c.args.source.now.tokens.now.tokens c.in_ok-body.field-0 _ c.in_ok-body.ensures.answer c.in-Some.body c.in-Some.next c.in-Some.is).0, (there_of c.condition.new.into is_expression c.args.source.now.tokens.now.tokens c.in_ok-value.field-0 _ c.in_ok-value.ensures.answer c.in-Some-2.value c.in-Some-2.end c.in-Some-2.is).0)

pub do_loop-returns-in-Some-2 : goal.do_loop-returns-in-Some-2
do_loop-returns-in-Some-2 g t c = record {
  keeps = extends_then c.args.into.now c.condition.new.into c.found_before.new.into (extends_then c.args.into.now c.statement.new.into c.condition.new.into c.statement.ensures.keeps c.condition.ensures.keeps) c.found_before.ensures.keeps;
  answer =
      moved _ _ _ _ _ _
      (ap (λ (t : Tree). option_map (λ (more : List Token). let y : Tree × List Token = (OfStatement (DoWhile c.args.line (as_statement t) (as_expression (tree_at c.condition.new.into.forest c.in-Some-2.value))), more) in y) (after is_semicolon (drop c.in-Some-2.end c.args.source.now.tokens.now.tokens))) (tree_kept c.statement.new.into c.condition.new.into c.in-Some.body c.condition.ensures.keeps (there_of c.statement.new.into is_statement c.args.source.now.tokens.now.tokens c.in_ok-body.field-0 _ c.in_ok-body.ensures.answer c.in-Some.body c.in-Some.next c.in-Some.is).0.0)
      ∙ do_so (known_names g.R.TypeReader.types c.args.source.now c.statement.new.into) c.args.below c.args.line (tree_at c.statement.new.into.forest c.in-Some.body) (drop c.in-Some.next c.args.source.now.tokens.now.tokens) (drop c.in-Some-after.inside c.args.source.now.tokens.now.tokens) c.in-Some-after.ensures.0 (tree_at c.condition.new.into.forest c.in-Some-2.value, drop c.in-Some-2.end c.args.source.now.tokens.now.tokens) (first_some c.condition.new.into is_expression c.args.source.now.tokens.now.tokens c.in_ok-value.field-0 (condition (known_names g.R.TypeReader.types c.args.source.now c.statement.new.into) c.args.below (drop c.in-Some-after.inside c.args.source.now.tokens.now.tokens)) c.in_ok-value.ensures.answer c.in-Some-2.value c.in-Some-2.end c.in-Some-2.is)
      ∙ ap (λ (n : Names). do_end n c.args.below c.args.line (tree_at c.statement.new.into.forest c.in-Some.body) (drop c.in-Some.next c.args.source.now.tokens.now.tokens)) (names_kept c.args.source.now.typedefs.now (g.R.TypeReader.types c.args.source.now.reader.now) c.args.into.now c.statement.new.into c.args.source.now.tokens.now.tokens c.requires.tied c.statement.ensures.keeps) ∙ do_on (known_names g.R.TypeReader.types c.args.source.now c.args.into.now) c.args.below c.args.line (readers (known_names g.R.TypeReader.types c.args.source.now c.args.into.now) c.args.below Statements) (drop c.args.at c.args.source.now.tokens.now.tokens) (tree_at c.statement.new.into.forest c.in-Some.body, (drop c.in-Some.next c.args.source.now.tokens.now.tokens)) (first_some c.statement.new.into is_statement c.args.source.now.tokens.now.tokens c.in_ok-body.field-0 (readers (known_names g.R.TypeReader.types c.args.source.now c.args.into.now) c.args.below Statements (drop c.args.at c.args.source.now.tokens.now.tokens)) c.in_ok-body.ensures.answer c.in-Some.body c.in-Some.next c.in-Some.is)) c.found_before.ensures.ok;
}

pub do_loop-returns-in-None : goal.do_loop-returns-in-None
do_loop-returns-in-None g t c = record {
  keeps = extends_then c.args.into.now c.statement.new.into c.condition.new.into c.statement.ensures.keeps c.condition.ensures.keeps;
  answer =
      nothing _ _ _ _ (do_unread (known_names g.R.TypeReader.types c.args.source.now c.statement.new.into) c.args.below c.args.line (tree_at c.statement.new.into.forest c.in-Some.body) (drop c.in-Some.next c.args.source.now.tokens.now.tokens) (drop c.in-Some-after.inside c.args.source.now.tokens.now.tokens) c.in-Some-after.ensures.0 (first_none c.condition.new.into is_expression c.args.source.now.tokens.now.tokens c.in_ok-value.field-0 (condition (known_names g.R.TypeReader.types c.args.source.now c.statement.new.into) c.args.below (drop c.in-Some-after.inside c.args.source.now.tokens.now.tokens)) c.in_ok-value.ensures.answer c.in-None.is) ∙ ap (λ (n : Names). do_end n c.args.below c.args.line (tree_at c.statement.new.into.forest c.in-Some.body) (drop c.in-Some.next c.args.source.now.tokens.now.tokens)) (names_kept c.args.source.now.typedefs.now (g.R.TypeReader.types c.args.source.now.reader.now) c.args.into.now c.statement.new.into c.args.source.now.tokens.now.tokens c.requires.tied c.statement.ensures.keeps) ∙ do_on (known_names g.R.TypeReader.types c.args.source.now c.args.into.now) c.args.below c.args.line (readers (known_names g.R.TypeReader.types c.args.source.now c.args.into.now) c.args.below Statements) (drop c.args.at c.args.source.now.tokens.now.tokens) (tree_at c.statement.new.into.forest c.in-Some.body, (drop c.in-Some.next c.args.source.now.tokens.now.tokens)) (first_some c.statement.new.into is_statement c.args.source.now.tokens.now.tokens c.in_ok-body.field-0 (readers (known_names g.R.TypeReader.types c.args.source.now c.args.into.now) c.args.below Statements (drop c.args.at c.args.source.now.tokens.now.tokens)) c.in_ok-body.ensures.answer c.in-Some.body c.in-Some.next c.in-Some.is));
}
