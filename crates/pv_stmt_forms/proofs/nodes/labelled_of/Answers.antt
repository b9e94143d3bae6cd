use Rattle.std.proofs.Common.{◌∙◌, ap, drop}
use Rattle.pv_token.specs.declared.token_table.Token.{Token}
use Rattle.std.specs.Prelude.{List, Some}
use Rattle.pv_tree.specs.Syntax.{Labelled, Tree, OfStatement, Trees}
use Rattle.pv_tree.specs.Tables.{as_statement, statement_at, trees_of, is_statement}
use Rattle.pv_tree.proofs.Kept.{tree_kept, is_kept}
use Rattle.pv_expr_forms.proofs.Answered.{kept_same, kept_list}
use Rattle.pv_decl_forms.proofs.Answered.{moved}
use Rattle.pv_decl_forms.proofs.Listing.{list_made, list_has}
use Rattle.std.proofs.lemmas.Result.{IfOk-from_err}
use Rattle.pv_stmt_forms.proofs.nodes.labelled_of.Goals as goal

pub returns-in_err-labels-clause-keeps : goal.returns-in_err-labels-clause-keeps
returns-in_err-labels-clause-keeps c = kept_same c.args.into.now c.add_list.new.self (c.in_err-labels.ensures.unchanged)

pub found_statement-requires-clause-children : goal.found_statement-requires-clause-children
found_statement-requires-clause-children c =
    let grows = kept_list c.args.into.now c.add_list.new.self c.args.labels.now c.in_ok-labels.ensures.made.0 in
    (list_has c.args.into.now c.add_list.new.self c.args.labels.now c.in_ok-labels.labels is_statement c.in_ok-labels.ensures.made.0 c.in_ok-labels.ensures.made.1 c.requires.labels, is_kept c.args.into.now c.add_list.new.self is_statement c.args.statement grows c.requires.statement)

pub returns-clause-ok : goal.returns-clause-ok
returns-clause-ok c =
    let grows = kept_list c.args.into.now c.add_list.new.self c.args.labels.now c.in_ok-labels.ensures.made.0 in
    let listed = list_made c.args.into.now c.add_list.new.self c.args.labels.now c.in_ok-labels.labels c.in_ok-labels.ensures.made.0 c.in_ok-labels.ensures.made.1 in
    let rest = drop c.args.end c.args.tokens.now.tokens in
    moved _ _ _ _ _ _
    (ap (λ (ts : Trees). let x : Tree × List Token = (OfStatement (Labelled c.args.line ts (statement_at c.add_list.new.self.forest c.args.statement)), rest) in Some x) listed
    ∙ ap (λ (t : Tree). let x : Tree × List Token = (OfStatement (Labelled c.args.line (trees_of c.args.into.now.forest c.args.labels.now) (as_statement t)), rest) in Some x) (tree_kept c.args.into.now c.add_list.new.self c.args.statement grows c.requires.statement.0)) c.found_statement.ensures.ok

pub returns-in_err-labels-clause-ok : goal.returns-in_err-labels-clause-ok
returns-in_err-labels-clause-ok c = IfOk-from_err _ _ c.from_residual.ensures.0

pub found_statement-requires-clause-place : goal.found_statement-requires-clause-place
found_statement-requires-clause-place c = c.requires.place
