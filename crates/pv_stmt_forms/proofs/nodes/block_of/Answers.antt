use Rattle.std.proofs.Common.{◌∙◌, ap, drop, length}
use Rattle.pv_tree.specs.Syntax.{Trees}
use Rattle.pv_tree.specs.Tables.{trees_of, is_item}
use Rattle.pv_expr_forms.proofs.Answered.{kept_same}
use Rattle.pv_decl_forms.proofs.Answered.{moved, nothing}
use Rattle.pv_decl_forms.proofs.Listing.{list_made, list_has}
use Rattle.pv_stmt_forms.specs.Parts.{block_tree}
use Rattle.pv_stmt_forms.proofs.Chains.{block_shut, block_so}
use Rattle.std.proofs.lemmas.Result.{IfOk-from_err}
use Rattle.pv_tree.proofs.Kept.{extends_same}
use Rattle.pv_stmt_forms.proofs.nodes.block_of.Goals as goal

pub returns-in_default-clause-ok : goal.returns-in_default-clause-ok
returns-in_default-clause-ok c = nothing _ _ _ _ (block_shut (block_tree c.args.within c.args.line) (trees_of c.args.into.now.forest c.args.items.now) (drop c.args.at c.args.tokens.now.tokens) c.in_default.ensures)

pub returns-in_err-items-clause-keeps : goal.returns-in_err-items-clause-keeps
returns-in_err-items-clause-keeps c = kept_same c.args.into.now c.add_list.new.self (c.in_err-items.ensures.unchanged)

pub found_statement-requires-clause-children : goal.found_statement-requires-clause-children
found_statement-requires-clause-children c = c.block_node.ensures.children c.add_list.new.self.forest (length c.add_list.new.self.forest.trees) (list_has c.args.into.now c.add_list.new.self c.args.items.now c.in_ok-items.items is_item c.in_ok-items.ensures.made.0 c.in_ok-items.ensures.made.1 c.requires.items)

pub returns-clause-ok : goal.returns-clause-ok
returns-clause-ok c =
    let listed = list_made c.args.into.now c.add_list.new.self c.args.items.now c.in_ok-items.items c.in_ok-items.ensures.made.0 c.in_ok-items.ensures.made.1 in
    moved _ _ _ _ _ _ (block_so (block_tree c.args.within c.args.line) (trees_of c.args.into.now.forest c.args.items.now) (drop c.args.at c.args.tokens.now.tokens) (drop c.in-Some.end c.args.tokens.now.tokens) _ c.in-Some.ensures.0 (c.block_node.ensures.is c.add_list.new.self.forest c.args.line ∙ ap (λ (ts : Trees). block_tree c.args.within c.args.line ts) listed)) c.found_statement.ensures.ok

pub after-requires : goal.after-requires
after-requires c = c.requires.place

pub returns-in_default-clause-keeps : goal.returns-in_default-clause-keeps
returns-in_default-clause-keeps c = extends_same _

pub returns-in_err-items-clause-ok : goal.returns-in_err-items-clause-ok
returns-in_err-items-clause-ok c = IfOk-from_err _ _ c.from_residual.ensures.0

pub found_statement-requires-clause-place : goal.found_statement-requires-clause-place
found_statement-requires-clause-place c = c.in-Some.ensures.1
