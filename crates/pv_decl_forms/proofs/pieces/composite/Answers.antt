use Rattle.std.proofs.Common.{◌∙◌, sym, ap, drop, length}
use Rattle.std.proofs.lemmas.Result.{IfOk-from_err}
use Rattle.pv_tree.specs.Syntax.{SpecifierTree, Trees, OfSpecifier, Composite}
use Rattle.pv_tree.specs.Tables.{is_declaration}
use Rattle.pv_tree.proofs.Kept.{extends_same, extends_then}
use Rattle.pv_expr_forms.proofs.Answered.{kept_same, kept_list}
use Rattle.pv_decl_forms.specs.Parts.{word_of_composite}
use Rattle.pv_decl_forms.proofs.Answered.{moved}
use Rattle.pv_decl_forms.proofs.Listing.{list_made, list_has, row_close}
use Rattle.pv_decl_forms.proofs.pieces.composite.Goals as goal

pub returns-in_err-members-clause-keeps : goal.returns-in_err-members-clause-keeps
returns-in_err-members-clause-keeps c = kept_same c.args.into.now c.add_list.new.self (c.in_err-members.ensures.unchanged)

pub returns-clause-ok : goal.returns-clause-ok
returns-clause-ok c =
    let listed = list_made c.args.into.now c.add_list.new.self c.args.members.now c.in_ok-members.members c.in_ok-members.ensures.made.0 c.in_ok-members.ensures.made.1 in
    moved _ _ _ _ _ _ (row_close (λ trees. OfSpecifier (Composite c.args.line (word_of_composite c.args.word) c.args.tag trees)) c.args.into.now.forest c.args.members.now (drop c.args.at c.args.tokens.now.tokens) (drop c.in-Some.end c.args.tokens.now.tokens) _ (sym c.is_empty.ensures ∙ c.if-is_empty.false) c.in-Some.ensures.0 (ap (λ (s : SpecifierTree). OfSpecifier s) (c.composite_node.ensures.is c.add_list.new.self.forest c.args.line) ∙ ap (λ (ts : Trees). OfSpecifier (Composite c.args.line (word_of_composite c.args.word) c.args.tag ts)) listed)) c.found_specifier.ensures.ok

pub found_specifier-requires-clause-children : goal.found_specifier-requires-clause-children
found_specifier-requires-clause-children c = c.composite_node.ensures.children c.add_list.new.self.forest (length c.add_list.new.self.forest.trees) (list_has c.args.into.now c.add_list.new.self c.args.members.now c.in_ok-members.members is_declaration c.in_ok-members.ensures.made.0 c.in_ok-members.ensures.made.1 c.requires.members)

pub returns-then-is_empty-clause-keeps : goal.returns-then-is_empty-clause-keeps
returns-then-is_empty-clause-keeps c = extends_same _

pub after-requires : goal.after-requires
after-requires c = c.requires.place

pub returns-in_default-clause-keeps : goal.returns-in_default-clause-keeps
returns-in_default-clause-keeps c = extends_same _

pub found_specifier-requires-clause-place : goal.found_specifier-requires-clause-place
found_specifier-requires-clause-place c = c.in-Some.ensures.1

pub returns-clause-keeps : goal.returns-clause-keeps
returns-clause-keeps c = extends_then _ _ _ (kept_list c.args.into.now c.add_list.new.self c.args.members.now c.in_ok-members.ensures.made.0) c.found_specifier.ensures.keeps

pub returns-in_err-members-clause-ok : goal.returns-in_err-members-clause-ok
returns-in_err-members-clause-ok c = IfOk-from_err _ _ c.from_residual.ensures.0
