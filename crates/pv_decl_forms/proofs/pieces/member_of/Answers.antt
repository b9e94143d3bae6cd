use Rattle.std.proofs.Common.{◌∙◌, sym, drop}
use Rattle.std.proofs.lemmas.Result.{IfOk-from_err}
use Rattle.pv_tree.specs.Tables.{trees_of, trees_at, is_specifier, is_declarator}
use Rattle.pv_tree.proofs.Kept.{extends_then, extends_same}
use Rattle.pv_expr_forms.proofs.Answered.{kept_same, kept_list}
use Rattle.pv_decl_forms.proofs.Answered.{moved}
use Rattle.pv_decl_forms.proofs.Listing.{first_trees, second_trees, first_has, second_has, members_so}
use Rattle.pv_decl_forms.proofs.pieces.member_of.Goals as goal

pub returns-in_err-specs-clause-keeps : goal.returns-in_err-specs-clause-keeps
returns-in_err-specs-clause-keeps c = kept_same c.args.into.now c.add_list.new.self (c.in_err-specs.ensures.unchanged)

pub returns-in_err-declarators-clause-keeps : goal.returns-in_err-declarators-clause-keeps
returns-in_err-declarators-clause-keeps c =
    extends_then c.args.into.now c.add_list.new.self c.add_list-2.new.self
    (kept_list c.args.into.now c.add_list.new.self c.args.specs.now c.in_ok-specs.ensures.made.0)
    (kept_same c.add_list.new.self c.add_list-2.new.self (c.in_err-declarators.ensures.unchanged))

pub found_declaration-requires-clause-children : goal.found_declaration-requires-clause-children
found_declaration-requires-clause-children c = (
  first_has c.args.into.now c.add_list.new.self c.add_list-2.new.self c.args.specs.now c.args.declarators.now c.in_ok-specs.specs c.in_ok-declarators.declarators c.in_ok-specs.ensures.made.0 c.in_ok-specs.ensures.made.1 c.in_ok-declarators.ensures.made.0 c.in_ok-declarators.ensures.made.1 is_specifier c.requires.specs,
  second_has c.args.into.now c.add_list.new.self c.add_list-2.new.self c.args.specs.now c.args.declarators.now c.in_ok-specs.specs c.in_ok-declarators.declarators c.in_ok-specs.ensures.made.0 c.in_ok-specs.ensures.made.1 c.in_ok-declarators.ensures.made.0 c.in_ok-declarators.ensures.made.1 is_declarator c.requires.declarators,
)

pub returns-clause-ok : goal.returns-clause-ok
returns-clause-ok c =
    let first = first_trees c.args.into.now c.add_list.new.self c.add_list-2.new.self c.args.specs.now c.args.declarators.now c.in_ok-specs.specs c.in_ok-declarators.declarators c.in_ok-specs.ensures.made.0 c.in_ok-specs.ensures.made.1 c.in_ok-declarators.ensures.made.0 c.in_ok-declarators.ensures.made.1 in
    let second = second_trees c.args.into.now c.add_list.new.self c.add_list-2.new.self c.args.specs.now c.args.declarators.now c.in_ok-specs.specs c.in_ok-declarators.declarators c.in_ok-specs.ensures.made.0 c.in_ok-specs.ensures.made.1 c.in_ok-declarators.ensures.made.0 c.in_ok-declarators.ensures.made.1 in
    moved _ _ _ _ _ _ (members_so c.args.line (trees_of c.args.into.now.forest c.args.specs.now) (trees_at c.add_list-2.new.self.forest c.in_ok-specs.specs) (trees_at c.add_list-2.new.self.forest c.in_ok-declarators.declarators) c.args.into.now.forest c.args.declarators.now (drop c.args.at c.args.tokens.now.tokens) (drop c.in-Some.end c.args.tokens.now.tokens) (sym c.is_empty.ensures ∙ c.if-is_empty.false) c.in-Some.ensures.0 first second) c.found_declaration.ensures.ok

pub returns-then-is_empty-clause-keeps : goal.returns-then-is_empty-clause-keeps
returns-then-is_empty-clause-keeps c = extends_same _

pub after-requires : goal.after-requires
after-requires c = c.requires.place

pub returns-in_default-clause-keeps : goal.returns-in_default-clause-keeps
returns-in_default-clause-keeps c = extends_same _

pub found_declaration-requires-clause-place : goal.found_declaration-requires-clause-place
found_declaration-requires-clause-place c = c.in-Some.ensures.1

pub returns-clause-keeps : goal.returns-clause-keeps
returns-clause-keeps c = extends_then _ _ _ (extends_then _ _ _ (kept_list c.args.into.now c.add_list.new.self c.args.specs.now c.in_ok-specs.ensures.made.0) (kept_list c.add_list.new.self c.add_list-2.new.self c.args.declarators.now c.in_ok-declarators.ensures.made.0)) c.found_declaration.ensures.keeps

pub returns-in_err-specs-clause-ok : goal.returns-in_err-specs-clause-ok
returns-in_err-specs-clause-ok c = IfOk-from_err _ _ c.from_residual.ensures.0

pub returns-in_err-declarators-clause-ok : goal.returns-in_err-declarators-clause-ok
returns-in_err-declarators-clause-ok c = IfOk-from_err _ _ c.from_residual-in_err-declarators.ensures.0
