use Rattle.std.proofs.Common.{◌∷◌, [], None, drop, ap}
use Rattle.std.proofs.lemmas.Result.{IfOk-from_err}
use Rattle.pv_tree.specs.Syntax.{TypeName, Trees}
use Rattle.pv_tree.specs.Tables.{is_specifier, Is}
use Rattle.pv_tree.proofs.Kept.{all_more, all_none, extends_then}
use Rattle.pv_expr_forms.proofs.Answered.{kept_same, kept_list}
use Rattle.pv_decl_forms.specs.Pieces.{part_if_any}
use Rattle.pv_decl_forms.specs.Reader.{made_of}
use Rattle.pv_decl_forms.proofs.Answered.{moved}
use Rattle.pv_decl_forms.proofs.Listing.{list_made, list_has}
use Rattle.pv_decl_forms.proofs.pieces.type_word_of.Goals as goal

pub returns-in_err-specs-clause-keeps : goal.returns-in_err-specs-clause-keeps
returns-in_err-specs-clause-keeps c = kept_same c.args.into.now c.add_single.new.self (c.in_err-specs.ensures.unchanged)

pub found_declaration-requires-clause-children : goal.found_declaration-requires-clause-children
found_declaration-requires-clause-children c = (
  list_has c.args.into.now c.add_single.new.self (c.args.spec ∷ []) c.in_ok-specs.specs is_specifier c.in_ok-specs.ensures.made.0 c.in_ok-specs.ensures.made.1 (all_more (Is c.args.into.now is_specifier) c.args.spec [] c.requires.spec (all_none (Is c.args.into.now is_specifier))),
  tt,
)

pub returns-clause-ok : goal.returns-clause-ok
returns-clause-ok c =
    let listed = list_made c.args.into.now c.add_single.new.self (c.args.spec ∷ []) c.in_ok-specs.specs c.in_ok-specs.ensures.made.0 c.in_ok-specs.ensures.made.1 in
    moved _ _ _ _ _ _ (ap (λ (ts : Trees). made_of (TypeName c.args.line) ts (part_if_any (drop c.args.at c.args.tokens.now.tokens) None)) listed) c.found_declaration.ensures.ok

pub returns-clause-keeps : goal.returns-clause-keeps
returns-clause-keeps c = extends_then _ _ _ (kept_list c.args.into.now c.add_single.new.self (c.args.spec ∷ []) c.in_ok-specs.ensures.made.0) c.found_declaration.ensures.keeps

pub returns-in_err-specs-clause-ok : goal.returns-in_err-specs-clause-ok
returns-in_err-specs-clause-ok c = IfOk-from_err _ _ c.from_residual.ensures.0
