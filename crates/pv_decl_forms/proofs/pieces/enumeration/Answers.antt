use Rattle.std.proofs.Common.{◌∙◌, sym, ap, drop}
use Rattle.std.proofs.lemmas.Result.{IfOk-from_err}
use Rattle.pv_tree.specs.Tables.{is_declaration}
use Rattle.pv_tree.specs.Syntax.{Trees, OfSpecifier, Enumeration}
use Rattle.pv_tree.proofs.Kept.{extends_same, extends_then}
use Rattle.pv_expr_forms.proofs.Answered.{kept_same, kept_list}
use Rattle.pv_decl_forms.proofs.Answered.{moved}
use Rattle.pv_decl_forms.proofs.Listing.{list_made, braces_close, list_has}
use Rattle.pv_decl_forms.proofs.pieces.enumeration.Goals as goal

pub returns-in_err-enumerators-clause-keeps : goal.returns-in_err-enumerators-clause-keeps
returns-in_err-enumerators-clause-keeps c = kept_same c.args.into.now c.add_list.new.self (c.in_err-enumerators.ensures.unchanged)

pub returns-clause-ok : goal.returns-clause-ok
returns-clause-ok c =
    let listed = list_made c.args.into.now c.add_list.new.self c.args.enumerators.now c.in_ok-enumerators.enumerators c.in_ok-enumerators.ensures.made.0 c.in_ok-enumerators.ensures.made.1 in
    moved _ _ _ _ _ _ (braces_close (λ trees comma. OfSpecifier (Enumeration c.args.line c.args.tag trees comma)) c.args.into.now.forest c.args.enumerators.now (drop c.args.at c.args.tokens.now.tokens) c.comma_at-comma.result.0 (drop c.comma_at-comma.result.1 c.args.tokens.now.tokens) (drop c.in-Some.end c.args.tokens.now.tokens) _ (sym c.is_empty.ensures ∙ c.if-is_empty.false) c.comma_at-comma.ensures.is c.in-Some.ensures.0 (ap (λ (ts : Trees). OfSpecifier (Enumeration c.args.line c.args.tag ts c.comma_at-comma.result.0)) listed)) c.found_specifier.ensures.ok

pub returns-then-is_empty-clause-keeps : goal.returns-then-is_empty-clause-keeps
returns-then-is_empty-clause-keeps c = extends_same _

pub comma_at-comma-requires : goal.comma_at-comma-requires
comma_at-comma-requires c = c.requires.place

pub after-requires : goal.after-requires
after-requires c = c.comma_at-comma.ensures.place

pub returns-in_default-clause-keeps : goal.returns-in_default-clause-keeps
returns-in_default-clause-keeps c = extends_same _

pub found_specifier-requires-clause-place : goal.found_specifier-requires-clause-place
found_specifier-requires-clause-place c = c.in-Some.ensures.1

pub found_specifier-requires-clause-children : goal.found_specifier-requires-clause-children
found_specifier-requires-clause-children c = list_has c.args.into.now c.add_list.new.self c.args.enumerators.now c.in_ok-enumerators.enumerators is_declaration c.in_ok-enumerators.ensures.made.0 c.in_ok-enumerators.ensures.made.1 c.requires.enumerators

pub returns-clause-keeps : goal.returns-clause-keeps
returns-clause-keeps c = extends_then _ _ _ (kept_list c.args.into.now c.add_list.new.self c.args.enumerators.now c.in_ok-enumerators.ensures.made.0) c.found_specifier.ensures.keeps

pub returns-in_err-enumerators-clause-ok : goal.returns-in_err-enumerators-clause-ok
returns-in_err-enumerators-clause-ok c = IfOk-from_err _ _ c.from_residual.ensures.0
