use Rattle.std.proofs.Common.{◌∙◌, ap, drop}
use Rattle.std.proofs.lemmas.Result.{IfOk-from_err}
use Rattle.pv_tree.specs.Syntax.{OptionalTree, Trees}
use Rattle.pv_tree.specs.Tables.{trees_at, optional_at, is_declarator, is_declaration}
use Rattle.pv_tree.proofs.Kept.{extends_same, extends_then}
use Rattle.pv_expr_forms.proofs.Answered.{kept_same, kept_list}
use Rattle.pv_decl_forms.specs.Parts.{function_of}
use Rattle.pv_decl_forms.proofs.Growing.{some_kept}
use Rattle.pv_decl_forms.proofs.Answered.{moved}
use Rattle.pv_decl_forms.proofs.Listing.{list_made, function_so, list_has}
use Rattle.pv_decl_forms.proofs.Constants.{optional_kept}
use Rattle.pv_decl_forms.proofs.pieces.function_of.Goals as goal

pub returns-in_err-parameters-clause-keeps : goal.returns-in_err-parameters-clause-keeps
returns-in_err-parameters-clause-keeps c = kept_same c.args.into.now c.add_list.new.self (c.in_err-parameters.ensures.unchanged)

pub returns-clause-ok : goal.returns-clause-ok
returns-clause-ok c =
    let listed = list_made c.args.into.now c.add_list.new.self c.args.parameters.now c.in_ok-parameters.parameters c.in_ok-parameters.ensures.made.0 c.in_ok-parameters.ensures.made.1 in
    let made = c.in_ok-parameters.ensures.made.0 in
    let left = optional_kept c.args.into.now c.add_list.new.self is_declarator c.args.left (kept_list c.args.into.now c.add_list.new.self c.args.parameters.now made) c.requires.left in
    moved _ _ _ _ _ _ (function_so (function_of c.args.line (optional_at c.args.into.now.forest c.args.left)) c.args.into.now.forest c.args.parameters.now (drop c.args.at c.args.tokens.now.tokens) (drop c.variadic_at-variadic.result.1 c.args.tokens.now.tokens) (drop c.in-Some.next c.args.tokens.now.tokens) c.variadic_at-variadic.result.0 _ (c.variadic_at-variadic.ensures.is c.args.into.now.forest) c.in-Some.ensures.0
    (c.function_node-function.ensures.is c.args.line
    ∙ ap (λ (o : OptionalTree). function_of c.args.line o (trees_at c.add_list.new.self.forest c.in_ok-parameters.parameters) c.variadic_at-variadic.result.0) left
    ∙ ap (λ (ts : Trees). function_of c.args.line (optional_at c.args.into.now.forest c.args.left) ts c.variadic_at-variadic.result.0) listed)) c.found_declarator.ensures.ok

pub variadic_at-variadic-requires : goal.variadic_at-variadic-requires
variadic_at-variadic-requires c = c.requires.place

pub after-requires : goal.after-requires
after-requires c = c.variadic_at-variadic.ensures.place

pub returns-in_default-clause-keeps : goal.returns-in_default-clause-keeps
returns-in_default-clause-keeps c = extends_same _

pub function_node-function-requires : goal.function_node-function-requires
function_node-function-requires c = some_kept c.args.into.now c.add_list.new.self is_declarator c.args.left (kept_list c.args.into.now c.add_list.new.self c.args.parameters.now c.in_ok-parameters.ensures.made.0) c.requires.left

pub found_declarator-requires-clause-place : goal.found_declarator-requires-clause-place
found_declarator-requires-clause-place c = c.in-Some.ensures.1

pub found_declarator-requires-clause-children : goal.found_declarator-requires-clause-children
found_declarator-requires-clause-children c = c.function_node-function.ensures.children (list_has c.args.into.now c.add_list.new.self c.args.parameters.now c.in_ok-parameters.parameters is_declaration c.in_ok-parameters.ensures.made.0 c.in_ok-parameters.ensures.made.1 c.requires.parameters)

pub returns-clause-keeps : goal.returns-clause-keeps
returns-clause-keeps c = extends_then _ _ _ (kept_list c.args.into.now c.add_list.new.self c.args.parameters.now c.in_ok-parameters.ensures.made.0) c.found_declarator.ensures.keeps

pub returns-in_err-parameters-clause-ok : goal.returns-in_err-parameters-clause-ok
returns-in_err-parameters-clause-ok c = IfOk-from_err _ _ c.from_residual.ensures.0
