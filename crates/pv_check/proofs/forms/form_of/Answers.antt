use Rattle.std.proofs.Common.{Option, nat_lt, sym, ap, ◌∙◌}
use Rattle.pv_tree.specs.Tables.{as_declarator, optional_at, declarator_at, tree_at, trees_at}
use Rattle.pv_tree.specs.TreeLines.{tree_line}
use Rattle.pv_check.specs.Derivations.{Steps}
use Rattle.pv_check.specs.Forms.{with_pointer}
use Rattle.pv_check.specs.Open.{state_of}
use Rattle.pv_check.specs.State.{After}
use Rattle.pv_typed.specs.Constants.{and_then}
use Rattle.pv_check.specs.Typing.{steps}
use Rattle.pv_check.proofs.FormRows.{present, sized, function_form, function_misplaced, abstract_form, abstract_misplaced}
use Rattle.pv_check.proofs.forms.form_of.Goals as goal

pub returns-in-Pointer-clause-answer : goal.returns-in-Pointer-clause-answer
returns-in-Pointer-clause-answer c = λ texts h.
    let f = c.args.u.now.forest in
    let s = state_of texts h c.args.s.now c.args.into.now in
    ap (λ (o : Option (After Steps)). and_then o (with_pointer (nat_lt 0 c.in-Pointer.consts))) (present f c.in-Pointer.declarator s c.in-Pointer.ensures.children.1)
    ∙ ap (λ x. steps (as_declarator x) s) (sym c.in-Pointer.ensures.tree)

pub returns-in-Array-clause-answer : goal.returns-in-Array-clause-answer
returns-in-Array-clause-answer c = λ texts h.
    let f = c.args.u.now.forest in
    let s = state_of texts h c.args.s.now c.args.into.now in
    ap (λ (o : Option (After Steps)). and_then o (sized (optional_at f c.in-Array.size))) (present f c.in-Array.declarator s c.in-Array.ensures.children.0.1)
    ∙ ap (λ x. steps (as_declarator x) s) (sym c.in-Array.ensures.tree)

pub returns-then-may_be_variadic-clause-answer : goal.returns-then-may_be_variadic-clause-answer
returns-then-may_be_variadic-clause-answer c = λ texts h.
    let f = c.args.u.now.forest in
    let s = state_of texts h c.args.s.now c.args.into.now in
    function_form f (tree_line (tree_at f c.args.n)) c.in-Function.declarator c.in-Function.parameters c.in-Function.variadic s c.in-Function.ensures.children.0.1
    (sym c.if-may_be_variadic.true ∙ c.may_be_variadic.ensures texts h)
    ∙ ap (λ x. steps (as_declarator x) s) (sym c.in-Function.ensures.tree)

pub returns-else-may_be_variadic-clause-answer : goal.returns-else-may_be_variadic-clause-answer
returns-else-may_be_variadic-clause-answer c = λ texts h.
    let f = c.args.u.now.forest in
    let s = state_of texts h c.args.s.now c.args.into.now in
    function_misplaced (tree_line (tree_at f c.args.n)) (declarator_at f c.in-Function.declarator) (trees_at f c.in-Function.parameters) c.in-Function.variadic s
    (sym c.if-may_be_variadic.false ∙ c.may_be_variadic.ensures texts h)
    ∙ ap (λ x. steps (as_declarator x) s) (sym c.in-Function.ensures.tree)

pub returns-then-variadic-clause-answer : goal.returns-then-variadic-clause-answer
returns-then-variadic-clause-answer c = λ texts h.
    let f = c.args.u.now.forest in
    let s = state_of texts h c.args.s.now c.args.into.now in
    abstract_misplaced (tree_line (tree_at f c.args.n)) (optional_at f c.in-AbstractFunction.declarator) (trees_at f c.in-AbstractFunction.parameters) c.in-AbstractFunction.variadic s c.if-variadic.true
    ∙ ap (λ x. steps (as_declarator x) s) (sym c.in-AbstractFunction.ensures.tree)

pub returns-else-variadic-clause-answer : goal.returns-else-variadic-clause-answer
returns-else-variadic-clause-answer c = λ texts h.
    let f = c.args.u.now.forest in
    let s = state_of texts h c.args.s.now c.args.into.now in
    abstract_form f (tree_line (tree_at f c.args.n)) c.in-AbstractFunction.declarator c.in-AbstractFunction.parameters c.in-AbstractFunction.variadic s c.if-variadic.false
    ∙ ap (λ x. steps (as_declarator x) s) (sym c.in-AbstractFunction.ensures.tree)
