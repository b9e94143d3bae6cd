use Rattle.std.proofs.Common.{rules, ◌≡◌, true, false, sym, ap, ◌∙◌, subst}
use Rattle.pv_types.specs.Ty.{Ty, FunctionTy}
use Rattle.pv_types.specs.Known.{Known, tree}
use Rattle.pv_types.specs.Formed.{parameters_at}
use Rattle.pv_typed.specs.Constants.{and_then}
use Rattle.pv_unit.specs.Definitions.{head_of, defined_once}
use Rattle.pv_unit.specs.Redeclarations.{function_declared}
use Rattle.pv_unit.specs.Outside.{unit_state}
use Rattle.pv_unit.proofs.HeadRows.{head_defined, head_refused}
use Rattle.pv_unit.proofs.heads.head_of.Goals as goal

pub returns-then-not-may_be_defined-clause-answer : goal.returns-then-not-may_be_defined-clause-answer
returns-then-not-may_be_defined-clause-answer c = λ texts g same.
    let a = c.args.into.now in
    let f = c.in-Function in
    let u = unit_state texts c.args.s.now a c.args.outer.now in
    let is : tree a.known c.args.t.0 ≡ FunctionTy (tree a.known f.result_type.0) (parameters_at a.known f.params) f.variadic = subst (λ (k : Known). tree k c.args.t.0 ≡ FunctionTy (tree k f.result_type.0) (parameters_at k f.params) f.variadic) c.types.ensures f.ensures.tree in
    let may : c.may_be_defined.result ≡ false = search rules in
    head_refused texts a c.args.s.now c.args.outer.now (tree a.known f.result_type.0) (parameters_at a.known f.params) f.variadic c.args.name c.args.line c.args.parameters.now g same
    (sym (c.may_be_defined.ensures texts c.args.s.now) ∙ may)
    ∙ ap (λ (y : Ty). head_of y g (c.args.name, c.args.line) u) (sym is)

pub returns-in_ok-r-in-Function-clause-answer : goal.returns-in_ok-r-in-Function-clause-answer
returns-in_ok-r-in-Function-clause-answer c = λ texts g same.
    let a = c.args.into.now in
    let f = c.in-Function in
    let u = unit_state texts c.args.s.now a c.args.outer.now in
    let returned = tree a.known f.result_type.0 in
    let is : tree a.known c.args.t.0 ≡ FunctionTy returned (parameters_at a.known f.params) f.variadic = subst (λ (k : Known). tree k c.args.t.0 ≡ FunctionTy (tree k f.result_type.0) (parameters_at k f.params) f.variadic) c.types.ensures f.ensures.tree in
    let may : c.may_be_defined.result ≡ true = search rules in
    head_defined texts a c.args.s.now c.args.outer.now returned (parameters_at a.known f.params) f.variadic c.args.name c.args.line c.args.parameters.now g _ same
    (sym (c.may_be_defined.ensures texts c.args.s.now) ∙ may)
    (c.in_ok-r-in-Function.ensures.answer texts g ∙ ap (λ (y : Ty). and_then (function_declared c.args.name c.args.line y u) (defined_once returned g)) is)
    ∙ ap (λ (y : Ty). head_of y g (c.args.name, c.args.line) u) (sym is)
