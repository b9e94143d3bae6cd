use Rattle.std.proofs.Common.{List, subst, refl, sym, ap, ◌∙◌}
use Rattle.pv_check.specs.declared.derivations.Step.TheVariants.{Function}
use Rattle.pv_check.specs.declared.parameters.Parameter.{Parameter}
use Rattle.pv_check.specs.Declarators.{parameters_shown, steps_shown}
use Rattle.pv_check.specs.Derivations.{parameter_types}
use Rattle.pv_check.specs.Open.{state_of, ScopeKnown}
use Rattle.pv_check.specs.Raw.{RawScope, raw_of, raw_innermost}
use Rattle.pv_check.specs.Stepping.{AreSteps}
use Rattle.pv_check.proofs.Opening.{open_goes, inner_known, scope_stays}
use Rattle.pv_check.proofs.ParameterRows.{open_left, none_proper, function_more, parameters_known, if_known}
use Rattle.pv_check.proofs.Stepped.{known_append, steps_known}
use Rattle.pv_check.proofs.parameters.by_function.Goals as goal

pub returns-in_default-clause-answer : goal.returns-in_default-clause-answer
returns-in_default-clause-answer c = λ texts u.
    none_proper c.args.variadic (steps_shown c.args.into.now.known c.args.x) (parameters_shown c.args.into.now.known c.args.ps.items) (state_of texts u c.args.s.now c.args.into.now) c.in_default.ensures.answer

pub returns-clause-opened : goal.returns-clause-opened
returns-clause-opened c =
    open_left c.parameter_types.new.into c.args.s.now c.take_innermost-scope.new.self (open_goes c.args.into.now c.parameter_types.new.into c.args.s.now c.requires.opened c.in_ok-params.ensures.goes) c.requires.deep c.take_innermost-scope.ensures.left

pub returns-clause-known : goal.returns-clause-known
returns-clause-known c =
    let a = c.args.into.now in
    let b = c.parameter_types.new.into in
    let scope : ScopeKnown b (raw_of c.take_innermost-scope.result) =
    subst (λ (z : RawScope). ScopeKnown b z) (sym c.take_innermost-scope.ensures.scope) (scope_stays a b c.in_ok-params.ensures.goes (raw_innermost c.args.s.now.scopes) (inner_known a c.args.s.now c.requires.opened)) in (
      subst (AreSteps b.known) (sym c.in_ok-r.ensures.list) (known_append b.known c.args.x.list.items (Function c.in_ok-params.params c.args.variadic) (steps_known a b c.args.x.list.items c.in_ok-params.ensures.goes c.requires.steps.0) c.in_ok-params.ensures.number),
      c.in_ok-r.ensures.known b (parameters_known a b c.in-Some.list.items c.in_ok-params.ensures.goes c.in-Some.ensures.known, scope) (if_known a b c.args.x.signature c.in_ok-params.ensures.goes c.requires.steps.1),
    )

pub returns-clause-answer : goal.returns-clause-answer
returns-clause-answer c = λ texts u.
    let a = c.args.into.now in
    let b = c.parameter_types.new.into in
    let scope : ScopeKnown a (raw_of c.take_innermost-scope.result) = subst (λ (z : RawScope). ScopeKnown a z) (sym c.take_innermost-scope.ensures.scope) (inner_known a c.args.s.now c.requires.opened) in
    function_more texts u a b c.args.s.now c.take_innermost-scope.new.self c.args.variadic c.args.x c.in_ok-r.r c.args.ps.items
    (record { parameters = c.in-Some.list; variadic = c.args.variadic; scope = c.take_innermost-scope.result }) c.in_ok-params.params
    c.requires.opened c.in_ok-params.ensures.goes c.in_ok-params.ensures.whole
    c.requires.steps.0 c.requires.steps.1 (c.in-Some.ensures.known, scope) c.in-Some.ensures.answer refl c.take_innermost-scope.ensures.scope c.take_innermost-scope.ensures.left
    (c.in_ok-params.ensures.parameters ∙ ap (λ (qs : List Parameter). parameter_types (parameters_shown a.known qs)) c.deref.ensures.value)
    c.in_ok-r.ensures.list (c.in_ok-r.ensures.signature b.known)
