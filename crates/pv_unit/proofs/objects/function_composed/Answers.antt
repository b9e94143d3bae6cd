use Rattle.std.proofs.Common.{sym, ap, ◌∙◌}
use Rattle.pv_types.specs.Known.{tree}
use Rattle.pv_typed.specs.TypedUnits.{TypedFunction}
use Rattle.pv_check.specs.Growing.{type_if}
use Rattle.pv_check.proofs.Opening.{then_goes}
use Rattle.pv_unit.proofs.Composites.{function_none, function_some}
use Rattle.pv_unit.proofs.objects.function_composed.Goals as goal

pub returns-in_default-clause-answer : goal.returns-in_default-clause-answer
returns-in_default-clause-answer c = λ texts u.
    function_none texts u c.args.into.now c.args.s.now c.args.f (tree c.args.into.now.known c.args.t.0) (tree c.args.into.now.known c.function-before.result.t.0)
    (ap (λ (x : TypedFunction). x.t) c.function-before.ensures.function) (ap (type_if c.composed.new.into.known) (sym c.in_default.is) ∙ c.in_ok-both.ensures.tree)

pub returns-clause-goes : goal.returns-clause-goes
returns-clause-goes c = then_goes c.args.into.now c.composed.new.into c.retyped_function.new.into c.in_ok-both.ensures.goes c.retyped_function.ensures.goes

pub returns-clause-answer : goal.returns-clause-answer
returns-clause-answer c = λ texts u.
    function_some texts u c.args.into.now c.composed.new.into c.retyped_function.new.into c.args.s.now c.args.f (tree c.args.into.now.known c.args.t.0) (tree c.args.into.now.known c.function-before.result.t.0) (tree c.composed.new.into.known c.in-Some.both.0)
    (ap (λ (x : TypedFunction). x.t) c.function-before.ensures.function) (ap (type_if c.composed.new.into.known) (sym c.in-Some.is) ∙ c.in_ok-both.ensures.tree)
    c.requires.opened c.in_ok-both.ensures.goes c.in_ok-both.ensures.whole (c.retyped_function.ensures.answer texts u)
