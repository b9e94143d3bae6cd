use Rattle.std.proofs.Common.{rules, ◌≡◌, ◌∙◌, ◌<◌, ◌≤◌, IfSome, None, length, get_or, drop, ◌+◌, refl, sym, ap, false, arith}
use Rattle.pv_typed.proofs.Each.{each_at}
use Rattle.pv_check.specs.declared.parameters.Parameter.{Parameter}
use Rattle.pv_check.specs.Declarators.{ParameterKnown, parameters_shown}
use Rattle.pv_check.specs.Open.{state_of}
use Rattle.pv_check.proofs.ParameterRows.{parameters_known}
use Rattle.pv_unit.specs.Functions.{with_parameter, with_parameters}
use Rattle.pv_unit.proofs.FunctionRows.{parameters_from, parameters_none}
use Rattle.pv_unit.proofs.Moving.{moves_same, moves_on}
use Rattle.pv_unit.proofs.functions.add_parameters.Goals as goal

abbrev nobody : Parameter
nobody = record { t = record { 0 = 0 }; name = None; object = None }

pub loop-p-init : goal.loop-p-init
loop-p-init c = (moves_same c.args.into.now c.args.s.now c.requires.opened, refl, λ texts. refl)

pub add_parameter-requires-clause-object : goal.add_parameter-requires-clause-object
add_parameter-requires-clause-object c =
    let ps = c.args.parameters.now in
    let lt : c.loop-p.p-index < length ps = omega arith in
    let here : ParameterKnown c.loop-p.into (get_or ps c.loop-p.p-index nobody) = each_at (ParameterKnown c.loop-p.into) nobody ps (parameters_known c.args.into.now c.loop-p.into ps c.loop-p.invariant.0.goes c.requires.parameters) c.loop-p.p-index lt in
    let object : IfSome (get_or ps c.loop-p.p-index nobody).object (λ k. k < length c.loop-p.into.objects) = here.1 in
    search rules

pub loop-p-preserved : goal.loop-p-preserved
loop-p-preserved c =
    let ps = c.args.parameters.now in
    let i = c.loop-p.p-index in
    let s = c.args.s.now in
    let lt : i < length ps = omega arith in (
      moves_on c.args.into.now c.loop-p.into c.add_parameter.new.into s s s c.loop-p.invariant.0 c.in_ok-add_parameter.ensures.moves,
      c.in_ok-add_parameter.ensures.types ∙ c.loop-p.invariant.1,
      λ texts.
          let one : state_of texts false s c.add_parameter.new.into ≡ with_parameter c.args.f (get_or ps i nobody).object (state_of texts false s c.loop-p.into) = c.in_ok-add_parameter.ensures.state texts in
          ap (with_parameters c.args.f (parameters_shown c.args.into.now.known (drop (i + 1) ps))) one
          ∙ parameters_from c.args.into.now.known ps i c.args.f nobody (state_of texts false s c.loop-p.into) lt
          ∙ c.loop-p.invariant.2 texts,
    )

pub returns-clause-state : goal.returns-clause-state
returns-clause-state c = λ texts.
    let ps = c.args.parameters.now in
    let le : length ps ≤ c.loop-p.p-index = omega arith in
    sym (parameters_none c.args.into.now.known ps c.loop-p.p-index c.args.f (state_of texts false c.args.s.now c.loop-p.into) le) ∙ c.loop-p.invariant.2 texts
