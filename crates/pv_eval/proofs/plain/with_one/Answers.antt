use Rattle.pv_typed.specs.TypedTree.{type_of}
use Rattle.pv_typed.specs.NodeTrees.{expression_at}
use Rattle.pv_eval.specs.Operations.{Negates, Selects}
use Rattle.pv_eval.specs.Plainly.{GivesAt, GivesWith, found_worth}
use Rattle.pv_eval.proofs.PlainSteps.{some_map}
use Rattle.pv_eval.proofs.PlainNumbers.{not_given, member_given, arrow_given}
use Rattle.pv_eval.proofs.plain.with_one.Goals as goal

pub returns-in-Not : goal.returns-in-Not
returns-in-Not c =
    let u = c.args.unit.now in
    let w = c.args.world.now in
    let t = type_of (expression_at u c.args.n) in
    let v = found_worth c.args.first in
    some_map (λ z. GivesAt w (λ b. Negates v) (found_worth z)) (λ z. GivesWith u w t c.args.x v (found_worth z)) c.negated.result
    (λ z h. not_given u w t c.args.x c.in-Not.field-0 v (found_worth z) c.in-Not.is h) c.negated.ensures

pub returns-in-Member : goal.returns-in-Member
returns-in-Member c =
    let u = c.args.unit.now in
    let w = c.args.world.now in
    let t = type_of (expression_at u c.args.n) in
    let v = found_worth c.args.first in
    some_map (λ z. GivesAt w (λ b. Selects c.in-Member.offset v) (found_worth z)) (λ z. GivesWith u w t c.args.x v (found_worth z)) c.part.result
    (λ z h. member_given u w t c.args.x c.in-Member.field-0 c.in-Member.offset v (found_worth z) c.in-Member.is h) c.part.ensures

pub returns-in-Arrow : goal.returns-in-Arrow
returns-in-Arrow c =
    let u = c.args.unit.now in
    let w = c.args.world.now in
    let t = type_of (expression_at u c.args.n) in
    let v = found_worth c.args.first in
    some_map (λ z. GivesAt w (λ b. Selects c.in-Arrow.offset v) (found_worth z)) (λ z. GivesWith u w t c.args.x v (found_worth z)) c.part-in-Arrow.result
    (λ z h. arrow_given u w t c.args.x c.in-Arrow.field-0 c.in-Arrow.offset v (found_worth z) c.in-Arrow.is h) c.part-in-Arrow.ensures
