use Rattle.std.proofs.Common.{ap}
use Rattle.pv_typed.specs.TypedUnits.{TypedObject}
use Rattle.pv_eval.proofs.codes.named_object.Goals as goal

pub returns-then-has_type-clause-object : goal.returns-then-has_type-clause-object
returns-then-has_type-clause-object c = (c.in-Object.ensures.form, ap (λ (x : TypedObject). x.lasting) c.object.ensures.object)

pub returns-then-has_type-clause-own : goal.returns-then-has_type-clause-own
returns-then-has_type-clause-own c = c.has_type.ensures c.if-has_type.true
