use Rattle.std.proofs.Common.{refl, sym, subst}
use Rattle.std.specs.Prelude.{Option, IfSome}
use Rattle.pv_num.specs.declared.kinds.IntKind.{IntKind}
use Rattle.pv_eval.specs.Plainly.{found_worth}
use Rattle.pv_eval.specs.Codes.{RoundsBy}
use Rattle.pv_eval.proofs.plain_coded.rounded.Goals as goal

pub returns-in-None : goal.returns-in-None
returns-in-None c = subst (λ (o : Option IntKind). RoundsBy o (found_worth c.args.v) (found_worth c.args.v)) (sym c.in-None.is) refl

pub returns-in-Some : goal.returns-in-Some
returns-in-Some c = subst (λ (o : Option IntKind). IfSome c.rounded_number.result (λ z. RoundsBy o (found_worth c.args.v) (found_worth z))) (sym c.in-Some.is) c.rounded_number.ensures
