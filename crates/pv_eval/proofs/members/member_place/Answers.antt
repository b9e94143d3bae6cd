use Rattle.std.proofs.Common.{subst}
use Rattle.std.specs.Prelude.{IfSome}
use Rattle.pv_types.specs.Known.{Known}
use Rattle.pv_eval.specs.Designated.{IsMemberPlace}
use Rattle.pv_eval.proofs.members.member_place.Goals as goal

pub place_in-requires-clause-complete : goal.place_in-requires-clause-complete
place_in-requires-clause-complete c = c.in_ok-l.ensures.complete

pub place_in-requires-clause-scalar : goal.place_in-requires-clause-scalar
place_in-requires-clause-scalar c = c.is_bare_scalar.ensures c.if-not-is_bare_scalar.false

pub returns : goal.returns
returns c = subst (λ (m : Known). IfSome c.place_in.result (λ p. IsMemberPlace m p c.args.t)) c.types-types.ensures c.place_in.ensures
