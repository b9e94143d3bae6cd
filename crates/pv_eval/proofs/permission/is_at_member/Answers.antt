use Rattle.std.proofs.Common.{sym, ◌∙◌}
use Rattle.pv_eval.proofs.MemberPlaces.{declared_permits}
use Rattle.pv_eval.proofs.permission.is_at_member.Goals as goal

pub returns : goal.returns
returns c = λ write h.
    declared_permits c.args.unit.now c.args.world.now c.in-Some.o c.args.l.t.0 c.args.at.now write c.args.kind (sym c.is_declared.ensures ∙ c.if-not-is_declared.false) (sym c.owner.ensures ∙ c.in-Some.is) c.requires.place.scalar
    (c.is_in_object.ensures h)
