use Rattle.std.proofs.Common.{subst}
use Rattle.pv_eval.specs.declared.members.Designated.{Designated}
use Rattle.pv_eval.specs.Designated.{IsDesignated}
use Rattle.pv_eval.proofs.Allowing.{own_permitted}
use Rattle.pv_eval.proofs.permission.is_designated.Goals as goal

pub returns-in-Object : goal.returns-in-Object
returns-in-Object c = λ write h.
    let own = subst (λ (q : Designated). IsDesignated c.args.unit.now q c.args.l.t) c.in-Object.is c.requires.own in
    own_permitted c.args.unit.now c.args.world.now c.in-Object.o c.args.l.t c.args.at.now write c.args.kind own (c.is_object.ensures h)

pub is_at_member-requires-clause-place : goal.is_at_member-requires-clause-place
is_at_member-requires-clause-place c = subst (λ (q : Designated). IsDesignated c.args.unit.now q c.args.l.t) c.in-Member.is c.requires.own

pub returns-in-Member : goal.returns-in-Member
returns-in-Member c = c.is_at_member.ensures
