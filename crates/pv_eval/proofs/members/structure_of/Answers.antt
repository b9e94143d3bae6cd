use Rattle.std.proofs.Common.{refl}
use Rattle.pv_typed.specs.declared.nodes.Typed.TheVariants.{Member, Arrow}
use Rattle.pv_eval.proofs.PlainCodes.{one_before}
use Rattle.pv_eval.proofs.members.structure_of.Goals as goal

pub type_of-requires : goal.type_of-requires
type_of-requires c = (one_before c.args.unit.now c.args.a c.in-Member.whole (Member c.in-Member.whole c.in-Member.offset) c.requires c.in-Member.ensures.operands refl).0

pub type_of-requires-in-Arrow : goal.type_of-requires-in-Arrow
type_of-requires-in-Arrow c = (one_before c.args.unit.now c.args.a c.in-Arrow.whole (Arrow c.in-Arrow.whole c.in-Arrow.offset) c.requires c.in-Arrow.ensures.operands refl).0
