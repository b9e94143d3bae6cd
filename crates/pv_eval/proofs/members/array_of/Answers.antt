use Rattle.std.proofs.Common.{refl}
use Rattle.pv_typed.specs.declared.nodes.Typed.TheVariants.{Subscript, ArrayPointer}
use Rattle.pv_eval.proofs.PlainCodes.{one_before, two_before}
use Rattle.pv_eval.proofs.members.array_of.Goals as goal

pub node-requires-2 : goal.node-requires-2
node-requires-2 c = (two_before c.args.unit.now c.args.a c.in-Subscript.first c.in-Subscript.field-1 (Subscript c.in-Subscript.first c.in-Subscript.field-1) c.requires c.in-Subscript.ensures.operands refl).0.0

pub returns : goal.returns
returns c =
    let u = c.args.unit.now in
    let first = c.in-Subscript.first in
    let row = Subscript first c.in-Subscript.field-1 in
    let there = (two_before u c.args.a first c.in-Subscript.field-1 row c.requires c.in-Subscript.ensures.operands refl).0.0 in
    (one_before u first c.in-ArrayPointer.whole (ArrayPointer c.in-ArrayPointer.whole) there c.in-ArrayPointer.ensures.operands refl).0
