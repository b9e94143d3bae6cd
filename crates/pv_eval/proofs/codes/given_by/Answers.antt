use Rattle.std.proofs.Common.{refl}
use Rattle.pv_typed.specs.declared.nodes.Typed.TheVariants.{ArrayPointer}
use Rattle.pv_eval.proofs.PlainCodes.{given_itself, given_array}
use Rattle.pv_eval.proofs.codes.given_by.Goals as goal

pub returns-in-ArrayPointer : goal.returns-in-ArrayPointer
returns-in-ArrayPointer c = given_array c.args.unit.now c.args.a c.in-ArrayPointer.array (ArrayPointer c.in-ArrayPointer.array) c.requires c.in-ArrayPointer.ensures.operands c.in-ArrayPointer.ensures.form refl

pub returns-in_default : goal.returns-in_default
returns-in_default c = given_itself c.args.unit.now c.args.a c.requires
