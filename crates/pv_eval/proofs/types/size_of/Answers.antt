use Rattle.std.proofs.Common.{sym, ap}
use Rattle.pv_types.specs.Layouts.{up_to}
use Rattle.pv_eval.specs.Sizes.{size_in}
use Rattle.pv_eval.proofs.Scalars.{integer_size}
use Rattle.pv_eval.proofs.types.size_of.Goals as goal

pub returns-in-Int : goal.returns-in-Int
returns-in-Int c = integer_size c.args.types.now c.args.t.0 c.in-Int.kind c.bytes_of.result c.in-Int.ensures.tree c.bytes_of.ensures.size c.bytes_of.ensures.few

pub returns-in-Pointer : goal.returns-in-Pointer
returns-in-Pointer c = sym (ap (λ t. up_to (size_in c.args.types.now t)) c.in-Pointer.ensures.tree)
