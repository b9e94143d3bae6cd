use Rattle.std.proofs.Common.{ap}
use Rattle.pv_eval.specs.Sizes.{points}
use Rattle.pv_eval.proofs.types.accessed_scalar.Goals as goal

pub accessed_integer-requires-clause-integer : goal.accessed_integer-requires-clause-integer
accessed_integer-requires-clause-integer c = c.in-Int.ensures.tree

pub accessed_pointer-requires-clause-pointer : goal.accessed_pointer-requires-clause-pointer
accessed_pointer-requires-clause-pointer c = ap points c.in-Pointer.ensures.tree
