use Rattle.std.proofs.Common.{arith}
use Rattle.pv_libc.proofs.Putting.{digits_of_four}
use Rattle.pv_libc.proofs.blocks.number_of_four.Goals as goal

pub returns-clause-digits : goal.returns-clause-digits
returns-clause-digits c = digits_of_four _ c.args.a c.args.b c.args.c c.args.d (omega arith) (omega arith) (omega arith) (omega arith) (omega arith)
