use Rattle.std.proofs.Common.{arith}
use Rattle.pv_seq.proofs.Noting.{last_none, last_some}
use Rattle.pv_seq.proofs.notes.last_of.Goals as goal

pub returns-then-n-eq0 : goal.returns-then-n-eq0
returns-then-n-eq0 c = λ xs h. last_none xs c.args.last_writes.now h (omega (arith, c.if-n-eq0.true))

pub returns-else-n-eq0 : goal.returns-else-n-eq0
returns-else-n-eq0 c = λ xs h. last_some xs c.args.last_writes.now h (omega (arith, c.if-n-eq0.false))
