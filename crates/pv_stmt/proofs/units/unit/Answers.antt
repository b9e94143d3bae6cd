use Rattle.std.proofs.Common.{arith}
use Rattle.pv_stmt_forms.proofs.OuterSteps.{spelled_by, only_by, refused_by}
use Rattle.pv_stmt.proofs.units.unit.Goals as goal

pub returns-clause-spelled : goal.returns-clause-spelled
returns-clause-spelled c = spelled_by c.read_all-read.new.into c.args.t.now.tokens c.in_ok-end.end c.in_ok-end.ensures.reads (omega (arith, c.if-end-len.false))

pub returns-clause-only : goal.returns-clause-only
returns-clause-only c = only_by c.read_all-read.new.into c.args.t.now.tokens c.in_ok-end.end c.in_ok-end.ensures.reads (omega (arith, c.if-end-len.false))

pub returns-then-end-len-clause-syntax : goal.returns-then-end-len-clause-syntax
returns-then-end-len-clause-syntax c = λ whole e. refused_by c.read_all-read.new.into c.args.t.now.tokens c.in_ok-end.end c.in_ok-end.ensures.reads (omega (arith, c.if-end-len.true)) c.count.result whole c.count.ensures cc
