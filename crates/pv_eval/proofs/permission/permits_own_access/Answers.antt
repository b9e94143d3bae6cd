use Rattle.std.proofs.Common.{sym}
use Rattle.pv_eval.proofs.permission.permits_own_access.Goals as goal

pub returns-then-is_designated : goal.returns-then-is_designated
returns-then-is_designated c = sym (c.is_designated.ensures c.args.write c.if-is_designated.true)
