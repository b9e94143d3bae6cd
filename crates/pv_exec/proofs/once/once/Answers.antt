use Rattle.pv_exec.proofs.Following.{goes-by}
use Rattle.pv_exec.proofs.once.once.Goals as goal

pub begin_operation-requires-clause-going : goal.begin_operation-requires-clause-going
begin_operation-requires-clause-going c = goes-by c.args.doing c.in_default.not-Left c.in_default.not-Evaluated
