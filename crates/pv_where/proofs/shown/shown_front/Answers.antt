use Rattle.std.proofs.Common.{arith}
use Rattle.pv_where.proofs.Ending.{shown_whole}
use Rattle.pv_where.proofs.shown.shown_front.Goals as goal

pub returns-else-line-gt-SHOWN_MOST : goal.returns-else-line-gt-SHOWN_MOST
returns-else-line-gt-SHOWN_MOST c = shown_whole c.args.line.now (omega arith)
