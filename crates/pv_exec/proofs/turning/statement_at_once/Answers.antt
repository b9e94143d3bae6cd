use Rattle.std.proofs.Common.{ap}
use Rattle.pv_exec.specs.Parts.{items_of}
use Rattle.pv_exec.specs.Tasks.{returned_of}
use Rattle.pv_exec.proofs.turning.statement_at_once.Goals as goal

pub drop_at_once-requires-clause-form : goal.drop_at_once-requires-clause-form
drop_at_once-requires-clause-form c = c.in-Expression.ensures.form

pub return_at_once-requires-clause-value : goal.return_at_once-requires-clause-value
return_at_once-requires-clause-value c = ap returned_of c.in-Return.ensures.form

pub block_at_once-requires-clause-value : goal.block_at_once-requires-clause-value
block_at_once-requires-clause-value c = ap items_of c.in-Block.ensures.form
