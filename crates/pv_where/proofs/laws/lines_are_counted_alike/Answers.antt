use Rattle.pv_where.proofs.Leading.{row_line, token_line}
use Rattle.pv_where.proofs.laws.lines_are_counted_alike.Goals as goal

pub returns-clause-rows : goal.returns-clause-rows
returns-clause-rows c = row_line

pub returns-clause-tokens : goal.returns-clause-tokens
returns-clause-tokens c = token_line
