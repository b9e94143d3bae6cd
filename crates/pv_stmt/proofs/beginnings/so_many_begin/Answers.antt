use Rattle.pv_stmt.proofs.Rows.{fewer_behind, whole_behind}
use Rattle.pv_stmt.proofs.beginnings.so_many_begin.Goals as goal

pub returns-clause-fewer : goal.returns-clause-fewer
returns-clause-fewer c = fewer_behind

pub returns-clause-whole : goal.returns-clause-whole
returns-clause-whole c = whole_behind
