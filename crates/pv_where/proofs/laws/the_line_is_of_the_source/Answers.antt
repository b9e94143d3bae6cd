use Rattle.pv_where.proofs.LineLaw.{line_stands}
use Rattle.pv_where.proofs.laws.the_line_is_of_the_source.Goals as goal

pub returns : goal.returns
returns c = line_stands
