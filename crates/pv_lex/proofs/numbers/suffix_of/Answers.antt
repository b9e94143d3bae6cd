use Rattle.pv_lex.specs.Constants.{suffixes}
use Rattle.pv_lex.proofs.numbers.suffix_of.Goals as goal

pub returns : goal.returns
unfolding suffixes
returns c = c.row_of.ensures
