use Rattle.pv_lex.specs.Characters.{escapes}
use Rattle.pv_lex.proofs.literals.escape_letter.Goals as goal

pub returns : goal.returns
unfolding escapes
returns c = c.row_of.ensures
