use Rattle.pv_numbering.proofs.Numbering.{same-tables}
use Rattle.pv_numbering.proofs.laws.no_numbering_matters.Goals as goal

pub returns : goal.returns
returns c = λ u v same sides zap script n. same-tables u v same sides zap script n
