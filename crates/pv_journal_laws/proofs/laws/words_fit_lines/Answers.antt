use Rattle.pv_journal_laws.proofs.Running.{words_fit}
use Rattle.pv_journal_laws.proofs.laws.words_fit_lines.Goals as goal

pub returns : goal.returns
returns c = record { fit = words_fit }
