use Rattle.pv_journal_laws.proofs.Namings.{units_named}
use Rattle.pv_journal_laws.proofs.laws.units_are_named.Goals as goal

pub returns : goal.returns
returns c = record { named = units_named }
