use Rattle.pv_numbering.proofs.UnitEntries.{has_tables}
use Rattle.pv_numbering.proofs.laws.each_unit_has_tables.Goals as goal

pub returns : goal.returns
returns c = has_tables
