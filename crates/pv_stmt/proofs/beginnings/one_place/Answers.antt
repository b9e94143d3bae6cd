use Rattle.pv_stmt.proofs.Rows.{place_one}
use Rattle.pv_stmt.proofs.beginnings.one_place.Goals as goal

pub returns : goal.returns
returns c = place_one
