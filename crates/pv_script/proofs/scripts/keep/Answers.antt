use Rattle.std.proofs.Common.{sym}
use Rattle.pv_script.specs.LineView.{line_view}
use Rattle.pv_script.proofs.Keys.{none_same}
use Rattle.pv_script.proofs.scripts.keep.Goals as goal

pub push-requires : goal.push-requires
push-requires c = none_same c.args.earlier.now (line_view c.args.next) (sym c.in_default.ensures)
