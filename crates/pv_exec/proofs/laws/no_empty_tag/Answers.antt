use Rattle.std.proofs.Common.{refl}
use Rattle.pv_typed.specs.Mains.{main_of}
use Rattle.pv_typed.specs.Tables.{whole_unit}
use Rattle.pv_exec.proofs.Mains.{some-function}
use Rattle.pv_exec.proofs.laws.no_empty_tag.Goals as goal

pub function-function-requires : goal.function-function-requires
function-function-requires c = some-function c.args.unit.now (main_of (whole_unit c.args.unit.now)) refl c.requires.main
