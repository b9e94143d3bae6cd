use Rattle.std.proofs.Common.{◌≡◌, drop}
use Rattle.pv_typed.specs.Tables.{whole_unit}
use Rattle.pv_unit.specs.Units.{has_main}
use Rattle.pv_unit.specs.UnitParts.{has_main_in}
use Rattle.pv_unit.proofs.resolving.has_main.Given as goal

abbrev pub invariant-loop-f : goal.invariant-loop-f
invariant-loop-f l = has_main_in l.into.names (drop l.f (whole_unit l.into).functions) ≡ has_main (whole_unit l.into)
