use Rattle.std.proofs.Common.{false, refl}
use Rattle.pv_unit.specs.Checking.{externals_in}
use Rattle.pv_unit.proofs.Beginnings.{first_open, first_state}
use Rattle.pv_unit.proofs.NamedUnits.{unit_identifiers}
use Rattle.pv_unit.proofs.checking.check.Goals as goal

pub filled-requires-clause-first : goal.filled-requires-clause-first
filled-requires-clause-first c =
    first_state c.args.t.now c.in_ok-into.into c.in_ok-s.s (record { entities = c.new.result; unsized_typedef = false }) c.in_ok-into.ensures c.in_ok-s.ensures c.new.ensures refl

pub filled-requires-clause-opened : goal.filled-requires-clause-opened
filled-requires-clause-opened c = first_open c.args.t.now c.in_ok-into.into c.in_ok-s.s c.in_ok-into.ensures c.in_ok-s.ensures

pub returns-in-Ok-clause-identified : goal.returns-in-Ok-clause-identified
returns-in-Ok-clause-identified c = unit_identifiers c.args.t.now (externals_in c.args.u.now) c.filled.new.into c.in-Ok.ensures.typed c.in-Ok.ensures.known
