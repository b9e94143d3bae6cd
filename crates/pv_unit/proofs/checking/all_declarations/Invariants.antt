use Rattle.std.proofs.Common.{◌≡◌, Some, take}
use Rattle.pv_check.specs.Open.{IsOpen}
use Rattle.pv_unit.specs.Checking.{externals_in}
use Rattle.pv_unit.specs.Outside.{unit_state}
use Rattle.pv_unit.specs.There.{AreThere}
use Rattle.pv_unit.specs.Units.{typed_first}
use Rattle.pv_unit.proofs.checking.all_declarations.Given as goal

abbrev pub invariant-loop-i : goal.invariant-loop-i
invariant-loop-i l =
    IsOpen l.into l.s × AreThere l.into l.outer.entities
    × (typed_first (take l.i (externals_in l.u)) (unit_state l.t.texts l.fn.s l.fn.into l.fn.outer) ≡ Some (unit_state l.t.texts l.s l.into l.outer))
