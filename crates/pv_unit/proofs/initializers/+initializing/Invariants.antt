use Rattle.std.proofs.Common.{◌*◌, ◌+◌}
use Rattle.pv_unit.specs.Stores.{stores_in}
use Rattle.pv_unit.proofs.Each.{Going}
use Rattle.pv_unit.proofs.initializers.+initializing.Given as goal

abbrev pub decreases-initializer : goal.decreases-initializer
decreases-initializer l = 2 * l.i.0 + 1

abbrev pub decreases-each : goal.decreases-each
decreases-each l = 2 * l.i.0

abbrev pub invariant-each-loop-n : goal.invariant-each-loop-n
invariant-each-loop-n l =
    Going l.lasting l.t.texts l.fn.into l.fn.s l.part l.u.forest l.list (stores_in l.fn.into l.fn.out.items) l.n-index l.into l.s l.out.items l.count
