use Rattle.std.proofs.Common.{arith}
use Rattle.pv_inst.specs.Table.{instance_at}
use Rattle.pv_types.specs.Known.{tree}
use Rattle.pv_typed.specs.Tables.{whole_unit}
use Rattle.pv_values.proofs.Adding.{value_some}
use Rattle.pv_values.proofs.values.+valued.Goals as goal

pub add_value-returns-in-Some : goal.add_value-returns-in-Some
add_value-returns-in-Some t c =
    value_some (whole_unit c.args.u.now) c.args.memory.now (instance_at c.args.memory.now.table.instances c.args.at.instance) c.args.levels _ c.args.at.offset
    (tree c.args.u.now.known c.args.t.0) c.args.u.now.known c.in-Some.shape _ _ _ _ (omega arith) c.in-Some.is c.in_ok-shape.ensures.shape c.add_shape.ensures
