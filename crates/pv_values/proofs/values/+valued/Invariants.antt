use Rattle.std.proofs.Common.{◌≡◌, ◌+◌, ◌*◌, ◌++◌, drop, map}
use Rattle.pv_inst.specs.Table.{instance_at}
use Rattle.pv_typed.specs.Tables.{whole_unit}
use Rattle.pv_values.specs.Values.{parts_text, value_at}
use Rattle.pv_values.specs.ShapeParts.{shown_part}
use Rattle.pv_values.proofs.values.+valued.Given as goal

abbrev pub decreases-add_value : goal.decreases-add_value
decreases-add_value l = l.levels * 2

abbrev pub decreases-add_shape : goal.decreases-add_shape
decreases-add_shape l = l.levels * 2 + 1

abbrev pub invariant-add_shape-loop-i : goal.invariant-add_shape-loop-i
invariant-add_shape-loop-i l =
    let value = value_at (whole_unit l.u) l.memory (instance_at l.memory.table.instances l.at.instance) l.levels in
    l.text.items ++ parts_text (whole_unit l.u) value l.at.offset l.i (map (shown_part l.u.known) (drop l.i l.shape.parts.items))
    ≡ l.initial.text.items ++ parts_text (whole_unit l.u) value l.at.offset 0 (map (shown_part l.u.known) l.shape.parts.items)
