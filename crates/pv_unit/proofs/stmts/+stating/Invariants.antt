use Rattle.std.proofs.Common.{◌*◌, ◌+◌}
use Rattle.pv_unit.proofs.ItemRows.{Along}
use Rattle.pv_unit.proofs.SwitchRows.{Along as AlongSwitch}
use Rattle.pv_unit.proofs.stmts.+stating.Given as goal

abbrev pub decreases-inner : goal.decreases-inner
decreases-inner l = 8 * l.n.0 + 7

abbrev pub decreases-statement : goal.decreases-statement
decreases-statement l = 8 * l.n.0 + 6

abbrev pub decreases-in_scope : goal.decreases-in_scope
decreases-in_scope l = 8 * l.n.0 + 5

abbrev pub decreases-scoped : goal.decreases-scoped
decreases-scoped l = 8 * l.n.0 + 4

abbrev pub decreases-if_statement : goal.decreases-if_statement
decreases-if_statement l = 8 * l.n.0 + 3

abbrev pub decreases-else_statement : goal.decreases-else_statement
decreases-else_statement l = 8 * l.n.0 + 3

abbrev pub decreases-while_statement : goal.decreases-while_statement
decreases-while_statement l = 8 * l.n.0 + 3

abbrev pub decreases-do_statement : goal.decreases-do_statement
decreases-do_statement l = 8 * l.n.0 + 3

abbrev pub decreases-for_statement : goal.decreases-for_statement
decreases-for_statement l = 8 * l.n.0 + 3

abbrev pub decreases-for_declaration : goal.decreases-for_declaration
decreases-for_declaration l = 8 * l.n.0 + 3

abbrev pub decreases-block_statement : goal.decreases-block_statement
decreases-block_statement l = 8 * l.n.0 + 3

abbrev pub decreases-switch_statement : goal.decreases-switch_statement
decreases-switch_statement l = 8 * l.n.0 + 3

abbrev pub decreases-all_items : goal.decreases-all_items
decreases-all_items l = 8 * l.n.0 + 2

abbrev pub decreases-item : goal.decreases-item
decreases-item l = 8 * l.n.0 + 7

abbrev pub decreases-switch_block : goal.decreases-switch_block
decreases-switch_block l = 8 * l.n.0 + 7

abbrev pub decreases-switch_body : goal.decreases-switch_body
decreases-switch_body l = 8 * l.n.0 + 6

abbrev pub decreases-switch_items : goal.decreases-switch_items
decreases-switch_items l = 8 * l.n.0 + 5

abbrev pub decreases-switch_item : goal.decreases-switch_item
decreases-switch_item l = 8 * l.n.0 + 8

abbrev pub decreases-labelled : goal.decreases-labelled
decreases-labelled l = 8 * l.n.0 + 7

abbrev pub decreases-under_labels : goal.decreases-under_labels
decreases-under_labels l = 8 * l.n.0 + 5

abbrev pub invariant-all_items-loop-node : goal.invariant-all_items-loop-node
invariant-all_items-loop-node l = Along l.t.texts l.w l.u.forest l.nodes l.fn.s l.fn.into l.node-index l.s l.into l.items.items

abbrev pub invariant-switch_items-loop-node : goal.invariant-switch_items-loop-node
invariant-switch_items-loop-node l = AlongSwitch l.t.texts l.w l.kind l.u.forest l.nodes l.fn.s l.fn.into l.node-index l.s l.into l.items.items l.labels
