use Rattle.pv_tree.specs.Tables.{expression_at}
use Rattle.pv_unit.proofs.ValueRows.{open_there}
use Rattle.pv_unit.proofs.Values.{value_moves}
use Rattle.pv_unit.proofs.rows.value_of.Goals as goal

pub returns-clause-there : goal.returns-clause-there
returns-clause-there c = open_there c.operand.new.into c.operand.new.s c.in_ok-r.r c.in_ok-r.ensures.open

pub returns-clause-moves : goal.returns-clause-moves
returns-clause-moves c =
    value_moves c.args.t.now.texts (expression_at c.args.u.now.forest c.args.a) c.args.into.now c.operand.new.into c.args.s.now c.operand.new.s c.in_ok-r.r c.in_ok-r.ensures.open c.in_ok-r.ensures.goes c.in_ok-r.ensures.typed
