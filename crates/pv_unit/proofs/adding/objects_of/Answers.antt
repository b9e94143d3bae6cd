use Rattle.std.proofs.Common.{rules, ◌≡◌, ◌<◌, ◌++◌, length, get_or, arith}
use Rattle.pv_tree.specs.declared.nodes.NodeId.{NodeId}
use Rattle.pv_typed.specs.NodeTrees.{statement_at, IsStatement}
use Rattle.pv_typed.proofs.Each.{each_at}
use Rattle.pv_unit.specs.Statements.{declared_by}
use Rattle.pv_unit.proofs.BlockMade.{declared_more}
use Rattle.pv_unit.proofs.adding.objects_of.Goals as goal

abbrev no_id : NodeId
no_id = record { 0 = 0 }

pub add_declared-requires-clause-node : goal.add_declared-requires-clause-node
add_declared-requires-clause-node c =
    let ns = c.args.items.now in
    let lt : c.loop-n.n-index < length ns = omega arith in
    let here : IsStatement c.args.into.now (get_or ns c.loop-n.n-index no_id) = each_at (IsStatement c.args.into.now) no_id ns c.requires c.loop-n.n-index lt in
    search rules

pub loop-n-preserved : goal.loop-n-preserved
loop-n-preserved c =
    let ns = c.args.items.now in
    let lt : c.loop-n.n-index < length ns = omega arith in
    let one : c.add_declared.new.objects.items ≡ c.loop-n.objects.items ++ declared_by (statement_at c.args.into.now (get_or ns c.loop-n.n-index no_id)) = search rules in
    (declared_more c.args.into.now ns c.loop-n.n-index no_id c.loop-n.objects.items c.add_declared.new.objects.items lt c.loop-n.invariant.0 one, c.in_ok-add_declared.ensures.there)
