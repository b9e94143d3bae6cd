use Rattle.std.proofs.Common.{◌<◌, length, arith}
use Rattle.pv_unit.specs.declared.library_types.Simple.TheVariants as simple
use Rattle.pv_unit.proofs.ListedTypes.{listed_done, listed_next}
use Rattle.pv_unit.proofs.library_types.listed.Goals as goal

pub loop-x-preserved : goal.loop-x-preserved
loop-x-preserved c =
    let lt : c.loop-x.x-index < length c.args.xs.now = omega arith in
    listed_next c.args.types.now c.loop-x.types c.simple_type.new.types c.args.xs.now c.loop-x.x-index c.loop-x.list.items c.push.new.self.items c.in_ok-t.t simple.Void
    c.loop-x.invariant lt c.in_ok-t.ensures.grows c.in_ok-t.ensures.known c.in_ok-t.ensures.tree c.in_ok-push.ensures.items

pub returns-clause-trees : goal.returns-clause-trees
returns-clause-trees c = listed_done c.args.types.now c.loop-x.types c.args.xs.now c.loop-x.x-index c.loop-x.list.items c.loop-x.invariant (omega arith)
