use Rattle.std.proofs.Common.{subst}
use Rattle.pv_shown.specs.Recorded.{EndsBy}
use Rattle.pv_shown.proofs.Parting.{leads_first, leads_more, leads_all, less_left}
use Rattle.pv_shown.proofs.blocks.ends_of.Goals as goal

pub left-init : goal.left-init
left-init c = leads_first c.args.lives.now _ c.new-ends.ensures.items

pub left-preserved : goal.left-preserved
left-preserved c =
    leads_more c.args.lives.now c.left.rest.now _ c.left.ends.items _ c.end_of.result (subst (EndsBy c.end_of.result) c.first_block.ensures.first c.end_of.ensures) c.first_block.ensures.others
    c.in_ok-push.ensures.items c.left.invariant

pub left-smaller : goal.left-smaller
left-smaller c = less_left c.left.rest.now _ _ c.first_block.ensures.others c.is_empty.ensures c.left-test.true

pub returns : goal.returns
returns c = leads_all c.args.lives.now c.left.rest.now c.left.ends.items c.left.invariant
