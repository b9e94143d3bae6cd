use Rattle.std.proofs.Common.{map}
use Rattle.pv_shown.specs.Recorded.{held_then}
use Rattle.pv_shown.proofs.Walks.{found_next, found_ends}
use Rattle.pv_shown.proofs.showing.put_each.Goals as goal

pub loop-x-preserved : goal.loop-x-preserved
loop-x-preserved c = λ names.
    found_next names c.args.n c.args.a c.args.lives.now c.loop-x.x-index _ (map (held_then names c.args.n) c.loop-x.found.items) (map (held_then names c.args.n) c.put_if.new.found.items) _
    c.loop-x-test.true (c.in_ok-put_if.ensures names) (c.loop-x.invariant names)

pub returns : goal.returns
returns c = λ names.
    found_ends names c.args.n c.args.a c.args.lives.now c.loop-x.x-index (map (held_then names c.args.n) c.loop-x.found.items) _ c.loop-x-test.false (c.loop-x.invariant names)
