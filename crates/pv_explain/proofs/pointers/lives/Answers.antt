use Rattle.std.proofs.Common.{◌++◌, ap, ◌∙◌, refl}
use Rattle.pv_explain.specs.Told.{Told}
use Rattle.pv_explain.proofs.Walks.{life_lines, life_next, walk_ends}
use Rattle.pv_explain.proofs.pointers.lives.Goals as goal

pub loop-e-init : goal.loop-e-init
loop-e-init c =
    ap (λ l. l ++ life_lines c.args.known.now.seen c.args.known.now.names c.known.inside.seen.now) c.new-text.ensures.items
    ∙ ap (λ (t : Told). life_lines c.args.known.now.seen c.args.known.now.names t.seen) c.known.view_is

pub loop-e-preserved : goal.loop-e-preserved
loop-e-preserved c =
    life_next c.args.known.now.seen c.args.known.now.names c.known.inside.seen.now c.loop-e.e-index _ c.loop-e.text.items c.add_if.new.text.items c.is_of_pair.result _ c.loop-e-test.true
    c.is_of_pair.ensures c.in_ok-add_if.ensures c.loop-e.invariant

pub returns : goal.returns
returns c = walk_ends (life_lines c.args.known.now.seen c.args.known.now.names) c.known.inside.seen.now c.loop-e.e-index c.loop-e.text.items _ c.loop-e-test.false refl c.loop-e.invariant
