use Rattle.std.proofs.Common.{◌++◌, false, ap, ◌∙◌, refl}
use Rattle.pv_explain.specs.Told.{Told}
use Rattle.pv_explain.proofs.Walks.{story_lines, story_next, walk_ends}
use Rattle.pv_explain.proofs.explain.story.Goals as goal

pub loop-e-init : goal.loop-e-init
loop-e-init c =
    ap (λ l. l ++ story_lines c.args.known.now.seen c.args.known.now.names c.args.s.now false c.known.inside.seen.now) c.new-text.ensures.items
    ∙ ap (λ (t : Told). story_lines c.args.known.now.seen c.args.known.now.names c.args.s.now false t.seen) c.known.view_is

pub loop-e-preserved : goal.loop-e-preserved
loop-e-preserved c =
    story_next c.args.known.now.seen c.args.known.now.names c.args.s.now c.loop-e.passed c.is_fault-passed.result c.known.inside.seen.now c.loop-e.e-index _ c.loop-e.text.items c.add_if.new.text.items
    c.has_part.result _ c.loop-e-test.true c.has_part.ensures c.is_fault-passed.ensures c.in_ok-add_if.ensures c.loop-e.invariant

pub returns : goal.returns
returns c = walk_ends (story_lines c.args.known.now.seen c.args.known.now.names c.args.s.now c.loop-e.passed) c.known.inside.seen.now c.loop-e.e-index c.loop-e.text.items _ c.loop-e-test.false refl c.loop-e.invariant
