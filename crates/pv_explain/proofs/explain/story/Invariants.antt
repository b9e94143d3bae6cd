use Rattle.std.proofs.Common.{◌≡◌, ◌++◌, false, drop}
use Rattle.pv_explain.proofs.Walks.{story_lines}
use Rattle.pv_explain.proofs.explain.story.Given as goal

abbrev pub invariant-loop-e : goal.invariant-loop-e
invariant-loop-e l = l.text.items ++ story_lines l.known.seen l.known.names l.s l.passed (drop l.e-index l.e-items) ≡ story_lines l.known.seen l.known.names l.s false l.known.seen
