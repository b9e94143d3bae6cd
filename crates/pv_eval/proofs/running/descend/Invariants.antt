use Rattle.std.proofs.Common.{◌≡◌, ◌≤◌, length, All}
use Rattle.pv_typed.specs.NodeTrees.{IsExpression}
use Rattle.pv_seq.specs.Sequencing.{open_against}
use Rattle.pv_seq.specs.Rivals.{top}
use Rattle.pv_eval.specs.States.{Setting, State}
use Rattle.pv_eval.specs.Steps.{Calling}
use Rattle.pv_eval.specs.declared.frames.Now.TheVariants.{Due}
use Rattle.pv_eval.specs.Ahead.{ahead, FrameFits, Matched}
use Rattle.pv_eval.proofs.running.descend.Given as goal

abbrev pub invariant-down : goal.invariant-down
invariant-down l = record {
  same : (b : Setting) (call : Calling) (s : State) → ahead b call l.unit l.fn.frames.items l.fn.journal (Due l.fn.n) s ≡ ahead b call l.unit l.frames.items l.journal (Due l.n) s;
  there : IsExpression l.unit l.n;
  some : 1 ≤ length l.journal;
  fresh : top l.journal ≡ open_against (top l.journal).foes;
  frames : All (FrameFits l.unit) l.frames.items;
  matched : Matched l.frames.items l.journal;
}

abbrev pub decreases-down : goal.decreases-down
decreases-down l = l.n.0
