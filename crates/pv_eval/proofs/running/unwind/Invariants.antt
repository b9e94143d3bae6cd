use Rattle.std.proofs.Common.{◌≡◌, ℕ, List, length, All}
use Rattle.pv_eval.specs.declared.marked.Marked.{Marked}
use Rattle.pv_eval.specs.States.{Setting}
use Rattle.pv_eval.specs.Steps.{Calling}
use Rattle.pv_eval.specs.declared.frames.Now.TheVariants.{Value}
use Rattle.pv_eval.specs.Moments.{IsSetting, Stays, state_of, Follows}
use Rattle.pv_eval.specs.Ahead.{ahead, FrameFits, Matched}
use Rattle.pv_eval.proofs.running.unwind.Given as goal

abbrev pub invariant-frames : goal.invariant-frames
invariant-frames l = record {
  kept : (b : Setting) (out : List ℕ) (es : List Marked) → IsSetting b l.unit l.fn.moment → Follows l.fn.moment (length out) → (call : Calling) → ahead b call l.unit l.fn.frames.items l.fn.journal (Value l.fn.v) (state_of l.fn.moment out es) ≡ ahead b call l.unit l.frames.items l.journal (Value l.v) (state_of l.moment out es);
  stays : Stays l.fn.moment l.moment;
  frames : All (FrameFits l.unit) l.frames.items;
  matched : Matched l.frames.items l.journal;
}

abbrev pub decreases-frames : goal.decreases-frames
decreases-frames l = length l.frames.items
