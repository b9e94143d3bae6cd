-- A bridge: what operations print (C17 7.21.6.3), and what they do beside that.
use Rattle.std.specs.Prelude.{◌≡◌, ℕ, List, ◌++◌, length, Result, Err}
use Rattle.pv_watch.specs.declared.event.What.{What}
use Rattle.pv_world.specs.declared.got.Got.{Got}
use Rattle.pv_world.specs.declared.got.Failure.{Failure as WorldFailure}
use Rattle.pv_world.specs.declared.got.Failure.TheVariants.{NoMemory}
use Rattle.pv_world.specs.Worlds.{Worth, World}
use Rattle.pv_world.specs.Telling.{telling}
use Rattle.pv_world.specs.Doing.{Done, Answers, Fails, Breaks}
use Rattle.pv_world.specs.Coming.{Did, worth_of}
use Rattle.pv_eval.specs.declared.failure.Failure.{Failure}
use Rattle.pv_eval.specs.declared.marked.Marked.{Marked}
use Rattle.pv_eval.specs.States.{Setting, State, Res, Gives, Stops}
use Rattle.pv_eval.specs.Acting.{after_doing, pair_count}
use Rattle.pv_eval.specs.Moments.{Moment, Follows, Came, state_of}

-- 7.21.6.3: what is printed
abbrev pub text_in : Done → List ℕ
text_in (Answers v w t) = t.bytes
text_in (Fails y p w t) = t.bytes
text_in (Breaks y b w t) = t.bytes

-- 7.21.6.3: the same doing, where nothing is printed
abbrev pub silent : Done → Done
silent (Answers v w t) = Answers v w (telling t.events)
silent (Fails y p w t) = Fails y p w (telling t.events)
silent (Breaks y b w t) = Breaks y b w (telling t.events)

-- 7.21.6.3: a text behind what a state has printed, and behind what a piece of the run has
abbrev pub behind_text : List ℕ → State → State
behind_text text s = record s { output = s.output ++ text }

-- 7.21.6.3: the same of a piece of the run
abbrev pub with_text : List ℕ → Res Worth → Res Worth
with_text text (Gives v s) = Gives v (behind_text text s)
with_text text (Stops y s) = Stops y (behind_text text s)

-- after want of memory nothing is said of what is printed (7.21.6.3)
abbrev pub UnlessNoMemory : {A : Type 0} → Result A WorldFailure → Type 0 → Type 0
UnlessNoMemory (Err NoMemory) P = Unit {0}
UnlessNoMemory r P = P

-- 7.21.6.3: the operation was made, and this is its text, behind what was there
pub record Wrote (op : World → Done) (r : Result Got WorldFailure) (old new : World) (before after : List What) (had text : List ℕ) : Type 0 where
  pub did : Did worth_of (λ w. silent (op w)) r old new before after
  pub wrote : UnlessNoMemory r (text ≡ had ++ text_in (op old))

-- an operation that was so made of the node in this line, where there were so many pairs before it, is done in the run,
-- whatever was written and told before
abbrev pub Closed : (line pairs : ℕ) → (World → (World → Done) → Type 0) → (old : Moment) → Result Got Failure → (new : Moment) → Type 0
Closed line pairs P old r new =
    (b : Setting) (w : World) (op : World → Done) (out : List ℕ) (es : List Marked) → b.sides ≡ old.sides → pairs ≡ pair_count w → Follows old (length out) → P w op
    → Came (after_doing b line (op w) (state_of (record old { world = w }) out es)) r (state_of new out es)
