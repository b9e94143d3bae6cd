-- How the code goes on with an expression (C17 6.5), frame by frame: bridges from its stacks to what is ahead.
use Rattle.std.specs.Prelude.{◌≡◌, ◌<◌, ℕ, true, List, ◌∷◌, Result}
use Rattle.pv_typed.specs.Tables.{Stored}
use Rattle.pv_seq.specs.Sequencing.{Open}
use Rattle.pv_seq.specs.Rivals.{top, below}
use Rattle.pv_eval.specs.States.{Setting, State, Res, then_do}
use Rattle.pv_eval.specs.Sequenced.{Given}
use Rattle.pv_eval.specs.Steps.{Calling}
use Rattle.pv_eval.specs.Stack.{rest}
use Rattle.pv_eval.specs.Operations.{Op, act}
use Rattle.pv_eval.specs.Moments.{Moment, Always, Made, state_of}
use Rattle.pv_eval.specs.Frames.{after}
use Rattle.pv_eval.specs.Ahead.{means, ahead, stack, Kept}
use Rattle.pv_eval.specs.Machines.{Machine, Started, left_of, is_due, is_due_at}
use Rattle.pv_eval.specs.MachineSteps.{Stepped}
use Rattle.pv_eval.specs.declared.failure.Failure.{Failure}
use Rattle.pv_eval.specs.declared.frames.Frame.{Frame}
use Rattle.pv_eval.specs.declared.frames.Move.{Move}
use Rattle.pv_eval.specs.declared.frames.Now.{Now}
use Rattle.pv_eval.specs.declared.frames.Step.{Step}

-- what is ahead of the expression where its innermost node makes this move
abbrev pub ahead_by : Setting → Calling → Stored → List Frame → List Open → Move → State → Res Given
ahead_by b call u frames js m s = then_do (means b call u m (top js) s) (rest (after b call u) (stack frames (below js)))

-- the expression goes on, or ends the run; what is ahead is what was ahead
abbrev pub GoesOn : Stored → Now → Result Now Failure → (frames frames_now : List Frame) → (opens opens_now : List Open) → (old new : Moment) → Type 0
GoesOn u place r fs gs js ks old new =
    Always u old (λ b out es. (call : Calling) → Kept b call u (ahead b call u fs js place (state_of old out es)) r gs ks (state_of new out es))

-- the same by one step, where a turn that is due may be taken
abbrev pub GoesOnByStep : Stored → Now → Result Now Failure → (frames frames_now : List Frame) → (opens opens_now : List Open) → (old new : Moment) → Type 0
GoesOnByStep u place r fs gs js ks old new =
    Always u old (λ b out es. (call : Calling) → (is_due_at place ≡ true → old.taken < b.bound)
    → Kept b call u (ahead b call u fs js place (state_of old out es)) r gs ks (state_of new out es))

-- a step of an expression that was started, whatever others wait
abbrev pub StepsExpression : Stored → Result Step Failure → (was now : Started) → (old new : Moment) → Type 0
StepsExpression u r e f old new =
    Always u old (λ b out es. (call : Calling) (others : List Started) → (is_due_at e.place ≡ true → old.taken < b.bound)
    → Stepped b call u (ahead b call u e.frames e.opens e.place (state_of old out es)) r (f ∷ others) (state_of new out es))

-- a step of the innermost expression, where a turn that is due may be taken
abbrev pub StepsMachine : Stored → Result Step Failure → (old new : Machine) → Type 0
StepsMachine u r old new =
    Always u old.moment (λ b out es. (call : Calling) → (is_due old.started ≡ true → old.moment.taken < b.bound)
    → Stepped b call u (left_of b call u old.started (state_of old.moment out es)) r new.started (state_of new.moment out es))

-- an operation that gives nothing was made, whatever its line
abbrev pub MadeAnywhere : Stored → (Setting → Op) → Result (Unit {0}) Failure → (old new : Moment) → Type 0
MadeAnywhere u op r old new = Always u old (λ b out es. (line : ℕ) → Made (act b line (op b) (state_of old out es)) r (state_of new out es))
