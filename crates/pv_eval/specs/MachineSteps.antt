-- What a call of the machine of expressions comes to (C17 6.5): a bridge from the expressions that the code has started to evaluation.
use Rattle.std.specs.Prelude.{◌≡◌, ℕ, ◌<◌, true, List, [], ◌∷◌, length, All, Result, Ok, Err}
use Rattle.pv_tree.specs.declared.nodes.NodeId.{NodeId}
use Rattle.pv_typed.specs.Known.{Each}
use Rattle.pv_typed.specs.Tables.{Stored}
use Rattle.pv_typed.specs.NodeTrees.{IsExpression}
use Rattle.pv_seq.specs.Sequencing.{open_against, sequence_point}
use Rattle.pv_seq.specs.Rivals.{top, below}
use Rattle.pv_world.specs.Worlds.{Worth}
use Rattle.pv_world.specs.Coming.{wrong_for}
use Rattle.pv_eval.specs.States.{Setting, State, Stopped, Res, Gives, Stops, then_do}
use Rattle.pv_eval.specs.Sequenced.{Given}
use Rattle.pv_eval.specs.Steps.{Calling}
use Rattle.pv_eval.specs.declared.failure.Failure.{Failure}
use Rattle.pv_eval.specs.declared.failure.Failure.TheVariants as failure
use Rattle.pv_eval.specs.declared.frames.Now.{Now}
use Rattle.pv_eval.specs.declared.frames.Now.TheVariants as now
use Rattle.pv_eval.specs.declared.frames.Step.{Step}
use Rattle.pv_eval.specs.declared.frames.Step.TheVariants as step
use Rattle.pv_eval.specs.Moments.{Moment, Follows}
use Rattle.pv_eval.specs.Ahead.{FrameFits, NowFits, Matched}
use Rattle.pv_eval.specs.Machines.{Started, left_of, answered_of, value_at, given_by, is_value, is_due, is_asked, is_ended, asked_arguments, asked_line}

-- an expression was begun: its node is due, nothing waits in it, and it has no accesses
abbrev pub IsBegun : NodeId → List Started → List Started → Type 0
IsBegun n [] old = ⊥
IsBegun n (e ∷ es) old = (e.root ≡ n) × (e.place ≡ now.Due n) × (e.frames ≡ []) × (e.opens ≡ open_against [] ∷ []) × (es ≡ old)

-- 6.5.2.2p10: the arguments of a call were taken
abbrev pub IsTaken : List Started → List Started → Type 0
IsTaken [] old = ⊥
IsTaken (e ∷ es) [] = ⊥
IsTaken (e ∷ es) (f ∷ fs) = (e.frames ≡ f.frames) × (e.opens ≡ f.opens) × (es ≡ fs)

-- 6.5.2.2p5, p10: a call was answered: it has this value, and what its arguments wrote is complete
abbrev pub IsAnswered : Worth → List Started → List Started → Type 0
IsAnswered v (e ∷ es) (f ∷ fs) = (e.frames ≡ f.frames) × (e.opens ≡ sequence_point (top f.opens) ∷ below f.opens) × (value_at e.place ≡ v) × (is_value e.place ≡ true) × (es ≡ fs)
IsAnswered v _ old = ⊥

-- the nodes that are named are expressions of the unit, and each that waits has its accesses (6.5p2)
pub record StartedFits (u : Stored) (e : Started) : Type 0 where
  pub root : IsExpression u e.root
  pub frames : All (FrameFits u) e.frames
  pub matched : Matched e.frames e.opens
  pub place : NowFits u e.place e.opens

-- the same of all that were started; each but the innermost waits for a call (6.5.2.2)
abbrev pub Fit : Stored → List Started → Type 0
Fit u es = Each (StartedFits u) es

-- 6.5p2: the innermost expression has accesses of its innermost node
abbrev pub IsOpen : List Started → Type 0
IsOpen [] = ⊥
IsOpen (e ∷ es) = Matched e.frames e.opens

-- what a step leads to, by where it leaves the expression
abbrev pub step_at : Now → Step
step_at (now.Due n) = step.More
step_at (now.Value v) = step.Done
step_at (now.Asked f args line) = step.Call f

-- what a step answers, of the rest before it
abbrev pub Stepped : Setting → Calling → Stored → Res Given → Result Step Failure → List Started → State → Type 0
Stepped b call u want (Ok step.More) es s = want ≡ left_of b call u es s
Stepped b call u want (Ok step.Done) es s = want ≡ Gives (given_by es) s
Stepped b call u want (Ok (step.Call f)) es s = want ≡ then_do (call f (asked_arguments es) (asked_line es) s) (answered_of b call u es)
Stepped b call u want (Err (failure.Stop y line)) es s = want ≡ Stops (Stopped (wrong_for y) line) s
Stepped b call u want (Err failure.NoMemory) es s = Unit {0}

-- where a step leaves the expression
abbrev pub WentTo : Stored → Step → List Started → Type 0
WentTo u step.More es = is_due es ≡ true
WentTo u step.Done es = is_ended es ≡ true
WentTo u (step.Call f) es = (is_asked es ≡ true) × (f < length u.functions)

-- the same setting (the memory model: the sides of a settled run), and no printed byte (7.21.6.3) is taken
pub record KeepsSetting (old new : Moment) : Type 0 where
  pub total : (taken : ℕ) → Follows old taken → Follows new taken
  pub sides : new.sides ≡ old.sides
