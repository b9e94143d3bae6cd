-- Calls as the code makes them (C17 6.5.2.2, 6.9.1): a bridge to execution.
use Rattle.std.specs.Prelude.{◌≡◌, ℕ, ◌+◌, ◌<◌, ◌≤◌, List, Result}
use Rattle.pv_typed.specs.TypedUnits.{TypedFunction, object_at, function_at}
use Rattle.pv_typed.specs.Tables.{Stored, whole_unit}
use Rattle.pv_world.specs.Worlds.{Worth}
use Rattle.pv_eval.specs.declared.failure.Failure.{Failure}
use Rattle.pv_eval.specs.States.{Setting, State, Res, Gives, then_do}
use Rattle.pv_eval.specs.TypeForms.{lvalue}
use Rattle.pv_eval.specs.Operations.{Makes, Puts, BeginsBody, act}
use Rattle.pv_eval.specs.Moments.{Always, state_of}
use Rattle.pv_eval.specs.Machines.{Machine, Started, asked_arguments, asked_line, answered_of, after_first}
use Rattle.pv_exec.specs.declared.task.Flow.{Flow}
use Rattle.pv_exec.specs.declared.task.Task.TheVariants as task
use Rattle.pv_exec.specs.declared.task.Doing.{Doing}
use Rattle.pv_exec.specs.declared.task.Doing.TheVariants as doing
use Rattle.pv_exec.specs.declared.task.Way.{Way}
use Rattle.pv_exec.specs.declared.task.Way.TheVariants as way
use Rattle.pv_exec.specs.OfRuns.{below, take_params, runs_body}
use Rattle.pv_exec.specs.Tasks.{Reached, Valued, left_flow, after_flow}
use Rattle.pv_exec.specs.Works.{flow_of, does, others, due}
use Rattle.pv_exec.specs.Leading.{Leads, LeadsOr}
use Rattle.pv_exec.specs.Fits.{DoingFits}

-- 6.9.1p10: one parameter is made and gets its argument
abbrev pub takes_one : Setting → (line o : ℕ) → Worth → State → Res Worth
takes_one b line o v s = then_do (act b line (Makes o) s) (λ x s. act b line (Puts o 0 (lvalue b (object_at b.unit o).t) v) s)

-- 6.9.1p10: what comes before the body of a function that is called
abbrev pub body_beginning : Setting → (line : ℕ) → TypedFunction → List Worth → State → Res Worth
body_beginning b line f vs s = then_do (act b line (BeginsBody f.name line) s) (λ x s. take_params b line f.params vs s)

-- 6.9.1p11: the body of a function is entered
pub record BodyIs (u : Stored) (f : ℕ) (d : Doing) : Type 0 where
  pub runs : (b : Setting) (k : ℕ) (es : List Started) (s : State) → b.unit ≡ whole_unit u → left_flow (runs_body b (below b k) (function_at b.unit f).body s) ≡ does b u k es d s
  pub here : (es : List Started) → others es d ≡ es
  pub counts : (es : List Started) → due es d ≡ 1
  pub fits : (es : List Started) → DoingFits u es d

-- 6.5.2.2: what is left of an expression that waits for a call, from the call on
abbrev pub calls : Setting → Stored → (level f : ℕ) → List Started → State → Res Reached
calls b u k f es s = then_do (then_do ((below b k).call f (asked_arguments es) (asked_line es) s) (answered_of b (below b k).call u es)) (λ g s. Gives (Valued g.value) s)

-- 6.9.1p11: a call that was handed up leads to the body of its function, one level lower
abbrev pub CallLed : Stored → (function : ℕ) → Result Way Failure → Machine → Machine → Type 0
CallLed u f r old new =
    Always u old.moment (λ b out es. (k : ℕ) → old.moment.taken ≤ b.bound → b.bound < old.moment.taken + k →
    LeadsOr b u (calls b u k f old.started (state_of old.moment out es)) (after_first old.started) r new.started (state_of new.moment out es))

-- 6.8.6.4p3, 6.9.1p12: a call whose body was left so: its expression goes on with its value
abbrev pub CallEnded : Stored → (function line : ℕ) → Flow → Machine → Machine → Type 0
CallEnded u f line fl old new =
    Always u old.moment (λ b out es. (k : ℕ) → old.moment.taken ≤ b.bound → b.bound < old.moment.taken + k →
    Leads b u (after_flow b u k old.started (task.InCall f line) (flow_of fl) (state_of old.moment out es)) (after_first old.started) (way.Do doing.Evaluate) new.started (state_of new.moment out es))
