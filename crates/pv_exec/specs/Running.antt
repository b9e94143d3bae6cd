-- How the statements of a run end, and the run: bridges from the code to the run of a unit (C17 5.1.2).
use Rattle.std.specs.Prelude.{◌≡◌, ℕ, ◌+◌, List, [], ◌++◌, length, None, Some, Result, Ok, Err, OnOk}
use Rattle.std.specs.declared.option.Option.{Option}
use Rattle.pv_typed.specs.TypedUnits.{function_at}
use Rattle.pv_typed.specs.Mains.{main_of}
use Rattle.pv_typed.specs.Tables.{Stored}
use Rattle.pv_world.specs.Worlds.{Worth}
use Rattle.pv_world.specs.Coming.{worth_of, wrong_for}
use Rattle.pv_eval.specs.declared.failure.Failure.TheVariants as failure
use Rattle.pv_eval.specs.declared.marked.Marked.{Marked}
use Rattle.pv_eval.specs.States.{Setting, State, Turns, Stopped, Res, Gives, Stops, then_do, end_of}
use Rattle.pv_eval.specs.Moments.{Moment, IsSetting, Follows, Always, state_of}
use Rattle.pv_eval.specs.Operations.{EndsBody, act}
use Rattle.pv_eval.specs.Machines.{Machine}
use Rattle.pv_exec.specs.declared.delivering.Undelivered.{Undelivered}
use Rattle.pv_exec.specs.declared.delivering.Undelivered.TheVariants as undelivered
use Rattle.pv_exec.specs.declared.running.Ended.{Ended}
use Rattle.pv_exec.specs.declared.running.Ended.TheVariants as ended
use Rattle.pv_exec.specs.declared.running.Broken.{Broken}
use Rattle.pv_exec.specs.declared.running.Broken.TheVariants as broken
use Rattle.pv_exec.specs.declared.once.Last.{Last}
use Rattle.pv_exec.specs.declared.task.Doing.{Doing}
use Rattle.pv_exec.specs.declared.task.Flow.{Flow}
use Rattle.pv_exec.specs.OfRuns.{end_all, below, call_body, prepare, call_main}
use Rattle.pv_exec.specs.Calls.{value_by}
use Rattle.pv_exec.specs.Tasks.{Reached}
use Rattle.pv_exec.specs.Works.{flow_of, Holds}
use Rattle.pv_exec.specs.Leading.{LastIs}
use Rattle.pv_exec.specs.Streaming.{Streams, Begins}
use Rattle.pv_exec.specs.Outlets.{Outlet}
use Rattle.pv_exec.specs.Stages.{with_bound, IsStaged, StandsOr}

-- the setting stays (the memory model: the sides of a settled run), and of what was printed (7.21.6.3) these bytes have left
pub record KeepsApart (bytes : List ℕ) (old new : Moment) : Type 0 where
  pub total : (taken : ℕ) → Follows old taken → Follows new (taken + length bytes)
  pub sides : new.sides ≡ old.sides

-- why a run that was broken off has no outcome (5.1.2.2.3p1); one that an operation ended (as by undefined behaviour, 3.4.3) has one
abbrev pub lost_by : Broken → Option Undelivered
lost_by (broken.Operation (failure.Stop y line)) = None
lost_by (broken.Operation failure.NoMemory) = Some undelivered.NoMemory
lost_by (broken.Delivery e) = Some e

-- why a run could not go on, and has no outcome (5.1.2.2.3p1)
abbrev pub failure_of : {A : Type 0} → Result A Broken → Option Undelivered
failure_of (Ok a) = None
failure_of (Err e) = lost_by e

-- how a run was broken off, where these bytes and events have left it: an operation ended it (as by undefined behaviour, 3.4.3), or what has
-- left is a first part of what leaves it in all
abbrev pub BrokenIs : {A : Type 0} → Res A → Broken → Moment → List ℕ → List Marked → Type 0
BrokenIs r (broken.Operation (failure.Stop y line)) m out es = r ≡ Stops (Stopped (wrong_for y) line) (state_of m out es)
BrokenIs r (broken.Operation failure.NoMemory) m out es = Begins out es (end_of r)
BrokenIs r (broken.Delivery e) m out es = Begins out es (end_of r)

-- how the whole that was asked for ended, or what broke it off (6.8p2)
abbrev pub LastOr : Res Reached → Result Last Broken → Machine → List ℕ → List Marked → Type 0
LastOr all (Ok l) m out es = LastIs all l m.started (state_of m.moment out es)
LastOr all (Err e) m out es = BrokenIs all e m.moment out es

-- under this bound the statements are cut off in this state, whatever was asked for with them
abbrev pub StatementsCut : Setting → Stored → Doing → Machine → (bound : ℕ) → State → Type 0
StatementsCut b u d old n s = (all : Res Reached) → Holds (with_bound b n) u all [] old.started d (state_of old.moment [] []) → all ≡ Stops Turns s

-- how the statements ended (6.8p2), with what has left the run meanwhile (5.1.2.3p6)
pub record StatementsLed (u : Stored) (before now : Outlet) (n : ℕ) (d : Doing) (r : Result Last Broken) (old new : Machine) : Type 0 where
  pub bytes : List ℕ
  pub events : List Marked
  pub streams : Streams (failure_of r) before now u.names bytes events
  pub keeps : OnOk r (KeepsApart bytes old.moment new.moment)
  pub led : Always u old.moment (λ b out es. (all : Res Reached) → b.bound ≡ n → Holds b u all [] old.started d (state_of old.moment out es) → LastOr all r new (out ++ bytes) (es ++ events))
  pub stands : (b : Setting) (stage : ℕ → State) → IsSetting b u old.moment → Follows old.moment 0 → IsStaged (StatementsCut b u d old) stage → StandsOr (failure_of r) stage new.moment.taken bytes events

-- 5.1.2.2.3p1: how a run ended, where these bytes and events have left it
abbrev pub EndedIs : Res Worth → Result Ended Broken → Moment → List ℕ → List Marked → Type 0
EndedIs r (Ok (ended.Value v)) m out es = r ≡ Gives (worth_of v) (state_of m out es)
EndedIs r (Ok ended.Turns) m out es = r ≡ Stops Turns (state_of m out es)
EndedIs r (Err e) m out es = BrokenIs r e m out es

-- whatever else failed, no write did (docs/FORMATS.md, status 12)
abbrev pub IsCalm : Result Ended Broken → Type 0
IsCalm (Ok x) = Unit {0}
IsCalm (Err (broken.Operation e)) = Unit {0}
IsCalm (Err (broken.Delivery undelivered.NoMemory)) = Unit {0}
IsCalm (Err (broken.Delivery undelivered.WriteFault)) = ⊥

-- 6.9.1p12, 6.2.4p6: what follows the body of a function that no expression waits for
abbrev pub ends_call : Setting → (function line : ℕ) → Flow → State → Res Worth
ends_call b f line fl s = then_do (end_all b (function_at b.unit f).params s) (λ x s. then_do (act b line EndsBody s) (λ x s. Gives (value_by b (function_at b.unit f) (flow_of fl)) s))

-- 5.1.2.2.3p1: how the run ends once the body of `main` was left so
abbrev pub EndLed : Stored → (function : ℕ) → Flow → Result Ended Broken → Machine → Machine → Type 0
EndLed u f fl r old new = Always u old.moment (λ b out es. (line : ℕ) → EndedIs (ends_call b f line fl (state_of old.moment out es)) r new.moment out es)

-- under this bound a piece of the run is cut off in this state
abbrev pub PieceCut : Setting → (piece : Setting → State → Res Worth) → Machine → (bound : ℕ) → State → Type 0
PieceCut b piece old n s = piece (with_bound b n) (state_of old.moment [] []) ≡ Stops Turns s

-- how a piece of the run ended, with what has left the run meanwhile (5.1.2.3p6)
pub record PieceLed (u : Stored) (before now : Outlet) (n : ℕ) (piece : Setting → State → Res Worth) (r : Result Ended Broken) (old new : Machine) : Type 0 where
  pub bytes : List ℕ
  pub events : List Marked
  pub streams : Streams (failure_of r) before now u.names bytes events
  pub led : Always u old.moment (λ b out es. b.bound ≡ n → EndedIs (piece b (state_of old.moment out es)) r new.moment (out ++ bytes) (es ++ events))
  pub stands : (b : Setting) (stage : ℕ → State) → IsSetting b u old.moment → Follows old.moment 0 → IsStaged (PieceCut b piece old) stage → StandsOr (failure_of r) stage new.moment.taken bytes events

-- 5.1.2.2.1p1: the call of `main`
abbrev pub main_called : (function : ℕ) → Setting → State → Res Worth
main_called f b s = call_body b (below b b.bound) (function_at b.unit f) [] (function_at b.unit f).line s

-- 5.1.2p1: the whole run
abbrev pub whole_run : Setting → State → Res Worth
whole_run b s = then_do (prepare b s) (λ v s. call_main b (main_of b.unit) s)
