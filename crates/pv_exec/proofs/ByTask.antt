-- What tasks come to, by their kind.
use Rattle.std.proofs.Common.{◌≡◌, ℕ, ◌+◌, ◌<◌, ◌≤◌, List, sym, subst}
use Rattle.std.specs.Prelude.{Bool, false, Result, if◌then◌else◌}
use Rattle.pv_typed.specs.Tables.{Stored}
use Rattle.pv_world.specs.Worlds.{Worth}
use Rattle.pv_eval.specs.declared.failure.Failure.{Failure}
use Rattle.pv_eval.specs.Moments.{Moment, Always, state_of}
use Rattle.pv_eval.specs.Machines.{Machine, Started, ended_value, after_first}
use Rattle.pv_world.specs.Coming.{worth_of}
use Rattle.pv_world.specs.declared.got.Got.{Got}
use Rattle.pv_exec.specs.Flows as execution
use Rattle.pv_exec.specs.declared.task.Task.{Task}
use Rattle.pv_exec.specs.declared.task.Flow.{Flow}
use Rattle.pv_exec.specs.declared.task.Flow.TheVariants as flow
use Rattle.pv_exec.specs.declared.task.Way.{Way}
use Rattle.pv_exec.specs.Tasks.{after_flow, after_value, takes_value}
use Rattle.pv_exec.specs.Works.{behind_call}
use Rattle.pv_exec.specs.declared.task.Doing.{Doing}
use Rattle.pv_exec.specs.Leading.{LeadsOr, FlowLed, TaskLed, DoingLed}

-- a task of this kind
pub flow-task : (u : Stored) (t k : Task) (fl : Flow) (r : Result Way Failure) (old new : Machine) → t ≡ k → FlowLed u k fl r old new → FlowLed u t fl r old new
flow-task u t k fl r old new e h = subst (λ (x : Task). FlowLed u x fl r old new) (sym e) h

pub task-task : (u : Stored) (t k : Task) (r : Result Way Failure) (old new : Machine) → t ≡ k → TaskLed u k r old new → TaskLed u t r old new
task-task u t k r old new e h = subst (λ (x : Task). TaskLed u x r old new) (sym e) h

-- a value at a task that waits for none is as if it were returned
pub pass-led : (u : Stored) (t : Task) (v : Got) (r : Result Way Failure) (old mid new : Machine) → takes_value t ≡ false → mid.moment ≡ old.moment → mid.started ≡ after_first old.started → worth_of v ≡ ended_value old.started → FlowLed u t (flow.Returns v) r mid new → TaskLed u t r old new
pass-led u t v r old mid new w m s e h =
    let es = after_first old.started in
    let first = subst (λ (x : Moment). Always u x (λ b out marks. (k : ℕ) → x.taken ≤ b.bound → b.bound < x.taken + k → LeadsOr b u (after_flow b u k mid.started t (execution.Returns (worth_of v)) (state_of x out marks)) (behind_call t mid.started) r new.started (state_of new.moment out marks))) m h in
    let second = subst (λ (x : List Started). Always u old.moment (λ b out marks. (k : ℕ) → old.moment.taken ≤ b.bound → b.bound < old.moment.taken + k → LeadsOr b u (after_flow b u k x t (execution.Returns (worth_of v)) (state_of old.moment out marks)) (behind_call t x) r new.started (state_of new.moment out marks))) s first in
    let third = subst (λ (x : Worth). Always u old.moment (λ b out marks. (k : ℕ) → old.moment.taken ≤ b.bound → b.bound < old.moment.taken + k → LeadsOr b u (after_flow b u k es t (execution.Returns x) (state_of old.moment out marks)) (behind_call t es) r new.started (state_of new.moment out marks))) e second in
    λ b out marks hs hl k le lt.
    subst (λ (q : Bool). LeadsOr b u (if q then after_value b u k t (ended_value old.started) (state_of old.moment out marks) else after_flow b u k es t (execution.Returns (ended_value old.started)) (state_of old.moment out marks)) (behind_call t es) r new.started (state_of new.moment out marks)) (sym w) (third b out marks hs hl k le lt)

-- a doing of this kind
pub doing-doing : (u : Stored) (d k : Doing) (r : Result Way Failure) (old new : Machine) → d ≡ k → DoingLed u k r old new → DoingLed u d r old new
doing-doing u d k r old new e h = subst (λ (x : Doing). DoingLed u x r old new) (sym e) h
