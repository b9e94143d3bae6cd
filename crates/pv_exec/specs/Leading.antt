-- What operations lead to: bridges from the code's ways to the rest of the run (C17 5.1.2.3, 6.8).
use Rattle.std.specs.Prelude.{◌≡◌, ℕ, ◌+◌, ◌<◌, ◌≤◌, List, map, reverse, All, Result, Ok, Err}
use Rattle.pv_tree.specs.declared.nodes.NodeId.{NodeId}
use Rattle.pv_typed.specs.Trees.{declared_of}
use Rattle.pv_typed.specs.Tables.{Stored}
use Rattle.pv_typed.specs.NodeTrees.{statement_at}
use Rattle.pv_world.specs.Worlds.{Worth}
use Rattle.pv_world.specs.Coming.{wrong_for}
use Rattle.pv_eval.specs.declared.failure.Failure.{Failure}
use Rattle.pv_eval.specs.declared.failure.Failure.TheVariants as failure
use Rattle.pv_eval.specs.States.{Setting, State, Stopped, Res, Gives, Stops, then_do, Turns}
use Rattle.pv_eval.specs.Moments.{Always, state_of}
use Rattle.pv_eval.specs.Machines.{Machine, Started, ended_value, after_first}
use Rattle.pv_eval.specs.Stack.{rest}
use Rattle.pv_exec.specs.declared.once.After.{After}
use Rattle.pv_exec.specs.declared.once.After.TheVariants as after
use Rattle.pv_exec.specs.declared.once.Last.{Last}
use Rattle.pv_exec.specs.declared.once.Last.TheVariants as last
use Rattle.pv_exec.specs.declared.task.Flow.{Flow}
use Rattle.pv_exec.specs.declared.task.Task.{Task}
use Rattle.pv_exec.specs.declared.task.Doing.{Doing}
use Rattle.pv_exec.specs.declared.task.Way.{Way}
use Rattle.pv_exec.specs.declared.task.Way.TheVariants as way
use Rattle.pv_exec.specs.Flows as execution
use Rattle.pv_exec.specs.OfRuns.{end_all, ex, below}
use Rattle.pv_exec.specs.Parts.{loop_of, loop_from_test}
use Rattle.pv_exec.specs.Entering.{behind_turn}
use Rattle.pv_exec.specs.Tasks.{Reached, Left, Valued, left_flow, after_task, after_flow, after_value}
use Rattle.pv_exec.specs.Works.{flow_of, does, due, others, behind_call, Work, after_work, Standing, Holds}

-- what is done next, of what an operation leads to
abbrev pub doing_in : Way → Doing
doing_in (way.Do d) = d
doing_in (way.With t d) = d

-- what such a way does, at the level of what waits and at that of what is done
abbrev pub way_means : Setting → Stored → (waits level : ℕ) → List Started → Way → State → Res Reached
way_means b u i k es (way.Do d) s = does b u k es d s
way_means b u i k es (way.With t d) s = then_do (does b u k es d s) (after_task b u i (others es d) t)

-- 6.5.2.2: the expressions that are left to the tasks below, which wait for calls
abbrev pub passed_by : Way → List Started → List Started
passed_by (way.Do d) es = es
passed_by (way.With t d) es = behind_call t es

-- a piece of the run leads here: it is what the way does, and there are levels enough for the turns that are left
pub record Leads (b : Setting) (u : Stored) (all : Res Reached) (stand : List Started) (w : Way) (es : List Started) (s : State) : Type 0 where
  pub waits : ℕ
  pub level : ℕ
  pub law : all ≡ way_means b u waits level es w s
  pub stands : passed_by w (others es (doing_in w)) ≡ stand
  pub room_waits : b.bound < s.taken + waits + due es (doing_in w)
  pub room : b.bound < s.taken + level + due es (doing_in w)

-- or it ends the run (as by undefined behaviour, 3.4.3)
abbrev pub LeadsOr : Setting → Stored → Res Reached → List Started → Result Way Failure → List Started → State → Type 0
LeadsOr b u all stand (Ok w) es s = Leads b u all stand w es s
LeadsOr b u all stand (Err (failure.Stop y line)) es s = all ≡ Stops (Stopped (wrong_for y) line) s
LeadsOr b u all stand (Err failure.NoMemory) es s = Unit {0}

-- what an operation does, whatever the level
abbrev pub Operates : Setting → Stored → List Started → Doing → Result Way Failure → List Started → State → State → Type 0
Operates b u old d r new s s' = (k : ℕ) → s.taken ≤ b.bound → (due old d ≡ 1 → s.taken < b.bound) → b.bound < s.taken + k + due old d → LeadsOr b u (does b u k old d s) (others old d) r new s'

-- a piece of the run, at any level, leads to what is done next
abbrev pub Led : Stored → (Setting → (level : ℕ) → State → Res execution.Flow) → (stand : List Started) → Result Way Failure → Machine → Machine → Type 0
Led u piece stand r old new =
    Always u old.moment (λ b out es. (k : ℕ) → b.bound < old.moment.taken + k →
    LeadsOr b u (left_flow (piece b k (state_of old.moment out es))) stand r new.started (state_of new.moment out es))

-- 6.8: what a statement does once its turn was taken
abbrev pub entered_at : Stored → NodeId → Setting → (level : ℕ) → State → Res execution.Flow
entered_at u n b k s = behind_turn b (below b k) (statement_at u n) s

-- 6.8.5p4: a loop once its condition has this value
abbrev pub tested_at : Stored → NodeId → Worth → Setting → (level : ℕ) → State → Res execution.Flow
tested_at u n v b k s = loop_from_test b (below b k) (loop_of (statement_at u n)) v s

-- 6.2.4p6: a block that was left so: its objects end
abbrev pub block_left : Stored → NodeId → execution.Flow → Setting → (level : ℕ) → State → Res execution.Flow
block_left u n fl b k s = then_do (end_all b (declared_of (statement_at u n)) s) (λ v s. Gives fl s)

-- a statement whose turn is due
abbrev pub EnterLed : Stored → NodeId → Result Way Failure → Machine → Machine → Type 0
EnterLed u n r old new =
    Always u old.moment (λ b out es. (k : ℕ) → old.moment.taken < b.bound → b.bound < old.moment.taken + k + 1 →
    LeadsOr b u (left_flow (ex b (below b k) (statement_at u n) (state_of old.moment out es))) old.started r new.started (state_of new.moment out es))

-- how the whole that was asked for ended (6.8p2)
abbrev pub LastIs : Res Reached → Last → List Started → State → Type 0
LastIs all (last.Left fl) es s = all ≡ Gives (Left (flow_of fl)) s
LastIs all last.Valued es s = all ≡ Gives (Valued (ended_value es)) s
LastIs all last.Turns es s = all ≡ Stops Turns s

-- what is to come after an operation: the rest, or how a statement was left (6.8p2), or an expression's value (6.8p4)
abbrev pub HoldsAfter : Setting → Stored → Res Reached → Result After Failure → List Task → List Started → State → Type 0
HoldsAfter b u all (Ok (after.On d)) tasks es s = Holds b u all tasks es d s
HoldsAfter b u all (Ok (after.Last l)) tasks es s = LastIs all l es s
HoldsAfter b u all (Err (failure.Stop y line)) tasks es s = all ≡ Stops (Stopped (wrong_for y) line) s
HoldsAfter b u all (Err failure.NoMemory) tasks es s = Unit {0}

-- the same of what was followed
abbrev pub FollowedOr : Setting → Stored → Res Reached → Result Doing Failure → List Task → List Started → State → Type 0
FollowedOr b u all (Ok d) tasks es s = Holds b u all tasks es d s
FollowedOr b u all (Err (failure.Stop y line)) tasks es s = all ≡ Stops (Stopped (wrong_for y) line) s
FollowedOr b u all (Err failure.NoMemory) tasks es s = Unit {0}

-- what waits for what an operation leads to, which was not followed yet
pub record Waits (b : Setting) (u : Stored) (all : Res Reached) (tasks : List Task) (stand : List Started) (next : Res Reached) (s : State) : Type 0 where
  pub works : List Work
  pub same : map (λ (w : Work). w.task) works ≡ reverse tasks
  pub standing : Standing works stand
  pub law : all ≡ then_do next (rest (after_work b u) works)
  pub rooms : All (λ (w : Work). b.bound < s.taken + w.level) works
  pub most : s.taken ≤ b.bound

-- the same where the last task is reached
pub record Popped (b : Setting) (u : Stored) (all : Res Reached) (ts : List Task) (t : Task) (es : List Started) (r : Reached) (s : State) : Type 0 where
  pub level : ℕ
  pub room : b.bound < s.taken + level
  pub waits : Waits b u all ts (behind_call t es) (after_task b u level es t r s) s

-- 6.8p4: what a task leads to with the value of the innermost expression
abbrev pub ValueLed : Stored → Task → Result Way Failure → Machine → Machine → Type 0
ValueLed u t r old new =
    Always u old.moment (λ b out es. (k : ℕ) → old.moment.taken ≤ b.bound → b.bound < old.moment.taken + k →
    LeadsOr b u (after_value b u k t (ended_value old.started) (state_of old.moment out es)) (after_first old.started) r new.started (state_of new.moment out es))

-- 6.8.6p2: the same with how a statement was left
abbrev pub FlowLed : Stored → Task → Flow → Result Way Failure → Machine → Machine → Type 0
FlowLed u t fl r old new =
    Always u old.moment (λ b out es. (k : ℕ) → old.moment.taken ≤ b.bound → b.bound < old.moment.taken + k →
    LeadsOr b u (after_flow b u k old.started t (flow_of fl) (state_of old.moment out es)) (behind_call t old.started) r new.started (state_of new.moment out es))

-- what an operation leads to
abbrev pub DoingLed : Stored → Doing → Result Way Failure → Machine → Machine → Type 0
DoingLed u d r old new = Always u old.moment (λ b out es. Operates b u old.started d r new.started (state_of old.moment out es) (state_of new.moment out es))

-- 6.8p4: what a task leads to with the value of the innermost expression, whatever it waits for
abbrev pub TaskLed : Stored → Task → Result Way Failure → Machine → Machine → Type 0
TaskLed u t r old new =
    Always u old.moment (λ b out es. (k : ℕ) → old.moment.taken ≤ b.bound → b.bound < old.moment.taken + k →
    LeadsOr b u (after_task b u k (after_first old.started) t (Valued (ended_value old.started)) (state_of old.moment out es)) (behind_call t (after_first old.started)) r new.started (state_of new.moment out es))

-- what one operation leads to, where it takes no turn beyond the bound
abbrev pub OnceLed : Stored → Doing → Result After Failure → (before behind : List Task) → Machine → Machine → Type 0
OnceLed u d r ts ts' old new =
    Always u old.moment (λ b out es. (all : Res Reached) → (due old.started d ≡ 1 → old.moment.taken < b.bound) →
    Holds b u all ts old.started d (state_of old.moment out es) → HoldsAfter b u all r ts' new.started (state_of new.moment out es))
