-- The meaning of a run in progress: a bridge from the code's tasks to execution (C17 6.8).
use Rattle.std.specs.Prelude.{◌≡◌, ℕ, ◌+◌, ◌<◌, ◌≤◌, Bool, true, false, List, [], ◌∷◌, map, reverse, All, drop, if◌then◌else◌}
use Rattle.pv_typed.specs.Trees.{declared_of}
use Rattle.pv_typed.specs.TypedUnits.{object_at}
use Rattle.pv_typed.specs.Tables.{Stored}
use Rattle.pv_typed.specs.NodeTrees.{statement_at}
use Rattle.pv_eval.specs.Machines.{left_of, ended_value, due_turns, after_first, Started}
use Rattle.pv_eval.specs.States.{Setting, State, Res, Gives, then_do, tick}
use Rattle.pv_exec.specs.OfRuns.{ex, exs, below, in_block}
use Rattle.pv_exec.specs.Lists.{store_all}
use Rattle.pv_world.specs.Coming.{worth_of}
use Rattle.pv_eval.specs.Stack.{rest}
use Rattle.pv_exec.specs.Flows as execution
use Rattle.pv_exec.specs.declared.task.Flow.{Flow}
use Rattle.pv_exec.specs.declared.task.Flow.TheVariants as flow
use Rattle.pv_exec.specs.declared.task.Task.{Task}
use Rattle.pv_exec.specs.declared.task.Task.TheVariants as task
use Rattle.pv_exec.specs.declared.task.Doing.{Doing}
use Rattle.pv_exec.specs.declared.task.Doing.TheVariants as doing
use Rattle.pv_exec.specs.Tasks.{Reached, Left, Valued, left_flow, statements_from, within, declarations_of, after_task}
use Rattle.pv_exec.specs.Parts.{loop_of, stepped_on, rest_of_loop}

-- 6.8.6: how a statement was left, as the definition has it
abbrev pub flow_of : Flow → execution.Flow
flow_of flow.Falls = execution.Falls
flow_of flow.Breaks = execution.Breaks
flow_of flow.Continues = execution.Continues
flow_of (flow.Returns v) = execution.Returns (worth_of v)

-- what is done now, at its level, with the expressions that were started
unfoldable pub does : Setting → Stored → (level : ℕ) → List Started → Doing → State → Res Reached
does b u k es (doing.Enter n) s = left_flow (ex b (below b k) (statement_at u n) s)
does b u k es (doing.Jump n l i) s = left_flow (tick b s (λ s. in_block b (declared_of (statement_at u n)) (λ s. exs b (below b k) (statements_from u l i) s) s))
does b u k es (doing.Statements l i) s = left_flow (exs b (below b k) (statements_from u l i) s)
does b u k es (doing.Within n) s = left_flow (within b (below b k) (declarations_of (statement_at u n)) (loop_of (statement_at u n)) s)
does b u k es (doing.Again x p) s = left_flow (stepped_on b (below b k) (loop_of (statement_at u p.statement)) s)
does b u k es (doing.Round p) s = left_flow ((below b k).again (loop_of (statement_at u p.statement)).condition (loop_of (statement_at u p.statement)).step (loop_of (statement_at u p.statement)).body s)
does b u k es (doing.Body p) s = left_flow (then_do (ex b (below b k) (loop_of (statement_at u p.statement)).body s) (rest_of_loop b (below b k) (loop_of (statement_at u p.statement))))
does b u k es (doing.Store o i) s = left_flow (then_do (store_all b (below b k).call o (drop i (object_at b.unit o).inits) s) (λ v s. Gives execution.Falls s))
does b u k es doing.Absent s = left_flow (tick b s (λ s. Gives execution.Falls s))
does b u k es (doing.Left fl) s = Gives (Left (flow_of fl)) s
does b u k es (doing.Call f) s = then_do (left_of b (below b k).call u es s) (λ g s. Gives (Valued g.value) s)
does b u k es doing.Evaluate s = then_do (left_of b (below b k).call u es s) (λ g s. Gives (Valued g.value) s)
does b u k es doing.Evaluated s = Gives (Valued (ended_value es)) s

-- one where a turn is due
abbrev pub due : List Started → Doing → ℕ
due es (doing.Enter n) = 1
due es (doing.Jump n l i) = 1
due es (doing.Statements l i) = 0
due es (doing.Within n) = 0
due es (doing.Again x p) = 0
due es (doing.Round p) = 0
due es (doing.Body p) = 0
due es (doing.Store o i) = 1
due es doing.Absent = 1
due es (doing.Left fl) = 0
due es (doing.Call f) = 0
due es doing.Evaluate = due_turns es
due es doing.Evaluated = 0

-- one where a turn is due, or an expression of a loop (6.8.5p4) that was not started
abbrev pub turn_due : List Started → Doing → ℕ
turn_due es (doing.Enter n) = 1
turn_due es (doing.Jump n l i) = 1
turn_due es (doing.Statements l i) = 0
turn_due es (doing.Within n) = 0
turn_due es (doing.Again x p) = 1
turn_due es (doing.Round p) = 1
turn_due es (doing.Body p) = 0
turn_due es (doing.Store o i) = 1
turn_due es doing.Absent = 1
turn_due es (doing.Left fl) = 0
turn_due es (doing.Call f) = 0
turn_due es doing.Evaluate = due_turns es
turn_due es doing.Evaluated = 0

-- 6.5.2.2: the expressions that wait for calls
abbrev pub others : List Started → Doing → List Started
others es (doing.Call f) = after_first es
others es doing.Evaluate = after_first es
others es doing.Evaluated = after_first es
others es (doing.Enter n) = es
others es (doing.Jump n l i) = es
others es (doing.Statements l i) = es
others es (doing.Within n) = es
others es (doing.Again x p) = es
others es (doing.Round p) = es
others es (doing.Body p) = es
others es (doing.Store o i) = es
others es doing.Absent = es
others es (doing.Left fl) = es

-- 6.5.2.2, 6.9.1: the task that waits for the body of a function
abbrev pub is_call : Task → Bool
is_call (task.InCall f line) = true
is_call (task.InList l i) = false
is_call (task.InBlock n) = false
is_call task.InSwitch = false
is_call task.Dropping = false
is_call (task.Chosen n) = false
is_call (task.First n) = false
is_call (task.Declared n) = false
is_call (task.Tested n) = false
is_call (task.Rounded n) = false
is_call (task.Stepped n) = false
is_call (task.RoundedDo n) = false
is_call (task.TestedDo n) = false
is_call (task.Selecting n) = false
is_call (task.Returning n) = false
is_call (task.Storing o i) = false

-- 6.5.2.2: the expressions that are left below a task: a call has an expression of its own
abbrev pub behind_call : Task → List Started → List Started
behind_call t es = if is_call t then after_first es else es

-- a task (6.8) at its level, with the expressions that wait when it is reached
pub record Work : Type 0 where
  pub level : ℕ
  pub task : Task
  pub waiting : List Started

-- what a task does at its level
unfoldable pub after_work : Setting → Stored → Work → Reached → State → Res Reached
after_work b u w r s = after_task b u w.level w.waiting w.task r s

-- 6.5.2.2: the works stand on these expressions
abbrev pub Standing : List Work → List Started → Type 0
Standing [] es = Unit {0}
Standing (w ∷ ws) es = (w.waiting ≡ es) × Standing ws (behind_call w.task es)

-- the run that is to come, from the tasks that wait, the innermost last, and from what is done now
pub record Holds (b : Setting) (u : Stored) (all : Res Reached) (tasks : List Task) (es : List Started) (d : Doing) (s : State) : Type 0 where
  pub works : List Work
  pub level : ℕ
  pub same : map (λ (w : Work). w.task) works ≡ reverse tasks
  pub standing : Standing works (others es d)
  pub law : all ≡ then_do (does b u level es d s) (rest (after_work b u) works)
  pub rooms : All (λ (w : Work). b.bound < s.taken + w.level + due es d) works
  pub room : b.bound < s.taken + level + due es d
  pub most : s.taken ≤ b.bound
