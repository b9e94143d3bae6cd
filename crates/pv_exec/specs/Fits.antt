-- What tasks name is there: bridges from the code's numbers to the statements of the unit (C17 6.8).
use Rattle.std.specs.Prelude.{◌≡◌, ℕ, ◌<◌, true, false, List, [], ◌∷◌, All, length, reverse, Result, Ok, Err}
use Rattle.pv_tree.specs.declared.nodes.NodeId.{NodeId}
use Rattle.pv_tree.specs.declared.nodes.ListId.{ListId}
use Rattle.pv_typed.specs.Children.{HasKinds}
use Rattle.pv_typed.specs.Trees.{is_scope_tree}
use Rattle.pv_typed.specs.TypedUnits.{object_at}
use Rattle.pv_typed.specs.Tables.{Stored, whole_unit}
use Rattle.pv_typed.specs.NodeTrees.{IsStatement, statement_at}
use Rattle.pv_eval.specs.declared.failure.Failure.{Failure}
use Rattle.pv_eval.specs.Machines.{Started, is_going, is_asked, is_ended, asked_function}
use Rattle.pv_exec.specs.declared.once.After.{After}
use Rattle.pv_exec.specs.declared.once.After.TheVariants as after
use Rattle.pv_exec.specs.declared.task.Task.{Task}
use Rattle.pv_exec.specs.declared.task.Task.TheVariants as task
use Rattle.pv_exec.specs.declared.task.Doing.{Doing}
use Rattle.pv_exec.specs.declared.task.Doing.TheVariants as doing
use Rattle.pv_exec.specs.declared.task.Way.{Way}
use Rattle.pv_exec.specs.declared.task.Way.TheVariants as way
use Rattle.pv_exec.specs.Read.{IsRound, IsStep}
use Rattle.pv_exec.specs.Works.{others, behind_call}

-- 6.8.2p1: a list of statements of the unit
abbrev pub HasList : Stored → ListId → Type 0
HasList u l = HasKinds u.rows u.lists (length u.rows) false l

-- a statement that has objects of its own (6.8.2, 6.8.5.3)
abbrev pub IsScope : Stored → NodeId → Type 0
IsScope u n = IsStatement u n × (is_scope_tree (statement_at u n) ≡ true)

-- a store of an object's initializer (6.7.9)
abbrev pub HasStore : Stored → ℕ → ℕ → Type 0
HasStore u o i = (o < length u.objects) × (i < length (object_at (whole_unit u) o).inits)

-- what a task names is there: statements (6.8), stores of an initializer (6.7.9), a function (6.9.1)
abbrev pub TaskFits : Stored → Task → Type 0
TaskFits u (task.InList l i) = HasList u l
TaskFits u (task.InBlock n) = IsScope u n
TaskFits u task.InSwitch = Unit {0}
TaskFits u task.Dropping = Unit {0}
TaskFits u (task.Chosen n) = IsStatement u n
TaskFits u (task.First n) = IsStatement u n
TaskFits u (task.Declared n) = IsStatement u n
TaskFits u (task.Tested n) = IsStatement u n
TaskFits u (task.Rounded n) = IsStatement u n
TaskFits u (task.Stepped n) = IsStatement u n
TaskFits u (task.RoundedDo n) = IsStatement u n
TaskFits u (task.TestedDo n) = IsStatement u n
TaskFits u (task.Selecting n) = IsStatement u n
TaskFits u (task.Returning n) = IsStatement u n
TaskFits u (task.Storing o i) = HasStore u o i
TaskFits u (task.InCall f line) = f < length u.functions

-- what is done now names what is there (6.8), and an expression (6.8p4) that goes on, hands a call up (6.5.2.2) or has ended is there
abbrev pub DoingFits : Stored → List Started → Doing → Type 0
DoingFits u es (doing.Enter n) = IsStatement u n
DoingFits u es (doing.Jump n l i) = IsScope u n × HasList u l
DoingFits u es (doing.Statements l i) = HasList u l
DoingFits u es (doing.Within n) = IsStatement u n
DoingFits u es (doing.Again x p) = IsStep u x p
DoingFits u es (doing.Round p) = IsRound u p
DoingFits u es (doing.Body p) = IsRound u p
DoingFits u es (doing.Store o i) = HasStore u o i
DoingFits u es doing.Absent = Unit {0}
DoingFits u es (doing.Left fl) = Unit {0}
DoingFits u es (doing.Call f) = (is_asked es ≡ true) × (asked_function es ≡ f) × (f < length u.functions)
DoingFits u es doing.Evaluate = is_going es ≡ true
DoingFits u es doing.Evaluated = is_ended es ≡ true

-- 6.5.2.2: a call of a function waits in an expression
abbrev pub Stands : Task → List Started → Type 0
Stands (task.InCall f line) es = 0 < length es
Stands (task.InList l i) es = Unit {0}
Stands (task.InBlock n) es = Unit {0}
Stands task.InSwitch es = Unit {0}
Stands task.Dropping es = Unit {0}
Stands (task.Chosen n) es = Unit {0}
Stands (task.First n) es = Unit {0}
Stands (task.Declared n) es = Unit {0}
Stands (task.Tested n) es = Unit {0}
Stands (task.Rounded n) es = Unit {0}
Stands (task.Stepped n) es = Unit {0}
Stands (task.RoundedDo n) es = Unit {0}
Stands (task.TestedDo n) es = Unit {0}
Stands (task.Selecting n) es = Unit {0}
Stands (task.Returning n) es = Unit {0}
Stands (task.Storing o i) es = Unit {0}

-- 6.5.2.2: the same of all tasks, the innermost first
abbrev pub TasksStand : List Task → List Started → Type 0
TasksStand [] es = Unit {0}
TasksStand (t ∷ ts) es = Stands t es × TasksStand ts (behind_call t es)

-- what an operation leads to names what is there (6.8), and stands where it was found
abbrev pub WayFits : Stored → (stand es : List Started) → Way → Type 0
WayFits u stand es (way.Do d) = DoingFits u es d × (others es d ≡ stand)
WayFits u stand es (way.With t d) = TaskFits u t × DoingFits u es d × (behind_call t (others es d) ≡ stand) × Stands t (others es d)

-- the same, unless the run ended (as by undefined behaviour, 3.4.3)
abbrev pub WayFitsOr : Stored → (stand es : List Started) → Result Way Failure → Type 0
WayFitsOr u stand es (Ok w) = WayFits u stand es w
WayFitsOr u stand es (Err e) = Unit {0}

-- what waits and what is done names what is there (6.8)
pub record Runs (u : Stored) (tasks : List Task) (es : List Started) (d : Doing) : Type 0 where
  pub tasks_fit : All (TaskFits u) tasks
  pub stand : TasksStand (reverse tasks) (others es d)
  pub doing_fits : DoingFits u es d

-- the same, unless the run ended (as by undefined behaviour, 3.4.3)
abbrev pub RunsOr : Stored → List Task → List Started → Result Doing Failure → Type 0
RunsOr u tasks es (Ok d) = Runs u tasks es d
RunsOr u tasks es (Err e) = Unit {0}

-- the same after an operation, where the run goes on
abbrev pub AfterRuns : Stored → List Task → List Started → Result After Failure → Type 0
AfterRuns u tasks es (Ok (after.On d)) = Runs u tasks es d
AfterRuns u tasks es (Ok (after.Last l)) = Unit {0}
AfterRuns u tasks es (Err e) = Unit {0}
