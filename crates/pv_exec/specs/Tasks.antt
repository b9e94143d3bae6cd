-- A bridge: what a task does with what it waits for: one clause for each kind, whose body is a part of the clause of execution.
use Rattle.std.specs.Prelude.{ℕ, Bool, true, false, List, [], ◌∷◌, None, Some, drop, if◌then◌else◌}
use Rattle.std.specs.declared.option.Option.{Option}
use Rattle.pv_tree.specs.declared.nodes.ListId.{ListId}
use Rattle.pv_typed.specs.TypedTree.{TypedTree}
use Rattle.pv_typed.specs.TypedStatement.{TypedStatement, ForDeclaration, Return, Statements}
use Rattle.pv_typed.specs.Trees.{declared_of, statement_line}
use Rattle.pv_typed.specs.TypedUnits.{Store, StoredValue, ValueOf, TextOf, object_at, function_at}
use Rattle.pv_typed.specs.Nodes.{statements_in}
use Rattle.pv_typed.specs.Tables.{Stored, nodes}
use Rattle.pv_typed.specs.NodeTrees.{statement_at, list_at}
use Rattle.pv_world.specs.Worlds.{Worth, Nothing}
use Rattle.pv_eval.specs.States.{Setting, State, Res, Gives, then_do}
use Rattle.pv_eval.specs.TypeForms.{lvalue}
use Rattle.pv_eval.specs.Operations.{Accepts, EndsBody, Puts, act}
use Rattle.pv_eval.specs.Steps.{Calling}
use Rattle.pv_eval.specs.OfRuns.{with_conversion, accepted_value}
use Rattle.pv_eval.specs.Machines.{Started, answered_of}
use Rattle.pv_exec.specs.declared.task.Task.{Task}
use Rattle.pv_exec.specs.declared.task.Task.TheVariants as task
use Rattle.pv_exec.specs.Flows.{Flow, Falls, Returns, Below, falls, behind_switch}
use Rattle.pv_exec.specs.Lists.{store_all}
use Rattle.pv_exec.specs.OfRuns.{end_all, exs, below}
use Rattle.pv_exec.specs.Calls.{value_by}
use Rattle.pv_exec.specs.Parts.{Loop, loop_of, rounds, rest_of_loop, loop_from_test, do_of, rounded_do, tested_do, choice_of, branch_of, selection_of, selection_jump}

-- what is handed to a task: how a statement was left (6.8.6p2), or the value of an expression (6.8p4)
pub data Reached : Type 0 where
  Left : Flow → Reached
  Valued : Worth → Reached

-- 6.8.6p2: how a statement was left is handed on
abbrev pub left_flow : Res Flow → Res Reached
left_flow r = then_do r (λ fl s. Gives (Left fl) s)

-- 6.8.2p1: the statements of a list from one on
abbrev pub statements_from : Stored → ListId → ℕ → Statements
statements_from u l i = statements_in (nodes u) (drop i (list_at u l))

-- 6.8.6.4: the expression of a `return`
abbrev pub returned_of : TypedStatement → Option TypedTree
returned_of (Return line x) = x
returned_of _ = None

-- 6.8.6.4p3: once its expression has this value
abbrev pub return_with : Setting → (line : ℕ) → Option TypedTree → Worth → State → Res Flow
return_with b line (Some x) v s = then_do (with_conversion b x v s) (λ v s. then_do (act b line (Accepts v) s) (λ v s. Gives (Returns v) s))
return_with b line None v s = Gives Falls s

-- 6.7.9p11: a store of an initializer, with its value
abbrev pub stored_value : Setting → (object : ℕ) → Store → StoredValue → Worth → State → Res Worth
stored_value b o x (ValueOf e) v s = then_do (accepted_value b e v s) (λ v s. act b x.line (Puts o x.offset (lvalue b x.t) v) s)
stored_value b o x (TextOf l) v s = Gives Nothing s

-- 6.7.9p11, p19: the stores that are left, with the value of the first of them
abbrev pub rest_of_stores : Setting → Calling → (object : ℕ) → List Store → Worth → State → Res Flow
rest_of_stores b call o [] v s = Gives Falls s
rest_of_stores b call o (x ∷ xs) v s = then_do (then_do (stored_value b o x x.what v s) (λ v s. store_all b call o xs s)) (λ v s. Gives Falls s)

-- 6.8.5.3: what stands within a `for` with a declaration
abbrev pub declarations_of : TypedStatement → Option Statements
declarations_of (ForDeclaration line os ds c step x) = Some ds
declarations_of _ = None

-- 6.8.5.3: the declarations and then the rounds
abbrev pub within : Setting → Below → Option Statements → Loop → State → Res Flow
within b w (Some ds) l s = then_do (exs b w ds s) (λ fl s. falls fl (rounds b w l) s)
within b w None l s = Gives Falls s

-- 6.8.6p2: with how a statement was left, beside the expressions that wait
unfoldable pub after_flow : Setting → Stored → (level : ℕ) → List Started → Task → Flow → State → Res Reached
after_flow b u k es (task.InList l i) fl s = left_flow (falls fl (λ s. exs b (below b k) (statements_from u l i) s) s)
after_flow b u k es (task.InBlock n) fl s = left_flow (then_do (end_all b (declared_of (statement_at u n)) s) (λ v s. Gives fl s))
after_flow b u k es task.InSwitch fl s = left_flow (behind_switch fl s)
after_flow b u k es (task.Declared n) fl s = left_flow (falls fl (rounds b (below b k) (loop_of (statement_at u n))) s)
after_flow b u k es (task.Rounded n) fl s = left_flow (rest_of_loop b (below b k) (loop_of (statement_at u n)) fl s)
after_flow b u k es (task.RoundedDo n) fl s = left_flow (rounded_do b (below b k) (do_of (statement_at u n)) fl s)
after_flow b u k es (task.InCall f line) fl s =
    then_do (end_all b (function_at b.unit f).params s) (λ v s. then_do (act b line EndsBody s) (λ v s.
    then_do (answered_of b (below b k).call u es (value_by b (function_at b.unit f) fl) s) (λ g s. Gives (Valued g.value) s)))
after_flow b u k es task.Dropping fl s = Gives (Left fl) s
after_flow b u k es (task.Chosen n) fl s = Gives (Left fl) s
after_flow b u k es (task.First n) fl s = Gives (Left fl) s
after_flow b u k es (task.Tested n) fl s = Gives (Left fl) s
after_flow b u k es (task.Stepped n) fl s = Gives (Left fl) s
after_flow b u k es (task.TestedDo n) fl s = Gives (Left fl) s
after_flow b u k es (task.Selecting n) fl s = Gives (Left fl) s
after_flow b u k es (task.Returning n) fl s = Gives (Left fl) s
after_flow b u k es (task.Storing o i) fl s = Gives (Left fl) s

-- 6.8p4: with the value of an expression
unfoldable pub after_value : Setting → Stored → (level : ℕ) → Task → Worth → State → Res Reached
after_value b u k task.Dropping v s = left_flow (Gives Falls s)
after_value b u k (task.Chosen n) v s = left_flow (branch_of b (below b k) (choice_of (statement_at u n)) v s)
after_value b u k (task.First n) v s = left_flow (rounds b (below b k) (loop_of (statement_at u n)) s)
after_value b u k (task.Tested n) v s = left_flow (loop_from_test b (below b k) (loop_of (statement_at u n)) v s)
after_value b u k (task.Stepped n) v s = let l = loop_of (statement_at u n) in left_flow ((below b k).again l.condition l.step l.body s)
after_value b u k (task.TestedDo n) v s = left_flow (tested_do b (below b k) (do_of (statement_at u n)) v s)
after_value b u k (task.Selecting n) v s = left_flow (selection_jump b (below b k) (selection_of (statement_at u n)) v s)
after_value b u k (task.Returning n) v s = left_flow (return_with b (statement_line (statement_at u n)) (returned_of (statement_at u n)) v s)
after_value b u k (task.Storing o i) v s = left_flow (rest_of_stores b (below b k).call o (drop i (object_at b.unit o).inits) v s)
after_value b u k (task.InList l i) v s = Gives (Valued v) s
after_value b u k (task.InBlock n) v s = Gives (Valued v) s
after_value b u k task.InSwitch v s = Gives (Valued v) s
after_value b u k (task.Declared n) v s = Gives (Valued v) s
after_value b u k (task.Rounded n) v s = Gives (Valued v) s
after_value b u k (task.RoundedDo n) v s = Gives (Valued v) s
after_value b u k (task.InCall f line) v s = Gives (Valued v) s

-- 6.8p4: whether a task waits for the value of an expression
abbrev pub takes_value : Task → Bool
takes_value (task.InList l i) = false
takes_value (task.InBlock n) = false
takes_value task.InSwitch = false
takes_value (task.Declared n) = false
takes_value (task.Rounded n) = false
takes_value (task.RoundedDo n) = false
takes_value (task.InCall f line) = false
takes_value task.Dropping = true
takes_value (task.Chosen n) = true
takes_value (task.First n) = true
takes_value (task.Tested n) = true
takes_value (task.Stepped n) = true
takes_value (task.TestedDo n) = true
takes_value (task.Selecting n) = true
takes_value (task.Returning n) = true
takes_value (task.Storing o i) = true

-- 6.8p2, p4: what a task does with what is handed to it
abbrev pub after_task : Setting → Stored → (level : ℕ) → List Started → Task → Reached → State → Res Reached
after_task b u k es t (Left fl) s = after_flow b u k es t fl s
after_task b u k es t (Valued v) s = if takes_value t then after_value b u k t v s else after_flow b u k es t (Returns v) s
