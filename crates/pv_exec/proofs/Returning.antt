-- What a `return` leads to.
use Rattle.std.proofs.Common.{◌≡◌, ℕ, List, Some, None, sym, ap, ◌∙◌}
use Rattle.std.specs.Prelude.{Err}
use Rattle.pv_tree.specs.declared.nodes.NodeId.{NodeId}
use Rattle.pv_typed.specs.Trees.{statement_line}
use Rattle.pv_typed.specs.Tables.{Stored}
use Rattle.pv_typed.specs.NodeTrees.{expression_at, statement_at}
use Rattle.pv_world.specs.Worlds.{Worth}
use Rattle.pv_world.specs.Coming.{worth_of}
use Rattle.pv_world.specs.declared.got.Got.{Got}
use Rattle.pv_eval.specs.declared.failure.Failure.{Failure}
use Rattle.pv_eval.specs.declared.failure.Failure.TheVariants as failure
use Rattle.pv_eval.specs.States.{Setting, State, Res, Gives, then_do}
use Rattle.pv_eval.specs.Moments.{Came}
use Rattle.pv_eval.specs.Operations.{Accepts, act}
use Rattle.pv_eval.specs.OfRuns.{with_conversion}
use Rattle.pv_eval.specs.Machines.{Started}
use Rattle.pv_exec.specs.declared.task.Task.TheVariants as task
use Rattle.pv_exec.specs.Flows.{Falls, Returns}
use Rattle.pv_exec.specs.Tasks.{Left, left_flow, after_value, returned_of, return_with}
use Rattle.pv_exec.specs.Leading.{LeadsOr}
use Rattle.pv_exec.proofs.Pieces.{then-then}

pub no-return : (b : Setting) (u : Stored) (k : ℕ) (n : NodeId) (v : Worth) (s : State) → returned_of (statement_at u n) ≡ None → after_value b u k (task.Returning n) v s ≡ Gives (Left Falls) s
unfolding after_value
no-return b u k n v s e = ap (λ q. left_flow (return_with b (statement_line (statement_at u n)) q v s)) e

returned-by : (b : Setting) (u : Stored) (k line : ℕ) (n x : NodeId) (v : Worth) (s : State) (r : Res Worth) → returned_of (statement_at u n) ≡ Some (expression_at u x) → line ≡ statement_line (statement_at u n) → then_do (with_conversion b (expression_at u x) v s) (λ v s. act b line (Accepts v) s) ≡ r → left_flow (return_with b (statement_line (statement_at u n)) (returned_of (statement_at u n)) v s) ≡ left_flow (then_do r (λ v s. Gives (Returns v) s))
returned-by b u k line n x v s r e is h =
    ap (λ q. left_flow (return_with b (statement_line (statement_at u n)) q v s)) e
    ∙ ap (λ m. left_flow (return_with b m (Some (expression_at u x)) v s)) (sym is)
    ∙ ap left_flow (then-then (with_conversion b (expression_at u x) v s) (λ v s. act b line (Accepts v) s) (λ v s. Gives (Returns v) s))
    ∙ ap (λ r. left_flow (then_do r (λ v s. Gives (Returns v) s))) h

pub returned-is : (b : Setting) (u : Stored) (k : ℕ) (n x : NodeId) (line : ℕ) (g : Got) (v : Worth) (s s' : State) → returned_of (statement_at u n) ≡ Some (expression_at u x) → line ≡ statement_line (statement_at u n) → then_do (with_conversion b (expression_at u x) v s) (λ v s. act b line (Accepts v) s) ≡ Gives (worth_of g) s' → after_value b u k (task.Returning n) v s ≡ Gives (Left (Returns (worth_of g))) s'
unfolding after_value
returned-is b u k n x line g v s s' e is h = returned-by b u k line n x v s (Gives (worth_of g) s') e is h

pub returned-stops : (b : Setting) (u : Stored) (k : ℕ) (n x : NodeId) (line : ℕ) (y : Failure) (stand new : List Started) (v : Worth) (s s' : State) → returned_of (statement_at u n) ≡ Some (expression_at u x) → line ≡ statement_line (statement_at u n) → Came (then_do (with_conversion b (expression_at u x) v s) (λ v s. act b line (Accepts v) s)) (Err y) s' → LeadsOr b u (after_value b u k (task.Returning n) v s) stand (Err y) new s'
unfolding after_value
returned-stops b u k n x line failure.NoMemory stand new v s s' e is h = tt
returned-stops b u k n x line (failure.Stop y l) stand new v s s' e is h = returned-by b u k line n x v s _ e is h
