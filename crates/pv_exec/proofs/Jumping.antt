-- A block of a `switch` is entered.
use Rattle.std.proofs.Common.{◌≡◌, ℕ, ◌+◌, ◌<◌, List, refl, sym, ap, ◌∙◌, subst}
use Rattle.std.specs.Prelude.{Ok, Err}
use Rattle.pv_tree.specs.declared.nodes.NodeId.{NodeId}
use Rattle.pv_tree.specs.declared.nodes.ListId.{ListId}
use Rattle.pv_typed.specs.Trees.{declared_of}
use Rattle.pv_typed.specs.Tables.{Stored}
use Rattle.pv_typed.specs.NodeTrees.{statement_at}
use Rattle.pv_eval.specs.declared.failure.Failure.{Failure}
use Rattle.pv_eval.specs.States.{Setting, State, Res, Gives, spend}
use Rattle.pv_eval.specs.Machines.{Started}
use Rattle.pv_eval.specs.Moments.{Made}
use Rattle.pv_exec.specs.declared.task.Task.TheVariants as task
use Rattle.pv_exec.specs.declared.task.Doing.TheVariants as doing
use Rattle.pv_exec.specs.declared.task.Way.TheVariants as way
use Rattle.pv_exec.specs.Flows.{Flow, Falls}
use Rattle.pv_exec.specs.OfRuns.{in_block, exs, below}
use Rattle.pv_exec.specs.Lists.{make_all}
use Rattle.pv_exec.specs.Tasks.{Left, left_flow, statements_from}
use Rattle.pv_exec.specs.Works.{does}
use Rattle.pv_exec.specs.Leading.{Leads, LeadsOr}
use Rattle.pv_exec.proofs.Enters.{scope-leads, scope-stops}
use Rattle.pv_exec.proofs.Storing.{ticked}

jump-is : (b : Setting) (u : Stored) (k : ℕ) (n : NodeId) (l : ListId) (i : ℕ) (es : List Started) (s s1 : State) → s.taken < b.bound → spend s ≡ s1 → does b u k es (doing.Jump n l i) s ≡ left_flow (in_block b (declared_of (statement_at u n)) (λ s. exs b (below b k) (statements_from u l i) s) s1)
unfolding does
jump-is b u k n l i es s s1 lt e =
    let body : State → Res Flow = λ s. in_block b (declared_of (statement_at u n)) (λ s. exs b (below b k) (statements_from u l i) s) s in
    ap left_flow (ticked b s body lt) ∙ ap (λ (q : State). left_flow (body q)) e

pub jump-enters : (b : Setting) (u : Stored) (k : ℕ) (n : NodeId) (l : ListId) (i : ℕ) (old new : List Started) (s s1 s2 : State) → s.taken < b.bound → b.bound < s2.taken + k → spend s ≡ s1 → new ≡ old → Made (make_all b (declared_of (statement_at u n)) s1) (Ok tt) s2 → Leads b u (does b u k old (doing.Jump n l i) s) old (way.With (task.InBlock n) (doing.Statements l i)) new s2
unfolding does
jump-enters b u k n l i old new s s1 s2 tu lt e st m =
    subst (λ (es : List Started). Leads b u (does b u k old (doing.Jump n l i) s) es (way.With (task.InBlock n) (doing.Statements l i)) new s2) st
    (subst (λ q. Leads b u q new (way.With (task.InBlock n) (doing.Statements l i)) new s2) (sym (jump-is b u k n l i old s s1 tu e))
    (scope-leads b u k n new (doing.Statements l i) (λ s. exs b (below b k) (statements_from u l i) s) s1 s2 lt (λ s. refl) refl m))

pub jump-stops : (b : Setting) (u : Stored) (k : ℕ) (n : NodeId) (l : ListId) (i : ℕ) (e : Failure) (old stand new : List Started) (s s1 s2 : State) → s.taken < b.bound → spend s ≡ s1 → Made (make_all b (declared_of (statement_at u n)) s1) (Err e) s2 → LeadsOr b u (does b u k old (doing.Jump n l i) s) stand (Err e) new s2
jump-stops b u k n l i e old stand new s s1 s2 tu is m =
    subst (λ q. LeadsOr b u q stand (Err e) new s2) (sym (jump-is b u k n l i old s s1 tu is))
    (scope-stops b u (declared_of (statement_at u n)) (λ s. exs b (below b k) (statements_from u l i) s) e stand new s1 s2 m)

-- a body that is not there
pub absent-is : (b : Setting) (u : Stored) (k : ℕ) (es : List Started) (s s1 : State) → s.taken < b.bound → spend s ≡ s1 → does b u k es doing.Absent s ≡ Gives (Left Falls) s1
unfolding does
absent-is b u k es s s1 lt e = ap left_flow (ticked b s (λ s. Gives Falls s) lt) ∙ ap (λ (q : State). Gives (Left Falls) q) e
