-- What selections lead to.
use Rattle.std.proofs.Common.{◌≡◌, ℕ, ◌+◌, ◌<◌, List, Some, None, refl, sym, ap, ◌∙◌, subst, arith}
use Rattle.std.specs.Prelude.{Bool, true, false, Err, if◌then◌else◌}
use Rattle.pv_tree.specs.declared.nodes.NodeId.{NodeId}
use Rattle.pv_typed.specs.TypedTree.{line_of}
use Rattle.pv_typed.specs.Tables.{Stored, nodes}
use Rattle.pv_typed.specs.NodeTrees.{expression_at, statement_at}
use Rattle.pv_world.specs.Worlds.{Worth}
use Rattle.pv_world.specs.Worths.{is_true, truth_int}
use Rattle.pv_eval.specs.declared.failure.Failure.{Failure}
use Rattle.pv_eval.specs.declared.failure.Failure.TheVariants as failure
use Rattle.pv_eval.specs.States.{Setting, State, Gives, then_do}
use Rattle.pv_eval.specs.Moments.{Tested}
use Rattle.pv_eval.specs.Operations.{Tests, act}
use Rattle.pv_eval.specs.Machines.{Started}
use Rattle.pv_exec.specs.declared.parts.ChoiceParts.{ChoiceParts}
use Rattle.pv_exec.specs.declared.task.Task.TheVariants as task
use Rattle.pv_exec.specs.declared.task.Way.TheVariants as way
use Rattle.pv_exec.specs.Flows.{Falls}
use Rattle.pv_exec.specs.OfRuns.{ex, below}
use Rattle.pv_exec.specs.Parts.{choice_of, branch_of, other_side}
use Rattle.pv_exec.specs.Tasks.{Left, left_flow, after_value}
use Rattle.pv_exec.specs.Works.{does}
use Rattle.pv_exec.specs.Leading.{Leads, LeadsOr}
use Rattle.pv_exec.specs.Read.{choice_in, other_read, other_side_of, side_of}

other-leads : (b : Setting) (u : Stored) (k : ℕ) (o : Rattle.std.specs.declared.option.Option.Option NodeId) (es : List Started) (s : State) → b.bound < s.taken + k → Leads b u (left_flow (other_side b (below b k) (other_read (nodes u) o) s)) es (way.Do (other_side_of o)) es s
unfolding does
other-leads b u k None es s lt = record { waits = k; level = k; law = refl; stands = refl; room_waits = omega (arith, lt); room = omega (arith, lt) }
other-leads b u k (Some y) es s lt = record { waits = k; level = k; law = refl; stands = refl; room_waits = omega (arith, lt); room = omega (arith, lt) }

side-leads : (b : Setting) (u : Stored) (k : ℕ) (p : ChoiceParts) (t : Bool) (es : List Started) (s : State) → b.bound < s.taken + k → Leads b u (left_flow (if is_true (truth_int t) then ex b (below b k) (statement_at u p.body) s else other_side b (below b k) (other_read (nodes u) p.other) s)) es (way.Do (side_of p t)) es s
unfolding does
side-leads b u k p true es s lt = record { waits = k; level = k; law = refl; stands = refl; room_waits = omega (arith, lt); room = omega (arith, lt) }
side-leads b u k p false es s lt = other-leads b u k p.other es s lt

-- the side of an `if` that its condition chooses
pub chosen-leads : (b : Setting) (u : Stored) (k line : ℕ) (n : NodeId) (p : ChoiceParts) (t : Bool) (stand new : List Started) (v : Worth) (s s' : State) → b.bound < s'.taken + k → choice_of (statement_at u n) ≡ Some (choice_in (nodes u) p) → line ≡ line_of (expression_at u p.condition) → act b line (Tests v) s ≡ Gives (truth_int t) s' → new ≡ stand → Leads b u (after_value b u k (task.Chosen n) v s) stand (way.Do (side_of p t)) new s'
unfolding after_value
chosen-leads b u k line n p t stand new v s s' lt e is h st =
    let G = λ (v : Worth) (s : State). if is_true v then ex b (below b k) (statement_at u p.body) s else other_side b (below b k) (other_read (nodes u) p.other) s in
    let law : left_flow (branch_of b (below b k) (choice_of (statement_at u n)) v s) ≡ left_flow (G (truth_int t) s') = ap (λ q. left_flow (branch_of b (below b k) q v s)) e ∙ ap (λ m. left_flow (then_do (act b m (Tests v) s) G)) (sym is) ∙ ap (λ r. left_flow (then_do r G)) h in
    subst (λ (x : List Started). Leads b u (left_flow (branch_of b (below b k) (choice_of (statement_at u n)) v s)) x (way.Do (side_of p t)) new s') st
    (subst (λ m. Leads b u m new (way.Do (side_of p t)) new s') (sym law) (side-leads b u k p t new s' lt))

pub chosen-stops : (b : Setting) (u : Stored) (k line : ℕ) (n : NodeId) (p : ChoiceParts) (e : Failure) (stand new : List Started) (v : Worth) (s s' : State) → choice_of (statement_at u n) ≡ Some (choice_in (nodes u) p) → line ≡ line_of (expression_at u p.condition) → Tested (act b line (Tests v) s) (Err e) s' → LeadsOr b u (after_value b u k (task.Chosen n) v s) stand (Err e) new s'
unfolding after_value
chosen-stops b u k line n p failure.NoMemory stand new v s s' e is h = tt
chosen-stops b u k line n p (failure.Stop y l) stand new v s s' e is h =
    let G = λ (v : Worth) (s : State). if is_true v then ex b (below b k) (statement_at u p.body) s else other_side b (below b k) (other_read (nodes u) p.other) s in
    ap (λ q. left_flow (branch_of b (below b k) q v s)) e ∙ ap (λ m. left_flow (then_do (act b m (Tests v) s) G)) (sym is) ∙ ap (λ r. left_flow (then_do r G)) h

pub no-choice : (b : Setting) (u : Stored) (k : ℕ) (n : NodeId) (v : Worth) (s : State) → choice_of (statement_at u n) ≡ None → after_value b u k (task.Chosen n) v s ≡ Gives (Left Falls) s
unfolding after_value
no-choice b u k n v s e = ap (λ q. left_flow (branch_of b (below b k) q v s)) e
