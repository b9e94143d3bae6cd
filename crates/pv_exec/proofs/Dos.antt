-- What loops whose condition comes last lead to.
use Rattle.std.proofs.Common.{◌≡◌, ℕ, ◌+◌, ◌<◌, ◌≤◌, List, Some, None, zero, suc, sym, ap, ◌∙◌, subst, arith}
use Rattle.std.specs.Prelude.{true, false, Err, if◌then◌else◌}
use Rattle.pv_tree.specs.declared.nodes.NodeId.{NodeId}
use Rattle.pv_typed.specs.TypedTree.{line_of}
use Rattle.pv_typed.specs.Tables.{Stored, nodes}
use Rattle.pv_typed.specs.NodeTrees.{expression_at, statement_at}
use Rattle.pv_world.specs.Worlds.{Worth}
use Rattle.pv_world.specs.Worths.{is_true, truth_int}
use Rattle.pv_eval.specs.declared.failure.Failure.{Failure}
use Rattle.pv_eval.specs.declared.failure.Failure.TheVariants as failure
use Rattle.pv_eval.specs.States.{Setting, State, Res, Gives, then_do}
use Rattle.pv_eval.specs.Moments.{Tested}
use Rattle.pv_eval.specs.Operations.{Tests, act}
use Rattle.pv_eval.specs.Machines.{Started}
use Rattle.pv_exec.specs.declared.parts.DoParts.{DoParts}
use Rattle.pv_exec.specs.declared.task.Task.TheVariants as task
use Rattle.pv_exec.specs.declared.task.Doing.TheVariants as doing
use Rattle.pv_exec.specs.declared.task.Flow.TheVariants as code_flow
use Rattle.pv_exec.specs.declared.task.Way.TheVariants as way
use Rattle.pv_exec.specs.Flows.{Flow, Falls, Continues, Below, goes_on}
use Rattle.pv_exec.specs.OfRuns.{full_expression, if_tested, ex, below}
use Rattle.pv_exec.specs.Calls.{below_by}
use Rattle.pv_exec.specs.Parts.{do_of, rounded_do, tested_do}
use Rattle.pv_exec.specs.Tasks.{Left, left_flow, after_flow, after_value, after_task}
use Rattle.pv_exec.specs.Works.{does}
use Rattle.pv_exec.specs.Leading.{Leads, LeadsOr}
use Rattle.pv_exec.specs.Read.{do_in}
use Rattle.pv_exec.proofs.Pieces.{lifted, lifted-twice, pushed}
use Rattle.pv_exec.proofs.Leaving.{leaves-at}

-- a further round is one level lower
again-do-leads : (b : Setting) (u : Stored) (k : ℕ) (n : NodeId) (p : DoParts) (stand es : List Started) (s : State) → s.taken ≤ b.bound → b.bound < s.taken + k → do_of (statement_at u n) ≡ Some (do_in (nodes u) p) → es ≡ stand → Leads b u (left_flow ((below b k).again_do (statement_at u p.body) (expression_at u p.condition) s)) stand (way.With (task.RoundedDo n) (doing.Enter p.body)) es s
unfolding below_by does after_flow
again-do-leads b u zero n p stand es s le lt e st = absurd (omega (arith, le, lt))
again-do-leads b u (suc k) n p stand es s le lt e st =
    let w = below b k in
    let m = ex b w (statement_at u p.body) s in
    record {
      waits = k;
      level = k;
      law = lifted m (rounded_do b w (Some (do_in (nodes u) p)))
          ∙ ap (λ q. then_do m (λ fl s. left_flow (rounded_do b w q fl s))) (sym e)
          ∙ pushed m (after_task b u k es (task.RoundedDo n));
      stands = st;
      room_waits = omega (arith, lt);
      room = omega (arith, lt);
    }

tested-do-is : (b : Setting) (u : Stored) (k line : ℕ) (n : NodeId) (p : DoParts) (v : Worth) (s : State) (r : Res Worth) → do_of (statement_at u n) ≡ Some (do_in (nodes u) p) → line ≡ line_of (expression_at u p.condition) → act b line (Tests v) s ≡ r → left_flow (tested_do b (below b k) (do_of (statement_at u n)) v s) ≡ left_flow (then_do r (λ v s. if is_true v then (below b k).again_do (statement_at u p.body) (expression_at u p.condition) s else Gives Falls s))
tested-do-is b u k line n p v s r e is h =
    let G = λ (v : Worth) (s : State). if is_true v then (below b k).again_do (statement_at u p.body) (expression_at u p.condition) s else Gives Falls s in
    ap (λ q. left_flow (tested_do b (below b k) q v s)) e ∙ ap (λ m. left_flow (then_do (act b m (Tests v) s) G)) (sym is) ∙ ap (λ r. left_flow (then_do r G)) h

pub tested-do-true : (b : Setting) (u : Stored) (k line : ℕ) (n : NodeId) (p : DoParts) (stand new : List Started) (v : Worth) (s s' : State) → s'.taken ≤ b.bound → b.bound < s'.taken + k → do_of (statement_at u n) ≡ Some (do_in (nodes u) p) → line ≡ line_of (expression_at u p.condition) → act b line (Tests v) s ≡ Gives (truth_int true) s' → new ≡ stand → Leads b u (after_value b u k (task.TestedDo n) v s) stand (way.With (task.RoundedDo n) (doing.Enter p.body)) new s'
unfolding after_value
tested-do-true b u k line n p stand new v s s' le lt e is h st =
    subst (λ m. Leads b u m stand (way.With (task.RoundedDo n) (doing.Enter p.body)) new s') (sym (tested-do-is b u k line n p v s (Gives (truth_int true) s') e is h)) (again-do-leads b u k n p stand new s' le lt e st)

pub tested-do-false : (b : Setting) (u : Stored) (k line : ℕ) (n : NodeId) (p : DoParts) (stand new : List Started) (v : Worth) (s s' : State) → b.bound < s'.taken + k → do_of (statement_at u n) ≡ Some (do_in (nodes u) p) → line ≡ line_of (expression_at u p.condition) → act b line (Tests v) s ≡ Gives (truth_int false) s' → new ≡ stand → Leads b u (after_value b u k (task.TestedDo n) v s) stand (way.Do (doing.Left code_flow.Falls)) new s'
unfolding after_value
tested-do-false b u k line n p stand new v s s' lt e is h st =
    leaves-at b u k (left_flow (tested_do b (below b k) (do_of (statement_at u n)) v s)) code_flow.Falls stand new s' lt (tested-do-is b u k line n p v s (Gives (truth_int false) s') e is h) st

pub tested-do-stops : (b : Setting) (u : Stored) (k line : ℕ) (n : NodeId) (p : DoParts) (e : Failure) (stand new : List Started) (v : Worth) (s s' : State) → do_of (statement_at u n) ≡ Some (do_in (nodes u) p) → line ≡ line_of (expression_at u p.condition) → Tested (act b line (Tests v) s) (Err e) s' → LeadsOr b u (after_value b u k (task.TestedDo n) v s) stand (Err e) new s'
unfolding after_value
tested-do-stops b u k line n p failure.NoMemory stand new v s s' e is h = tt
tested-do-stops b u k line n p (failure.Stop y l) stand new v s s' e is h = tested-do-is b u k line n p v s _ e is h

-- the condition after the body
condition-of : (b : Setting) (u : Stored) (k : ℕ) (n : NodeId) (p : DoParts) (s : State) → do_of (statement_at u n) ≡ Some (do_in (nodes u) p) → left_flow (if_tested b (below b k).call (Some (expression_at u p.condition)) ((below b k).again_do (statement_at u p.body) (expression_at u p.condition)) s) ≡ then_do (full_expression b (below b k).call (expression_at u p.condition) s) (after_value b u k (task.TestedDo n))
unfolding after_value
condition-of b u k n p s e =
    let w = below b k in
    let c = expression_at u p.condition in
    let G = λ (v : Worth) (s : State). if is_true v then w.again_do (statement_at u p.body) c s else Gives Falls s in
    lifted-twice (full_expression b w.call c s) (λ v s. act b (line_of c) (Tests v) s) G
    ∙ ap (λ q. then_do (full_expression b w.call c s) (λ v s. left_flow (tested_do b w q v s))) (sym e)

pub do-falls : (b : Setting) (u : Stored) (k : ℕ) (n : NodeId) (p : DoParts) (es : List Started) (fl : Rattle.pv_exec.specs.Flows.Flow) (s : State) → do_of (statement_at u n) ≡ Some (do_in (nodes u) p) → fl ≡ Falls → after_flow b u k es (task.RoundedDo n) fl s ≡ then_do (full_expression b (below b k).call (expression_at u p.condition) s) (after_value b u k (task.TestedDo n))
unfolding after_flow
do-falls b u k n p es fl s e f = ap (λ q. left_flow (rounded_do b (below b k) q fl s)) e ∙ ap (λ x. left_flow (rounded_do b (below b k) (Some (do_in (nodes u) p)) x s)) f ∙ condition-of b u k n p s e

pub do-continues : (b : Setting) (u : Stored) (k : ℕ) (n : NodeId) (p : DoParts) (es : List Started) (fl : Rattle.pv_exec.specs.Flows.Flow) (s : State) → do_of (statement_at u n) ≡ Some (do_in (nodes u) p) → fl ≡ Continues → after_flow b u k es (task.RoundedDo n) fl s ≡ then_do (full_expression b (below b k).call (expression_at u p.condition) s) (after_value b u k (task.TestedDo n))
unfolding after_flow
do-continues b u k n p es fl s e f = ap (λ q. left_flow (rounded_do b (below b k) q fl s)) e ∙ ap (λ x. left_flow (rounded_do b (below b k) (Some (do_in (nodes u) p)) x s)) f ∙ condition-of b u k n p s e

-- the body was left in another way, or there is no `do`
pub do-leaves : (b : Setting) (u : Stored) (k : ℕ) (n : NodeId) (p : DoParts) (es : List Started) (fl to : Rattle.pv_exec.specs.Flows.Flow) (s : State) → do_of (statement_at u n) ≡ Some (do_in (nodes u) p) → rounded_do b (below b k) (Some (do_in (nodes u) p)) fl s ≡ Gives to s → after_flow b u k es (task.RoundedDo n) fl s ≡ Gives (Left to) s
unfolding after_flow
do-leaves b u k n p es fl to s e h = ap (λ q. left_flow (rounded_do b (below b k) q fl s)) e ∙ ap left_flow h

pub no-do : (b : Setting) (u : Stored) (k : ℕ) (n : NodeId) (es : List Started) (fl : Rattle.pv_exec.specs.Flows.Flow) (s : State) → do_of (statement_at u n) ≡ None → after_flow b u k es (task.RoundedDo n) fl s ≡ Gives (Left fl) s
unfolding after_flow
no-do b u k n es fl s e = ap (λ q. left_flow (rounded_do b (below b k) q fl s)) e

pub no-do-value : (b : Setting) (u : Stored) (k : ℕ) (n : NodeId) (v : Worth) (s : State) → do_of (statement_at u n) ≡ None → after_value b u k (task.TestedDo n) v s ≡ Gives (Left Falls) s
unfolding after_value
no-do-value b u k n v s e = ap (λ q. left_flow (tested_do b (below b k) q v s)) e
