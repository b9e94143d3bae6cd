-- What the operations of loops lead to.
use Rattle.std.proofs.Common.{◌≡◌, ℕ, ◌+◌, ◌<◌, ◌≤◌, List, [], ◌∷◌, Some, None, zero, suc, refl, sym, ap, ◌∙◌, subst, arith, true, false}
use Rattle.std.specs.Prelude.{Bool, Option, Result, Err, IfSome, if◌then◌else◌}
use Rattle.pv_tree.specs.declared.nodes.NodeId.{NodeId}
use Rattle.pv_typed.specs.TypedTree.{line_of}
use Rattle.pv_typed.specs.Nodes.{optional_in}
use Rattle.pv_typed.specs.Tables.{Stored, nodes}
use Rattle.pv_typed.specs.NodeTrees.{expression_at, statement_at, IsExpression}
use Rattle.pv_eval.specs.Evaluation.{ev}
use Rattle.pv_eval.specs.Machines.{left_of, due_turns, is_due_at, after_first, Started}
use Rattle.pv_eval.specs.MachineSteps.{IsBegun}
use Rattle.pv_eval.specs.Moments.{Tested}
use Rattle.pv_eval.specs.Operations.{Tests, act}
use Rattle.pv_eval.specs.Sequenced.{Given}
use Rattle.pv_eval.specs.States.{Setting, State, Res, Gives, Stops, then_do}
use Rattle.pv_exec.specs.Calls.{below_by}
use Rattle.pv_exec.specs.OfRuns.{below, ex, full_expression, then_step, if_tested}
use Rattle.pv_exec.specs.Flows.{Falls, Returns, Below}
use Rattle.pv_world.specs.Worlds.{Worth}
use Rattle.pv_world.specs.Worths.{is_true, truth_int}
use Rattle.pv_eval.specs.declared.failure.Failure.{Failure}
use Rattle.pv_eval.specs.declared.failure.Failure.TheVariants as failure
use Rattle.pv_eval.specs.declared.frames.Now.TheVariants as now
use Rattle.pv_eval.specs.Ahead.{ahead}
use Rattle.pv_exec.specs.declared.task.Flow.TheVariants as code_flow
use Rattle.pv_exec.specs.declared.parts.RoundParts.{RoundParts}
use Rattle.pv_exec.specs.declared.task.Task.{Task}
use Rattle.pv_exec.specs.declared.task.Task.TheVariants as task
use Rattle.pv_exec.specs.declared.task.Doing.{Doing}
use Rattle.pv_exec.specs.declared.task.Doing.TheVariants as doing
use Rattle.pv_exec.specs.declared.task.Way.{Way}
use Rattle.pv_exec.specs.declared.task.Way.TheVariants as way
use Rattle.pv_exec.specs.Tasks.{takes_value, Reached, Valued, left_flow, after_value, after_task, after_flow}
use Rattle.pv_exec.specs.Parts.{loop_of, rounds, loop_from_test, rest_of_loop, stepped_on, Loop, line_of_condition}
use Rattle.pv_exec.specs.Works.{others, behind_call, does, due, is_call}
use Rattle.pv_exec.specs.Leading.{Leads, LeadsOr}
use Rattle.pv_exec.specs.Read.{IsRound, behind_body}
use Rattle.pv_exec.specs.Fits.{WayFits}
use Rattle.pv_exec.specs.Quickness.{Quick}
use Rattle.pv_exec.proofs.Pieces.{lifted, lifted-twice, pushed}

pub leads-do : (b : Setting) (u : Stored) (k : ℕ) (all : Res Reached) (es : List Started) (d : Doing) (s : State) → b.bound < s.taken + k + due es d → all ≡ does b u k es d s → (stand : List Started) → others es d ≡ stand → Leads b u all stand (way.Do d) es s
leads-do b u k all es d s lt e stand st = record { waits = k; level = k; law = e; stands = st; room_waits = lt; room = lt }

pub leads-with : (b : Setting) (u : Stored) (k : ℕ) (all : Res Reached) (stand es : List Started) (t : Task) (d : Doing) (s : State) → b.bound < s.taken + k + due es d → all ≡ then_do (does b u k es d s) (after_task b u k (others es d) t) → behind_call t (others es d) ≡ stand → Leads b u all stand (way.With t d) es s
leads-with b u k all stand es t d s lt e st = record { waits = k; level = k; law = e; stands = st; room_waits = lt; room = lt }

given-value : (m : Res Given) (A : Worth → State → Res Reached) (B : Reached → State → Res Reached) → ((v : Worth) (s : State) → B (Valued v) s ≡ A v s) → then_do (then_do m (λ g s. Gives g.value s)) A ≡ then_do (then_do (then_do m (λ g s. Gives g s)) (λ g s. Gives (Valued g.value) s)) B
given-value (Gives g s) A B h = sym (h g.value s)
given-value (Stops y s) A B h = refl

-- an expression was begun
pub begun : (b : Setting) (u : Stored) (k : ℕ) (t : Task) (n : NodeId) (old : List Started) (s : State) (es : List Started) → takes_value t ≡ true → IsBegun n es old → then_do (full_expression b (below b k).call (expression_at u n) s) (after_value b u k t) ≡ then_do (does b u k es doing.Evaluate s) (after_task b u k (others es doing.Evaluate) t)
unfolding does
begun b u k t n old s [] w h = absurd h
begun b u k t n old s (e ∷ es) w h =
    let call = (below b k).call in
    let is : left_of b call u (e ∷ es) s ≡ then_do (ev b call (expression_at u n) [] s) (λ g s. Gives g s) =
    ap (λ p. ahead b call u e.frames e.opens p s) h.1 ∙ ap (λ f. ahead b call u f e.opens (now.Due n) s) h.2 ∙ ap (λ j. ahead b call u [] j (now.Due n) s) h.3 in
    given-value (ev b call (expression_at u n) [] s) (after_value b u k t) (after_task b u k es t) (λ v s. ap (λ (q : Bool). if q then after_value b u k t v s else after_flow b u k es t (Returns v) s) w)
    ∙ ap (λ m. then_do (then_do m (λ g s. Gives (Valued g.value) s)) (after_task b u k es t)) (sym is)

pub started : (b : Setting) (u : Stored) (k : ℕ) (t : Task) (n : NodeId) (old es : List Started) (s : State) (all : Res Reached) → is_call t ≡ false → takes_value t ≡ true → IsBegun n es old → b.bound < s.taken + k + 1 → all ≡ then_do (full_expression b (below b k).call (expression_at u n) s) (after_value b u k t) → Leads b u all old (way.With t doing.Evaluate) es s
started b u k t n old [] s all c w h lt e = absurd h
started b u k t n old (x ∷ es) s all c w h lt e =
    let d : due_turns (x ∷ es) ≡ 1 = ap (λ p. if is_due_at p then 1 else 0) h.1 in
    leads-with b u k all old (x ∷ es) t doing.Evaluate s (omega (arith, d, lt)) (e ∙ begun b u k t n old s (x ∷ es) w h)
    (ap (λ (q : Bool). if q then after_first es else es) c ∙ h.4)

-- a round that begins with its body, and with its condition
pub round-body : (b : Setting) (u : Stored) (k : ℕ) (n body : NodeId) (es : List Started) (s : State) → b.bound < s.taken + k + 1 → (loop_of (statement_at u n)).condition ≡ None → (loop_of (statement_at u n)).body ≡ statement_at u body → Leads b u (left_flow (rounds b (below b k) (loop_of (statement_at u n)) s)) es (way.With (task.Rounded n) (doing.Enter body)) es s
unfolding does after_flow
round-body b u k n body es s lt c e =
    let l = loop_of (statement_at u n) in
    let w = below b k in
    leads-with b u k _ es es (task.Rounded n) (doing.Enter body) s lt
    (ap (λ q. left_flow (if_tested b w.call q (λ s. then_do (ex b w l.body s) (rest_of_loop b w l)) s)) c
    ∙ lifted (ex b w l.body s) (rest_of_loop b w l)
    ∙ pushed (ex b w l.body s) (after_task b u k es (task.Rounded n))
    ∙ ap (λ x. then_do (left_flow (ex b w x s)) (after_task b u k es (task.Rounded n))) e) refl

pub round-condition : (b : Setting) (u : Stored) (k : ℕ) (n c : NodeId) (s : State) → (loop_of (statement_at u n)).condition ≡ Some (expression_at u c) → left_flow (rounds b (below b k) (loop_of (statement_at u n)) s) ≡ then_do (full_expression b (below b k).call (expression_at u c) s) (after_value b u k (task.Tested n))
unfolding after_value
round-condition b u k n c s e =
    let l = loop_of (statement_at u n) in
    let w = below b k in
    let x = expression_at u c in
    ap (λ q. left_flow (if_tested b w.call q (λ s. then_do (ex b w l.body s) (rest_of_loop b w l)) s)) e
    ∙ lifted-twice (full_expression b w.call x s) (λ v s. act b (line_of x) (Tests v) s) (λ v s. if is_true v then then_do (ex b w l.body s) (rest_of_loop b w l) else Gives Falls s)
    ∙ ap (λ q. then_do (full_expression b w.call x s) (λ v s. left_flow (then_do (act b (line_of_condition q) (Tests v) s) (λ v s. if is_true v then then_do (ex b w l.body s) (rest_of_loop b w l) else Gives Falls s)))) (sym e)

-- a further round is one level lower, where the turns taken are within the bound
pub again-leads : (b : Setting) (u : Stored) (k : ℕ) (n : NodeId) (s : State) (old es : List Started) (r : Result Way Failure) → s.taken ≤ b.bound → b.bound < s.taken + k → ((k : ℕ) → b.bound < s.taken + k + 1 → LeadsOr b u (left_flow (rounds b (below b k) (loop_of (statement_at u n)) s)) old r es s) → LeadsOr b u (left_flow ((below b k).again (loop_of (statement_at u n)).condition (loop_of (statement_at u n)).step (loop_of (statement_at u n)).body s)) old r es s
unfolding below_by
again-leads b u zero n s old es r le lt h = absurd (omega (arith, le, lt))
again-leads b u (suc k) n s old es r le lt h = h k (omega (arith, lt))

pub step-none : (b : Setting) (u : Stored) (k : ℕ) (n : NodeId) (s : State) (old es : List Started) (r : Result Way Failure) → (loop_of (statement_at u n)).step ≡ None → LeadsOr b u (left_flow ((below b k).again (loop_of (statement_at u n)).condition (loop_of (statement_at u n)).step (loop_of (statement_at u n)).body s)) old r es s → LeadsOr b u (left_flow (stepped_on b (below b k) (loop_of (statement_at u n)) s)) old r es s
step-none b u k n s old es r e h =
    let l = loop_of (statement_at u n) in
    let w = below b k in
    subst (λ q. LeadsOr b u (left_flow (then_step b w.call q (w.again l.condition l.step l.body) s)) old r es s) (sym e) h

pub step-some : (b : Setting) (u : Stored) (k : ℕ) (n x : NodeId) (s : State) → (loop_of (statement_at u n)).step ≡ Some (expression_at u x) → left_flow (stepped_on b (below b k) (loop_of (statement_at u n)) s) ≡ then_do (full_expression b (below b k).call (expression_at u x) s) (after_value b u k (task.Stepped n))
unfolding after_value
step-some b u k n x s e =
    let l = loop_of (statement_at u n) in
    let w = below b k in
    ap (λ q. left_flow (then_step b w.call q (w.again l.condition l.step l.body) s)) e
    ∙ lifted (full_expression b w.call (expression_at u x) s) (λ v s. w.again l.condition l.step l.body s)

pub tested-is : (b : Setting) (w : Below) (l : Loop) (line : ℕ) (v : Worth) (s : State) (r : Res Worth) → line ≡ line_of_condition l.condition → act b line (Tests v) s ≡ r → loop_from_test b w l v s ≡ then_do r (λ v s. if is_true v then then_do (ex b w l.body s) (rest_of_loop b w l) else Gives Falls s)
tested-is b w l line v s r e h =
    let G = λ (v : Worth) (s : State). if is_true v then then_do (ex b w l.body s) (rest_of_loop b w l) else Gives Falls s in
    ap (λ n. then_do (act b n (Tests v) s) G) (sym e) ∙ ap (λ m. then_do m G) h

pub tested-true : (b : Setting) (u : Stored) (k line : ℕ) (n body : NodeId) (es : List Started) (v : Worth) (s s' : State) → b.bound < s'.taken + k → line ≡ line_of_condition (loop_of (statement_at u n)).condition → (loop_of (statement_at u n)).body ≡ statement_at u body → act b line (Tests v) s ≡ Gives (truth_int true) s' → Leads b u (left_flow (loop_from_test b (below b k) (loop_of (statement_at u n)) v s)) es (way.With (task.Rounded n) (doing.Enter body)) es s'
unfolding does after_flow
tested-true b u k line n body es v s s' lt e is h =
    let l = loop_of (statement_at u n) in
    let w = below b k in
    leads-with b u k _ es es (task.Rounded n) (doing.Enter body) s' (omega (arith, lt))
    (ap left_flow (tested-is b w l line v s _ e h)
    ∙ lifted (ex b w l.body s') (rest_of_loop b w l)
    ∙ pushed (ex b w l.body s') (after_task b u k es (task.Rounded n))
    ∙ ap (λ x. then_do (left_flow (ex b w x s')) (after_task b u k es (task.Rounded n))) is) refl

pub tested-false : (b : Setting) (u : Stored) (k line : ℕ) (n : NodeId) (es : List Started) (v : Worth) (s s' : State) → b.bound < s'.taken + k → line ≡ line_of_condition (loop_of (statement_at u n)).condition → act b line (Tests v) s ≡ Gives (truth_int false) s' → Leads b u (left_flow (loop_from_test b (below b k) (loop_of (statement_at u n)) v s)) es (way.Do (doing.Left code_flow.Falls)) es s'
unfolding does
tested-false b u k line n es v s s' lt e h =
    leads-do b u k _ es (doing.Left code_flow.Falls) s' (omega (arith, lt)) (ap left_flow (tested-is b (below b k) (loop_of (statement_at u n)) line v s _ e h)) es refl

pub tested-stops : (b : Setting) (u : Stored) (k line : ℕ) (n : NodeId) (stand es : List Started) (v : Worth) (e : Failure) (s s' : State) → line ≡ line_of_condition (loop_of (statement_at u n)).condition → Tested (act b line (Tests v) s) (Err e) s' → LeadsOr b u (left_flow (loop_from_test b (below b k) (loop_of (statement_at u n)) v s)) stand (Err e) es s'
tested-stops b u k line n stand es v failure.NoMemory s s' is h = tt
tested-stops b u k line n stand es v (failure.Stop y m) s s' is h = ap left_flow (tested-is b (below b k) (loop_of (statement_at u n)) line v s _ is h)

-- what is asked for before it is started
pub round-goes : (b : Setting) (u : Stored) (k : ℕ) (p : RoundParts) (es : List Started) (s : State) → b.bound < s.taken + k → Leads b u (left_flow ((below b k).again (loop_of (statement_at u p.statement)).condition (loop_of (statement_at u p.statement)).step (loop_of (statement_at u p.statement)).body s)) es (way.Do (doing.Round p)) es s
unfolding does
round-goes b u k p es s lt = leads-do b u k _ es (doing.Round p) s (omega (arith, lt)) refl es refl

pub behind-goes : (b : Setting) (u : Stored) (k : ℕ) (o : Option NodeId) (p : RoundParts) (es : List Started) (s : State) → b.bound < s.taken + k → (loop_of (statement_at u p.statement)).step ≡ optional_in (nodes u) o → Leads b u (left_flow (stepped_on b (below b k) (loop_of (statement_at u p.statement)) s)) es (way.Do (behind_body o p)) es s
unfolding does
behind-goes b u k None p es s lt e =
    let l = loop_of (statement_at u p.statement) in
    let w = below b k in
    leads-do b u k _ es (doing.Round p) s (omega (arith, lt)) (ap (λ q. left_flow (then_step b w.call q (w.again l.condition l.step l.body) s)) e) es refl
behind-goes b u k (Some x) p es s lt e = leads-do b u k _ es (doing.Again x p) s (omega (arith, lt)) refl es refl

pub behind-fits : (u : Stored) (es : List Started) (o : Option NodeId) (p : RoundParts) → IsRound u p → (loop_of (statement_at u p.statement)).step ≡ optional_in (nodes u) o → IfSome o (IsExpression u) → WayFits u es es (way.Do (behind_body o p))
behind-fits u es None p r e h = (r, refl)
behind-fits u es (Some x) p r e h = (record { round = r; step = e; has_step = h }, refl)

pub behind-quick : (es : List Started) (o : Option NodeId) (p : RoundParts) → Quick es (way.Do (behind_body o p))
behind-quick es None p = tt
behind-quick es (Some x) p = tt

-- once it is started
pub again-does : (b : Setting) (u : Stored) (k : ℕ) (x : NodeId) (p : RoundParts) (old es : List Started) (r : Result Way Failure) (s : State) → LeadsOr b u (left_flow (stepped_on b (below b k) (loop_of (statement_at u p.statement)) s)) old r es s → LeadsOr b u (does b u k old (doing.Again x p) s) old r es s
unfolding does
again-does b u k x p old es r s h = h

pub round-does : (b : Setting) (u : Stored) (k : ℕ) (p : RoundParts) (old es : List Started) (r : Result Way Failure) (s : State) → LeadsOr b u (left_flow ((below b k).again (loop_of (statement_at u p.statement)).condition (loop_of (statement_at u p.statement)).step (loop_of (statement_at u p.statement)).body s)) old r es s → LeadsOr b u (does b u k old (doing.Round p) s) old r es s
unfolding does
round-does b u k p old es r s h = h

-- the body, whose condition holds
pub body-leads : (b : Setting) (u : Stored) (k : ℕ) (p : RoundParts) (es : List Started) (s : State) → b.bound < s.taken + k → (loop_of (statement_at u p.statement)).body ≡ statement_at u p.body → Leads b u (does b u k es (doing.Body p) s) es (way.With (task.Rounded p.statement) (doing.Enter p.body)) es s
unfolding does after_flow
body-leads b u k p es s lt is =
    let l = loop_of (statement_at u p.statement) in
    let w = below b k in
    leads-with b u k _ es es (task.Rounded p.statement) (doing.Enter p.body) s (omega (arith, lt))
    (lifted (ex b w l.body s) (rest_of_loop b w l)
    ∙ pushed (ex b w l.body s) (after_task b u k es (task.Rounded p.statement))
    ∙ ap (λ x. then_do (left_flow (ex b w x s)) (after_task b u k es (task.Rounded p.statement))) is) refl
