-- What a `switch` leads to.
use Rattle.std.proofs.Common.{◌≡◌, ℕ, ◌+◌, ◌<◌, List, Some, None, refl, sym, ap, ◌∙◌, subst, arith}
use Rattle.std.specs.Prelude.{ℤ, Bool, true, false, Err, if◌then◌else◌, nat_lt}
use Rattle.pv_tree.specs.declared.nodes.NodeId.{NodeId}
use Rattle.pv_typed.specs.TypedTree.{line_of}
use Rattle.pv_typed.specs.Trees.{declared_of}
use Rattle.pv_typed.specs.Tables.{Stored}
use Rattle.pv_typed.specs.NodeTrees.{expression_at, statement_at}
use Rattle.pv_world.specs.Worlds.{Worth}
use Rattle.pv_world.specs.Worths.{int, int_of}
use Rattle.pv_eval.specs.declared.failure.Failure.{Failure}
use Rattle.pv_eval.specs.declared.failure.Failure.TheVariants as failure
use Rattle.pv_eval.specs.States.{Setting, State, Res, Gives, Stops, Turns, then_do, tick, spend}
use Rattle.pv_eval.specs.Operations.{Needs, act}
use Rattle.pv_eval.specs.OfRuns.{with_conversion}
use Rattle.pv_eval.specs.Machines.{Started}
use Rattle.pv_eval.specs.Moments.{Needed}
use Rattle.pv_exec.specs.declared.switches.SwitchParts.{SwitchParts}
use Rattle.pv_exec.specs.declared.task.Task.TheVariants as task
use Rattle.pv_exec.specs.declared.task.Doing.TheVariants as doing
use Rattle.pv_exec.specs.declared.task.Flow.TheVariants as code_flow
use Rattle.pv_exec.specs.declared.task.Way.{Way}
use Rattle.pv_exec.specs.declared.task.Way.TheVariants as way
use Rattle.pv_exec.specs.Flows.{Flow, Falls, Below, behind_switch}
use Rattle.pv_exec.specs.OfRuns.{end_all, in_block, exs, exs_at, below}
use Rattle.pv_exec.specs.Lists.{make_all}
use Rattle.pv_exec.specs.Labels.{Target, ToCase, ToDefault, ToNone, target_of, unless_none}
use Rattle.pv_exec.specs.Parts.{Items, selection_of, selection_jump, jumps}
use Rattle.pv_exec.specs.Tasks.{Left, left_flow, statements_from, after_flow, after_value, after_task}
use Rattle.pv_exec.specs.Works.{does}
use Rattle.pv_exec.specs.Leading.{Leads, LeadsOr}
use Rattle.pv_exec.specs.Switches.{is_none_target, selection_in}
use Rattle.pv_exec.proofs.Pieces.{lifted, pushed, then-then}
use Rattle.pv_exec.proofs.Leaving.{leaves-at}

pub tick-then : {A B : Type 0} (b : Setting) (s : State) (f : State → Res A) (g : A → State → Res B) → tick b s (λ s. then_do (f s) g) ≡ then_do (tick b s f) g
tick-then {A} {B} b s f g = by-bool (nat_lt s.taken b.bound) where
  by-bool : (q : Bool) → (if q then then_do (f (spend s)) g else Stops Turns s) ≡ then_do (if q then f (spend s) else Stops Turns s) g
  by-bool true = refl
  by-bool false = refl

pub tick-same : {A : Type 0} (b : Setting) (s : State) (f g : State → Res A) → ((s : State) → f s ≡ g s) → tick b s f ≡ tick b s g
tick-same {A} b s f g h = ap (λ (m : Res A). if nat_lt s.taken b.bound then m else Stops Turns s) (h (spend s))

then-same : {A B : Type 0} (m : Res A) (f g : A → State → Res B) → ((a : A) (s : State) → f a s ≡ g a s) → then_do m f ≡ then_do m g
then-same (Gives a s) f g h = h a s
then-same (Stops y s) f g h = refl

scoped-same : (b : Setting) (os : List ℕ) (f g : State → Res Flow) (s : State) → ((s : State) → f s ≡ g s) → in_block b os f s ≡ in_block b os g s
scoped-same b os f g s h = then-same (make_all b os s) (λ v s. then_do (f s) (λ fl s. then_do (end_all b os s) (λ v s. Gives fl s))) (λ v s. then_do (g s) (λ fl s. then_do (end_all b os s) (λ v s. Gives fl s))) (λ v s. ap (λ m. then_do m (λ fl s. then_do (end_all b os s) (λ v s. Gives fl s))) (h s))

not-none : (t : Target) (go : State → Res Flow) (s : State) → is_none_target t ≡ false → unless_none t go s ≡ go s
not-none (ToCase v) go s e = refl
not-none ToDefault go s e = refl
not-none ToNone go s e = absurd (cc)

pub no-jump : (b : Setting) (u : Stored) (k : ℕ) (v : ℤ) (x : Items) (es : List Started) (s : State) → b.bound < s.taken + k → target_of v x.items ≡ ToNone → Leads b u (left_flow (jumps b (below b k) v x s)) es (way.Do (doing.Left code_flow.Falls)) es s
no-jump b u k v x es s lt e =
    leaves-at b u k (left_flow (jumps b (below b k) v x s)) code_flow.Falls es es s lt
    (ap (λ t. left_flow (unless_none t (λ s. tick b s (λ s. then_do (in_block b x.objects (λ s. exs_at b (below b k) (target_of v x.items) x.items s) s) behind_switch)) s)) e) refl

pub jump-leads : (b : Setting) (u : Stored) (k : ℕ) (v : ℤ) (p : SwitchParts) (i : ℕ) (es : List Started) (s : State) → b.bound < s.taken + k → is_none_target (target_of v (statements_from u p.items 0)) ≡ false → ((b : Setting) (w : Below) (s : State) → exs_at b w (target_of v (statements_from u p.items 0)) (statements_from u p.items 0) s ≡ exs b w (statements_from u p.items i) s) → Leads b u (left_flow (jumps b (below b k) v (selection_in u p).block s)) es (way.With task.InSwitch (doing.Jump p.block p.items i)) es s
unfolding does after_flow
jump-leads b u k v p i es s lt e h =
    let w = below b k in
    let xs = statements_from u p.items 0 in
    let os = declared_of (statement_at u p.block) in
    let f : State → Res Flow = λ s. in_block b os (λ s. exs_at b w (target_of v xs) xs s) s in
    let g : State → Res Flow = λ s. in_block b os (λ s. exs b w (statements_from u p.items i) s) s in
    let m = tick b s g in
    record {
      waits = k;
      level = k;
      law = ap left_flow (not-none (target_of v xs) (λ s. tick b s (λ s. then_do (f s) behind_switch)) s e ∙ tick-then b s f behind_switch ∙ ap (λ q. then_do q behind_switch) (tick-same b s f g (λ s. scoped-same b os (λ s. exs_at b w (target_of v xs) xs s) (λ s. exs b w (statements_from u p.items i) s) s (λ s. h b w s))))
          ∙ lifted m behind_switch
          ∙ pushed m (after_task b u k es task.InSwitch);
      stands = refl;
      room_waits = omega (arith, lt);
      room = omega (arith, lt);
    }

selected-is : (b : Setting) (u : Stored) (k : ℕ) (n : NodeId) (p : SwitchParts) (v : Worth) (s : State) (r : Res Worth) → selection_of (statement_at u n) ≡ Some (selection_in u p) → then_do (with_conversion b (expression_at u p.value) v s) (λ v s. act b (line_of (expression_at u p.value)) (Needs v) s) ≡ r → left_flow (selection_jump b (below b k) (selection_of (statement_at u n)) v s) ≡ left_flow (then_do r (λ v s. jumps b (below b k) (int_of v) (selection_in u p).block s))
selected-is b u k n p v s r e h =
    let J = λ (v : Worth) (s : State). jumps b (below b k) (int_of v) (selection_in u p).block s in
    ap (λ q. left_flow (selection_jump b (below b k) q v s)) e
    ∙ ap left_flow (then-then (with_conversion b (expression_at u p.value) v s) (λ v s. act b (line_of (expression_at u p.value)) (Needs v) s) J)
    ∙ ap (λ r. left_flow (then_do r J)) h

pub selected-leads : (b : Setting) (u : Stored) (k : ℕ) (n : NodeId) (p : SwitchParts) (z : ℤ) (r : Way) (stand new : List Started) (v : Worth) (s s' : State) → selection_of (statement_at u n) ≡ Some (selection_in u p) → then_do (with_conversion b (expression_at u p.value) v s) (λ v s. act b (line_of (expression_at u p.value)) (Needs v) s) ≡ Gives (int z) s' → new ≡ stand → Leads b u (left_flow (jumps b (below b k) z (selection_in u p).block s')) new r new s' → Leads b u (after_value b u k (task.Selecting n) v s) stand r new s'
unfolding after_value
selected-leads b u k n p z r stand new v s s' e h st l =
    subst (λ (x : List Started). Leads b u (left_flow (selection_jump b (below b k) (selection_of (statement_at u n)) v s)) x r new s') st
    (subst (λ m. Leads b u m new r new s') (sym (selected-is b u k n p v s (Gives (int z) s') e h)) l)

pub selected-stops : (b : Setting) (u : Stored) (k : ℕ) (n : NodeId) (p : SwitchParts) (y : Failure) (stand new : List Started) (v : Worth) (s s' : State) → selection_of (statement_at u n) ≡ Some (selection_in u p) → Needed (then_do (with_conversion b (expression_at u p.value) v s) (λ v s. act b (line_of (expression_at u p.value)) (Needs v) s)) (Err y) s' → LeadsOr b u (after_value b u k (task.Selecting n) v s) stand (Err y) new s'
unfolding after_value
selected-stops b u k n p failure.NoMemory stand new v s s' e h = tt
selected-stops b u k n p (failure.Stop y line) stand new v s s' e h = selected-is b u k n p v s _ e h

pub no-selection : (b : Setting) (u : Stored) (k : ℕ) (n : NodeId) (v : Worth) (s : State) → selection_of (statement_at u n) ≡ None → after_value b u k (task.Selecting n) v s ≡ Gives (Left Falls) s
unfolding after_value
no-selection b u k n v s e = ap (λ q. left_flow (selection_jump b (below b k) q v s)) e
