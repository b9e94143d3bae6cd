-- What stores of initializers lead to.
use Rattle.std.proofs.Common.{◌≡◌, ℕ, ◌+◌, ◌<◌, List, ◌∷◌, refl, sym, ap, ◌∙◌, subst, arith}
use Rattle.std.specs.Prelude.{Bool, Result, Err, drop, if◌then◌else◌}
use Rattle.std.proofs.lemmas.Bool.{lt-ltb}
use Rattle.pv_tree.specs.declared.nodes.NodeId.{NodeId}
use Rattle.pv_typed.specs.TypedTree.{TypedTree, line_of}
use Rattle.pv_typed.specs.TypedUnits.{Store, StoredValue, ValueOf, TextOf, object_at}
use Rattle.pv_typed.specs.Tables.{Stored}
use Rattle.pv_typed.specs.NodeTrees.{expression_at}
use Rattle.pv_world.specs.Worlds.{Worth, Nothing}
use Rattle.pv_world.specs.Coming.{worth_of}
use Rattle.pv_world.specs.declared.got.Got.{Got}
use Rattle.pv_eval.specs.declared.failure.Failure.{Failure}
use Rattle.pv_eval.specs.declared.failure.Failure.TheVariants as failure
use Rattle.pv_eval.specs.States.{Setting, State, Res, Gives, Stops, Turns, then_do, tick, spend}
use Rattle.pv_eval.specs.Moments.{Moment, Came, state_of, IsMemory}
use Rattle.pv_eval.specs.declared.marked.Marked.{Marked}
use Rattle.pv_exec.specs.Putting.{put_first}
use Rattle.pv_eval.specs.TypeForms.{lvalue, size_of}
use Rattle.pv_eval.specs.Operations.{Accepts, Puts, PutsText, act}
use Rattle.pv_eval.specs.Steps.{Calling}
use Rattle.pv_eval.specs.OfRuns.{with_conversion, accepted_value}
use Rattle.pv_eval.specs.Machines.{Started}
use Rattle.pv_exec.specs.declared.task.Task.TheVariants as task
use Rattle.pv_exec.specs.declared.task.Doing.{Doing}
use Rattle.pv_exec.specs.declared.task.Doing.TheVariants as doing
use Rattle.pv_exec.specs.declared.task.Way.{Way}
use Rattle.pv_exec.specs.declared.task.Way.TheVariants as way
use Rattle.pv_exec.specs.Flows.{Flow, Falls}
use Rattle.pv_exec.specs.OfRuns.{full_expression, stores_value, below}
use Rattle.pv_exec.specs.Lists.{store_all}
use Rattle.pv_exec.specs.Tasks.{Reached, left_flow, after_value, rest_of_stores, stored_value}
use Rattle.pv_exec.specs.Works.{does, others}
use Rattle.pv_exec.specs.Leading.{Leads, LeadsOr}

pub ticked : {A : Type 0} (b : Setting) (s : State) (go : State → Res A) → s.taken < b.bound → tick b s go ≡ go (spend s)
ticked {A} b s go lt = ap (λ (q : Bool). if q then go (spend s) else Stops Turns s) (lt-ltb s.taken b.bound lt)

-- the stores that are left
abbrev pub stores_left : Setting → (level : ℕ) → (object : ℕ) → List Store → State → Res Flow
stores_left b k o xs s = then_do (store_all b (below b k).call o xs s) (λ v s. Gives Falls s)

first-store : (b : Setting) (call : Calling) (o : ℕ) (x : Store) (xs : List Store) (ys : List Store) (v : StoredValue) (s : State) → ys ≡ x ∷ xs → x.what ≡ v → left_flow (then_do (store_all b call o ys s) (λ v s. Gives Falls s)) ≡ left_flow (then_do (then_do (stores_value b call o x v s) (λ v s. store_all b call o xs s)) (λ v s. Gives Falls s))
first-store b call o x xs ys v s e w =
    ap (λ zs. left_flow (then_do (store_all b call o zs s) (λ v s. Gives Falls s))) e
    ∙ ap (λ q. left_flow (then_do (then_do (stores_value b call o x q s) (λ v s. store_all b call o xs s)) (λ v s. Gives Falls s))) w

-- a value is evaluated, and then handed and stored
through : (m : Res Worth) (F : Worth → State → Res Worth) (G : Worth → State → Res Worth) → left_flow (then_do (then_do (then_do m F) G) (λ v s. Gives Falls s)) ≡ then_do m (λ v s. left_flow (then_do (then_do (F v s) G) (λ v s. Gives Falls s)))
through (Gives v s) F G = refl
through (Stops y s) F G = refl

pub store-value : (b : Setting) (u : Stored) (k o i : ℕ) (e : TypedTree) (x : Store) (xs : List Store) (es : List Started) (s : State) → s.taken < b.bound → drop i (object_at b.unit o).inits ≡ x ∷ xs → x.what ≡ ValueOf e → does b u k es (doing.Store o i) s ≡ then_do (full_expression b (below b k).call e (spend s)) (after_value b u k (task.Storing o i))
unfolding does after_value
store-value b u k o i e x xs es s lt d w =
    let call = (below b k).call in
    let F = λ (v : Worth) (s : State). then_do (accepted_value b e v s) (λ v s. act b x.line (Puts o x.offset (lvalue b x.t) v) s) in
    let G = λ (v : Worth) (s : State). store_all b call o xs s in
    first-store b call o x xs (drop i (object_at b.unit o).inits) (ValueOf e) s d w
    ∙ ap (λ m. left_flow (then_do (then_do m G) (λ v s. Gives Falls s))) (ticked b s (λ s. then_do (full_expression b call e s) F) lt)
    ∙ through (full_expression b call e (spend s)) F G
    ∙ ap (λ q. then_do (full_expression b call e (spend s)) (λ v s. left_flow (then_do (then_do (stored_value b o x q v s) G) (λ v s. Gives Falls s)))) (sym w)
    ∙ ap (λ ys. then_do (full_expression b call e (spend s)) (λ v s. left_flow (rest_of_stores b call o ys v s))) (sym d)

pub store-text : (b : Setting) (u : Stored) (k o i l : ℕ) (x : Store) (xs : List Store) (es : List Started) (s : State) (r : Res Worth) → s.taken < b.bound → drop i (object_at b.unit o).inits ≡ x ∷ xs → x.what ≡ TextOf l → act b x.line (PutsText o x.offset (size_of b x.t) l) (spend s) ≡ r → does b u k es (doing.Store o i) s ≡ left_flow (then_do (then_do r (λ v s. store_all b (below b k).call o xs s)) (λ v s. Gives Falls s))
unfolding does
store-text b u k o i l x xs es s r lt d w h =
    let call = (below b k).call in
    let G = λ (v : Worth) (s : State). store_all b call o xs s in
    first-store b call o x xs (drop i (object_at b.unit o).inits) (TextOf l) s d w
    ∙ ap (λ m. left_flow (then_do (then_do m G) (λ v s. Gives Falls s))) (ticked b s (λ s. act b x.line (PutsText o x.offset (size_of b x.t) l) s) lt ∙ h)

-- what is stored once its value is there
pub stored-value-is : (b : Setting) (u : Stored) (k o i : ℕ) (e : TypedTree) (x : Store) (xs : List Store) (v : Worth) (s : State) (r : Res Worth) → drop i (object_at b.unit o).inits ≡ x ∷ xs → x.what ≡ ValueOf e → accepted_value b e v s ≡ r → after_value b u k (task.Storing o i) v s ≡ left_flow (then_do (then_do (then_do r (λ v s. act b x.line (Puts o x.offset (lvalue b x.t) v) s)) (λ v s. store_all b (below b k).call o xs s)) (λ v s. Gives Falls s))
unfolding after_value
stored-value-is b u k o i e x xs v s r d w h =
    let call = (below b k).call in
    let G = λ (v : Worth) (s : State). store_all b call o xs s in
    ap (λ ys. left_flow (rest_of_stores b call o ys v s)) d
    ∙ ap (λ q. left_flow (then_do (then_do (stored_value b o x q v s) G) (λ v s. Gives Falls s))) w
    ∙ ap (λ r. left_flow (then_do (then_do (then_do r (λ v s. act b x.line (Puts o x.offset (lvalue b x.t) v) s)) G) (λ v s. Gives Falls s))) h

pub stored-text-is : (b : Setting) (u : Stored) (k o i l : ℕ) (x : Store) (xs : List Store) (v : Worth) (s : State) → drop i (object_at b.unit o).inits ≡ x ∷ xs → x.what ≡ TextOf l → after_value b u k (task.Storing o i) v s ≡ left_flow (stores_left b k o xs s)
unfolding after_value
stored-text-is b u k o i l x xs v s d w =
    let call = (below b k).call in
    ap (λ ys. left_flow (rest_of_stores b call o ys v s)) d
    ∙ ap (λ q. left_flow (then_do (then_do (stored_value b o x q v s) (λ v s. store_all b call o xs s)) (λ v s. Gives Falls s))) w

-- the next store, or the end
pub goes-to : (b : Setting) (u : Stored) (k : ℕ) (all : Res Reached) (d : Doing) (stand new : List Started) (s : State) → b.bound < s.taken + k → all ≡ does b u k new d s → others new d ≡ stand → Leads b u all stand (way.Do d) new s
goes-to b u k all d stand new s lt e st = record { waits = k; level = k; law = e; stands = st; room_waits = omega (arith, lt); room = omega (arith, lt) }

-- memory ran out
pub text-stops : (b : Setting) (u : Stored) (all : Res Reached) (e : Failure) (stand new : List Started) (s : State) → IsMemory {A = Unit {0}} (Err e) → LeadsOr b u all stand (Err e) new s
text-stops b u all failure.NoMemory stand new s h = tt
text-stops b u all (failure.Stop y line) stand new s h = absurd h

handed-by : (b : Setting) (u : Stored) (e : NodeId) (v : Worth) (s : State) (r : Res Worth) (line : ℕ) → line ≡ line_of (expression_at u e) → then_do (with_conversion b (expression_at u e) v s) (λ v s. act b line (Accepts v) s) ≡ r → accepted_value b (expression_at u e) v s ≡ r
handed-by b u e v s r line is h = ap (λ n. then_do (with_conversion b (expression_at u e) v s) (λ v s. act b n (Accepts v) s)) (sym is) ∙ h

pub put-leads : (b : Setting) (u : Stored) (k o i : ℕ) (x : Store) (xs : List Store) (d : Doing) (stand new : List Started) (v : Worth) (s s2 : State) → b.bound < s2.taken + k → drop i (object_at b.unit o).inits ≡ x ∷ xs → act b x.line (Puts o x.offset (lvalue b x.t) v) s ≡ Gives Nothing s2 → does b u k new d s2 ≡ left_flow (stores_left b k o xs s2) → others new d ≡ stand → Leads b u (put_first b k o (drop i (object_at b.unit o).inits) v s) stand (way.Do d) new s2
put-leads b u k o i x xs d stand new v s s2 lt inits h next st =
    goes-to b u k (put_first b k o (drop i (object_at b.unit o).inits) v s) d stand new s2 lt
    (ap (λ ys. put_first b k o ys v s) inits
    ∙ ap (λ (r : Res Worth). left_flow (then_do (then_do r (λ v s. store_all b (below b k).call o xs s)) (λ v s. Gives Falls s))) h
    ∙ sym next) st

-- a value was handed
pub value-stored : (b : Setting) (u : Stored) (k o i line : ℕ) (e : NodeId) (x : Store) (xs : List Store) (g : Got) (stand mid new : List Started) (r : Result Way Failure) (v : Worth) (s s1 s2 : State) → drop i (object_at b.unit o).inits ≡ x ∷ xs → x.what ≡ ValueOf (expression_at u e) → line ≡ line_of (expression_at u e) → then_do (with_conversion b (expression_at u e) v s) (λ v s. act b line (Accepts v) s) ≡ Gives (worth_of g) s1 → mid ≡ stand → LeadsOr b u (put_first b k o (drop i (object_at b.unit o).inits) (worth_of g) s1) mid r new s2 → LeadsOr b u (after_value b u k (task.Storing o i) v s) stand r new s2
value-stored b u k o i line e x xs g stand mid new r v s s1 s2 inits what is h st l =
    let law = stored-value-is b u k o i (expression_at u e) x xs v s (Gives (worth_of g) s1) inits what (handed-by b u e v s (Gives (worth_of g) s1) line is h)
    ∙ sym (ap (λ ys. put_first b k o ys (worth_of g) s1) inits) in
    subst (λ (q : List Started). LeadsOr b u (after_value b u k (task.Storing o i) v s) q r new s2) st
    (subst (λ m. LeadsOr b u m mid r new s2) (sym law) l)

-- a string has no value to wait for
pub text-passed : (b : Setting) (u : Stored) (k o i l : ℕ) (x : Store) (xs : List Store) (d : Doing) (stand new : List Started) (v : Worth) (m n : Moment) (out : List ℕ) (es : List Marked) → b.bound < m.taken + k → drop i (object_at b.unit o).inits ≡ x ∷ xs → x.what ≡ TextOf l → n ≡ m → does b u k new d (state_of m out es) ≡ left_flow (stores_left b k o xs (state_of m out es)) → others new d ≡ stand → Leads b u (after_value b u k (task.Storing o i) v (state_of m out es)) stand (way.Do d) new (state_of n out es)
text-passed b u k o i l x xs d stand new v m n out es lt inits what same next st =
    subst (λ (q : Moment). Leads b u (after_value b u k (task.Storing o i) v (state_of m out es)) stand (way.Do d) new (state_of q out es)) (sym same)
    (goes-to b u k (after_value b u k (task.Storing o i) v (state_of m out es)) d stand new (state_of m out es) lt (stored-text-is b u k o i l x xs v (state_of m out es) inits what ∙ sym next) st)

pub stored-stops : (b : Setting) (u : Stored) (k o i line : ℕ) (e : NodeId) (x : Store) (xs : List Store) (y : Failure) (stand new : List Started) (v : Worth) (s s' : State) → drop i (object_at b.unit o).inits ≡ x ∷ xs → x.what ≡ ValueOf (expression_at u e) → line ≡ line_of (expression_at u e) → Came (then_do (with_conversion b (expression_at u e) v s) (λ v s. act b line (Accepts v) s)) (Err y) s' → LeadsOr b u (after_value b u k (task.Storing o i) v s) stand (Err y) new s'
stored-stops b u k o i line e x xs failure.NoMemory stand new v s s' inits what is h = tt
stored-stops b u k o i line e x xs (failure.Stop y m) stand new v s s' inits what is h = stored-value-is b u k o i (expression_at u e) x xs v s _ inits what (handed-by b u e v s _ line is h)
