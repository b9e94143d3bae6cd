-- What statements lead to: one lemma for each kind.
use Rattle.std.proofs.Common.{◌≡◌, ℕ, ◌+◌, ◌<◌, List, Some, None, refl, sym, ap, ◌∙◌, subst, arith, true, false}
use Rattle.std.specs.Prelude.{Option, Bool, Result, Ok, Err, if◌then◌else◌}
use Rattle.std.proofs.lemmas.Bool.{lt-ltb}
use Rattle.pv_tree.specs.declared.nodes.NodeId.{NodeId}
use Rattle.pv_typed.specs.TypedTree.{TypedTree, line_of}
use Rattle.pv_typed.specs.TypedStatement.{TypedStatement, Block, Declare, Expression, Empty, If, IfElse, Switch, Case, Default, While, DoWhile, For, ForDeclaration, Continue, Break, Return, Statements}
use Rattle.pv_typed.specs.Trees.{declared_of, statement_line}
use Rattle.pv_typed.specs.Tables.{Stored, nodes}
use Rattle.pv_typed.specs.NodeTrees.{list_at, statement_at}
use Rattle.pv_typed.specs.Nodes.{statements_in}
use Rattle.pv_tree.specs.declared.nodes.ListId.{ListId}
use Rattle.pv_eval.specs.Moments.{Made, Moment, state_of}
use Rattle.pv_eval.specs.Operations.{Tests, Accepts, act}
use Rattle.pv_eval.specs.States.{Setting, State, Res, Gives, Stops, Turns, then_do, spend}
use Rattle.pv_eval.specs.OfRuns.{with_conversion}
use Rattle.pv_eval.specs.declared.marked.Marked.{Marked}
use Rattle.pv_exec.specs.OfRuns.{below, ex, exs, then_step, full_expression, in_block, end_all}
use Rattle.pv_exec.specs.Flows.{Flow, Falls, Returns, Below}
use Rattle.pv_exec.specs.Lists.{make_all}
use Rattle.pv_world.specs.Worths.{is_true}
use Rattle.pv_eval.specs.declared.failure.Failure.{Failure}
use Rattle.pv_eval.specs.declared.failure.Failure.TheVariants as failure
use Rattle.pv_eval.specs.Machines.{Started}
use Rattle.pv_exec.specs.declared.task.Task.TheVariants as task
use Rattle.pv_exec.specs.declared.task.Doing.{Doing}
use Rattle.pv_exec.specs.declared.task.Doing.TheVariants as doing
use Rattle.pv_exec.specs.declared.task.Way.{Way}
use Rattle.pv_exec.specs.declared.task.Way.TheVariants as way
use Rattle.pv_exec.specs.Tasks.{Reached, left_flow, after_flow, after_value, after_task, return_with, within, returned_of, declarations_of}
use Rattle.pv_exec.specs.Parts.{branch_of, selection_jump, rounds, loop_of, rounded_do, do_of, choice_of, selection_of}
use Rattle.pv_exec.specs.declared.task.Flow.TheVariants as code_flow
use Rattle.pv_exec.specs.Works.{flow_of, does, others}
use Rattle.pv_exec.specs.Leading.{Leads, LeadsOr}
use Rattle.pv_exec.specs.Entering.{behind_turn, is_labelled, is_block_tree, is_for_tree}
use Rattle.pv_exec.proofs.Pieces.{turned, lifted, lifted-twice, pushed}
use Rattle.pv_exec.proofs.Loops.{leads-do, leads-with}

pub expression-enters : (b : Setting) (u : Stored) (k : ℕ) (t : TypedStatement) (line : ℕ) (x : TypedTree) (s : State) → t ≡ Expression line x → left_flow (behind_turn b (below b k) t s) ≡ then_do (full_expression b (below b k).call x s) (after_value b u k task.Dropping)
unfolding after_value
expression-enters b u k t line x s e =
    ap (λ t. left_flow (behind_turn b (below b k) t s)) e ∙ lifted (full_expression b (below b k).call x s) (λ v s. Gives Falls s)

pub if-enters : (b : Setting) (w : Below) (line : ℕ) (c : TypedTree) (x : TypedStatement) (s : State) → left_flow (behind_turn b w (If line c x) s) ≡ then_do (full_expression b w.call c s) (λ v s. left_flow (branch_of b w (choice_of (If line c x)) v s))
if-enters b w line c x s = lifted-twice (full_expression b w.call c s) (λ v s. act b (line_of c) (Tests v) s) (λ v s. if is_true v then ex b w x s else Gives Falls s)

pub if-else-enters : (b : Setting) (w : Below) (line : ℕ) (c : TypedTree) (x y : TypedStatement) (s : State) → left_flow (behind_turn b w (IfElse line c x y) s) ≡ then_do (full_expression b w.call c s) (λ v s. left_flow (branch_of b w (choice_of (IfElse line c x y)) v s))
if-else-enters b w line c x y s = lifted-twice (full_expression b w.call c s) (λ v s. act b (line_of c) (Tests v) s) (λ v s. if is_true v then ex b w x s else ex b w y s)

pub choice-enters : (b : Setting) (u : Stored) (k : ℕ) (n : NodeId) (line : ℕ) (c : TypedTree) (x : TypedStatement) (s : State) → statement_at u n ≡ If line c x → left_flow (behind_turn b (below b k) (statement_at u n) s) ≡ then_do (full_expression b (below b k).call c s) (after_value b u k (task.Chosen n))
unfolding after_value
choice-enters b u k n line c x s e =
    subst (λ t. left_flow (behind_turn b (below b k) t s) ≡ then_do (full_expression b (below b k).call c s) (λ v s. left_flow (branch_of b (below b k) (choice_of t) v s))) (sym e) (if-enters b (below b k) line c x s)

pub choice-else-enters : (b : Setting) (u : Stored) (k : ℕ) (n : NodeId) (line : ℕ) (c : TypedTree) (x y : TypedStatement) (s : State) → statement_at u n ≡ IfElse line c x y → left_flow (behind_turn b (below b k) (statement_at u n) s) ≡ then_do (full_expression b (below b k).call c s) (after_value b u k (task.Chosen n))
unfolding after_value
choice-else-enters b u k n line c x y s e =
    subst (λ t. left_flow (behind_turn b (below b k) t s) ≡ then_do (full_expression b (below b k).call c s) (λ v s. left_flow (branch_of b (below b k) (choice_of t) v s))) (sym e) (if-else-enters b (below b k) line c x y s)

pub return-enters : (b : Setting) (u : Stored) (k : ℕ) (n : NodeId) (line : ℕ) (x : TypedTree) (s : State) → statement_at u n ≡ Return line (Some x) → left_flow (behind_turn b (below b k) (statement_at u n) s) ≡ then_do (full_expression b (below b k).call x s) (after_value b u k (task.Returning n))
unfolding after_value
return-enters b u k n line x s e =
    subst (λ t. left_flow (behind_turn b (below b k) t s) ≡ then_do (full_expression b (below b k).call x s) (λ v s. left_flow (return_with b (statement_line t) (returned_of t) v s))) (sym e)
    (lifted (full_expression b (below b k).call x s) (λ v s. then_do (with_conversion b x v s) (λ v s. then_do (act b line (Accepts v) s) (λ v s. Gives (Returns v) s))))

switch-first : (b : Setting) (w : Below) (line : ℕ) (c : TypedTree) (x : TypedStatement) (s : State) → is_block_tree x ≡ true → left_flow (behind_turn b w (Switch line c x) s) ≡ then_do (full_expression b w.call c s) (λ v s. left_flow (selection_jump b w (selection_of (Switch line c x)) v s))
switch-first b w line c (Block m os xs) s e = lifted (full_expression b w.call c s) (selection_jump b w (selection_of (Switch line c (Block m os xs))))
switch-first b w line c (Declare m o) s e = absurd (cc)
switch-first b w line c (Expression m x) s e = absurd (cc)
switch-first b w line c (Empty m) s e = absurd (cc)
switch-first b w line c (If m d x) s e = absurd (cc)
switch-first b w line c (IfElse m d x y) s e = absurd (cc)
switch-first b w line c (Switch m d x) s e = absurd (cc)
switch-first b w line c (Case m n x) s e = absurd (cc)
switch-first b w line c (Default m x) s e = absurd (cc)
switch-first b w line c (While m d x) s e = absurd (cc)
switch-first b w line c (DoWhile m x d) s e = absurd (cc)
switch-first b w line c (For m f d t x) s e = absurd (cc)
switch-first b w line c (ForDeclaration m os ds d t x) s e = absurd (cc)
switch-first b w line c (Continue m) s e = absurd (cc)
switch-first b w line c (Break m) s e = absurd (cc)
switch-first b w line c (Return m x) s e = absurd (cc)

pub switch-enters : (b : Setting) (u : Stored) (k : ℕ) (n : NodeId) (line : ℕ) (c : TypedTree) (x : TypedStatement) (s : State) → statement_at u n ≡ Switch line c x → is_block_tree x ≡ true → left_flow (behind_turn b (below b k) (statement_at u n) s) ≡ then_do (full_expression b (below b k).call c s) (after_value b u k (task.Selecting n))
unfolding after_value
switch-enters b u k n line c x s e h =
    subst (λ t. left_flow (behind_turn b (below b k) t s) ≡ then_do (full_expression b (below b k).call c s) (λ v s. left_flow (selection_jump b (below b k) (selection_of t) v s))) (sym e) (switch-first b (below b k) line c x s h)

switch-falls : (b : Setting) (w : Below) (line : ℕ) (c : TypedTree) (x : TypedStatement) (s : State) → is_block_tree x ≡ false → behind_turn b w (Switch line c x) s ≡ Gives Falls s
switch-falls b w line c (Block m os xs) s e = absurd (cc)
switch-falls b w line c (Declare m o) s e = refl
switch-falls b w line c (Expression m x) s e = refl
switch-falls b w line c (Empty m) s e = refl
switch-falls b w line c (If m d x) s e = refl
switch-falls b w line c (IfElse m d x y) s e = refl
switch-falls b w line c (Switch m d x) s e = refl
switch-falls b w line c (Case m n x) s e = refl
switch-falls b w line c (Default m x) s e = refl
switch-falls b w line c (While m d x) s e = refl
switch-falls b w line c (DoWhile m x d) s e = refl
switch-falls b w line c (For m f d t x) s e = refl
switch-falls b w line c (ForDeclaration m os ds d t x) s e = refl
switch-falls b w line c (Continue m) s e = refl
switch-falls b w line c (Break m) s e = refl
switch-falls b w line c (Return m x) s e = refl

-- a statement that ends at once
pub leaves : (b : Setting) (u : Stored) (k : ℕ) (es : List Started) (m : Res Flow) (fl : Rattle.pv_exec.specs.declared.task.Flow.Flow) (s : State) → b.bound < s.taken + k → m ≡ Gives (flow_of fl) s → Leads b u (left_flow m) es (way.Do (doing.Left fl)) es s
unfolding does
leaves b u k es m fl s lt e = leads-do b u k (left_flow m) es (doing.Left fl) s (omega arith) (ap left_flow e) es refl

pub switch-leaves : (b : Setting) (u : Stored) (k : ℕ) (es : List Started) (t : TypedStatement) (line : ℕ) (c : TypedTree) (x : TypedStatement) (s : State) → b.bound < s.taken + k → t ≡ Switch line c x → is_block_tree x ≡ false → Leads b u (left_flow (behind_turn b (below b k) t s)) es (way.Do (doing.Left code_flow.Falls)) es s
switch-leaves b u k es t line c x s lt e h = leaves b u k es (behind_turn b (below b k) t s) code_flow.Falls s lt (ap (λ t. behind_turn b (below b k) t s) e ∙ switch-falls b (below b k) line c x s h)

pub for-enters : (b : Setting) (u : Stored) (k : ℕ) (n : NodeId) (line : ℕ) (x : TypedTree) (c t : Option TypedTree) (y : TypedStatement) (s : State) → statement_at u n ≡ For line (Some x) c t y → left_flow (behind_turn b (below b k) (statement_at u n) s) ≡ then_do (full_expression b (below b k).call x s) (after_value b u k (task.First n))
unfolding after_value
for-enters b u k n line x c t y s e =
    subst (λ z. left_flow (behind_turn b (below b k) z s) ≡ then_do (full_expression b (below b k).call x s) (λ v s. left_flow (rounds b (below b k) (loop_of z) s))) (sym e)
    (lifted (full_expression b (below b k).call x s) (λ v s. rounds b (below b k) (loop_of (For line (Some x) c t y)) s))

pub do-enters : (b : Setting) (u : Stored) (k : ℕ) (n x : NodeId) (line : ℕ) (c : TypedTree) (es : List Started) (s : State) → b.bound < s.taken + k → statement_at u n ≡ DoWhile line (statement_at u x) c → Leads b u (left_flow (behind_turn b (below b k) (statement_at u n) s)) es (way.With (task.RoundedDo n) (doing.Enter x)) es s
unfolding does after_flow
do-enters b u k n x line c es s lt e =
    let w = below b k in
    let y = statement_at u x in
    leads-with b u k _ es es (task.RoundedDo n) (doing.Enter x) s (omega arith)
    (ap (λ t. left_flow (behind_turn b w t s)) e
    ∙ lifted (ex b w y s) (rounded_do b w (do_of (DoWhile line y c)))
    ∙ ap (λ t. then_do (ex b w y s) (λ fl s. left_flow (rounded_do b w (do_of t) fl s))) (sym e)
    ∙ pushed (ex b w y s) (after_task b u k es (task.RoundedDo n))) refl

-- a block
pub scope-leads : (b : Setting) (u : Stored) (k : ℕ) (n : NodeId) (es : List Started) (d : Doing) (body : State → Res Flow) (s s' : State) → b.bound < s'.taken + k → ((s : State) → left_flow (body s) ≡ does b u k es d s) → others es d ≡ es → Made (make_all b (declared_of (statement_at u n)) s) (Ok tt) s' → Leads b u (left_flow (in_block b (declared_of (statement_at u n)) body s)) es (way.With (task.InBlock n) d) es s'
unfolding after_flow
scope-leads b u k n es d body s s' lt h o m =
    let os = declared_of (statement_at u n) in
    leads-with b u k _ es es (task.InBlock n) d s' (omega arith)
    (ap (λ r. left_flow (then_do r (λ v s. then_do (body s) (λ fl s. then_do (end_all b os s) (λ v s. Gives fl s))))) m
    ∙ lifted (body s') (λ fl s. then_do (end_all b os s) (λ v s. Gives fl s))
    ∙ pushed (body s') (after_task b u k (others es d) (task.InBlock n))
    ∙ ap (λ r. then_do r (after_task b u k (others es d) (task.InBlock n))) (h s')) o

pub scope-stops : (b : Setting) (u : Stored) (os : List ℕ) (body : State → Res Flow) (e : Failure) (stand es : List Started) (s s' : State) → Made (make_all b os s) (Err e) s' → LeadsOr b u (left_flow (in_block b os body s)) stand (Err e) es s'
scope-stops b u os body failure.NoMemory stand es s s' h = tt
scope-stops b u os body (failure.Stop y line) stand es s s' h = ap (λ r. left_flow (then_do r (λ v s. then_do (body s) (λ fl s. then_do (end_all b os s) (λ v s. Gives fl s))))) h

pub block-enters : (b : Setting) (u : Stored) (k : ℕ) (n : NodeId) (l : ListId) (line : ℕ) (os : List ℕ) (es : List Started) (s s' : State) → b.bound < s'.taken + k → statement_at u n ≡ Block line os (statements_in (nodes u) (list_at u l)) → Made (make_all b (declared_of (statement_at u n)) s) (Ok tt) s' → Leads b u (left_flow (behind_turn b (below b k) (statement_at u n) s)) es (way.With (task.InBlock n) (doing.Statements l 0)) es s'
unfolding does
block-enters b u k n l line os es s s' lt e m =
    let xs = statements_in (nodes u) (list_at u l) in
    subst (λ r. Leads b u r es (way.With (task.InBlock n) (doing.Statements l 0)) es s')
    (ap (λ t. left_flow (in_block b (declared_of t) (λ s. exs b (below b k) xs s) s)) e ∙ sym (ap (λ t. left_flow (behind_turn b (below b k) t s)) e))
    (scope-leads b u k n es (doing.Statements l 0) (λ s. exs b (below b k) xs s) s s' lt (λ s. refl) refl m)

pub block-stops : (b : Setting) (u : Stored) (k : ℕ) (n : NodeId) (xs : Statements) (line : ℕ) (os : List ℕ) (e : Failure) (stand es : List Started) (s s' : State) → statement_at u n ≡ Block line os xs → Made (make_all b (declared_of (statement_at u n)) s) (Err e) s' → LeadsOr b u (left_flow (behind_turn b (below b k) (statement_at u n) s)) stand (Err e) es s'
block-stops b u k n xs line os e stand es s s' is m =
    subst (λ r. LeadsOr b u r stand (Err e) es s')
    (ap (λ t. left_flow (in_block b (declared_of t) (λ s. exs b (below b k) xs s) s)) is ∙ sym (ap (λ t. left_flow (behind_turn b (below b k) t s)) is))
    (scope-stops b u (declared_of (statement_at u n)) (λ s. exs b (below b k) xs s) e stand es s s' m)

for-is : (b : Setting) (w : Below) (t : TypedStatement) (s : State) → is_for_tree t ≡ true → behind_turn b w t s ≡ in_block b (declared_of t) (within b w (declarations_of t) (loop_of t)) s
for-is b w (Block line os xs) s e = absurd (cc)
for-is b w (Declare line o) s e = absurd (cc)
for-is b w (Expression line x) s e = absurd (cc)
for-is b w (Empty line) s e = absurd (cc)
for-is b w (If line c x) s e = absurd (cc)
for-is b w (IfElse line c x y) s e = absurd (cc)
for-is b w (Switch line c x) s e = absurd (cc)
for-is b w (Case line n x) s e = absurd (cc)
for-is b w (Default line x) s e = absurd (cc)
for-is b w (While line c x) s e = absurd (cc)
for-is b w (DoWhile line x c) s e = absurd (cc)
for-is b w (For line f c t x) s e = absurd (cc)
for-is b w (ForDeclaration line os ds c t x) s e = refl
for-is b w (Continue line) s e = absurd (cc)
for-is b w (Break line) s e = absurd (cc)
for-is b w (Return line x) s e = absurd (cc)

pub scope-for-enters : (b : Setting) (u : Stored) (k : ℕ) (n : NodeId) (es : List Started) (s s' : State) → b.bound < s'.taken + k → is_for_tree (statement_at u n) ≡ true → Made (make_all b (declared_of (statement_at u n)) s) (Ok tt) s' → Leads b u (left_flow (behind_turn b (below b k) (statement_at u n) s)) es (way.With (task.InBlock n) (doing.Within n)) es s'
unfolding does
scope-for-enters b u k n es s s' lt e m =
    let t = statement_at u n in
    subst (λ r. Leads b u r es (way.With (task.InBlock n) (doing.Within n)) es s') (ap left_flow (sym (for-is b (below b k) t s e)))
    (scope-leads b u k n es (doing.Within n) (within b (below b k) (declarations_of t) (loop_of t)) s s' lt (λ s. refl) refl m)

pub scope-for-stops : (b : Setting) (u : Stored) (k : ℕ) (n : NodeId) (e : Failure) (stand es : List Started) (s s' : State) → is_for_tree (statement_at u n) ≡ true → Made (make_all b (declared_of (statement_at u n)) s) (Err e) s' → LeadsOr b u (left_flow (behind_turn b (below b k) (statement_at u n) s)) stand (Err e) es s'
scope-for-stops b u k n e stand es s s' is m =
    let t = statement_at u n in
    subst (λ r. LeadsOr b u r stand (Err e) es s') (ap left_flow (sym (for-is b (below b k) t s is)))
    (scope-stops b u (declared_of t) (within b (below b k) (declarations_of t) (loop_of t)) e stand es s s' m)

-- an expression was started in the same world
pub at-world : (b : Setting) (u : Stored) (all : Res Reached) (stand es : List Started) (r : Result Way Failure) (m n : Moment) (out : List ℕ) (marks : List Marked) → n ≡ m → LeadsOr b u all stand r es (state_of m out marks) → LeadsOr b u all stand r es (state_of n out marks)
at-world b u all stand es r m n out marks e h = subst (λ w. LeadsOr b u all stand r es (state_of w out marks)) (sym e) h

pub started-same : (b : Setting) (u : Stored) (all : Res Reached) (w : Way) (old new : List Started) (s : State) → new ≡ old → Leads b u all old w old s → Leads b u all old w new s
started-same b u all w old new s e h = subst (λ (v : List Started). Leads b u all old w v s) (sym e) h

pub while-is : (b : Setting) (u : Stored) (k : ℕ) (n : NodeId) (line : ℕ) (c : TypedTree) (x : TypedStatement) (s : State) → statement_at u n ≡ While line c x → left_flow (behind_turn b (below b k) (statement_at u n) s) ≡ left_flow (rounds b (below b k) (loop_of (statement_at u n)) s)
while-is b u k n line c x s e = ap (λ t. left_flow (behind_turn b (below b k) t s)) e ∙ sym (ap (λ t. left_flow (rounds b (below b k) (loop_of t) s)) e)

pub for-is-round : (b : Setting) (u : Stored) (k : ℕ) (n : NodeId) (line : ℕ) (f c t : Option TypedTree) (x : TypedStatement) (s : State) → statement_at u n ≡ For line f c t x → f ≡ None → left_flow (behind_turn b (below b k) (statement_at u n) s) ≡ left_flow (rounds b (below b k) (loop_of (statement_at u n)) s)
for-is-round b u k n line f c t x s e z =
    ap (λ t. left_flow (behind_turn b (below b k) t s)) e ∙ ap (λ q. left_flow (then_step b (below b k).call q (rounds b (below b k) (loop_of (For line f c t x))) s)) z ∙ sym (ap (λ t. left_flow (rounds b (below b k) (loop_of t) s)) e)

pub turn-taken : (b : Setting) (s : State) (w : Below) (x y : TypedStatement) → s.taken < b.bound → ((b : Setting) (w : Below) (s : State) → ex b w x s ≡ ex b w y s) → is_labelled y ≡ false → ex b w x s ≡ behind_turn b w y (spend s)
turn-taken b s w x y lt h p = h b w s ∙ turned b w y s p ∙ ap (λ (q : Bool). if q then behind_turn b w y (spend s) else Stops Turns s) (lt-ltb s.taken b.bound lt)
