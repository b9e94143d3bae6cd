-- Where the bound is met, what is due stops.
use Rattle.std.proofs.Common.{◌≡◌, ℕ, zero, suc, ◌+◌, ◌<◌, ◌≤◌, List, [], ◌∷◌, Some, None, refl, sym, ap, ◌∙◌, arith}
use Rattle.std.specs.Prelude.{Bool, Option, true, false, is_some, drop, length, nat_lt, if◌then◌else◌}
use Rattle.std.proofs.lemmas.List.{length-drop}
use Rattle.std.proofs.lemmas.Bool.{le-ltb}
use Rattle.pv_typed.specs.TypedTree.{TypedTree, Node, Constant, Object, Function, String, Call, CallPointer, LibraryCall, Member, MemberOfValue, Arrow, Increment, Address, Unary, Not, Sizeof, Cast, Arithmetic, PointerSum, PointerDifference, PointerOrder, PointerEquality, LogicalAnd, LogicalOr, Conditional, Assign, CompoundAssign, PointerAssign, Comma, Subscript, Indirection, Read, ArrayPointer, Convert, type_of, line_of}
use Rattle.pv_typed.specs.TypedStatement.{TypedStatement, Block, Declare, Expression, Empty, If, IfElse, Switch, Case, Default, While, DoWhile, For, ForDeclaration, Continue, Break, Return}
use Rattle.pv_typed.specs.TypedUnits.{WholeUnit, Store, StoredValue, ValueOf, TextOf, object_at}
use Rattle.pv_typed.specs.Tables.{Stored, whole_unit}
use Rattle.pv_typed.specs.NodeTrees.{expression_at, statement_at}
use Rattle.pv_seq.specs.Sequencing.{Access, Open, open_against, beside}
use Rattle.pv_seq.specs.Rivals.{top, below as opens_below}
use Rattle.pv_world.specs.Worlds.{Worth}
use Rattle.pv_world.specs.Worths.{is_true}
use Rattle.pv_eval.specs.declared.frames.Now.{Now}
use Rattle.pv_eval.specs.declared.frames.Now.TheVariants as now
use Rattle.pv_eval.specs.States.{Setting, State, Turns, Res, Gives, Stops, then_do}
use Rattle.pv_eval.specs.Sequenced.{Given, with_given, operand, node_value}
use Rattle.pv_eval.specs.OfRuns.{work, reading}
use Rattle.pv_eval.specs.Steps.{Calling}
use Rattle.pv_eval.specs.Evaluation.{ev_by, ev}
use Rattle.pv_eval.specs.Operations.{Moves, Follows, Tests, act}
use Rattle.pv_eval.specs.TypeForms.{lvalue, element_size}
use Rattle.pv_types.specs.Sorts.{is_void as is_none, is_pointer}
use Rattle.pv_eval.specs.Stack.{rest}
use Rattle.pv_eval.specs.Frames.{after}
use Rattle.pv_eval.specs.Ahead.{now_does, stack}
use Rattle.pv_eval.specs.Machines.{Started, left_of, is_due_at}
use Rattle.pv_exec.specs.declared.task.Task.{Task}
use Rattle.pv_exec.specs.declared.task.Doing.{Doing}
use Rattle.pv_exec.specs.declared.task.Doing.TheVariants as doing
use Rattle.pv_exec.specs.Flows.{Flow, Falls, Below}
use Rattle.pv_exec.specs.OfRuns.{stores_value, then_step, if_tested, ex, below}
use Rattle.pv_exec.specs.Lists.{store_all}
use Rattle.pv_exec.specs.Execution.{ex_by}
use Rattle.pv_exec.specs.Calls.{below_by}
use Rattle.pv_exec.specs.Parts.{Loop, loop_of, rest_of_loop}
use Rattle.pv_exec.specs.Tasks.{Reached, Valued, left_flow}
use Rattle.pv_exec.specs.Works.{does, due, turn_due, after_work, Holds}
use Rattle.pv_exec.specs.Fits.{DoingFits}
use Rattle.pv_exec.proofs.Pieces.{turned}

pub no-tick : {A : Type 0} (b : Setting) (s : State) (m : Res A) → b.bound ≤ s.taken → (if nat_lt s.taken b.bound then m else Stops Turns s) ≡ Stops Turns s
no-tick {A} b s m le = ap (λ (q : Bool). if q then m else Stops Turns s) (le-ltb s.taken b.bound le)

operand-out : (e : List Access → State → Res Given) (j : Open) (s : State) (go : Open → Worth → State → Res Given) → e (beside j) s ≡ Stops Turns s → operand e j s go ≡ Stops Turns s
operand-out e j s go h = ap (λ (m : Res Given). then_do m (λ g s. go (with_given j g) g.value s)) h

-- an expression
ev-out : (b : Setting) (call : Calling) (x : TypedTree) (fs : List Access) (s : State) → b.bound ≤ s.taken → ev b call x fs s ≡ Stops Turns s
unfolding ev_by
ev-out b call (Node t line turn (Constant n)) fs s le = no-tick b s _ le
ev-out b call (Node t line turn (Object o)) fs s le = no-tick b s _ le
ev-out b call (Node t line turn (Function f)) fs s le = no-tick b s _ le
ev-out b call (Node t line turn (String l)) fs s le = no-tick b s _ le
ev-out b call (Node t line turn (Call f xs)) fs s le = no-tick b s _ le
ev-out b call (Node t line turn (CallPointer x xs)) fs s le = no-tick b s _ le
ev-out b call (Node t line turn (LibraryCall f xs)) fs s le = no-tick b s _ le
ev-out b call (Node t line turn (Member x n)) fs s le = no-tick b s _ le
ev-out b call (Node t line turn (MemberOfValue x n)) fs s le = no-tick b s _ le
ev-out b call (Node t line turn (Arrow x n)) fs s le = no-tick b s _ le
ev-out b call (Node t line turn (Increment o x)) fs s le = no-tick b s _ le
ev-out b call (Node t line turn (Address x)) fs s le = no-tick b s _ le
ev-out b call (Node t line turn (Unary o x)) fs s le = no-tick b s _ le
ev-out b call (Node t line turn (Not x)) fs s le = no-tick b s _ le
ev-out b call (Node t line turn (Sizeof n)) fs s le = no-tick b s _ le
ev-out b call (Node t line turn (Cast x)) fs s le = no-tick b s _ le
ev-out b call (Node t line turn (Arithmetic o x y)) fs s le = no-tick b s _ le
ev-out b call (Node t line turn (PointerSum g x y)) fs s le = no-tick b s _ le
ev-out b call (Node t line turn (PointerDifference x y)) fs s le = no-tick b s _ le
ev-out b call (Node t line turn (PointerOrder o x y)) fs s le = no-tick b s _ le
ev-out b call (Node t line turn (PointerEquality o x y)) fs s le = no-tick b s _ le
ev-out b call (Node t line turn (LogicalAnd x y)) fs s le = no-tick b s _ le
ev-out b call (Node t line turn (LogicalOr x y)) fs s le = no-tick b s _ le
ev-out b call (Node t line turn (Conditional x y z)) fs s le = no-tick b s _ le
ev-out b call (Node t line turn (Assign x y)) fs s le = no-tick b s _ le
ev-out b call (Node t line turn (CompoundAssign o k x y)) fs s le = no-tick b s _ le
ev-out b call (Node t line turn (PointerAssign g x y)) fs s le = no-tick b s _ le
ev-out b call (Node t line turn (Comma x y)) fs s le = no-tick b s _ le
ev-out b call (Node t line true (Subscript x y)) fs s le = no-tick b s _ le
ev-out b call (Node t line false (Subscript x y)) fs s le = operand-out (ev b call x) (open_against fs) s (λ j v s. operand (ev b call y) j s (λ j w s. work b line (Moves false (is_pointer (type_of x)) (element_size b (if is_pointer (type_of x) then type_of x else type_of y)) v w) j s)) (ev-out b call x (beside (open_against fs)) s le)
ev-out b call (Node t line true (Indirection x)) fs s le = no-tick b s _ le
ev-out b call (Node t line false (Indirection x)) fs s le = operand-out (ev b call x) (open_against fs) s (λ j v s. work b line (Follows (is_none t) v) j s) (ev-out b call x (beside (open_against fs)) s le)
ev-out b call (Node t line turn (Read x)) fs s le = operand-out (ev b call x) (open_against fs) s (λ j p s. reading b (lvalue b (type_of x)) line p j s node_value) (ev-out b call x (beside (open_against fs)) s le)
ev-out b call (Node t line turn (ArrayPointer x)) fs s le = operand-out (ev b call x) (open_against fs) s (node_value) (ev-out b call x (beside (open_against fs)) s le)
ev-out b call (Node t line turn (Convert x)) fs s le = operand-out (ev b call x) (open_against fs) s (node_value) (ev-out b call x (beside (open_against fs)) s le)

-- a statement
ex-out : (b : Setting) (w : Below) (x : TypedStatement) (s : State) → b.bound ≤ s.taken → ex b w x s ≡ Stops Turns s
unfolding ex_by
ex-out b w (Case line n x) s le = ex-out b w x s le
ex-out b w (Default line x) s le = ex-out b w x s le
ex-out b w (Block line os xs) s le = turned b w (Block line os xs) s refl ∙ no-tick b s _ le
ex-out b w (Declare line o) s le = turned b w (Declare line o) s refl ∙ no-tick b s _ le
ex-out b w (Expression line x) s le = turned b w (Expression line x) s refl ∙ no-tick b s _ le
ex-out b w (Empty line) s le = turned b w (Empty line) s refl ∙ no-tick b s _ le
ex-out b w (If line c x) s le = turned b w (If line c x) s refl ∙ no-tick b s _ le
ex-out b w (IfElse line c x y) s le = turned b w (IfElse line c x y) s refl ∙ no-tick b s _ le
ex-out b w (Switch line c x) s le = turned b w (Switch line c x) s refl ∙ no-tick b s _ le
ex-out b w (While line c x) s le = turned b w (While line c x) s refl ∙ no-tick b s _ le
ex-out b w (DoWhile line x c) s le = turned b w (DoWhile line x c) s refl ∙ no-tick b s _ le
ex-out b w (For line f c t x) s le = turned b w (For line f c t x) s refl ∙ no-tick b s _ le
ex-out b w (ForDeclaration line os ds c t x) s le = turned b w (ForDeclaration line os ds c t x) s refl ∙ no-tick b s _ le
ex-out b w (Continue line) s le = turned b w (Continue line) s refl ∙ no-tick b s _ le
ex-out b w (Break line) s le = turned b w (Break line) s refl ∙ no-tick b s _ le
ex-out b w (Return line x) s le = turned b w (Return line x) s refl ∙ no-tick b s _ le

now-out : (b : Setting) (call : Calling) (u : Stored) (p : Now) (j : Open) (s : State) → is_due_at p ≡ true → b.bound ≤ s.taken → now_does b call u p j s ≡ Stops Turns s
now-out b call u (now.Due n) j s e le = ev-out b call (expression_at u n) j.foes s le
now-out b call u (now.Value v) j s e le = absurd (cc)
now-out b call u (now.Asked f args line) j s e le = absurd (cc)

due-here : (p : Now) → ◌≡◌ {A = ℕ} (if is_due_at p then 1 else 0) 1 → is_due_at p ≡ true
due-here (now.Due n) e = refl
due-here (now.Value v) e = absurd (omega (arith, e))
due-here (now.Asked f args line) e = absurd (omega (arith, e))

left-out : (b : Setting) (call : Calling) (u : Stored) (es : List Started) (s : State) → due es doing.Evaluate ≡ 1 → b.bound ≤ s.taken → left_of b call u es s ≡ Stops Turns s
left-out b call u [] s e le = absurd (omega (arith, e))
left-out b call u (e ∷ es) s h le = ap (λ (m : Res Given). then_do m (rest (after b call u) (stack e.frames (opens_below e.opens)))) (now-out b call u e.place (top e.opens) s (due-here e.place h) le)

-- a store of an initializer that is there
store-out : (b : Setting) (call : Calling) (o : ℕ) (x : Store) (xs : List Store) (v : StoredValue) (s : State) → x.what ≡ v → b.bound ≤ s.taken → store_all b call o (x ∷ xs) s ≡ Stops Turns s
store-out b call o x xs (ValueOf e) s w le = ap (λ (q : StoredValue). then_do (stores_value b call o x q s) (λ v s. store_all b call o xs s)) w ∙ ap (λ (m : Res Worth). then_do m (λ v s. store_all b call o xs s)) (no-tick b s _ le)
store-out b call o x xs (TextOf l) s w le = ap (λ (q : StoredValue). then_do (stores_value b call o x q s) (λ v s. store_all b call o xs s)) w ∙ ap (λ (m : Res Worth). then_do m (λ v s. store_all b call o xs s)) (no-tick b s _ le)

stores-out : (b : Setting) (call : Calling) (o : ℕ) (ys : List Store) (s : State) → (ys ≡ [] → ⊥) → b.bound ≤ s.taken → store_all b call o ys s ≡ Stops Turns s
stores-out b call o [] s n le = absurd (n refl)
stores-out b call o (x ∷ xs) s n le = store-out b call o x xs x.what s refl le

-- the store that is due is there
abbrev HasStores : Setting → Doing → Type 0
HasStores b (doing.Store o i) = drop i (object_at b.unit o).inits ≡ [] → ⊥
HasStores b (doing.Enter n) = Unit {0}
HasStores b (doing.Jump n l i) = Unit {0}
HasStores b (doing.Statements l i) = Unit {0}
HasStores b (doing.Within n) = Unit {0}
HasStores b (doing.Again x p) = Unit {0}
HasStores b (doing.Round p) = Unit {0}
HasStores b (doing.Body p) = Unit {0}
HasStores b doing.Absent = Unit {0}
HasStores b (doing.Left fl) = Unit {0}
HasStores b (doing.Call f) = Unit {0}
HasStores b doing.Evaluate = Unit {0}
HasStores b doing.Evaluated = Unit {0}

dropped-some : (xs : List Store) (i : ℕ) → drop i xs ≡ [] → length xs ≤ i
dropped-some xs i e = let n : length (drop i xs) ≡ 0 = ap length e in omega (arith, n, length-drop i xs)

-- what is done now
pub does-out : (b : Setting) (u : Stored) (k : ℕ) (es : List Started) (d : Doing) (s : State) → due es d ≡ 1 → HasStores b d → b.bound ≤ s.taken → does b u k es d s ≡ Stops Turns s
unfolding does
does-out b u k es (doing.Enter n) s e h le = ap left_flow (ex-out b (below b k) (statement_at u n) s le)
does-out b u k es (doing.Jump n l i) s e h le = ap left_flow (no-tick b s _ le)
does-out b u k es (doing.Statements l i) s e h le = absurd (omega (arith, e))
does-out b u k es (doing.Within n) s e h le = absurd (omega (arith, e))
does-out b u k es (doing.Again x p) s e h le = absurd (omega (arith, e))
does-out b u k es (doing.Round p) s e h le = absurd (omega (arith, e))
does-out b u k es (doing.Body p) s e h le = absurd (omega (arith, e))
does-out b u k es (doing.Store o i) s e h le = ap (λ (m : Res Worth). left_flow (then_do m (λ v s. Gives Falls s))) (stores-out b (below b k).call o (drop i (object_at b.unit o).inits) s h le)
does-out b u k es doing.Absent s e h le = ap left_flow (no-tick b s _ le)
does-out b u k es (doing.Left fl) s e h le = absurd (omega (arith, e))
does-out b u k es (doing.Call f) s e h le = absurd (omega (arith, e))
does-out b u k es doing.Evaluate s e h le = ap (λ (m : Res Given). then_do m (λ g s. Gives (Valued g.value) s)) (left-out b (below b k).call u es s e le)
does-out b u k es doing.Evaluated s e h le = absurd (omega (arith, e))

pub holds-out : (b : Setting) (u : Stored) (all : Res Reached) (ts : List Task) (es : List Started) (d : Doing) (s : State) → due es d ≡ 1 → HasStores b d → b.bound ≤ s.taken → Holds b u all ts es d s → all ≡ Stops Turns s
holds-out b u all ts es d s e h le g = g.law ∙ ap (λ (m : Res Reached). then_do m (rest (after_work b u) g.works)) (does-out b u g.level es d s e h le)

pub has-stores : (b : Setting) (u : Stored) (es : List Started) (d : Doing) → b.unit ≡ whole_unit u → DoingFits u es d → HasStores b d
has-stores b u es (doing.Store o i) e h = λ n. absurd (omega (arith, h.1, dropped-some (object_at (whole_unit u) o).inits i (ap (λ (q : WholeUnit). drop i (object_at q o).inits) (sym e) ∙ n)))
has-stores b u es (doing.Enter n) e h = tt
has-stores b u es (doing.Jump n l i) e h = tt
has-stores b u es (doing.Statements l i) e h = tt
has-stores b u es (doing.Within n) e h = tt
has-stores b u es (doing.Again x p) e h = tt
has-stores b u es (doing.Round p) e h = tt
has-stores b u es (doing.Body p) e h = tt
has-stores b u es (doing.Left fl) e h = tt
has-stores b u es doing.Absent e h = tt
has-stores b u es (doing.Call f) e h = tt
has-stores b u es doing.Evaluate e h = tt
has-stores b u es doing.Evaluated e h = tt

-- an expression of a loop that is there
step-out : (b : Setting) (call : Calling) (o : Option TypedTree) (go : State → Res Flow) (s : State) → is_some o ≡ true → b.bound ≤ s.taken → then_step b call o go s ≡ Stops Turns s
step-out b call None go s h le = absurd (cc)
step-out b call (Some x) go s h le = ap (λ (m : Res Given). then_do (then_do m (λ g s. Gives g.value s)) (λ v s. go s)) (ev-out b call x [] s le)

test-out : (b : Setting) (call : Calling) (o : Option TypedTree) (go : State → Res Flow) (s : State) → is_some o ≡ true → b.bound ≤ s.taken → if_tested b call o go s ≡ Stops Turns s
test-out b call None go s h le = absurd (cc)
test-out b call (Some x) go s h le =
    ap (λ (m : Res Given). then_do (then_do (then_do m (λ g s. Gives g.value s)) (λ v s. act b (line_of x) (Tests v) s)) (λ v s. if is_true v then go s else Gives Falls s)) (ev-out b call x [] s le)

round-out : (b : Setting) (k : ℕ) (l : Loop) (s : State) → is_some l.condition ≡ true → b.bound < s.taken + k → s.taken ≤ b.bound → b.bound ≤ s.taken → (below b k).again l.condition l.step l.body s ≡ Stops Turns s
unfolding below_by
round-out b zero l s h lt most le = absurd (omega (arith, lt, most))
round-out b (suc k) l s h lt most le = test-out b (below b k).call l.condition (λ s. then_do (ex b (below b k) l.body s) (rest_of_loop b (below b k) l)) s h le

-- the same of what is asked for before it is started
does-asked : (b : Setting) (u : Stored) (k : ℕ) (es : List Started) (d : Doing) (s : State) → turn_due es d ≡ 1 → HasStores b d → DoingFits u es d → b.bound < s.taken + k + due es d → s.taken ≤ b.bound → b.bound ≤ s.taken → does b u k es d s ≡ Stops Turns s
unfolding does
does-asked b u k es (doing.Enter n) s e h f lt most le = does-out b u k es (doing.Enter n) s refl h le
does-asked b u k es (doing.Jump n l i) s e h f lt most le = does-out b u k es (doing.Jump n l i) s refl h le
does-asked b u k es (doing.Statements l i) s e h f lt most le = absurd (omega (arith, e))
does-asked b u k es (doing.Within n) s e h f lt most le = absurd (omega (arith, e))
does-asked b u k es (doing.Again x p) s e h f lt most le = ap left_flow (step-out b (below b k).call (loop_of (statement_at u p.statement)).step ((below b k).again (loop_of (statement_at u p.statement)).condition (loop_of (statement_at u p.statement)).step (loop_of (statement_at u p.statement)).body) s (ap is_some f.step) le)
does-asked b u k es (doing.Round p) s e h f lt most le = ap left_flow (round-out b k (loop_of (statement_at u p.statement)) s (ap is_some f.condition) (omega (arith, lt)) most le)
does-asked b u k es (doing.Body p) s e h f lt most le = absurd (omega (arith, e))
does-asked b u k es (doing.Store o i) s e h f lt most le = does-out b u k es (doing.Store o i) s refl h le
does-asked b u k es doing.Absent s e h f lt most le = does-out b u k es doing.Absent s refl h le
does-asked b u k es (doing.Left fl) s e h f lt most le = absurd (omega (arith, e))
does-asked b u k es (doing.Call g) s e h f lt most le = absurd (omega (arith, e))
does-asked b u k es doing.Evaluate s e h f lt most le = does-out b u k es doing.Evaluate s e h le
does-asked b u k es doing.Evaluated s e h f lt most le = absurd (omega (arith, e))

pub holds-asked : (b : Setting) (u : Stored) (all : Res Reached) (ts : List Task) (es : List Started) (d : Doing) (s : State) → turn_due es d ≡ 1 → HasStores b d → DoingFits u es d → b.bound ≤ s.taken → Holds b u all ts es d s → all ≡ Stops Turns s
holds-asked b u all ts es d s e h f le g = g.law ∙ ap (λ (m : Res Reached). then_do m (rest (after_work b u) g.works)) (does-asked b u g.level es d s e h f g.room g.most le)
