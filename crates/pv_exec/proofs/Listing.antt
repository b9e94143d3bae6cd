-- What lists of statements lead to.
use Rattle.std.proofs.Common.{◌≡◌, ℕ, ◌+◌, ◌<◌, List, [], ◌∷◌, Some, None, refl, sym, ap, ◌∙◌, arith}
use Rattle.std.specs.Prelude.{drop}
use Rattle.pv_tree.specs.declared.nodes.NodeId.{NodeId}
use Rattle.pv_tree.specs.declared.nodes.ListId.{ListId}
use Rattle.pv_typed.specs.TypedStatement.{TypedStatement, Block, Declare, Expression, Empty, If, IfElse, Switch, Case, Default, While, DoWhile, For, ForDeclaration, Continue, Break, Return, Statements, MoreStatements}
use Rattle.pv_typed.specs.TypedUnits.{object_at}
use Rattle.pv_typed.specs.Nodes.{statements_in}
use Rattle.pv_typed.specs.Tables.{Stored, nodes}
use Rattle.pv_typed.specs.NodeTrees.{list_at, statement_at}
use Rattle.pv_world.specs.Worlds.{Worth, Nothing}
use Rattle.pv_eval.specs.States.{Setting, State, Res, Gives, Stops, then_do}
use Rattle.pv_eval.specs.Machines.{Started}
use Rattle.pv_exec.specs.declared.task.Task.TheVariants as task
use Rattle.pv_exec.specs.declared.task.Doing.TheVariants as doing
use Rattle.pv_exec.specs.declared.task.Way.TheVariants as way
use Rattle.pv_exec.specs.declared.lists.Item.TheVariants as item
use Rattle.pv_exec.specs.Flows.{Flow, Falls, Below, falls, nothing_done}
use Rattle.pv_exec.specs.OfRuns.{begin_fill, declares, ex, exs, below}
use Rattle.pv_exec.specs.Lists.{store_all}
use Rattle.pv_exec.specs.Execution.{ex_by}
use Rattle.pv_exec.specs.Parts.{loop_of, rounds}
use Rattle.pv_exec.specs.Tasks.{Reached, Left, left_flow, statements_from, declarations_of, within, after_flow, after_task}
use Rattle.pv_exec.specs.Works.{does}
use Rattle.pv_exec.specs.Leading.{Leads}
use Rattle.pv_exec.specs.Items.{declared_in, item_does}
use Rattle.pv_exec.proofs.Pieces.{lifted, pushed}

-- a statement that is no declaration
pub plain-first : (b : Setting) (w : Below) (x : TypedStatement) (xs : Statements) (s : State) → declared_in x ≡ None → exs b w (MoreStatements x xs) s ≡ then_do (ex b w x s) (λ fl s. falls fl (λ s. exs b w xs s) s)
unfolding ex_by
plain-first b w (Block line os ys) xs s e = refl
plain-first b w (Declare line o) xs s e = absurd (cc)
plain-first b w (Expression line x) xs s e = refl
plain-first b w (Empty line) xs s e = refl
plain-first b w (If line c x) xs s e = refl
plain-first b w (IfElse line c x y) xs s e = refl
plain-first b w (Switch line c x) xs s e = refl
plain-first b w (Case line n x) xs s e = refl
plain-first b w (Default line x) xs s e = refl
plain-first b w (While line c x) xs s e = refl
plain-first b w (DoWhile line x c) xs s e = refl
plain-first b w (For line f c t x) xs s e = refl
plain-first b w (ForDeclaration line os ds c t x) xs s e = refl
plain-first b w (Continue line) xs s e = refl
plain-first b w (Break line) xs s e = refl
plain-first b w (Return line x) xs s e = refl

-- a declaration
declared-first : (b : Setting) (w : Below) (x : TypedStatement) (o : ℕ) (xs : Statements) (s : State) → declared_in x ≡ Some o → exs b w (MoreStatements x xs) s ≡ then_do (declares b w.call o (object_at b.unit o) s) (λ fl s. exs b w xs s)
unfolding ex_by
declared-first b w (Declare line o) p xs s e =
    let q : o ≡ p = cc in
    ap (λ n. then_do (declares b w.call n (object_at b.unit n) s) (λ fl s. exs b w xs s)) q
declared-first b w (Block line os ys) o xs s e = absurd (cc)
declared-first b w (Expression line x) o xs s e = absurd (cc)
declared-first b w (Empty line) o xs s e = absurd (cc)
declared-first b w (If line c x) o xs s e = absurd (cc)
declared-first b w (IfElse line c x y) o xs s e = absurd (cc)
declared-first b w (Switch line c x) o xs s e = absurd (cc)
declared-first b w (Case line n x) o xs s e = absurd (cc)
declared-first b w (Default line x) o xs s e = absurd (cc)
declared-first b w (While line c x) o xs s e = absurd (cc)
declared-first b w (DoWhile line x c) o xs s e = absurd (cc)
declared-first b w (For line f c t x) o xs s e = absurd (cc)
declared-first b w (ForDeclaration line os ds c t x) o xs s e = absurd (cc)
declared-first b w (Continue line) o xs s e = absurd (cc)
declared-first b w (Break line) o xs s e = absurd (cc)
declared-first b w (Return line x) o xs s e = absurd (cc)

-- the end of a list
pub list-end : (b : Setting) (w : Below) (u : Stored) (l : ListId) (i : ℕ) (s : State) → drop i (list_at u l) ≡ [] → exs b w (statements_from u l i) s ≡ Gives Falls s
unfolding ex_by
list-end b w u l i s e = ap (λ ns. exs b w (statements_in (nodes u) ns) s) e

pub list-plain : (b : Setting) (w : Below) (u : Stored) (l : ListId) (i j : ℕ) (n : NodeId) (s : State) → drop i (list_at u l) ≡ n ∷ drop j (list_at u l) → declared_in (statement_at u n) ≡ None → exs b w (statements_from u l i) s ≡ item_does b w u l (item.Statement n j) s
list-plain b w u l i j n s e d = ap (λ ns. exs b w (statements_in (nodes u) ns) s) e ∙ plain-first b w (statement_at u n) (statements_from u l j) s d

-- a declaration, once its object's bytes are as they are to be
pub list-declared : (b : Setting) (w : Below) (u : Stored) (l : ListId) (i j o : ℕ) (n : NodeId) (s s' : State) → drop i (list_at u l) ≡ n ∷ drop j (list_at u l) → declared_in (statement_at u n) ≡ Some o → begin_fill b o (object_at b.unit o).braced (object_at b.unit o).inits s ≡ Gives Nothing s' → exs b w (statements_from u l i) s ≡ item_does b w u l (item.Stores o j) s'
list-declared b w u l i j o n s s' e d h =
    let x = object_at b.unit o in
    ap (λ ns. exs b w (statements_in (nodes u) ns) s) e
    ∙ declared-first b w (statement_at u n) o (statements_from u l j) s d
    ∙ ap (λ r. then_do (then_do r (λ v s. nothing_done (store_all b w.call o x.inits s))) (λ fl s. exs b w (statements_from u l j) s)) h

pub list-passed : (b : Setting) (w : Below) (u : Stored) (l : ListId) (j o : ℕ) (s : State) → (object_at b.unit o).inits ≡ [] → item_does b w u l (item.Stores o j) s ≡ exs b w (statements_from u l j) s
list-passed b w u l j o s e = ap (λ ys. then_do (nothing_done (store_all b w.call o ys s)) (λ fl s. exs b w (statements_from u l j) s)) e

-- where items lead
pub end-leads : (b : Setting) (u : Stored) (k : ℕ) (l : ListId) (i : ℕ) (old : List Started) (s s' : State) → exs b (below b k) (statements_from u l i) s ≡ item_does b (below b k) u l item.End s' → does b u k old (doing.Statements l i) s ≡ Gives (Left Falls) s'
unfolding does
end-leads b u k l i old s s' h = ap left_flow h

pub statement-leads : (b : Setting) (u : Stored) (k : ℕ) (l : ListId) (i j : ℕ) (n : NodeId) (old new : List Started) (s s' : State) → b.bound < s'.taken + k → exs b (below b k) (statements_from u l i) s ≡ item_does b (below b k) u l (item.Statement n j) s' → new ≡ old → Leads b u (does b u k old (doing.Statements l i) s) old (way.With (task.InList l j) (doing.Enter n)) new s'
unfolding does after_flow
statement-leads b u k l i j n old new s s' lt h st =
    let w = below b k in
    let m = ex b w (statement_at u n) s' in
    record {
      waits = k;
      level = k;
      law = ap left_flow h ∙ lifted m (λ fl s. falls fl (λ s. exs b w (statements_from u l j) s) s) ∙ pushed m (after_task b u k new (task.InList l j));
      stands = st;
      room_waits = omega (arith, lt);
      room = omega (arith, lt);
    }

-- after the stores of a declaration the list goes on
stores-then : (m : Res Worth) (G : State → Res Flow) (A : Reached → State → Res Reached) → ((s : State) → A (Left Falls) s ≡ left_flow (G s)) → left_flow (then_do (nothing_done m) (λ fl s. G s)) ≡ then_do (left_flow (nothing_done m)) A
stores-then (Gives v s) G A h = sym (h s)
stores-then (Stops y s) G A h = refl

pub stores-lead : (b : Setting) (u : Stored) (k : ℕ) (l : ListId) (i j o : ℕ) (old new : List Started) (s s' : State) → b.bound < s'.taken + k → exs b (below b k) (statements_from u l i) s ≡ item_does b (below b k) u l (item.Stores o j) s' → new ≡ old → Leads b u (does b u k old (doing.Statements l i) s) old (way.With (task.InList l j) (doing.Store o 0)) new s'
unfolding does after_flow
stores-lead b u k l i j o old new s s' lt h st =
    let w = below b k in
    record {
      waits = k;
      level = k;
      law = ap left_flow h ∙ stores-then (store_all b w.call o (object_at b.unit o).inits s') (λ s. exs b w (statements_from u l j) s) (after_task b u k new (task.InList l j)) (λ s. refl);
      stands = st;
      room_waits = omega (arith, lt);
      room = omega (arith, lt);
    }

-- the declarations of a `for`
pub within-leads : (b : Setting) (u : Stored) (k : ℕ) (n : NodeId) (l : ListId) (es : List Started) (s : State) → b.bound < s.taken + k → declarations_of (statement_at u n) ≡ Some (statements_in (nodes u) (list_at u l)) → Leads b u (does b u k es (doing.Within n) s) es (way.With (task.Declared n) (doing.Statements l 0)) es s
unfolding does after_flow
within-leads b u k n l es s lt e =
    let w = below b k in
    let m = exs b w (statements_from u l 0) s in
    let r = rounds b w (loop_of (statement_at u n)) in
    record {
      waits = k;
      level = k;
      law = ap (λ q. left_flow (within b w q (loop_of (statement_at u n)) s)) e ∙ lifted m (λ fl s. falls fl r s) ∙ pushed m (after_task b u k es (task.Declared n));
      stands = refl;
      room_waits = omega (arith, lt);
      room = omega (arith, lt);
    }

pub no-within : (b : Setting) (u : Stored) (k : ℕ) (n : NodeId) (es : List Started) (s : State) → declarations_of (statement_at u n) ≡ None → does b u k es (doing.Within n) s ≡ Gives (Left Falls) s
unfolding does
no-within b u k n es s e = ap (λ q. left_flow (within b (below b k) q (loop_of (statement_at u n)) s)) e
