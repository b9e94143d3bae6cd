-- Labels that are looked for in a list.
use Rattle.std.proofs.Common.{◌≡◌, ℕ, ℤ, [], ◌∷◌, None, Some, IfSome, refl, sym, ap, ◌∙◌}
use Rattle.std.specs.Prelude.{Bool, true, false, ◌||◌, drop, if◌then◌else◌}
use Rattle.std.specs.declared.option.Option.{Option}
use Rattle.pv_tree.specs.declared.nodes.NodeId.{NodeId}
use Rattle.pv_tree.specs.declared.nodes.ListId.{ListId}
use Rattle.pv_typed.specs.TypedStatement.{TypedStatement, Block, Declare, Expression, Empty, If, IfElse, Switch, Case, Default, While, DoWhile, For, ForDeclaration, Continue, Break, Return, Statements, MoreStatements}
use Rattle.pv_typed.specs.Nodes.{statements_in}
use Rattle.pv_typed.specs.Tables.{Stored, nodes}
use Rattle.pv_typed.specs.NodeTrees.{list_at, statement_at}
use Rattle.pv_eval.specs.States.{Setting, State, then_do}
use Rattle.pv_exec.specs.Flows.{Below, falls}
use Rattle.pv_exec.specs.Labels.{Target, ToCase, ToDefault, ToNone, is_target, target_of}
use Rattle.pv_exec.specs.LabelParts.{some_case, some_default}
use Rattle.pv_exec.specs.Execution.{ex_by}
use Rattle.pv_exec.specs.OfRuns.{ex, exs, exs_at}
use Rattle.pv_exec.specs.Tasks.{statements_from}
use Rattle.pv_exec.specs.Items.{declared_in}
use Rattle.pv_exec.specs.Switches.{some_target, is_none_target, Finds, Reaches}
use Rattle.pv_exec.proofs.Listing.{plain-first}

some-first : (at : Target) (x : TypedStatement) (xs : Statements) → some_target at (MoreStatements x xs) ≡ (is_target at x || some_target at xs)
some-first (ToCase v) x xs = refl
some-first ToDefault x xs = refl
some-first ToNone x xs = refl

pub some-step : (u : Stored) (l : ListId) (at : Target) (i j : ℕ) (n : NodeId) → drop i (list_at u l) ≡ n ∷ drop j (list_at u l) → some_target at (statements_from u l i) ≡ (is_target at (statement_at u n) || some_target at (statements_from u l j))
some-step u l at i j n e = ap (λ ns. some_target at (statements_in (nodes u) ns)) e ∙ some-first at (statement_at u n) (statements_from u l j)

pub some-no : (u : Stored) (l : ListId) (at : Target) (i j : ℕ) (n : NodeId) → drop i (list_at u l) ≡ n ∷ drop j (list_at u l) → is_target at (statement_at u n) ≡ false → some_target at (statements_from u l i) ≡ some_target at (statements_from u l j)
some-no u l at i j n e h = some-step u l at i j n e ∙ ap (λ q. q || some_target at (statements_from u l j)) h

pub some-yes : (u : Stored) (l : ListId) (at : Target) (i j : ℕ) (n : NodeId) → drop i (list_at u l) ≡ n ∷ drop j (list_at u l) → is_target at (statement_at u n) ≡ true → some_target at (statements_from u l i) ≡ true
some-yes u l at i j n e h = some-step u l at i j n e ∙ ap (λ q. q || some_target at (statements_from u l j)) h

some-none : (at : Target) (u : Stored) → some_target at (statements_in (nodes u) []) ≡ false
some-none (ToCase v) u = refl
some-none ToDefault u = refl
some-none ToNone u = refl

pub some-end : (u : Stored) (l : ListId) (at : Target) (i : ℕ) → drop i (list_at u l) ≡ [] → some_target at (statements_from u l i) ≡ false
some-end u l at i e = ap (λ ns. some_target at (statements_in (nodes u) ns)) e ∙ some-none at u

pub at-no : (b : Setting) (w : Below) (u : Stored) (l : ListId) (at : Target) (i j : ℕ) (n : NodeId) (s : State) → drop i (list_at u l) ≡ n ∷ drop j (list_at u l) → is_target at (statement_at u n) ≡ false → exs_at b w at (statements_from u l i) s ≡ exs_at b w at (statements_from u l j) s
unfolding ex_by
at-no b w u l at i j n s e h =
    ap (λ ns. exs_at b w at (statements_in (nodes u) ns) s) e
    ∙ ap (λ (q : Bool). if q then then_do (ex b w (statement_at u n) s) (λ fl s. falls fl (λ s. exs b w (statements_from u l j) s) s) else exs_at b w at (statements_from u l j) s) h

plain-target : (at : Target) (x : TypedStatement) → is_target at x ≡ true → declared_in x ≡ None
plain-target (ToCase v) (Declare line o) h = absurd (cc)
plain-target ToDefault (Declare line o) h = absurd (cc)
plain-target ToNone (Declare line o) h = absurd (cc)
plain-target at (Block line os xs) h = refl
plain-target at (Expression line x) h = refl
plain-target at (Empty line) h = refl
plain-target at (If line c x) h = refl
plain-target at (IfElse line c x y) h = refl
plain-target at (Switch line c x) h = refl
plain-target at (Case line n x) h = refl
plain-target at (Default line x) h = refl
plain-target at (While line c x) h = refl
plain-target at (DoWhile line x c) h = refl
plain-target at (For line f c t x) h = refl
plain-target at (ForDeclaration line os ds c t x) h = refl
plain-target at (Continue line) h = refl
plain-target at (Break line) h = refl
plain-target at (Return line x) h = refl

pub at-yes : (b : Setting) (w : Below) (u : Stored) (l : ListId) (at : Target) (i j : ℕ) (n : NodeId) (s : State) → drop i (list_at u l) ≡ n ∷ drop j (list_at u l) → is_target at (statement_at u n) ≡ true → exs_at b w at (statements_from u l i) s ≡ exs b w (statements_from u l i) s
unfolding ex_by
at-yes b w u l at i j n s e h =
    ap (λ ns. exs_at b w at (statements_in (nodes u) ns) s) e
    ∙ ap (λ (q : Bool). if q then then_do (ex b w (statement_at u n) s) (λ fl s. falls fl (λ s. exs b w (statements_from u l j) s) s) else exs_at b w at (statements_from u l j) s) h
    ∙ sym (plain-first b w (statement_at u n) (statements_from u l j) s (plain-target at (statement_at u n) h))
    ∙ sym (ap (λ ns. exs b w (statements_in (nodes u) ns) s) e)

-- 6.8.4.2p5: without a `case` of the value, what is found is what a `default` gives
to-default : (u : Stored) (l : ListId) (v : ℤ) → some_case v (statements_from u l 0) ≡ false → target_of v (statements_from u l 0) ≡ (if some_default (statements_from u l 0) then ToDefault else ToNone)
to-default u l v h = ap (λ (c : Bool). if c then ToCase v else (if some_default (statements_from u l 0) then ToDefault else ToNone)) h

pub reaches-default : (u : Stored) (l : ListId) (v : ℤ) (r : Option ℕ) → some_case v (statements_from u l 0) ≡ false → (r ≡ None → some_default (statements_from u l 0) ≡ false) → IfSome r (Finds u l ToDefault) → Reaches u l v r
reaches-default u l v None h n f = to-default u l v h ∙ ap (λ (d : Bool). if d then ToDefault else ToNone) (n refl)
reaches-default u l v (Some i) h n f =
    let e : target_of v (statements_from u l 0) ≡ ToDefault = to-default u l v h ∙ ap (λ (d : Bool). if d then ToDefault else ToNone) f.some in
    (ap is_none_target e, λ b w s. ap (λ t. exs_at b w t (statements_from u l 0) s) e ∙ f.from b w s)
