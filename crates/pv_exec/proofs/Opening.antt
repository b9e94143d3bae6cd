-- A block without objects that begins at once, within a run.
use Rattle.std.proofs.Common.{◌≡◌, ℕ, ◌+◌, ◌<◌, Bool, List, [], ◌∷◌, length, Some, refl, sym, ap, ◌∙◌, subst, arith}
use Rattle.std.specs.Prelude.{if◌then◌else◌}
use Rattle.std.proofs.lemmas.Bool.{lt-ltb}
use Rattle.std.proofs.lemmas.Option.{same_Some}
use Rattle.std.proofs.lemmas.List.Elements.{All-weaker}
use Rattle.pv_tree.specs.declared.nodes.NodeId.{NodeId}
use Rattle.pv_tree.specs.declared.nodes.ListId.{ListId}
use Rattle.pv_typed.specs.TypedStatement.{TypedStatement, Block, Declare, Expression, Empty, If, IfElse, Switch, Case, Default, While, DoWhile, For, ForDeclaration, Continue, Break, Return}
use Rattle.pv_typed.specs.Trees.{declared_of, statement_line}
use Rattle.pv_typed.specs.Nodes.{statements_in}
use Rattle.pv_typed.specs.Tables.{Stored, nodes}
use Rattle.pv_typed.specs.NodeTrees.{list_at, statement_at}
use Rattle.pv_eval.specs.States.{Setting, State, Res, Gives, Stops, Turns, then_do, spend}
use Rattle.pv_eval.specs.Stack.{rest}
use Rattle.pv_eval.specs.Moments.{Moment, state_of}
use Rattle.pv_eval.specs.Machines.{Machine, Started}
use Rattle.pv_exec.specs.declared.task.Task.{Task}
use Rattle.pv_exec.specs.declared.task.Doing.TheVariants as doing
use Rattle.pv_exec.specs.Entering.{behind_turn, is_labelled}
use Rattle.pv_exec.specs.OfRuns.{exs, below}
use Rattle.pv_exec.specs.Parts.{Items, items_of}
use Rattle.pv_exec.specs.Tasks.{Reached, left_flow}
use Rattle.pv_exec.specs.Works.{does, after_work, Standing}
use Rattle.pv_exec.specs.Turning.{AtOnceLed}
use Rattle.pv_exec.proofs.Pieces.{turned}
use Rattle.pv_exec.proofs.Ticking.{ticked-state}

-- a list of no length is empty
pub no-items : (xs : List ℕ) → length xs ≡ 0 → xs ≡ []
no-items [] e = refl
no-items (x ∷ xs) e = absurd (omega (arith, e))

-- a statement with a list of statements is a block
block-form : (t : TypedStatement) (x : Items) → items_of t ≡ Some x → t ≡ Block (statement_line t) x.objects x.items
block-form (Block line os xs) x e = ap (λ (q : Items). Block line q.objects q.items) (same_Some _ _ e)
block-form (Declare line o) x e = absurd cc
block-form (Expression line y) x e = absurd cc
block-form (Empty line) x e = absurd cc
block-form (If line c y) x e = absurd cc
block-form (IfElse line c y z) x e = absurd cc
block-form (Switch line c y) x e = absurd cc
block-form (Case line n y) x e = absurd cc
block-form (Default line y) x e = absurd cc
block-form (While line c y) x e = absurd cc
block-form (DoWhile line y c) x e = absurd cc
block-form (For line f c s y) x e = absurd cc
block-form (ForDeclaration line os ds c s y) x e = absurd cc
block-form (Continue line) x e = absurd cc
block-form (Break line) x e = absurd cc
block-form (Return line y) x e = absurd cc

-- nothing is done behind it
given-again : {A : Type 0} (r : Res A) → then_do r (λ a s. Gives a s) ≡ r
given-again (Gives a s) = refl
given-again (Stops y s) = refl

module _ (u : Stored) (n : NodeId) (l : ListId) (ts : List Task) (old new : Machine) (form : items_of (statement_at u n) ≡ Some (record { objects = declared_of (statement_at u n); items = statements_in (nodes u) (list_at u l) })) (none : declared_of (statement_at u n) ≡ []) where
  -- its turn
  block-begins : (b : Setting) (k : ℕ) (es fs : List Started) (s : State) → s.taken < b.bound → does b u k es (doing.Enter n) s ≡ does b u k fs (doing.Statements l 0) (spend s)
  unfolding does
  block-begins b k es fs s room =
      let w = below b k in
      let t = statement_at u n in
      let xs = statements_in (nodes u) (list_at u l) in
      let is : t ≡ Block (statement_line t) (declared_of t) xs = block-form t (record { objects = declared_of t; items = xs }) form in
      ap left_flow (turned b w t s (ap is_labelled is))
      ∙ ap (λ (q : Bool). left_flow (if q then behind_turn b w t (spend s) else Stops Turns s)) (lt-ltb s.taken b.bound room)
      ∙ ap (λ (z : TypedStatement). left_flow (behind_turn b w z (spend s))) (is ∙ ap (λ (os : List ℕ). Block (statement_line t) os xs) none)
      ∙ ap left_flow (given-again (exs b w xs (spend s)))

  pub block-led : new.moment ≡ record old.moment { taken = old.moment.taken + 1 } → new.started ≡ old.started → AtOnceLed u (doing.Enter n) (doing.Statements l 0) ts old new
  block-led moment same = λ b out es hs hl all q g.
      let s = state_of old.moment out es in
      let s' = state_of new.moment out es in
      let taken : new.moment.taken ≡ old.moment.taken + 1 = ap (λ (m : Moment). m.taken) moment in
      let law : does b u g.level old.started (doing.Enter n) s ≡ does b u g.level new.started (doing.Statements l 0) s' =
      block-begins b g.level old.started new.started s (omega (arith, taken, q))
      ∙ ap (λ (z : State). does b u g.level new.started (doing.Statements l 0) z) (ticked-state old.moment new.moment out es moment) in
      record {
        works = g.works;
        level = g.level;
        same = g.same;
        standing = subst (λ (xs : List Started). Standing g.works xs) (sym same) g.standing;
        law = g.law ∙ ap (λ (m : Res Reached). then_do m (rest (after_work b u) g.works)) law;
        rooms = All-weaker (λ w. b.bound < s.taken + w.level + 1) (λ w. b.bound < s'.taken + w.level + 0) (λ w lt. omega (arith, lt, taken)) g.works g.rooms;
        room = omega (arith, g.room, taken);
        most = q;
      }
