-- A `return` whose value is found at once, within a run.
use Rattle.std.proofs.Common.{◌≡◌, ℕ, ◌+◌, ◌<◌, ◌≤◌, Bool, List, [], Some, refl, sym, ap, ◌∙◌, subst, ⊎_elim, arith}
use Rattle.std.specs.Prelude.{Option, if◌then◌else◌}
use Rattle.std.proofs.lemmas.Bool.{cases_lt, lt-ltb}
use Rattle.std.proofs.lemmas.List.Elements.{All-weaker}
use Rattle.pv_tree.specs.declared.nodes.NodeId.{NodeId}
use Rattle.pv_typed.specs.TypedTree.{TypedTree}
use Rattle.pv_typed.specs.TypedStatement.{TypedStatement, Block, Declare, Expression, Empty, If, IfElse, Switch, Case, Default, While, DoWhile, For, ForDeclaration, Continue, Break, Return}
use Rattle.pv_typed.specs.Trees.{statement_line}
use Rattle.pv_typed.specs.Tables.{Stored}
use Rattle.pv_typed.specs.NodeTrees.{expression_at, statement_at}
use Rattle.pv_world.specs.Worlds.{Worth}
use Rattle.pv_world.specs.Coming.{worth_of}
use Rattle.pv_world.specs.declared.got.Got.{Got}
use Rattle.pv_eval.specs.States.{Setting, State, Res, Gives, Stops, Turns, then_do, spend}
use Rattle.pv_eval.specs.Evaluation.{ev}
use Rattle.pv_eval.specs.Sequenced.{Given}
use Rattle.pv_eval.specs.Stack.{rest}
use Rattle.pv_eval.specs.Moments.{state_of}
use Rattle.pv_eval.specs.Machines.{Machine, Started}
use Rattle.pv_eval.specs.Plainly.{GivesValue}
use Rattle.pv_eval.specs.AtOnce.{HandedNext, CutNext}
use Rattle.pv_exec.specs.declared.task.Task.{Task}
use Rattle.pv_exec.specs.declared.task.Task.TheVariants as task
use Rattle.pv_exec.specs.declared.task.Doing.TheVariants as doing
use Rattle.pv_exec.specs.declared.task.Flow.TheVariants as flow
use Rattle.pv_exec.specs.Entering.{behind_turn, is_labelled}
use Rattle.pv_exec.specs.Flows.{Returns}
use Rattle.pv_exec.specs.OfRuns.{full_expression, below}
use Rattle.pv_exec.specs.Tasks.{Reached, Left, left_flow, after_value, returned_of}
use Rattle.pv_exec.specs.Works.{does, after_work, Standing}
use Rattle.pv_exec.specs.Turning.{AtOnceLed, CutBefore}
use Rattle.pv_exec.proofs.Bounds.{holds-out}
use Rattle.pv_exec.proofs.Pieces.{turned}
use Rattle.pv_exec.proofs.Enters.{return-enters}
use Rattle.pv_exec.proofs.Returning.{returned-is}
use Rattle.pv_exec.proofs.AtOnce.{ticked-setting}

-- a statement that passes a value on is a `return`
returned-form : (t : TypedStatement) (x : TypedTree) → returned_of t ≡ Some x → t ≡ Return (statement_line t) (Some x)
returned-form (Return line y) x e = ap (λ (q : Option TypedTree). Return line q) e
returned-form (Block line os xs) x e = absurd cc
returned-form (Declare line o) x e = absurd cc
returned-form (Expression line y) x e = absurd cc
returned-form (Empty line) x e = absurd cc
returned-form (If line c y) x e = absurd cc
returned-form (IfElse line c y z) x e = absurd cc
returned-form (Switch line c y) x e = absurd cc
returned-form (Case line n y) x e = absurd cc
returned-form (Default line y) x e = absurd cc
returned-form (While line c y) x e = absurd cc
returned-form (DoWhile line y c) x e = absurd cc
returned-form (For line f c s y) x e = absurd cc
returned-form (ForDeclaration line os ds c s y) x e = absurd cc
returned-form (Continue line) x e = absurd cc
returned-form (Break line) x e = absurd cc

module _ (u : Stored) (n x : NodeId) (v : Got) (ts : List Task) (old new : Machine) (form : returned_of (statement_at u n) ≡ Some (expression_at u x)) where
  abbrev value : TypedTree
  value = expression_at u x

  abbrev line : ℕ
  line = statement_line (statement_at u n)

  -- its turn
  return-begins : (b : Setting) (k : ℕ) (es : List Started) (s : State) → s.taken < b.bound → does b u k es (doing.Enter n) s ≡ then_do (full_expression b (below b k).call value (spend s)) (after_value b u k (task.Returning n))
  unfolding does
  return-begins b k es s room =
      let w = below b k in
      let t = statement_at u n in
      let is = returned-form t value form in
      ap left_flow (turned b w t s (ap is_labelled is))
      ∙ ap (λ (q : Bool). left_flow (if q then behind_turn b w t (spend s) else Stops Turns s)) (lt-ltb s.taken b.bound room)
      ∙ return-enters b u k n line value (spend s) is

  value-then : (b : Setting) (k : ℕ) (r : Res Given) (first : Worth) (s : State) → GivesValue r first s → then_do (then_do r (λ g s. Gives g.value s)) (after_value b u k (task.Returning n)) ≡ after_value b u k (task.Returning n) first s
  value-then b k r first s h =
      ap (λ (m : Res Given). then_do (then_do m (λ g s. Gives g.value s)) (after_value b u k (task.Returning n))) h.is
      ∙ ap (λ z. after_value b u k (task.Returning n) z s) h.value

  value-stops : (b : Setting) (k : ℕ) (r : Res Given) (s : State) → r ≡ Stops Turns s → then_do (then_do r (λ g s. Gives g.value s)) (after_value b u k (task.Returning n)) ≡ Stops Turns s
  value-stops b k r s h = ap (λ (m : Res Given). then_do (then_do m (λ g s. Gives g.value s)) (after_value b u k (task.Returning n))) h

  returns-is : (b : Setting) (k : ℕ) (es : List Started) (s : State) → Gives (Left (Returns (worth_of v))) s ≡ does b u k es (doing.Left (flow.Returns v)) s
  unfolding does
  returns-is b k es s = refl

  pub handed-led : HandedNext u x (worth_of v) old.moment new.moment → old.moment.taken + 1 ≤ new.moment.taken → new.started ≡ old.started → AtOnceLed u (doing.Enter n) (doing.Left (flow.Returns v)) ts old new
  handed-led h more same = λ b out es hs hl all q g.
      let s = state_of old.moment out es in
      let s' = state_of new.moment out es in
      let w = below b g.level in
      let given = h.has b out es (ticked-setting b u old.moment hs) hl w.call q in
      let law : does b u g.level old.started (doing.Enter n) s ≡ does b u g.level new.started (doing.Left (flow.Returns v)) s' =
      return-begins b g.level old.started s (omega (arith, more, q))
      ∙ value-then b g.level (ev b w.call value [] (spend s)) h.worth s' given
      ∙ returned-is b u g.level n x line v h.worth s' s' form refl (h.hands b line out es)
      ∙ returns-is b g.level new.started s' in
      record {
        works = g.works;
        level = g.level;
        same = g.same;
        standing = subst (λ (xs : List Started). Standing g.works xs) (sym same) g.standing;
        law = g.law ∙ ap (λ (m : Res Reached). then_do m (rest (after_work b u) g.works)) law;
        rooms = All-weaker (λ w. b.bound < s.taken + w.level + 1) (λ w. b.bound < s'.taken + w.level + 0) (λ w lt. omega (arith, lt, more)) g.works g.rooms;
        room = omega (arith, g.room, more);
        most = q;
      }

  pub handed-cut : CutNext u x old.moment new.moment → CutBefore u (doing.Enter n) ts old new
  handed-cut h = λ b out es hs hl all low high g.
      let s = state_of old.moment out es in
      let z = state_of (record old.moment { taken = b.bound }) out es in
      let w = below b g.level in
      ⊎_elim
      (λ room.
      let law : does b u g.level old.started (doing.Enter n) s ≡ Stops Turns z =
      return-begins b g.level old.started s room
      ∙ value-stops b g.level (ev b w.call value [] (spend s)) z (h b out es (ticked-setting b u old.moment hs) hl w.call (omega (arith, room)) high) in
      g.law ∙ ap (λ (m : Res Reached). then_do m (rest (after_work b u) g.works)) law)
      (λ full_bound.
      let met : old.moment.taken ≡ b.bound = omega (arith, low, full_bound) in
      subst (λ (k : ℕ). all ≡ Stops Turns (state_of (record old.moment { taken = k }) out es)) met (holds-out b u all ts old.started (doing.Enter n) s refl tt (omega (arith, met)) g))
      (cases_lt old.moment.taken b.bound)
