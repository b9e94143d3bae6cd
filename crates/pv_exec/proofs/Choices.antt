-- The condition of an `if` that is evaluated at once, within a run.
use Rattle.std.proofs.Common.{◌≡◌, ℕ, ◌+◌, ◌<◌, ◌≤◌, Bool, true, false, List, [], Some, None, refl, sym, ap, ◌∙◌, subst, ⊎_elim, arith}
use Rattle.std.specs.Prelude.{Option, if◌then◌else◌}
use Rattle.std.proofs.lemmas.Bool.{cases_lt, lt-ltb}
use Rattle.std.proofs.lemmas.Option.{same_Some}
use Rattle.std.proofs.lemmas.List.Elements.{All-weaker}
use Rattle.pv_tree.specs.declared.nodes.NodeId.{NodeId}
use Rattle.pv_typed.specs.TypedTree.{TypedTree, line_of}
use Rattle.pv_typed.specs.TypedStatement.{TypedStatement, Block, Declare, Expression, Empty, If, IfElse, Switch, Case, Default, While, DoWhile, For, ForDeclaration, Continue, Break, Return}
use Rattle.pv_typed.specs.Tables.{Stored, nodes}
use Rattle.pv_typed.specs.NodeTrees.{expression_at, statement_at}
use Rattle.pv_world.specs.Worlds.{Worth}
use Rattle.pv_eval.specs.States.{Setting, State, Res, Gives, Stops, Turns, then_do, spend}
use Rattle.pv_eval.specs.Evaluation.{ev}
use Rattle.pv_eval.specs.Sequenced.{Given}
use Rattle.pv_eval.specs.Stack.{rest}
use Rattle.pv_eval.specs.Moments.{state_of}
use Rattle.pv_eval.specs.Machines.{Machine, Started}
use Rattle.pv_eval.specs.Plainly.{GivesValue}
use Rattle.pv_eval.specs.AtOnce.{TestedNext, CutNext}
use Rattle.pv_exec.specs.declared.parts.ChoiceParts.{ChoiceParts}
use Rattle.pv_exec.specs.declared.task.Task.{Task}
use Rattle.pv_exec.specs.declared.task.Task.TheVariants as task
use Rattle.pv_exec.specs.declared.task.Doing.TheVariants as doing
use Rattle.pv_exec.specs.Entering.{behind_turn, is_labelled}
use Rattle.pv_exec.specs.Flows.{Below}
use Rattle.pv_exec.specs.OfRuns.{full_expression, below}
use Rattle.pv_exec.specs.Parts.{Choice, choice_of, branch_of}
use Rattle.pv_exec.specs.Read.{choice_in, other_side_of, side_of, ChoiceFits, HasOther}
use Rattle.pv_exec.specs.Tasks.{Reached, left_flow, after_value}
use Rattle.pv_exec.specs.Works.{does, due, others, after_work, Work, Standing}
use Rattle.pv_exec.specs.Fits.{DoingFits}
use Rattle.pv_exec.specs.Turning.{AtOnceLed, CutBefore}
use Rattle.pv_exec.proofs.Bounds.{holds-out}
use Rattle.pv_exec.proofs.Pieces.{turned}
use Rattle.pv_exec.proofs.Enters.{if-enters, if-else-enters}
use Rattle.pv_exec.proofs.Choosing.{chosen-leads}
use Rattle.pv_exec.proofs.AtOnce.{ticked-setting}

-- an `if` with its condition, once its turn is taken
record IsChoice (b : Setting) (w : Below) (t : TypedStatement) (c : TypedTree) : Type 0 where
  plain : is_labelled t ≡ false
  enters : (s : State) → left_flow (behind_turn b w t s) ≡ then_do (full_expression b w.call c s) (λ v s. left_flow (branch_of b w (choice_of t) v s))

with-condition : (b : Setting) (w : Below) (t : TypedStatement) (c d : TypedTree) → c ≡ d → IsChoice b w t c → IsChoice b w t d
with-condition b w t c d e h = subst (λ z. IsChoice b w t z) e h

is-choice : (b : Setting) (w : Below) (t : TypedStatement) (x : Choice) → choice_of t ≡ Some x → IsChoice b w t x.condition
is-choice b w (If line c y) x e = with-condition b w (If line c y) c x.condition (ap (λ (z : Choice). z.condition) (same_Some _ _ e)) (record { plain = refl; enters = λ s. if-enters b w line c y s })
is-choice b w (IfElse line c y z) x e = with-condition b w (IfElse line c y z) c x.condition (ap (λ (z : Choice). z.condition) (same_Some _ _ e)) (record { plain = refl; enters = λ s. if-else-enters b w line c y z s })
is-choice b w (Block line os xs) x e = absurd cc
is-choice b w (Declare line o) x e = absurd cc
is-choice b w (Expression line y) x e = absurd cc
is-choice b w (Empty line) x e = absurd cc
is-choice b w (Switch line c y) x e = absurd cc
is-choice b w (Case line n y) x e = absurd cc
is-choice b w (Default line y) x e = absurd cc
is-choice b w (While line c y) x e = absurd cc
is-choice b w (DoWhile line y c) x e = absurd cc
is-choice b w (For line f c s y) x e = absurd cc
is-choice b w (ForDeclaration line os ds c s y) x e = absurd cc
is-choice b w (Continue line) x e = absurd cc
is-choice b w (Break line) x e = absurd cc
is-choice b w (Return line y) x e = absurd cc

-- what is done then is there
pub side-fits : (u : Stored) (es : List Started) (p : ChoiceParts) (t : Bool) → ChoiceFits u p → DoingFits u es (side_of p t)
side-fits u es p true h = h.1
side-fits u es p false h = other-fits u es p.other h.2
  where
    other-fits : (u : Stored) (es : List Started) (o : Option NodeId) → HasOther u o → DoingFits u es (other_side_of o)
    other-fits u es None h = tt
    other-fits u es (Some y) h = h

other-waiting : (o : Option NodeId) (es : List Started) → others es (other_side_of o) ≡ es
other-waiting None es = refl
other-waiting (Some y) es = refl

side-others : (p : ChoiceParts) (t : Bool) (es : List Started) → others es (side_of p t) ≡ es
side-others p true es = refl
side-others p false es = other-waiting p.other es

pub side-waiting : (p : ChoiceParts) (t : Bool) (new old : List Started) → new ≡ old → others new (side_of p t) ≡ old
side-waiting p t new old e = side-others p t new ∙ e

module _ (u : Stored) (n : NodeId) (p : ChoiceParts) (t : Bool) (ts : List Task) (old new : Machine) (form : choice_of (statement_at u n) ≡ Some (choice_in (nodes u) p)) where
  abbrev condition : TypedTree
  condition = expression_at u p.condition

  -- its turn
  choice-enters : (b : Setting) (k : ℕ) (es : List Started) (s : State) → s.taken < b.bound → does b u k es (doing.Enter n) s ≡ then_do (full_expression b (below b k).call condition (spend s)) (after_value b u k (task.Chosen n))
  unfolding does after_value
  choice-enters b k es s room =
      let w = below b k in
      let x = statement_at u n in
      let h = is-choice b w x (choice_in (nodes u) p) form in
      ap left_flow (turned b w x s h.plain)
      ∙ ap (λ (q : Bool). left_flow (if q then behind_turn b w x (spend s) else Stops Turns s)) (lt-ltb s.taken b.bound room)
      ∙ h.enters (spend s)

  value-then : (b : Setting) (k : ℕ) (r : Res Given) (v : Worth) (s : State) → GivesValue r v s → then_do (then_do r (λ g s. Gives g.value s)) (after_value b u k (task.Chosen n)) ≡ after_value b u k (task.Chosen n) v s
  value-then b k r v s h =
      ap (λ (m : Res Given). then_do (then_do m (λ g s. Gives g.value s)) (after_value b u k (task.Chosen n))) h.is
      ∙ ap (λ z. after_value b u k (task.Chosen n) z s) h.value

  value-stops : (b : Setting) (k : ℕ) (r : Res Given) (s : State) → r ≡ Stops Turns s → then_do (then_do r (λ g s. Gives g.value s)) (after_value b u k (task.Chosen n)) ≡ Stops Turns s
  value-stops b k r s h = ap (λ (m : Res Given). then_do (then_do m (λ g s. Gives g.value s)) (after_value b u k (task.Chosen n))) h

  pub choice-led : TestedNext u p.condition t old.moment new.moment → old.moment.taken + 1 ≤ new.moment.taken → new.started ≡ old.started → AtOnceLed u (doing.Enter n) (side_of p t) ts old new
  choice-led h more same = λ b out es hs hl all q g.
      let s = state_of old.moment out es in
      let s' = state_of new.moment out es in
      let w = below b g.level in
      let given = h.has b out es (ticked-setting b u old.moment hs) hl w.call q in
      let leads = chosen-leads b u g.level (line_of condition) n p t new.started new.started h.worth s' s' (omega (arith, g.room, more)) form refl (h.tests b (line_of condition) out es) refl in
      record {
        works = g.works;
        level = leads.level;
        same = g.same;
        standing = subst (λ (xs : List Started). Standing g.works xs) (sym (side-waiting p t new.started old.started same)) g.standing;
        law = g.law ∙ ap (λ (m : Res Reached). then_do m (rest (after_work b u) g.works)) (choice-enters b g.level old.started s (omega (arith, more, q)) ∙ value-then b g.level (ev b w.call condition [] (spend s)) h.worth s' given ∙ leads.law);
        rooms = All-weaker (λ (w : Work). b.bound < s.taken + w.level + 1) (λ (w : Work). b.bound < s'.taken + w.level + due new.started (side_of p t)) (λ w lt. omega (arith, lt, more)) g.works g.rooms;
        room = leads.room;
        most = q;
      }

  pub choice-cut : CutNext u p.condition old.moment new.moment → CutBefore u (doing.Enter n) ts old new
  choice-cut h = λ b out es hs hl all low high g.
      let s = state_of old.moment out es in
      let z = state_of (record old.moment { taken = b.bound }) out es in
      let w = below b g.level in
      ⊎_elim
      (λ room.
      let law : does b u g.level old.started (doing.Enter n) s ≡ Stops Turns z =
      choice-enters b g.level old.started s room
      ∙ value-stops b g.level (ev b w.call condition [] (spend s)) z (h b out es (ticked-setting b u old.moment hs) hl w.call (omega (arith, room)) high) in
      g.law ∙ ap (λ (m : Res Reached). then_do m (rest (after_work b u) g.works)) law)
      (λ full_bound.
      let met : old.moment.taken ≡ b.bound = omega (arith, low, full_bound) in
      subst (λ (k : ℕ). all ≡ Stops Turns (state_of (record old.moment { taken = k }) out es)) met (holds-out b u all ts old.started (doing.Enter n) s refl tt (omega (arith, met)) g))
      (cases_lt old.moment.taken b.bound)
