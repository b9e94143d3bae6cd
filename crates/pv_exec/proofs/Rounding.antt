-- The last expression and the condition of a loop that are evaluated at once, within a run.
use Rattle.std.proofs.Common.{◌≡◌, ℕ, zero, suc, ◌+◌, ◌<◌, ◌≤◌, Bool, true, false, List, [], Some, refl, sym, ap, ◌∙◌, subst, arith}
use Rattle.std.specs.Prelude.{Option, IfSome}
use Rattle.std.proofs.lemmas.List.Elements.{All-weaker}
use Rattle.pv_tree.specs.declared.nodes.NodeId.{NodeId}
use Rattle.pv_typed.specs.Tables.{Stored, nodes}
use Rattle.pv_typed.specs.Nodes.{optional_in}
use Rattle.pv_typed.specs.NodeTrees.{expression_at, statement_at, IsExpression, IsStatement}
use Rattle.pv_world.specs.Worlds.{Worth}
use Rattle.pv_world.specs.Worths.{truth_int}
use Rattle.pv_eval.specs.States.{Setting, State, Res, Gives, Stops, Turns, then_do}
use Rattle.pv_eval.specs.Operations.{Tests, act}
use Rattle.pv_eval.specs.Evaluation.{ev}
use Rattle.pv_eval.specs.Sequenced.{Given}
use Rattle.pv_eval.specs.Stack.{rest}
use Rattle.pv_eval.specs.Moments.{state_of}
use Rattle.pv_eval.specs.Machines.{Machine, Started}
use Rattle.pv_eval.specs.Plainly.{GivesValue}
use Rattle.pv_eval.specs.AtOnce.{Evaluated, Cut, TestedNow}
use Rattle.pv_exec.specs.declared.parts.RoundParts.{RoundParts}
use Rattle.pv_exec.specs.declared.statements.Parts.{Parts}
use Rattle.pv_exec.specs.declared.task.Task.{Task}
use Rattle.pv_exec.specs.declared.task.Task.TheVariants as task
use Rattle.pv_exec.specs.declared.task.Doing.{Doing}
use Rattle.pv_exec.specs.declared.task.Doing.TheVariants as doing
use Rattle.pv_exec.specs.OfRuns.{full_expression, below}
use Rattle.pv_exec.specs.Parts.{Loop, loop_of, line_of_condition}
use Rattle.pv_exec.specs.Read.{IsRound, IsStep, round_side}
use Rattle.pv_exec.specs.Tasks.{Reached, left_flow, after_value}
use Rattle.pv_exec.specs.Calls.{below_by}
use Rattle.pv_exec.specs.Works.{does, due, others, after_work, Work, Standing}
use Rattle.pv_exec.specs.Fits.{DoingFits}
use Rattle.pv_exec.specs.Turning.{AtOnceLed, CutBefore}
use Rattle.pv_exec.proofs.Loops.{step-some, round-condition, tested-is}

-- what is done names what is there
pub again-fits : (u : Stored) (es : List Started) (x : NodeId) (p : RoundParts) (d : Doing) → d ≡ doing.Again x p → DoingFits u es d → IsStep u x p
again-fits u es x p d e h = subst (λ (z : Doing). DoingFits u es z) e h

pub round-fits : (u : Stored) (es : List Started) (p : RoundParts) (d : Doing) → d ≡ doing.Round p → DoingFits u es d → IsRound u p
round-fits u es p d e h = subst (λ (z : Doing). DoingFits u es z) e h

pub body-fits : (u : Stored) (es : List Started) (p : RoundParts) (d : Doing) → d ≡ doing.Body p → DoingFits u es d → IsRound u p
body-fits u es p d e h = subst (λ (z : Doing). DoingFits u es z) e h

pub side-fits : (u : Stored) (p : RoundParts) (es : List Started) (t : Bool) → IsRound u p → DoingFits u es (round_side p t)
side-fits u p es true h = h
side-fits u p es false h = tt

-- a loop with a condition, by its parts
pub is-round : (u : Stored) (n : NodeId) (p : Parts) (c : NodeId) → IsStatement u n → loop_of (statement_at u n) ≡ record { condition = optional_in (nodes u) p.condition; step = optional_in (nodes u) p.step; body = statement_at u p.body } → IfSome p.condition (IsExpression u) → IsStatement u p.body → p.condition ≡ Some c
    → IsRound u (record { statement = n; condition = c; body = p.body })
is-round u n p c there value condition body is = record {
  there = there;
  condition = ap (λ (l : Loop). l.condition) value ∙ ap (optional_in (nodes u)) is;
  has_condition = subst (λ (o : Option NodeId). IfSome o (IsExpression u)) is condition;
  body = ap (λ (l : Loop). l.body) value;
  has_body = body;
}

pub round-waits : (p : RoundParts) (es : List Started) (t : Bool) → others es (round_side p t) ≡ es
round-waits p es true = refl
round-waits p es false = refl

round-due : (p : RoundParts) (es : List Started) (t : Bool) → due es (round_side p t) ≡ 0
round-due p es true = refl
round-due p es false = refl

value-then : (r : Res Given) (go : Worth → State → Res Reached) (v : Worth) (s : State) → GivesValue r v s → then_do (then_do r (λ g s. Gives g.value s)) go ≡ go v s
value-then r go v s h = ap (λ (m : Res Given). then_do (then_do m (λ g s. Gives g.value s)) go) h.is ∙ ap (λ z. go z s) h.value

value-stops : (r : Res Given) (go : Worth → State → Res Reached) (s : State) → r ≡ Stops Turns s → then_do (then_do r (λ g s. Gives g.value s)) go ≡ Stops Turns s
value-stops r go s h = ap (λ (m : Res Given). then_do (then_do m (λ g s. Gives g.value s)) go) h

-- the last expression
module _ (u : Stored) (x : NodeId) (p : RoundParts) (v : Worth) (ts : List Task) (old new : Machine) (form : (loop_of (statement_at u p.statement)).step ≡ Some (expression_at u x)) where
  again-is : (b : Setting) (k : ℕ) (es : List Started) (s : State) → does b u k es (doing.Again x p) s ≡ then_do (full_expression b (below b k).call (expression_at u x) s) (after_value b u k (task.Stepped p.statement))
  unfolding does
  again-is b k es s = step-some b u k p.statement x s form

  behind-it : (b : Setting) (k : ℕ) (es : List Started) (s : State) → after_value b u k (task.Stepped p.statement) v s ≡ does b u k es (doing.Round p) s
  unfolding does after_value
  behind-it b k es s = refl

  pub step-led : Evaluated u x v old.moment new.moment → old.moment.taken < new.moment.taken → new.started ≡ old.started → AtOnceLed u (doing.Again x p) (doing.Round p) ts old new
  step-led h more same = λ b out es hs hl all q g.
      let s = state_of old.moment out es in
      let s' = state_of new.moment out es in
      let w = below b g.level in
      let law : does b u g.level old.started (doing.Again x p) s ≡ does b u g.level new.started (doing.Round p) s' =
      again-is b g.level old.started s
      ∙ value-then (ev b w.call (expression_at u x) [] s) (after_value b u g.level (task.Stepped p.statement)) v s' (h b out es hs hl w.call q)
      ∙ behind-it b g.level new.started s' in
      record {
        works = g.works;
        level = g.level;
        same = g.same;
        standing = subst (λ (xs : List Started). Standing g.works xs) (sym same) g.standing;
        law = g.law ∙ ap (λ (m : Res Reached). then_do m (rest (after_work b u) g.works)) law;
        rooms = All-weaker (λ (w : Work). b.bound < s.taken + w.level + 0) (λ (w : Work). b.bound < s'.taken + w.level + 0) (λ w lt. omega (arith, lt, more)) g.works g.rooms;
        room = omega (arith, g.room, more);
        most = q;
      }

  pub step-cut : Cut u x old.moment new.moment → CutBefore u (doing.Again x p) ts old new
  step-cut h = λ b out es hs hl all low high g.
      let s = state_of old.moment out es in
      let z = state_of (record old.moment { taken = b.bound }) out es in
      let w = below b g.level in
      let law : does b u g.level old.started (doing.Again x p) s ≡ Stops Turns z =
      again-is b g.level old.started s
      ∙ value-stops (ev b w.call (expression_at u x) [] s) (after_value b u g.level (task.Stepped p.statement)) z (h b out es hs hl w.call low high) in
      g.law ∙ ap (λ (m : Res Reached). then_do m (rest (after_work b u) g.works)) law

-- a further round comes to this, one level lower
record Lower (b : Setting) (u : Stored) (p : RoundParts) (t : Bool) (es fs : List Started) (k : ℕ) (s z : State) : Type 0 where
  level : ℕ
  law : does b u k es (doing.Round p) s ≡ does b u level fs (round_side p t) z
  room : b.bound < z.taken + level + due fs (round_side p t)

-- the condition
module _ (u : Stored) (p : RoundParts) (t : Bool) (ts : List Task) (old new : Machine) (form : (loop_of (statement_at u p.statement)).condition ≡ Some (expression_at u p.condition)) where
  abbrev line : ℕ
  line = line_of_condition (loop_of (statement_at u p.statement)).condition

  round-enters : (b : Setting) (k : ℕ) (es : List Started) (s : State) → does b u (suc k) es (doing.Round p) s ≡ then_do (full_expression b (below b k).call (expression_at u p.condition) s) (after_value b u k (task.Tested p.statement))
  unfolding does below_by
  round-enters b k es s = round-condition b u k p.statement p.condition s form

  side-is : (b : Setting) (k : ℕ) (es : List Started) (v : Worth) (s : State) (q : Bool) → act b line (Tests v) s ≡ Gives (truth_int q) s → after_value b u k (task.Tested p.statement) v s ≡ does b u k es (round_side p q) s
  unfolding does after_value
  side-is b k es v s true h = ap left_flow (tested-is b (below b k) (loop_of (statement_at u p.statement)) line v s _ refl h)
  side-is b k es v s false h = ap left_flow (tested-is b (below b k) (loop_of (statement_at u p.statement)) line v s _ refl h)

  comes-to : (b : Setting) (k : ℕ) (s s' : State) (v : Worth) → b.bound < s.taken + k + 0 → s'.taken ≤ b.bound → s.taken < s'.taken
      → ((j : ℕ) → GivesValue (ev b (below b j).call (expression_at u p.condition) [] s) v s') → act b line (Tests v) s' ≡ Gives (truth_int t) s' → Lower b u p t old.started new.started k s s'
  comes-to b zero s s' v lt le more has tests = absurd (omega (arith, lt, le, more))
  comes-to b (suc k) s s' v lt le more has tests = record {
    level = k;
    law = round-enters b k old.started s ∙ value-then (ev b (below b k).call (expression_at u p.condition) [] s) (after_value b u k (task.Tested p.statement)) v s' (has k) ∙ side-is b k new.started v s' t tests;
    room = omega (arith, lt, more, round-due p new.started t);
  }

  pub round-led : TestedNow u p.condition t old.moment new.moment → old.moment.taken < new.moment.taken → new.started ≡ old.started → AtOnceLed u (doing.Round p) (round_side p t) ts old new
  round-led h more same = λ b out es hs hl all q g.
      let s = state_of old.moment out es in
      let s' = state_of new.moment out es in
      let low = comes-to b g.level s s' h.worth g.room q more (λ j. h.has b out es hs hl (below b j).call q) (h.tests b line out es) in
      record {
        works = g.works;
        level = low.level;
        same = g.same;
        standing = subst (λ (xs : List Started). Standing g.works xs) (sym (round-waits p new.started t ∙ same)) g.standing;
        law = g.law ∙ ap (λ (m : Res Reached). then_do m (rest (after_work b u) g.works)) low.law;
        rooms = All-weaker (λ (w : Work). b.bound < s.taken + w.level + 0) (λ (w : Work). b.bound < s'.taken + w.level + due new.started (round_side p t)) (λ w lt. omega (arith, lt, more, round-due p new.started t)) g.works g.rooms;
        room = low.room;
        most = q;
      }

  stops : (b : Setting) (k : ℕ) (s z : State) → b.bound < s.taken + k + 0 → s.taken ≤ b.bound → ((j : ℕ) → ev b (below b j).call (expression_at u p.condition) [] s ≡ Stops Turns z) → does b u k old.started (doing.Round p) s ≡ Stops Turns z
  stops b zero s z lt le h = absurd (omega (arith, lt, le))
  stops b (suc k) s z lt le h = round-enters b k old.started s ∙ value-stops (ev b (below b k).call (expression_at u p.condition) [] s) (after_value b u k (task.Tested p.statement)) z (h k)

  pub round-cut : Cut u p.condition old.moment new.moment → CutBefore u (doing.Round p) ts old new
  round-cut h = λ b out es hs hl all low high g.
      let s = state_of old.moment out es in
      let z = state_of (record old.moment { taken = b.bound }) out es in
      g.law ∙ ap (λ (m : Res Reached). then_do m (rest (after_work b u) g.works)) (stops b g.level s z g.room g.most (λ j. h b out es hs hl (below b j).call low high))
