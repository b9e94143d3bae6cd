-- Expressions and statements that are evaluated at once, within a run.
use Rattle.std.proofs.Common.{◌≡◌, ℕ, ◌+◌, ◌<◌, ◌≤◌, Bool, true, false, List, [], ◌∷◌, refl, sym, ap, ◌∙◌, subst, ⊎_elim, arith}
use Rattle.std.specs.Prelude.{reverse, Result, Ok, Err, length, if◌then◌else◌}
use Rattle.std.proofs.lemmas.Bool.{cases_lt, lt-ltb}
use Rattle.std.proofs.lemmas.List.Elements.{All-weaker}
use Rattle.pv_tree.specs.declared.nodes.NodeId.{NodeId}
use Rattle.pv_typed.specs.TypedStatement.{Expression}
use Rattle.pv_typed.specs.Tables.{Stored}
use Rattle.pv_typed.specs.NodeTrees.{expression_at, statement_at}
use Rattle.pv_world.specs.Worlds.{Worth}
use Rattle.pv_eval.specs.declared.failure.Failure.{Failure}
use Rattle.pv_eval.specs.declared.failure.Failure.TheVariants as failure
use Rattle.pv_eval.specs.States.{Setting, State, Res, Gives, Stops, Turns, then_do, spend}
use Rattle.pv_eval.specs.declared.frames.Now.{Now}
use Rattle.pv_eval.specs.declared.frames.Now.TheVariants as now
use Rattle.pv_eval.specs.Evaluation.{ev}
use Rattle.pv_eval.specs.Sequenced.{Given}
use Rattle.pv_eval.specs.Stack.{rest}
use Rattle.pv_eval.specs.Moments.{Moment, IsSetting, state_of}
use Rattle.pv_eval.specs.Machines.{Machine, Started, left_of, ended_value, is_due, is_ended, is_going, is_value, is_call_at, due_turns, after_first}
use Rattle.pv_eval.specs.MachineSteps.{KeepsSetting}
use Rattle.pv_exec.specs.declared.once.After.{After}
use Rattle.pv_exec.specs.declared.once.After.TheVariants as after
use Rattle.pv_exec.specs.declared.task.Task.{Task}
use Rattle.pv_exec.specs.declared.task.Doing.{Doing}
use Rattle.pv_exec.specs.declared.task.Doing.TheVariants as doing
use Rattle.pv_exec.specs.declared.task.Flow.TheVariants as flow
use Rattle.pv_exec.specs.OfRuns.{ex, full_expression, below}
use Rattle.pv_exec.specs.Entering.{behind_turn}
use Rattle.pv_exec.specs.Flows.{Falls, nothing_done}
use Rattle.pv_exec.specs.Tasks.{Reached, Left, Valued, left_flow}
use Rattle.pv_exec.specs.Works.{does, due, turn_due, others, after_work, Standing}
use Rattle.pv_exec.specs.Fits.{Runs, DoingFits, TasksStand}
use Rattle.pv_eval.specs.Plainly.{GivesValue}
use Rattle.pv_eval.specs.AtOnce.{EvaluatedFirst, ContinuesFirst, CutFirst, with_turn_taken, EvaluatedNext, CutNext}
use Rattle.pv_exec.specs.Turning.{UntilDueLed, AdvancedLed, AtOnceLed, CutBefore}
use Rattle.pv_exec.proofs.Bounds.{holds-out, holds-asked, has-stores}
use Rattle.pv_exec.proofs.Turns.{keeps-setting}
use Rattle.pv_exec.proofs.Pieces.{turned}

-- a full expression that was started
does-at-once : (b : Setting) (u : Stored) (k : ℕ) (es fs : List Started) (s s' : State) → GivesValue (left_of b (below b k).call u es s) (ended_value fs) s' → does b u k es doing.Evaluate s ≡ does b u k fs doing.Evaluated s'
unfolding does
does-at-once b u k es fs s s' h = ap (λ (m : Res Given). then_do m (λ g s. Gives (Valued g.value) s)) h.is ∙ ap (λ v. Gives (Valued v) s') h.value

one-most : (c : Bool) → (if c then 1 else 0) ≤ 1
one-most true = omega arith
one-most false = omega arith

-- the value, and the turns
pub at-once-led : (u : Stored) (ts : List Task) (old new : Machine) → EvaluatedFirst u old new → old.moment.taken < new.moment.taken → after_first new.started ≡ after_first old.started → AtOnceLed u doing.Evaluate doing.Evaluated ts old new
at-once-led u ts old new h more same = λ b out es hs hl all q g.
    let s = state_of old.moment out es in
    let s' = state_of new.moment out es in
    let one : due_turns old.started ≤ 1 = one-most (is_due old.started) in
    record {
      works = g.works;
      level = g.level;
      same = g.same;
      standing = subst (λ (xs : List Started). Standing g.works xs) (sym same) g.standing;
      law = g.law ∙ ap (λ (m : Res Reached). then_do m (rest (after_work b u) g.works)) (does-at-once b u g.level old.started new.started s s' (h b out es hs hl (below b g.level).call q));
      rooms = All-weaker (λ w. b.bound < s.taken + w.level + due old.started doing.Evaluate) (λ w. b.bound < s'.taken + w.level + due new.started doing.Evaluated) (λ w lt. omega (arith, lt, one, more)) g.works g.rooms;
      room = omega (arith, g.room, one, more);
      most = q;
    }

-- an expression that was started goes on behind an operand
does-goes : (b : Setting) (u : Stored) (k : ℕ) (es fs : List Started) (s s' : State) → left_of b (below b k).call u es s ≡ left_of b (below b k).call u fs s' → does b u k es doing.Evaluate s ≡ does b u k fs doing.Evaluate s'
unfolding does
does-goes b u k es fs s s' h = ap (λ (m : Res Given). then_do m (λ g s. Gives (Valued g.value) s)) h

pub operand-led : (u : Stored) (ts : List Task) (old new : Machine) → ContinuesFirst u old new → old.moment.taken < new.moment.taken → after_first new.started ≡ after_first old.started → AtOnceLed u doing.Evaluate doing.Evaluate ts old new
operand-led u ts old new h more same = λ b out es hs hl all q g.
    let s = state_of old.moment out es in
    let s' = state_of new.moment out es in
    let one : due_turns old.started ≤ 1 = one-most (is_due old.started) in
    record {
      works = g.works;
      level = g.level;
      same = g.same;
      standing = subst (λ (xs : List Started). Standing g.works xs) (sym same) g.standing;
      law = g.law ∙ ap (λ (m : Res Reached). then_do m (rest (after_work b u) g.works)) (does-goes b u g.level old.started new.started s s' (h b out es hs hl (below b g.level).call q));
      rooms = All-weaker (λ w. b.bound < s.taken + w.level + due old.started doing.Evaluate) (λ w. b.bound < s'.taken + w.level + due new.started doing.Evaluate) (λ w lt. omega (arith, lt, one, more)) g.works g.rooms;
      room = omega (arith, g.room, one, more);
      most = q;
    }

-- a call is due in it, and its arguments are there
does-called : (b : Setting) (u : Stored) (k f : ℕ) (es fs : List Started) (s s' : State) → left_of b (below b k).call u es s ≡ left_of b (below b k).call u fs s' → does b u k es doing.Evaluate s ≡ does b u k fs (doing.Call f) s'
unfolding does
does-called b u k f es fs s s' h = ap (λ (m : Res Given). then_do m (λ g s. Gives (Valued g.value) s)) h

pub call-led : (u : Stored) (f : ℕ) (ts : List Task) (old new : Machine) → ContinuesFirst u old new → old.moment.taken < new.moment.taken → after_first new.started ≡ after_first old.started → AtOnceLed u doing.Evaluate (doing.Call f) ts old new
call-led u f ts old new h more same = λ b out es hs hl all q g.
    let s = state_of old.moment out es in
    let s' = state_of new.moment out es in
    let one : due_turns old.started ≤ 1 = one-most (is_due old.started) in
    record {
      works = g.works;
      level = g.level;
      same = g.same;
      standing = subst (λ (xs : List Started). Standing g.works xs) (sym same) g.standing;
      law = g.law ∙ ap (λ (m : Res Reached). then_do m (rest (after_work b u) g.works)) (does-called b u g.level f old.started new.started s s' (h b out es hs hl (below b g.level).call q));
      rooms = All-weaker (λ w. b.bound < s.taken + w.level + due old.started doing.Evaluate) (λ w. b.bound < s'.taken + w.level + due new.started (doing.Call f)) (λ w lt. omega (arith, lt, one, more)) g.works g.rooms;
      room = omega (arith, g.room, one, more);
      most = q;
    }

-- an expression that has its value needs no call
pub ended-goes : (es : List Started) → is_ended es ≡ true → is_going es ≡ true
ended-goes [] h = absurd cc
ended-goes (e ∷ es) h = value-goes e.place h
  where
    value-goes : (p : Now) → is_value p ≡ true → (if is_call_at p then false else true) ≡ true
    value-goes (now.Due n) h = refl
    value-goes (now.Value v) h = refl
    value-goes (now.Asked f args line) h = absurd cc

stops-at-once : (b : Setting) (u : Stored) (k : ℕ) (es : List Started) (s : State) (r : Res Given) → left_of b (below b k).call u es s ≡ r → does b u k es doing.Evaluate s ≡ then_do r (λ g s. Gives (Valued g.value) s)
unfolding does
stops-at-once b u k es s r h = ap (λ (m : Res Given). then_do m (λ g s. Gives (Valued g.value) s)) h

pub at-once-cut : (u : Stored) (ts : List Task) (old new : Machine) → CutFirst u old new → CutBefore u doing.Evaluate ts old new
at-once-cut u ts old new h = λ b out es hs hl all low high g.
    let s = state_of old.moment out es in
    let t = state_of (record old.moment { taken = b.bound }) out es in
    g.law ∙ ap (λ (m : Res Reached). then_do m (rest (after_work b u) g.works)) (stops-at-once b u g.level old.started s (Stops Turns t) (h b out es hs hl (below b g.level).call low high))

-- and the operations that come before the next turn
pub at-once-until-due : (u : Stored) (n : ℕ) (d e : Doing) (r : Result After Failure) (ts ts' : List Task) (old mid new : Machine) → mid.moment.taken ≤ n → new.moment.taken ≡ mid.moment.taken → KeepsSetting old.moment mid.moment → AtOnceLed u d e ts old mid
    → UntilDueLed u e r ts ts' mid new → AdvancedLed u n d r ts ts' old new
at-once-until-due u n d e (Ok (after.On f)) ts ts' old mid new le t k o h = λ b out es hs hl all q g. h b out es (keeps-setting b u old.moment mid.moment k hs) (k.total (length out) hl) all (o b out es hs hl all (omega (arith, t, q)) g)
at-once-until-due u n d e (Ok (after.Last l)) ts ts' old mid new le t k o h = λ b out es hs hl all q g. h b out es (keeps-setting b u old.moment mid.moment k hs) (k.total (length out) hl) all (o b out es hs hl all (omega (arith, le, q)) g)
at-once-until-due u n d e (Err (failure.Stop y line)) ts ts' old mid new le t k o h = λ b out es hs hl all q g. h b out es (keeps-setting b u old.moment mid.moment k hs) (k.total (length out) hl) all (o b out es hs hl all (omega (arith, le, q)) g)
at-once-until-due u n d e (Err failure.NoMemory) ts ts' old mid new le t k o h = tt

pub cut-until-due : (u : Stored) (d : Doing) (ts : List Task) (old mid new : Machine) → new.moment.taken ≡ mid.moment.taken → CutBefore u d ts old mid → CutBefore u d ts old new
cut-until-due u d ts old mid new t h = λ b out es hs hl all low high g. h b out es hs hl all low (omega (arith, t, high)) g

-- one turn alone
pub cut-turn : (u : Stored) (d : Doing) (ts : List Task) (old new : Machine) → due old.started d ≡ 1 → DoingFits u old.started d → new.moment.taken ≡ old.moment.taken + 1 → CutBefore u d ts old new
cut-turn u d ts old new one fits t = λ b out es hs hl all low high g.
    let met : old.moment.taken ≡ b.bound = omega (arith, t, low, high) in
    subst (λ (n : ℕ). all ≡ Stops Turns (state_of (record old.moment { taken = n }) out es)) met (holds-out b u all ts old.started d (state_of old.moment out es) one (has-stores b u old.started d hs.unit fits) (omega (arith, met)) g)

-- one turn at most, behind operations that take none
pub cut-few : (u : Stored) (d : Doing) (ts : List Task) (old new : Machine) → turn_due old.started d ≡ 1 → DoingFits u old.started d → new.moment.taken ≤ old.moment.taken + 1 → CutBefore u d ts old new
cut-few u d ts old new one fits t = λ b out es hs hl all low high g.
    let met : old.moment.taken ≡ b.bound = omega (arith, t, low, high) in
    subst (λ (n : ℕ). all ≡ Stops Turns (state_of (record old.moment { taken = n }) out es)) met (holds-asked b u all ts old.started d (state_of old.moment out es) one (has-stores b u old.started d hs.unit fits) fits (omega (arith, met)) g)

pub cut-none : (u : Stored) (d : Doing) (ts : List Task) (m : Machine) → CutBefore u d ts m m
cut-none u d ts m = λ b out es hs hl all low high g. absurd (omega (arith, low, high))

pub runs-at-once : (u : Stored) (ts : List Task) (es fs : List Started) (d e : Doing) → Runs u ts es d → others fs e ≡ others es d → DoingFits u fs e → Runs u ts fs e
runs-at-once u ts es fs d e h same fits = record { tasks_fit = h.tasks_fit; stand = subst (λ (xs : List Started). TasksStand (reverse ts) xs) (sym same) h.stand; doing_fits = fits }

-- an expression statement (6.8.3p2) once its turn is taken
statement-enters : (b : Setting) (u : Stored) (k : ℕ) (n x : NodeId) (line : ℕ) (es : List Started) (s : State) → statement_at u n ≡ Expression line (expression_at u x) → s.taken < b.bound
    → does b u k es (doing.Enter n) s ≡ left_flow (nothing_done (full_expression b (below b k).call (expression_at u x) (spend s)))
unfolding does
statement-enters b u k n x line es s form room =
    let w = below b k in
    let t = Expression line (expression_at u x) in
    ap (λ z. left_flow (ex b w z s)) form
    ∙ ap left_flow (turned b w t s refl)
    ∙ ap (λ (q : Bool). left_flow (if q then behind_turn b w t (spend s) else Stops Turns s)) (lt-ltb s.taken b.bound room)

falls-then : (r : Res Given) (g : Given) (s : State) → r ≡ Gives g s → left_flow (nothing_done (then_do r (λ g s. Gives g.value s))) ≡ Gives (Left Falls) s
falls-then r g s h = ap (λ (m : Res Given). left_flow (nothing_done (then_do m (λ g s. Gives g.value s)))) h

stops-then : (r : Res Given) (s : State) → r ≡ Stops Turns s → left_flow (nothing_done (then_do r (λ g s. Gives g.value s))) ≡ Stops Turns s
stops-then r s h = ap (λ (m : Res Given). left_flow (nothing_done (then_do m (λ g s. Gives g.value s)))) h

falls-is : (b : Setting) (u : Stored) (k : ℕ) (es : List Started) (s : State) → Gives (Left Falls) s ≡ does b u k es (doing.Left flow.Falls) s
unfolding does
falls-is b u k es s = refl

pub ticked-setting : (b : Setting) (u : Stored) (m : Moment) → IsSetting b u m → IsSetting b u (with_turn_taken m)
ticked-setting b u m h = record { unit = h.unit; types = h.types; sides = h.sides }

module _ (u : Stored) (n x : NodeId) (line : ℕ) (v : Worth) (ts : List Task) (old new : Machine) (form : statement_at u n ≡ Expression line (expression_at u x)) where
  pub statement-led : EvaluatedNext u x v old.moment new.moment → old.moment.taken + 1 < new.moment.taken → new.started ≡ old.started → AtOnceLed u (doing.Enter n) (doing.Left flow.Falls) ts old new
  statement-led h more same = λ b out es hs hl all q g.
      let s = state_of old.moment out es in
      let s' = state_of new.moment out es in
      let w = below b g.level in
      let given = h b out es (ticked-setting b u old.moment hs) hl w.call q in
      let law : does b u g.level old.started (doing.Enter n) s ≡ does b u g.level new.started (doing.Left flow.Falls) s' =
      statement-enters b u g.level n x line old.started s form (omega (arith, more, q)) ∙ falls-then (ev b w.call (expression_at u x) [] (spend s)) given.given s' given.is ∙ falls-is b u g.level new.started s' in
      record {
        works = g.works;
        level = g.level;
        same = g.same;
        standing = subst (λ (xs : List Started). Standing g.works xs) (sym same) g.standing;
        law = g.law ∙ ap (λ (m : Res Reached). then_do m (rest (after_work b u) g.works)) law;
        rooms = All-weaker (λ w. b.bound < s.taken + w.level + 1) (λ w. b.bound < s'.taken + w.level + 0) (λ w lt. omega (arith, lt, more)) g.works g.rooms;
        room = omega (arith, g.room, more);
        most = q;
      }

  pub statement-cut : CutNext u x old.moment new.moment → CutBefore u (doing.Enter n) ts old new
  statement-cut h = λ b out es hs hl all low high g.
      let s = state_of old.moment out es in
      let t = state_of (record old.moment { taken = b.bound }) out es in
      let w = below b g.level in
      ⊎_elim
      (λ room.
      let law : does b u g.level old.started (doing.Enter n) s ≡ Stops Turns t =
      statement-enters b u g.level n x line old.started s form room ∙ stops-then (ev b w.call (expression_at u x) [] (spend s)) t (h b out es (ticked-setting b u old.moment hs) hl w.call (omega (arith, room)) high) in
      g.law ∙ ap (λ (m : Res Reached). then_do m (rest (after_work b u) g.works)) law)
      (λ out_of_turns.
      let met : old.moment.taken ≡ b.bound = omega (arith, low, out_of_turns) in
      subst (λ (k : ℕ). all ≡ Stops Turns (state_of (record old.moment { taken = k }) out es)) met (holds-out b u all ts old.started (doing.Enter n) s refl tt (omega (arith, met)) g))
      (cases_lt old.moment.taken b.bound)
