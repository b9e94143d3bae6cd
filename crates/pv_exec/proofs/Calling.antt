-- A call: its body runs one level lower, and its end answers.
use Rattle.std.proofs.Common.{◌≡◌, ℕ, ◌+◌, ◌<◌, ◌≤◌, List, [], ◌∷◌, Some, None, zero, suc, refl, sym, ap, ◌∙◌, subst, arith, true}
use Rattle.std.specs.Prelude.{Result, Err, length, map}
use Rattle.std.specs.declared.option.Option.{Option}
use Rattle.pv_tree.specs.declared.nodes.NodeId.{NodeId}
use Rattle.pv_typed.specs.TypedStatement.{TypedStatement}
use Rattle.pv_eval.specs.declared.marked.Marked.{Marked}
use Rattle.pv_eval.specs.Moments.{Moment, state_of, Made}
use Rattle.pv_typed.specs.TypedUnits.{WholeUnit, function_at}
use Rattle.pv_typed.specs.Tables.{Stored, whole_unit}
use Rattle.pv_typed.specs.NodeTrees.{statement_at}
use Rattle.pv_world.specs.Worlds.{Worth, Nothing}
use Rattle.pv_world.specs.Coming.{worth_of}
use Rattle.pv_seq.specs.Sequencing.{Open, sequence_point}
use Rattle.pv_seq.specs.Rivals.{top, below as opens_below}
use Rattle.pv_eval.specs.declared.failure.Failure.{Failure}
use Rattle.pv_eval.specs.declared.failure.Failure.TheVariants as failure
use Rattle.pv_eval.specs.declared.frames.Frame.{Frame}
use Rattle.pv_eval.specs.declared.frames.Now.{Now}
use Rattle.pv_eval.specs.declared.frames.Now.TheVariants as now
use Rattle.pv_eval.specs.States.{Setting, State, Res, Gives, Stops, then_do}
use Rattle.pv_eval.specs.Sequenced.{Given, node_value}
use Rattle.pv_eval.specs.Steps.{Calling}
use Rattle.pv_eval.specs.Operations.{BeginsBody, EndsBody, act}
use Rattle.pv_eval.specs.Stack.{rest}
use Rattle.pv_eval.specs.Frames.{after}
use Rattle.pv_eval.specs.Ahead.{NowFits, ahead, now_does, stack}
use Rattle.pv_eval.specs.Machines.{Started, answered_of, left_of, after_first, function_asked, arguments_at, line_at, asked_function, asked_arguments, asked_line, value_at, turns_at, due_turns, is_value, is_call_at, is_asked, is_ended}
use Rattle.pv_eval.specs.MachineSteps.{Fit, StartedFits, IsTaken, IsAnswered}
use Rattle.pv_exec.specs.declared.task.Doing.{Doing}
use Rattle.pv_exec.specs.declared.task.Task.TheVariants as task
use Rattle.pv_exec.specs.declared.task.Doing.TheVariants as doing
use Rattle.pv_exec.specs.declared.task.Way.TheVariants as way
use Rattle.pv_exec.specs.Flows.{Flow}
use Rattle.pv_exec.specs.OfRuns.{end_all, below, take_params, runs_body}
use Rattle.pv_exec.specs.Calls.{below_by, value_by}
use Rattle.pv_exec.specs.Tasks.{Valued, left_flow, after_flow, after_task}
use Rattle.pv_exec.specs.Fits.{DoingFits}
use Rattle.pv_exec.specs.Works.{does, due}
use Rattle.pv_exec.specs.Leading.{Leads, LeadsOr}
use Rattle.pv_exec.specs.Called.{body_beginning, BodyIs, calls}
use Rattle.pv_exec.proofs.Pieces.{pushed, then-then}

-- what follows a body, in its clause and in that of the task
ended-body : (b : Setting) (m : Res Flow) (E : State → Res Worth) (F : State → Res Worth) (V : Flow → Worth) (A : Worth → State → Res Given) →
    then_do (then_do (then_do m (λ fl s. then_do (E s) (λ x s. then_do (F s) (λ x s. Gives (V fl) s)))) A) (λ g s. Gives (Valued g.value) s)
    ≡ then_do m (λ fl s. then_do (E s) (λ x s. then_do (F s) (λ x s. then_do (A (V fl) s) (λ g s. Gives (Valued g.value) s))))
ended-body b (Stops y s) E F V A = refl
ended-body b (Gives fl s) E F V A = after-end (E s) where
  after-last : (r : Res Worth) → then_do (then_do (then_do r (λ x s. Gives (V fl) s)) A) (λ g s. Gives (Valued g.value) s) ≡ then_do r (λ x s. then_do (A (V fl) s) (λ g s. Gives (Valued g.value) s))
  after-last (Gives x s) = refl
  after-last (Stops y s) = refl

  after-end : (r : Res Worth) → then_do (then_do (then_do r (λ x s. then_do (F s) (λ x s. Gives (V fl) s))) A) (λ g s. Gives (Valued g.value) s) ≡ then_do r (λ x s. then_do (F s) (λ x s. then_do (A (V fl) s) (λ g s. Gives (Valued g.value) s)))
  after-end (Gives x s) = after-last (F s)
  after-end (Stops y s) = refl

-- the arguments were taken: what waits is the same
pub taken-same : (b : Setting) (call : Calling) (u : Stored) (new old : List Started) → IsTaken new old → answered_of b call u new ≡ answered_of b call u old
taken-same b call u [] old h = absurd h
taken-same b call u (e ∷ es) [] h = absurd h
taken-same b call u (e ∷ es) (f ∷ fs) h =
    ap (λ (fr : List Frame). λ (v : Worth) (s : State). then_do (node_value (sequence_point (top e.opens)) v s) (rest (after b call u) (stack fr (opens_below e.opens)))) h.0
    ∙ ap (λ (op : List Open). λ (v : Worth) (s : State). then_do (node_value (sequence_point (top op)) v s) (rest (after b call u) (stack f.frames (opens_below op)))) h.1

pub taken-rest : (new old : List Started) → IsTaken new old → after_first new ≡ after_first old
taken-rest [] old h = absurd h
taken-rest (e ∷ es) [] h = absurd h
taken-rest (e ∷ es) (f ∷ fs) h = h.2

-- a call, whose parameters have their arguments
call-begun : (b : Setting) (k f line : ℕ) (vs : List Worth) (s : State) (r : Res Worth) → body_beginning b line (function_at b.unit f) vs s ≡ r → (below b (suc k)).call f vs line s ≡ then_do r (λ x s. then_do (runs_body b (below b k) (function_at b.unit f).body s) (λ fl s. then_do (end_all b (function_at b.unit f).params s) (λ x s. then_do (act b line EndsBody s) (λ x s. Gives (value_by b (function_at b.unit f) fl) s))))
unfolding below_by
call-begun b k f line vs s r h =
    let F = function_at b.unit f in
    let G = λ (x : Worth) (s : State). then_do (runs_body b (below b k) F.body s) (λ fl s. then_do (end_all b F.params s) (λ x s. then_do (act b line EndsBody s) (λ x s. Gives (value_by b F fl) s))) in
    then-then (act b line (BeginsBody F.name line) s) (λ x s. take_params b line F.params vs s) G ∙ ap (λ m. then_do m G) h

-- the body begins
pub call-leads : (b : Setting) (u : Stored) (k f : ℕ) (d : Doing) (old new : List Started) (s s2 : State) → s2.taken ≤ b.bound → b.bound < s2.taken + k → b.unit ≡ whole_unit u → BodyIs u f d → IsTaken new old → body_beginning b (asked_line old) (function_at b.unit f) (asked_arguments old) s ≡ Gives Nothing s2 → Leads b u (calls b u k f old s) (after_first old) (way.With (task.InCall f (asked_line old)) d) new s2
unfolding after_flow
call-leads b u zero f d old new s s2 le lt is body taken h = absurd (omega (arith, le, lt))
call-leads b u (suc k) f d old new s s2 le lt is body taken h =
    let F = function_at b.unit f in
    let line = asked_line old in
    let w = below b (suc k) in
    let A = answered_of b w.call u in
    let m = runs_body b (below b k) F.body s2 in
    let V = λ (g : Given) (s : State). Gives (Valued g.value) s in
    let here = body.here new in
    let one : due new d ≡ 1 = body.counts new in
    record {
      waits = suc k;
      level = k;
      law = ap (λ r. then_do (then_do r (A old)) V) (call-begun b k f line (asked_arguments old) s (Gives Nothing s2) h)
          ∙ ended-body b m (end_all b F.params) (act b line EndsBody) (value_by b F) (A old)
          ∙ ap (λ (q : Worth → State → Res Given). then_do m (λ fl s. then_do (end_all b F.params s) (λ x s. then_do (act b line EndsBody s) (λ x s. then_do (q (value_by b F fl) s) V)))) (sym (taken-same b w.call u new old taken))
          ∙ pushed m (after_task b u (suc k) new (task.InCall f line))
          ∙ ap (λ r. then_do r (after_task b u (suc k) new (task.InCall f line))) (body.runs b k new s2 is)
          ∙ ap (λ (es : List Started). then_do (does b u k new d s2) (after_task b u (suc k) es (task.InCall f line))) (sym here);
      stands = ap after_first here ∙ taken-rest new old taken;
      room_waits = omega (arith, lt);
      room = omega (arith, lt, one);
    }

pub call-stops : (b : Setting) (u : Stored) (k f : ℕ) (e : Failure) (old stand new : List Started) (s s' : State) → s.taken ≤ b.bound → b.bound < s.taken + k → Made (body_beginning b (asked_line old) (function_at b.unit f) (asked_arguments old) s) (Err e) s' → LeadsOr b u (calls b u k f old s) stand (Err e) new s'
call-stops b u k f failure.NoMemory old stand new s s' le lt h = tt
call-stops b u zero f (failure.Stop y line) old stand new s s' le lt h = absurd (omega (arith, le, lt))
call-stops b u (suc k) f (failure.Stop y line) old stand new s s' le lt h =
    ap (λ r. then_do (then_do r (answered_of b (below b (suc k)).call u old)) (λ (g : Given) (s : State). Gives (Valued g.value) s)) (call-begun b k f (asked_line old) (asked_arguments old) s _ h)

-- the body has ended
value-now : (b : Setting) (call : Calling) (u : Stored) (p : Now) (j : Open) (v : Worth) (s : State) → is_value p ≡ true → value_at p ≡ v → now_does b call u p j s ≡ node_value j v s
value-now b call u (now.Due n) j v s e h = absurd (cc)
value-now b call u (now.Value x) j v s e h = ap (λ w. node_value j w s) h
value-now b call u (now.Asked f args line) j v s e h = absurd (cc)

pub answered-left : (b : Setting) (call : Calling) (u : Stored) (v : Worth) (new old : List Started) (s : State) → IsAnswered v new old → answered_of b call u old v s ≡ left_of b call u new s
answered-left b call u v [] old s h = absurd h
answered-left b call u v (e ∷ es) [] s h = absurd h
answered-left b call u v (e ∷ es) (f ∷ fs) s h =
    let j = sequence_point (top f.opens) in
    ap (λ (m : Res Given). then_do m (rest (after b call u) (stack f.frames (opens_below f.opens)))) (sym (value-now b call u e.place j v s h.3 h.2))
    ∙ ap (λ (fr : List Frame). then_do (now_does b call u e.place j s) (rest (after b call u) (stack fr (opens_below f.opens)))) (sym h.0)
    ∙ ap (λ (op : List Open). then_do (now_does b call u e.place (top op) s) (rest (after b call u) (stack e.frames (opens_below op)))) (sym h.1)

pub answered-rest : (v : Worth) (new old : List Started) → IsAnswered v new old → after_first new ≡ after_first old
answered-rest v [] old h = absurd h
answered-rest v (e ∷ es) [] h = absurd h
answered-rest v (e ∷ es) (f ∷ fs) h = h.4

pub answered-ended : (v : Worth) (new old : List Started) → IsAnswered v new old → is_ended new ≡ true
answered-ended v [] old h = absurd h
answered-ended v (e ∷ es) [] h = absurd h
answered-ended v (e ∷ es) (f ∷ fs) h = h.3

-- no turn is due in an expression that has ended
value-undue : (p : Now) → is_value p ≡ true → turns_at p ≡ 0
value-undue (now.Due n) h = absurd cc
value-undue (now.Value v) h = refl
value-undue (now.Asked f args line) h = refl

pub ended-no-turns : (es : List Started) → is_ended es ≡ true → due_turns es ≡ 0
ended-no-turns [] h = refl
ended-no-turns (e ∷ es) h = value-undue e.place h

pub call-ends : (b : Setting) (u : Stored) (k f line : ℕ) (fl : Flow) (v : Worth) (old new : List Started) (s s1 s2 : State) → b.bound < s2.taken + k → end_all b (function_at b.unit f).params s ≡ Gives Nothing s1 → act b line EndsBody s1 ≡ Gives Nothing s2 → v ≡ value_by b (function_at b.unit f) fl → IsAnswered v new old → Leads b u (after_flow b u k old (task.InCall f line) fl s) (after_first old) (way.Do doing.Evaluate) new s2
unfolding after_flow does
call-ends b u k f line fl v old new s s1 s2 lt h1 h2 is a =
    let call = (below b k).call in
    let V = λ (g : Given) (s : State). Gives (Valued g.value) s in
    record {
      waits = k;
      level = k;
      law = ap (λ (r : Res Worth). then_do r (λ v s. then_do (act b line EndsBody s) (λ v s. then_do (answered_of b call u old (value_by b (function_at b.unit f) fl) s) V))) h1
          ∙ ap (λ (r : Res Worth). then_do r (λ v s. then_do (answered_of b call u old (value_by b (function_at b.unit f) fl) s) V)) h2
          ∙ ap (λ (x : Worth). then_do (answered_of b call u old x s2) V) (sym is)
          ∙ ap (λ (m : Res Given). then_do m V) (answered-left b call u v new old s2 a);
      stands = answered-rest v new old a;
      room_waits = omega (arith, lt);
      room = omega (arith, lt);
    }

pub taken-some : (new old : List Started) → IsTaken new old → 0 < length new
taken-some [] old h = absurd h
taken-some (e ∷ es) old h = omega (arith)

-- the body of a function
pub body-some : (b : Setting) (u : Stored) (k f : ℕ) (x : NodeId) (es : List Started) (s : State) → (function_at b.unit f).body ≡ Some (statement_at u x) → left_flow (runs_body b (below b k) (function_at b.unit f).body s) ≡ does b u k es (doing.Enter x) s
unfolding does
body-some b u k f x es s e = ap (λ (q : Option TypedStatement). left_flow (runs_body b (below b k) q s)) e

pub body-none : (b : Setting) (u : Stored) (k f : ℕ) (es : List Started) (s : State) → (function_at b.unit f).body ≡ None → left_flow (runs_body b (below b k) (function_at b.unit f).body s) ≡ does b u k es doing.Absent s
unfolding does
body-none b u k f es s e = ap (λ (q : Option TypedStatement). left_flow (runs_body b (below b k) q s)) e

-- what the code made is what comes before the body
pub call-made : (b : Setting) (u : Stored) (f line : ℕ) (args : List Worth) (old : List Started) (m mid : Moment) (out : List ℕ) (es : List Marked) (r : Result (Unit {0}) Failure) (s2 : State) → b.unit ≡ whole_unit u → line ≡ asked_line old → args ≡ asked_arguments old → mid ≡ m → Made (body_beginning b line (function_at (whole_unit u) f) args (state_of mid out es)) r s2 → Made (body_beginning b (asked_line old) (function_at b.unit f) (asked_arguments old) (state_of m out es)) r s2
call-made b u f line args old m mid out es r s2 is l a same h =
    subst (λ (q : Moment). Made (body_beginning b (asked_line old) (function_at b.unit f) (asked_arguments old) (state_of q out es)) r s2) same
    (subst (λ (n : ℕ). Made (body_beginning b n (function_at b.unit f) (asked_arguments old) (state_of mid out es)) r s2) l
    (subst (λ (vs : List Worth). Made (body_beginning b line (function_at b.unit f) vs (state_of mid out es)) r s2) a
    (subst (λ (q : WholeUnit). Made (body_beginning b line (function_at q f) args (state_of mid out es)) r s2) (sym is) h)))

-- an expression that hands a call up: the call is what comes next
at-asked : (b : Setting) (call : Calling) (u : Stored) (fs : List Frame) (js : List Open) (p : Now) (s : State) → is_call_at p ≡ true
    → ahead b call u fs js p s ≡ then_do (call (function_asked p) (arguments_at p) (line_at p) s) (λ v s. then_do (node_value (sequence_point (top js)) v s) (rest (after b call u) (stack fs (opens_below js))))
at-asked b call u fs js (now.Due n) s h = absurd cc
at-asked b call u fs js (now.Value v) s h = absurd cc
at-asked b call u fs js (now.Asked f args line) s h = sym (then-then (call f (map worth_of args.items) line s) (node_value (sequence_point (top js))) (rest (after b call u) (stack fs (opens_below js))))

asked-calls : (b : Setting) (call : Calling) (u : Stored) (es : List Started) (s : State) → is_asked es ≡ true → left_of b call u es s ≡ then_do (call (asked_function es) (asked_arguments es) (asked_line es) s) (answered_of b call u es)
asked-calls b call u [] s h = absurd cc
asked-calls b call u (e ∷ es) s h = at-asked b call u e.frames e.opens e.place s h

pub call-does : (b : Setting) (u : Stored) (k f : ℕ) (es : List Started) (s : State) → is_asked es ≡ true → asked_function es ≡ f → does b u k es (doing.Call f) s ≡ calls b u k f es s
unfolding does
call-does b u k f es s h e =
    ap (λ (m : Res Given). then_do m (λ g s. Gives (Valued g.value) s))
    (asked-calls b (below b k).call u es s h ∙ ap (λ (g : ℕ). then_do ((below b k).call g (asked_arguments es) (asked_line es) s) (answered_of b (below b k).call u es)) e)

-- it names a function that is there
pub call-fits : (u : Stored) (es : List Started) (f : ℕ) (d : Doing) → d ≡ doing.Call f → DoingFits u es d → (is_asked es ≡ true) × (asked_function es ≡ f) × (f < length u.functions)
call-fits u es f d e h = subst (λ (z : Doing). DoingFits u es z) e h

place-there : (u : Stored) (p : Now) (js : List Open) → is_call_at p ≡ true → NowFits u p js → function_asked p < length u.functions
place-there u (now.Due n) js h k = absurd cc
place-there u (now.Value v) js h k = absurd cc
place-there u (now.Asked f args line) js h k = k

pub asked-there : (u : Stored) (es : List Started) → is_asked es ≡ true → Fit u es → asked_function es < length u.functions
asked-there u [] h k = absurd cc
asked-there u (e ∷ es) h k = let fits : StartedFits u e = k.0 in place-there u e.place e.opens h fits.place
