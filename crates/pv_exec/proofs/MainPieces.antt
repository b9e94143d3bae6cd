-- The call of `main` and the whole run, from how the statements ended.
use Rattle.std.proofs.Common.{◌≡◌, ℕ, zero, ◌≤◌, List, [], ◌++◌, None, Some, refl, sym, ap, ◌∙◌, subst, arith}
use Rattle.std.specs.Prelude.{length, Result, Ok, Err}
use Rattle.pv_typed.specs.TypedUnits.{WholeUnit, function_at}
use Rattle.pv_typed.specs.Mains.{main_of}
use Rattle.pv_typed.specs.Tables.{Stored, whole_unit}
use Rattle.pv_world.specs.Coming.{wrong_for}
use Rattle.pv_eval.specs.declared.failure.Failure.{Failure}
use Rattle.pv_eval.specs.declared.failure.Failure.TheVariants as failure
use Rattle.pv_eval.specs.declared.marked.Marked.{Marked}
use Rattle.pv_eval.specs.States.{Setting, State, Turns, Stopped, then_do}
use Rattle.pv_eval.specs.Moments.{IsSetting, Follows, Stays, Always, Made, state_of}
use Rattle.pv_eval.specs.Machines.{Machine, ended_value}
use Rattle.pv_exec.specs.declared.running.Ended.{Ended}
use Rattle.pv_exec.specs.declared.running.Ended.TheVariants as ending
use Rattle.pv_exec.specs.declared.running.Broken.{Broken}
use Rattle.pv_exec.specs.declared.running.Broken.TheVariants as broken
use Rattle.pv_exec.specs.declared.once.Last.{Last}
use Rattle.pv_exec.specs.declared.once.Last.TheVariants as last
use Rattle.pv_exec.specs.declared.task.Doing.{Doing}
use Rattle.pv_exec.specs.declared.task.Flow.{Flow}
use Rattle.pv_exec.specs.OfRuns.{below, runs_body, prepare}
use Rattle.pv_exec.specs.Called.{body_beginning, BodyIs}
use Rattle.pv_exec.specs.Tasks.{left_flow}
use Rattle.pv_exec.specs.declared.delivering.Undelivered.TheVariants as undelivered
use Rattle.pv_exec.specs.Streaming.{DeliveryCause}
use Rattle.pv_exec.specs.Outlets.{Outlet}
use Rattle.pv_exec.specs.Stages.{with_bound, IsStaged, StandsLast, StandsOr}
use Rattle.pv_exec.specs.Running.{LastOr, StatementsLed, StatementsCut, EndLed, PieceLed, PieceCut, BrokenIs, ends_call, lost_by, failure_of, main_called, whole_run, IsCalm}
use Rattle.pv_exec.proofs.Pieces.{setting-stays, before-stays}
use Rattle.pv_exec.proofs.Stages.{stands-first}
use Rattle.pv_exec.proofs.Streaming.{streams-fail, streams-first, setting-apart, total-apart}
use Rattle.pv_exec.proofs.Mains.{holds-first, left_by, main-begins, main-not-begun, main-left, main-stops, main-valued, main-lost, ended-is, ended-nothing, unit-ends, unit-stops}

-- what took no turn more, and no write failed
stands-calm : (x : Result Ended Broken) (stage : ℕ → State) (k k' : ℕ) (bytes : List ℕ) (events : List Marked) → IsCalm x → k' ≡ k → StandsLast stage k bytes events → StandsOr (failure_of x) stage k' bytes events
stands-calm (Ok v) stage k k' bytes events q e h = subst (λ (i : ℕ). StandsLast stage i bytes events) (sym e) h
stands-calm (Err (broken.Operation (failure.Stop y line))) stage k k' bytes events q e h = subst (λ (i : ℕ). StandsLast stage i bytes events) (sym e) h
stands-calm (Err (broken.Operation failure.NoMemory)) stage k k' bytes events q e h = tt
stands-calm (Err (broken.Delivery undelivered.NoMemory)) stage k k' bytes events q e h = tt
stands-calm (Err (broken.Delivery undelivered.WriteFault)) stage k k' bytes events q e h = absurd q

-- what ended before the first turn
stands-none : (e : Failure) (stage : ℕ → State) (k : ℕ) → k ≡ 0 → (stage zero).output ≡ [] → (stage zero).events ≡ [] → StandsOr (lost_by (broken.Operation e)) stage k [] []
stands-none failure.NoMemory stage k z o v = tt
stands-none (failure.Stop y line) stage k z o v = record { stages = 0; stands = stands-first stage 0 refl o v; last = omega (arith, z) }

module _ (o o' : Outlet) (u : Stored) (n f line : ℕ) (d : Doing) (old m1 m2 : Machine) (made : Always u old.moment (λ b out es. Made (body_beginning b line (function_at (whole_unit u) f) [] (state_of old.moment out es)) (Ok tt) (state_of m1.moment out es))) (there : line ≡ (function_at (whole_unit u) f).line) (st : Stays old.moment m1.moment) (fresh : old.moment.taken ≡ 0) (none : m1.started ≡ []) (body : BodyIs u f d) where
  begins : (b : Setting) (out : List ℕ) (es : List Marked) → IsSetting b u old.moment → Follows old.moment (length out) → main_called f b (state_of old.moment out es) ≡ then_do (runs_body b (below b b.bound) (function_at b.unit f).body (state_of m1.moment out es)) (left_by b f (function_at b.unit f).line)
  begins b out es hs hl = main-begins b u f line (state_of old.moment out es) (state_of m1.moment out es) hs.unit (there ∙ ap (λ (w : WholeUnit). (function_at w f).line) (sym hs.unit)) (made b out es hs hl)

  statements : (r : Result Last Broken) (led : StatementsLed u o o' n d r m1 m2) (b : Setting) (out : List ℕ) (es : List Marked) → IsSetting b u old.moment → Follows old.moment (length out) → b.bound ≡ n → LastOr (left_flow (runs_body b (below b b.bound) (function_at b.unit f).body (state_of m1.moment out es))) r m2 (out ++ led.bytes) (es ++ led.events)
  statements r led b out es hs hl q =
      let s1 = state_of m1.moment out es in
      led.led b out es (setting-stays b u old.moment m1.moment st hs) (before-stays old.moment m1.moment out st hl) (left_flow (runs_body b (below b b.bound) (function_at b.unit f).body s1)) q
      (holds-first b u f d m1.started s1 hs.unit body none (st.taken ∙ fresh))

  -- how far they let the run out
  staged : (b : Setting) (stage : ℕ → State) → IsSetting b u old.moment → Follows old.moment 0 → IsStaged (PieceCut b (main_called f) old) stage → IsStaged (StatementsCut b u d m1) stage
  staged b stage hs hl sg = record {
    output = sg.output;
    events = sg.events;
    cut = λ j s w.
        let c = with_bound b j in
        let hc : IsSetting c u old.moment = record { unit = hs.unit; types = hs.types; sides = hs.sides } in
        let F = function_at c.unit f in
        let s1 = state_of m1.moment [] [] in
        let m = runs_body c (below c c.bound) F.body s1 in
        sg.cut j s (main-stops m (left_by c f F.line) Turns s (main_called f c (state_of old.moment [] [])) (begins c [] [] hc hl)
        (w (left_flow m) (holds-first c u f d m1.started s1 hs.unit body none (st.taken ∙ fresh))));
    behind = sg.behind;
  }

  stands-so : (r : Result Last Broken) (led : StatementsLed u o o' n d r m1 m2) (b : Setting) (stage : ℕ → State) → IsSetting b u old.moment → Follows old.moment 0 → IsStaged (PieceCut b (main_called f) old) stage → StandsOr (failure_of r) stage m2.moment.taken led.bytes led.events
  stands-so r led b stage hs hl sg =
      led.stands b stage (setting-stays b u old.moment m1.moment st hs) (before-stays old.moment m1.moment [] st hl) (staged b stage hs hl sg)

  -- its body was left
  pub piece-left : (fl : Flow) (x : Result Ended Broken) (m3 : Machine) → StatementsLed u o o' n d (Ok (last.Left fl)) m1 m2 → EndLed u f fl x m2 m3 → IsCalm x → m3.moment.taken ≡ m2.moment.taken → PieceLed u o o' n (main_called f) x old m3
  piece-left fl x m3 led e calm same = record {
    bytes = led.bytes;
    events = led.events;
    streams = streams-fail (failure_of x) led.streams;
    led = λ b out es hs hl q.
        let F = function_at b.unit f in
        let m = runs_body b (below b b.bound) F.body (state_of m1.moment out es) in
        let out' = out ++ led.bytes in
        let es' = es ++ led.events in
        let s2 = state_of m2.moment out' es' in
        let hs1 = setting-stays b u old.moment m1.moment st hs in
        let hl1 = before-stays old.moment m1.moment out st hl in
        ended-is (ends_call b f F.line fl s2) (main_called f b (state_of old.moment out es)) x m3.moment out' es'
        (main-left b f F.line fl m s2 (main_called f b (state_of old.moment out es)) (begins b out es hs hl) (statements (Ok (last.Left fl)) led b out es hs hl q))
        (e b out' es' (setting-apart b u led.bytes m1.moment m2.moment led.keeps hs1) (total-apart out led.bytes m1.moment m2.moment led.keeps hl1) F.line);
    stands = λ b stage hs hl sg. stands-calm x stage m2.moment.taken m3.moment.taken led.bytes led.events calm same (stands-so (Ok (last.Left fl)) led b stage hs hl sg);
  }

  -- no statement ends with the value of an expression
  pub piece-valued : (x : Result Ended Broken) → StatementsLed u o o' n d (Ok last.Valued) m1 m2 → IsCalm x → PieceLed u o o' n (main_called f) x old m2
  piece-valued x led calm = record {
    bytes = led.bytes;
    events = led.events;
    streams = streams-fail (failure_of x) led.streams;
    led = λ b out es hs hl q.
        let m = runs_body b (below b b.bound) (function_at b.unit f).body (state_of m1.moment out es) in
        main-valued m (ended_value m2.started) (state_of m2.moment (out ++ led.bytes) (es ++ led.events)) (statements (Ok last.Valued) led b out es hs hl q);
    stands = λ b stage hs hl sg. stands-calm x stage m2.moment.taken m2.moment.taken led.bytes led.events calm refl (stands-so (Ok last.Valued) led b stage hs hl sg);
  }

  pub piece-turns : StatementsLed u o o' n d (Ok last.Turns) m1 m2 → PieceLed u o o' n (main_called f) (Ok ending.Turns) old m2
  piece-turns led = record {
    bytes = led.bytes;
    events = led.events;
    streams = led.streams;
    led = λ b out es hs hl q.
        let F = function_at b.unit f in
        let m = runs_body b (below b b.bound) F.body (state_of m1.moment out es) in
        main-stops m (left_by b f F.line) Turns (state_of m2.moment (out ++ led.bytes) (es ++ led.events)) (main_called f b (state_of old.moment out es)) (begins b out es hs hl) (statements (Ok last.Turns) led b out es hs hl q);
    stands = stands-so (Ok last.Turns) led;
  }

  -- they were broken off
  broken-on : (b : Setting) (e : Broken) (out : List ℕ) (es : List Marked) → IsSetting b u old.moment → Follows old.moment (length out) → (out' : List ℕ) (es' : List Marked)
      → BrokenIs (left_flow (runs_body b (below b b.bound) (function_at b.unit f).body (state_of m1.moment out es))) e m2.moment out' es' → BrokenIs (main_called f b (state_of old.moment out es)) e m2.moment out' es'
  broken-on b (broken.Operation (failure.Stop y at)) out es hs hl out' es' h =
      let F = function_at b.unit f in
      let m = runs_body b (below b b.bound) F.body (state_of m1.moment out es) in
      main-stops m (left_by b f F.line) (Stopped (wrong_for y) at) (state_of m2.moment out' es') (main_called f b (state_of old.moment out es)) (begins b out es hs hl) h
  broken-on b (broken.Operation failure.NoMemory) out es hs hl out' es' h =
      let F = function_at b.unit f in
      let m = runs_body b (below b b.bound) F.body (state_of m1.moment out es) in
      main-lost b f F.line m (main_called f b (state_of old.moment out es)) out' es' (begins b out es hs hl) h
  broken-on b (broken.Delivery e) out es hs hl out' es' h =
      let F = function_at b.unit f in
      let m = runs_body b (below b b.bound) F.body (state_of m1.moment out es) in
      main-lost b f F.line m (main_called f b (state_of old.moment out es)) out' es' (begins b out es hs hl) h

  pub piece-broken : (e : Broken) → StatementsLed u o o' n d (Err e) m1 m2 → PieceLed u o o' n (main_called f) (Err e) old m2
  piece-broken e led = record {
    bytes = led.bytes;
    events = led.events;
    streams = led.streams;
    led = λ b out es hs hl q. broken-on b e out es hs hl (out ++ led.bytes) (es ++ led.events) (statements (Err e) led b out es hs hl q);
    stands = stands-so (Err e) led;
  }

-- the body did not begin
pub piece-unbegun : (o : Outlet) (u : Stored) (n f line : ℕ) (old m1 : Machine) (e : Failure) → Always u old.moment (λ b out es. Made (body_beginning b line (function_at (whole_unit u) f) [] (state_of old.moment out es)) (Err e) (state_of m1.moment out es)) → line ≡ (function_at (whole_unit u) f).line → m1.moment.taken ≡ 0 → PieceLed u o o n (main_called f) (Err (broken.Operation e)) old m1
piece-unbegun o u n f line old m1 e made there fresh = record {
  bytes = [];
  events = [];
  streams = streams-first o u.names (lost_by (broken.Operation e));
  led = λ b out es hs hl q.
      ended-nothing (main_called f b (state_of old.moment out es)) (Err (broken.Operation e)) m1.moment out es
      (main-not-begun b u f line old.moment m1.moment out es e hs.unit (there ∙ ap (λ (w : WholeUnit). (function_at w f).line) (sym hs.unit)) (made b out es hs hl));
  stands = λ b stage hs hl sg. stands-none e stage m1.moment.taken fresh sg.output sg.events;
}

-- the whole run
pub piece-whole : {o o' : Outlet} (u : Stored) (n f : ℕ) (x : Result Ended Broken) (old m1 m2 : Machine) → Always u old.moment (λ b out es. Made (prepare b (state_of old.moment out es)) (Ok tt) (state_of m1.moment out es)) → main_of (whole_unit u) ≡ Some f → Stays old.moment m1.moment → PieceLed u o o' n (main_called f) x m1 m2 → PieceLed u o o' n whole_run x old m2
piece-whole u n f x old m1 m2 made is st led = record {
  bytes = led.bytes;
  events = led.events;
  streams = led.streams;
  led = λ b out es hs hl q.
      let s = state_of old.moment out es in
      let s1 = state_of m1.moment out es in
      ended-is (main_called f b s1) (whole_run b s) x m2.moment (out ++ led.bytes) (es ++ led.events)
      (unit-ends b f s s1 (made b out es hs hl) (ap main_of hs.unit ∙ is))
      (led.led b out es (setting-stays b u old.moment m1.moment st hs) (before-stays old.moment m1.moment out st hl) q);
  stands = λ b stage hs hl sg. led.stands b stage (setting-stays b u old.moment m1.moment st hs) (before-stays old.moment m1.moment [] st hl) (record {
    output = sg.output;
    events = sg.events;
    cut = λ j s w.
        let c = with_bound b j in
        let hc : IsSetting c u old.moment = record { unit = hs.unit; types = hs.types; sides = hs.sides } in
        sg.cut j s (unit-ends c f (state_of old.moment [] []) (state_of m1.moment [] []) (made c [] [] hc hl) (ap main_of hs.unit ∙ is) ∙ w);
    behind = sg.behind;
  });
}

pub piece-unprepared : (o : Outlet) (u : Stored) (n : ℕ) (old m1 : Machine) (e : Failure) → Always u old.moment (λ b out es. Made (prepare b (state_of old.moment out es)) (Err e) (state_of m1.moment out es)) → m1.moment.taken ≡ 0 → PieceLed u o o n whole_run (Err (broken.Operation e)) old m1
piece-unprepared o u n old m1 e made fresh = record {
  bytes = [];
  events = [];
  streams = streams-first o u.names (lost_by (broken.Operation e));
  led = λ b out es hs hl q. ended-nothing (whole_run b (state_of old.moment out es)) (Err (broken.Operation e)) m1.moment out es (unit-stops b e old.moment m1.moment out es (made b out es hs hl));
  stands = λ b stage hs hl sg. stands-none e stage m1.moment.taken fresh sg.output sg.events;
}

-- the same by equal names
pub led-as : {o o' : Outlet} (u : Stored) (n : ℕ) (d : Doing) (l l' : Last) (old new : Machine) → l ≡ l' → StatementsLed u o o' n d (Ok l) old new → StatementsLed u o o' n d (Ok l') old new
led-as {o} {o'} u n d l l' old new e h = subst (λ (x : Last). StatementsLed u o o' n d (Ok x) old new) e h

-- where no write failed, none is the cause
pub cause-operation : (e : Failure) (a b : ℕ) → a ≤ b → DeliveryCause (lost_by (broken.Operation e)) a b
cause-operation (failure.Stop y line) a b h = record { later = h; rose = tt }
cause-operation failure.NoMemory a b h = record { later = h; rose = tt }

-- and none where nothing was written since
pub cause-same : (e : Failure) (a : ℕ) → DeliveryCause (lost_by (broken.Operation e)) a a
cause-same e a = cause-operation e a a (omega arith)

pub cause-calm : (x : Result Ended Broken) (a b : ℕ) → IsCalm x → DeliveryCause None a b → DeliveryCause (failure_of x) a b
cause-calm (Ok v) a b q h = h
cause-calm (Err (broken.Operation e)) a b q h = cause-operation e a b h.later
cause-calm (Err (broken.Delivery undelivered.NoMemory)) a b q h = record { later = h.later; rose = tt }
cause-calm (Err (broken.Delivery undelivered.WriteFault)) a b q h = absurd q
