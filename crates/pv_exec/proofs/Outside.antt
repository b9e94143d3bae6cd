-- What the outside of a run has seen of it.
use Rattle.std.proofs.Common.{◌≡◌, ℕ, zero, suc, ◌+◌, ◌-◌, ◌^◌, ◌<◌, ◌≤◌, List, [], ◌∷◌, ◌++◌, append_assoc, length-append, None, Some, refl, sym, ap, ◌∙◌, subst, arith}
use Rattle.std.specs.Prelude.{Bool, map, take, drop, length, get_or, Result, Ok, Err, IfOk, OnOk, OnErr}
use Rattle.std.specs.List.{AllZip}
use Rattle.std.specs.declared.option.Option.{Option}
use Rattle.std.proofs.lemmas.List.{take_more, map-append, take-append-drop, length-take}
use Rattle.std.proofs.Math.Seq.{take-add}
use Rattle.pv_watch.specs.declared.event.Event.{Event}
use Rattle.pv_watch.specs.declared.event.What.TheVariants as what
use Rattle.pv_watch.specs.Slots.{Slot, After, Told}
use Rattle.pv_world.specs.Worlds.{Worth}
use Rattle.pv_script.specs.Lines.{ScriptLine}
use Rattle.pv_typed.specs.Tables.{Stored}
use Rattle.pv_eval.specs.declared.marked.Marked.{Marked}
use Rattle.pv_eval.specs.States.{State, Turns, Res, Stops, end_of}
use Rattle.pv_typed.specs.Known.{Each}
use Rattle.pv_eval.specs.Moments.{Moment, IsSetting, Follows, state_of}
use Rattle.pv_eval.specs.Machines.{Machine, first_machine}
use Rattle.pv_exec.specs.declared.outcome.Outcome.{Outcome}
use Rattle.pv_exec.specs.declared.running.Ended.{Ended}
use Rattle.pv_exec.specs.declared.running.Ended.TheVariants as ended
use Rattle.pv_exec.specs.declared.running.Broken.{Broken}
use Rattle.pv_exec.specs.declared.running.Broken.TheVariants as broken
use Rattle.pv_eval.specs.declared.failure.Failure.TheVariants as failure
use Rattle.pv_exec.specs.Run.{setting_of, run_of_by, run_of, outcome_of, sides_at}
use Rattle.pv_exec.specs.declared.delivering.Undelivered.TheVariants as undelivered
use Rattle.pv_exec.specs.declared.program.RunError.TheVariants as error
use Rattle.pv_exec.specs.Streaming.{IsFar, FirstTold, FirstWritten, BlockPart, Streams, Begins}
use Rattle.pv_exec.specs.Outlets.{Outlet, IsNear, event_of}
use Rattle.pv_exec.specs.Words.{FitsWords}
use Rattle.pv_exec.specs.Laws.{run_at, IsUpto}
use Rattle.pv_exec.specs.Stages.{stage_of, IsBehind, IsStaged, StandsLast, StandsOr}
use Rattle.pv_exec.specs.Running.{EndedIs, PieceLed, PieceCut, failure_of, whole_run}
use Rattle.pv_exec.specs.Ending.{outcome_by}
use Rattle.pv_exec.specs.declared.program.Ran.{Ran}
use Rattle.pv_exec.specs.declared.program.RunError.{RunError}
use Rattle.pv_script.specs.Outside.{Gains, GainsPrefix}
use Rattle.pv_script.proofs.GainsLemmas.{gains_both, gains_same}
use Rattle.pv_exec.proofs.Growing.{each-append, each-weaker}
use Rattle.pv_exec.proofs.Reaching.{within-bound}
use Rattle.pv_exec.proofs.Stages.{let-out-last}
use Rattle.pv_exec.proofs.Streaming.{told-all, near-part, rose-both}
use Rattle.pv_exec.specs.Sided.{side_of}
use Rattle.pv_exec.specs.Answering.{RanAs, RanAt, ToldOr, StreamedOr, RestTold, FaultCause, error_by}

-- one event more is told
pub told-more : (old mid new : List Slot) (es : List Event) (e : Event) (names : List (List ℕ)) → Told old es names mid → AllZip (After e names) mid new → Told old (es ++ e ∷ []) names new
told-more old mid new [] e names h k = (new, subst (λ (xs : List Slot). AllZip (After e names) xs new) h k, refl)
told-more old mid new (x ∷ es) e names h k = (h.0, h.1, told-more h.0 mid new es e names h.2 k)

abbrev no_event : Marked
no_event = record { event = record { turn = 0; what = what.Made 0 0 0 0 0 }; mark = 0 }

pub told-next : (old mid new : List Slot) (es : List Marked) (i : ℕ) (ns names : List (List ℕ)) → Told old (map event_of (take i es)) names mid → i < length es → ns ≡ names → AllZip (After (get_or es i no_event).event ns) mid new → Told old (map event_of (take (i + 1) es)) names new
told-next old mid new es i ns names h lt is k =
    let m = get_or es i no_event in
    subst (λ (xs : List Event). Told old xs names new)
    (sym (map-append event_of (take i es) (m ∷ [])) ∙ ap (map event_of) (sym (take_more es i no_event lt)))
    (told-more old mid new (map event_of (take i es)) m.event names h (subst (λ (xs : List (List ℕ)). AllZip (After m.event xs) mid new) is k))

pub words-next : (i : ℕ) (events : List Marked) → Each FitsWords (take i events) → i < length events → FitsWords (get_or events i no_event) → Each FitsWords (take (i + 1) events)
words-next i events h lt fit =
    let m = get_or events i no_event in
    subst (λ (xs : List Marked). Each FitsWords xs) (sym (take_more events i no_event lt)) (each-append FitsWords (take i events) (m ∷ []) h (fit, tt))

-- the first event that was not told yet was told
pub first-told : (i : ℕ) (events : List Marked) (written : ℕ) (old mid new : List Slot) (ns names : List (List ℕ)) → FirstTold i events written old mid names → i < length events → (get_or events i no_event).mark ≤ written + 4095 → FitsWords (get_or events i no_event) → ns ≡ names → AllZip (After (get_or events i no_event).event ns) mid new → FirstTold (i + 1) events written old new names
first-told i events written old mid new ns names h lt near fit is k =
    let m = get_or events i no_event in
    record {
      most = omega (arith, lt);
      told = told-next old mid new events i ns names h.told lt is k;
      near = subst (λ (xs : List Marked). Each (IsNear written) xs) (sym (take_more events i no_event lt)) (each-append (IsNear written) (take i events) (m ∷ []) h.near (near, tt));
      words = words-next i events h.words lt fit;
    }

-- the first event that was not told is far
pub far-here : (i written : ℕ) (events : List Marked) → i < length events → written + 4095 < (get_or events i no_event).mark → (get_or events i no_event).mark < 2 ^ 64 → IsFar written (drop i events)
far-here i written [] lt far fit = absurd (omega (arith, lt))
far-here zero written (m ∷ ms) lt far fit = (far, fit)
far-here (suc i) written (m ∷ ms) lt far fit = far-here i written ms (omega (arith, lt)) far fit

pub far-none : (i written : ℕ) (events : List Marked) → length events ≤ i → IsFar written (drop i events)
far-none zero written [] le = tt
far-none (suc i) written [] le = tt
far-none zero written (m ∷ ms) le = absurd (omega (arith, le))
far-none (suc i) written (m ∷ ms) le = far-none i written ms (omega (arith, le))

-- what was written first is a first part
pub first-part : (n : ℕ) (bytes : List ℕ) (a b : Option (List ℕ)) → FirstWritten n bytes a b → GainsPrefix a b bytes
first-part n bytes a b h = record { part = take n bytes; rest = drop n bytes; whole = take-append-drop n bytes; gains = h.gains }

-- and then a part of the rest
pub rest-part : {T E : Type 0} (r : Result T E) (n : ℕ) (bytes : List ℕ) (a b c : Option (List ℕ)) → FirstWritten n bytes a b → OnErr r (GainsPrefix b c (drop n bytes)) → OnErr r (GainsPrefix a c bytes)
rest-part (Ok x) n bytes a b c h p = tt
rest-part (Err e) n bytes a b c h p = record {
  part = take n bytes ++ p.part;
  rest = p.rest;
  whole = append_assoc (take n bytes) p.part p.rest ∙ ap (λ (xs : List ℕ). take n bytes ++ xs) p.whole ∙ take-append-drop n bytes;
  gains = gains_both h.gains p.gains;
}

minus-same : (i : ℕ) → i + 4096 - i ≡ 4096
minus-same i = omega arith

-- the next block
pub next-block : (i : ℕ) (bytes : List ℕ) (a b c : Option (List ℕ)) → FirstWritten i bytes a b → i + 4096 ≤ length bytes → Gains b c (take (i + 4096 - i) (drop i bytes)) → FirstWritten (i + 4096) bytes a c
next-block i bytes a b c h le g = record {
  most = le;
  blocks = h.blocks + 1;
  whole = omega (arith, h.whole);
  gains = gains_same (ap (λ (n : ℕ). take i bytes ++ take n (drop i bytes)) (minus-same i) ∙ sym (take-add i 4096 bytes)) (gains_both h.gains g);
}

pub block-part : (i : ℕ) (bytes : List ℕ) (a b c : Option (List ℕ)) → FirstWritten i bytes a b → i + 4096 ≤ length bytes → GainsPrefix b c (take (i + 4096 - i) (drop i bytes)) → BlockPart a c bytes
block-part i bytes a b c h le p =
    let n = i + 4096 - i in
    let rest = drop n (drop i bytes) in
    let block : length (p.part ++ p.rest) ≡ length (take n (drop i bytes)) = ap length p.whole in
    let here = length-take i bytes in
    let long = length-append (take i bytes) p.part in
    let parts = length-append p.part p.rest in
    let most = length-take n (drop i bytes) in
    record {
      part = record {
        part = take i bytes ++ p.part;
        rest = p.rest ++ rest;
        whole = append_assoc (take i bytes) p.part (p.rest ++ rest) ∙ ap (λ (l : List ℕ). take i bytes ++ l) (sym (append_assoc p.part p.rest rest) ∙ ap (λ (l : List ℕ). l ++ rest) p.whole ∙ take-append-drop n (drop i bytes)) ∙ take-append-drop i bytes;
        gains = gains_both h.gains p.gains;
      };
      blocks = h.blocks;
      begun = omega (arith, long, here, h.whole, le);
      block = omega (arith, long, here, h.whole, le, block, parts, most, minus-same i);
      full = omega (arith, h.whole, le);
    }

-- a run that has ended
pub record Over (r : Res Worth) (o : Outcome) (s : State) : Type 0 where
  pub outcome : outcome_of r ≡ Some o
  pub end : end_of r ≡ s

pub over : (r : Res Worth) (x : Result Ended Broken) (o : Outcome) (m : Moment) (out : List ℕ) (es : List Marked) → outcome_by x ≡ Some o → EndedIs r x m out es → Over r o (state_of m out es)
over r (Ok (ended.Value v)) o m out es e h = record { outcome = ap outcome_of h ∙ e; end = ap end_of h }
over r (Ok ended.Turns) o m out es e h = record { outcome = ap outcome_of h ∙ e; end = ap end_of h }
over r (Err (broken.Operation (failure.Stop y line))) o m out es e h = record { outcome = ap outcome_of h ∙ e; end = ap end_of h }
over r (Err (broken.Operation failure.NoMemory)) o m out es e h = absurd (cc)
over r (Err (broken.Delivery y)) o m out es e h = absurd (cc)

pub run-over : {o o' : Outlet} (u : Stored) (n : ℕ) (sides : Option (List Bool)) (zap : Bool) (script : List ScriptLine) (old new : Machine) (x : Result Ended Broken) → old ≡ first_machine script sides zap → (led : PieceLed u o o' n whole_run x old new) → EndedIs (run_of (setting_of u n sides zap) script) x new.moment led.bytes led.events
unfolding run_of_by
run-over u n sides zap script old new x is led =
    let b = setting_of u n sides zap in
    let set : IsSetting b u old.moment = record { unit = refl; types = refl; sides = sym (ap (λ (m : Machine). m.moment.sides) is) } in
    let follows = subst (λ (m : Machine). Follows m.moment 0) (sym is) refl in
    subst (λ (s : State). EndedIs (whole_run b s) x new.moment led.bytes led.events) (ap (λ (m : Machine). state_of m.moment [] []) is) (led.led b [] [] set follows refl)

-- a run with an outcome was not lost
pub streams-over : (x : Result Ended Broken) (o : Outcome) (a b : Outlet) (names : List (List ℕ)) (out : List ℕ) (es : List Marked) → outcome_by x ≡ Some o → Streams (failure_of x) a b names out es → Streams None a b names out es
streams-over (Ok x) o a b names out es e h = h
streams-over (Err (broken.Operation (failure.Stop y line))) o a b names out es e h = h
streams-over (Err (broken.Operation failure.NoMemory)) o a b names out es e h = absurd (cc)
streams-over (Err (broken.Delivery y)) o a b names out es e h = absurd (cc)

-- what is answered of it
pub ran-as : (R : Res Worth) (o : Outcome) (m : Moment) (out : List ℕ) (es : List Marked) (r : Result Ran RunError) → Over R o (state_of m out es) → IfOk r (RanAt o m) → IfOk r (RanAs R)
ran-as R o m out es (Err e) v h = tt
ran-as R o m out es (Ok ran) v h = record {
  outcome = v.outcome ∙ ap Some (sym h.outcome);
  turns = h.turns ∙ sym (ap (λ (s : State). s.taken) v.end);
  sides = h.sides ∙ sym (ap (λ (s : State). map side_of (sides_at s)) v.end);
  world = h.world ∙ sym (ap (λ (s : State). s.world) v.end);
}

over-output : (R : Res Worth) (o : Outcome) (m : Moment) (out : List ℕ) (es : List Marked) → Over R o (state_of m out es) → out ++ m.printed ≡ (end_of R).output
over-output R o m out es v = sym (ap (λ (s : State). s.output) v.end)

over-events : (R : Res Worth) (o : Outcome) (m : Moment) (out : List ℕ) (es : List Marked) → Over R o (state_of m out es) → es ++ m.waiting ≡ (end_of R).events
over-events R o m out es v = sym (ap (λ (s : State). s.events) v.end)

-- the bytes that had left before, and the rest
pub gained : (R : Res Worth) (o : Outcome) (m : Moment) (out : List ℕ) (es : List Marked) (r : Result Ran RunError) (a b c : Option (List ℕ)) → Over R o (state_of m out es) → Gains a b out → OnOk r (Gains b c m.printed) → OnOk r (Gains a c (end_of R).output)
gained R o m out es (Ok ran) a b c v h g = gains_same (over-output R o m out es v) (gains_both h g)
gained R o m out es (Err e) a b c v h g = tt

part-gained : (R : Res Worth) (o : Outcome) (m : Moment) (out : List ℕ) (es : List Marked) (a b c : Option (List ℕ)) → Over R o (state_of m out es) → Gains a b out → GainsPrefix b c m.printed → GainsPrefix a c (end_of R).output
part-gained R o m out es a b c v h p = record {
  part = out ++ p.part;
  rest = p.rest;
  whole = append_assoc out p.part p.rest ∙ ap (λ (xs : List ℕ). out ++ xs) p.whole ∙ over-output R o m out es v;
  gains = gains_both h p.gains;
}

pub gained-part : (R : Res Worth) (o : Outcome) (m : Moment) (out : List ℕ) (es : List Marked) (r : Result Ran RunError) (a b c : Option (List ℕ)) → Over R o (state_of m out es) → Gains a b out → OnErr r (GainsPrefix b c m.printed) → OnErr r (GainsPrefix a c (end_of R).output)
gained-part R o m out es (Ok ran) a b c v h g = tt
gained-part R o m out es (Err e) a b c v h g = part-gained R o m out es a b c v h g

-- those who watch were told of all, or of what was told before a write failed
pub told-end : (R : Res Worth) (o : Outcome) (m : Moment) (out : List ℕ) (es : List Marked) (names : List (List ℕ)) (r : Result Ran RunError) (a b c : Outlet) → Over R o (state_of m out es) → Streams None a b names out es → OnErr r (GainsPrefix b.sink c.sink m.printed) → RestTold r b.hall c.hall (map event_of m.waiting) names → ToldOr r a c (end_of R) names
told-end R o m out es names (Ok ran) a b c v h p k =
    subst (λ (xs : List Marked). Told a.hall (map event_of xs) names c.hall) (over-events R o m out es v) (told-all a.hall b.hall c.hall es m.waiting names h.told k)
told-end R o m out es names (Err error.WriteFault) a b c v h p k =
    record {
      written = out ++ p.part;
      unwritten = p.rest;
      output = append_assoc out p.part p.rest ∙ ap (λ (xs : List ℕ). out ++ xs) p.whole ∙ over-output R o m out es v;
      gains = gains_both h.gains p.gains;
      events = es;
      untold = m.waiting;
      all = over-events R o m out es v;
      told = subst (λ (s : List Slot). Told a.hall (map event_of es) names s) (sym k) h.told;
      near = near-part out p.part es h.near;
      words = h.words;
    }
told-end R o m out es names (Err error.NoMemory) a b c v h p k = tt

pub fault-later : (r : Result Ran RunError) (a b c : ℕ) → a ≤ b → FaultCause r b c → FaultCause r a c
fault-later (Ok ran) a b c l h = tt
fault-later (Err error.WriteFault) a b c l h = rose-both a b c l h
fault-later (Err error.NoMemory) a b c l h = tt

-- a run that has no outcome: what has left it is a first part of all
begins-at : (R : Res Worth) (m : Moment) (out : List ℕ) (es : List Marked) → end_of R ≡ state_of m out es → Begins out es (end_of R)
begins-at R m out es e = record {
  unwritten = m.printed;
  output = sym (ap (λ (s : State). s.output) e);
  untold = m.waiting;
  events = sym (ap (λ (s : State). s.events) e);
}

abbrev lost : Result Ended Broken → Result Ran RunError
lost x = Err (error_by x)

lost-begins : (R : Res Worth) (x : Result Ended Broken) (m : Moment) (out : List ℕ) (es : List Marked) → EndedIs R x m out es → Begins out es (end_of R)
lost-begins R (Ok (ended.Value v)) m out es h = begins-at R m out es (ap end_of h)
lost-begins R (Ok ended.Turns) m out es h = begins-at R m out es (ap end_of h)
lost-begins R (Err (broken.Operation (failure.Stop y line))) m out es h = begins-at R m out es (ap end_of h)
lost-begins R (Err (broken.Operation failure.NoMemory)) m out es h = h
lost-begins R (Err (broken.Delivery e)) m out es h = h

pub lost-part : (R : Res Worth) (x : Result Ended Broken) (m : Moment) (out : List ℕ) (es : List Marked) (names : List (List ℕ)) (a b : Outlet) → EndedIs R x m out es → Streams (failure_of x) a b names out es → GainsPrefix a.sink b.sink (end_of R).output
lost-part R x m out es names a b h k = let q = lost-begins R x m out es h in record { part = out; rest = q.unwritten; whole = q.output; gains = k.gains }

lost-told-by : (R : Res Worth) (x : Result Ended Broken) (out : List ℕ) (es : List Marked) (names : List (List ℕ)) (a b : Outlet) → Begins out es (end_of R) → Streams (failure_of x) a b names out es → ToldOr (lost x) a b (end_of R) names
lost-told-by R (Ok x) out es names a b q k = tt
lost-told-by R (Err (broken.Operation e)) out es names a b q k = tt
lost-told-by R (Err (broken.Delivery undelivered.NoMemory)) out es names a b q k = tt
lost-told-by R (Err (broken.Delivery undelivered.WriteFault)) out es names a b q k = record {
  written = out;
  unwritten = q.unwritten;
  output = q.output;
  gains = k.gains;
  events = es;
  untold = q.untold;
  all = q.events;
  told = k.told;
  near = k.near;
  words = k.words;
}

pub lost-told : (R : Res Worth) (x : Result Ended Broken) (m : Moment) (out : List ℕ) (es : List Marked) (names : List (List ℕ)) (a b : Outlet) → EndedIs R x m out es → Streams (failure_of x) a b names out es → ToldOr (lost x) a b (end_of R) names
lost-told R x m out es names a b h k = lost-told-by R x out es names a b (lost-begins R x m out es h) k

-- the stages of the run
behind-stage : (u : Stored) (sides : Option (List Bool)) (zap : Bool) (script : List ScriptLine) (k : ℕ) → Each (IsBehind (length (stage_of u sides zap script k).output)) (stage_of u sides zap script k).events
behind-stage u sides zap script zero = tt
behind-stage u sides zap script (suc n) =
    let s = end_of (run_at u sides zap script n) in
    each-weaker (IsUpto s.taken (length s.output)) (IsBehind (length s.output)) s.events (λ x q. q.1) (within-bound u n sides zap script).events

staged-run : (u : Stored) (n : ℕ) (sides : Option (List Bool)) (zap : Bool) (script : List ScriptLine) (old : Machine) → old ≡ first_machine script sides zap → IsStaged (PieceCut (setting_of u n sides zap) whole_run old) (stage_of u sides zap script)
unfolding run_of_by
staged-run u n sides zap script old is = record {
  output = refl;
  events = refl;
  cut = λ j s h. ap end_of (subst (λ (q : State). whole_run (setting_of u j sides zap) q ≡ Stops Turns s) (ap (λ (m : Machine). state_of m.moment [] []) is) h);
  behind = behind-stage u sides zap script;
}

pub run-stands : {o o' : Outlet} (u : Stored) (n : ℕ) (sides : Option (List Bool)) (zap : Bool) (script : List ScriptLine) (old new : Machine) (x : Result Ended Broken) → old ≡ first_machine script sides zap → (led : PieceLed u o o' n whole_run x old new) → StandsOr (failure_of x) (stage_of u sides zap script) new.moment.taken led.bytes led.events
run-stands u n sides zap script old new x is led =
    let b = setting_of u n sides zap in
    let set : IsSetting b u old.moment = record { unit = refl; types = refl; sides = sym (ap (λ (m : Machine). m.moment.sides) is) } in
    let follows = subst (λ (m : Machine). Follows m.moment 0) (sym is) refl in
    led.stands b (stage_of u sides zap script) set follows (staged-run u n sides zap script old is)

-- a run with an outcome took all its turns
pub stands-over : (x : Result Ended Broken) (o : Outcome) (stage : ℕ → State) (k : ℕ) (out : List ℕ) (es : List Marked) → outcome_by x ≡ Some o → StandsOr (failure_of x) stage k out es → StandsLast stage k out es
stands-over (Ok x) o stage k out es e h = h
stands-over (Err (broken.Operation (failure.Stop y line))) o stage k out es e h = h
stands-over (Err (broken.Operation failure.NoMemory)) o stage k out es e h = absurd (cc)
stands-over (Err (broken.Delivery y)) o stage k out es e h = absurd (cc)

-- how far it was let out where what was left could not be written
pub streamed-end : (R : Res Worth) (o : Outcome) (m : Moment) (out : List ℕ) (es : List Marked) (names : List (List ℕ)) (r : Result Ran RunError) (stage : ℕ → State) (a b c : Outlet) → Over R o (state_of m out es) → StandsLast stage m.taken out es → Streams None a b names out es → OnErr r (GainsPrefix b.sink c.sink m.printed) → RestTold r b.hall c.hall (map event_of m.waiting) names → StreamedOr r a c stage (end_of R).taken names
streamed-end R o m out es names (Ok ran) stage a b c v s h p k = tt
streamed-end R o m out es names (Err error.WriteFault) stage a b c v s h p k = record {
  written = out ++ p.part;
  gains = gains_both h.gains p.gains;
  events = es;
  told = subst (λ (z : List Slot). Told a.hall (map event_of es) names z) (sym k) h.told;
  let_out = let-out-last stage (end_of R).taken out p.part es (subst (λ (i : ℕ). StandsLast stage i out es) (sym (ap (λ (s : State). s.taken) v.end)) s);
}
streamed-end R o m out es names (Err error.NoMemory) stage a b c v s h p k = tt

-- where it went no further
pub streamed-lost : (R : Res Worth) (x : Result Ended Broken) (k : ℕ) (out : List ℕ) (es : List Marked) (names : List (List ℕ)) (stage : ℕ → State) (a b : Outlet) → StandsOr (failure_of x) stage k out es → Streams (failure_of x) a b names out es → StreamedOr (lost x) a b stage (end_of R).taken names
streamed-lost R (Ok x) k out es names stage a b s h = tt
streamed-lost R (Err (broken.Operation e)) k out es names stage a b s h = tt
streamed-lost R (Err (broken.Delivery undelivered.NoMemory)) k out es names stage a b s h = tt
streamed-lost R (Err (broken.Delivery undelivered.WriteFault)) k out es names stage a b s h = record { written = out; gains = h.gains; events = es; told = h.told; let_out = s (end_of R).taken }

-- the numbers of all its events
pub words-end : (R : Res Worth) (o : Outcome) (m : Moment) (out : List ℕ) (es : List Marked) (r : Result Ran RunError) → Over R o (state_of m out es) → Each FitsWords es → OnOk r (Each FitsWords m.waiting) → OnOk r (Each FitsWords (end_of R).events)
words-end R o m out es (Ok ran) v h k = subst (λ (xs : List Marked). Each FitsWords xs) (over-events R o m out es v) (each-append FitsWords es m.waiting h k)
words-end R o m out es (Err e) v h k = tt
