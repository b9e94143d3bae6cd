-- What has left a run, piece after piece.
use Rattle.std.proofs.Common.{◌≡◌, ℕ, suc, ◌+◌, ◌^◌, ◌<◌, ◌≤◌, List, [], ◌∷◌, ◌++◌, append_assoc, append-nil, length-append, refl, sym, ap, ◌∙◌, subst, arith, true, false}
use Rattle.std.specs.Prelude.{Bool, ◌==◌, ◌&&◌, length, take, drop, map, None, Some, Ok, Err}
use Rattle.std.specs.declared.option.Option.{Option}
use Rattle.std.proofs.lemmas.List.{take-append-drop, length-take, map-append}
use Rattle.std.proofs.lemmas.Bool.{eqb-true}
use Rattle.pv_script.specs.Outside.{Rose, Gains, GainsPrefix}
use Rattle.pv_script.proofs.GainsLemmas.{gains_nothing, gains_both}
use Rattle.pv_typed.specs.Known.{Each}
use Rattle.pv_typed.specs.Tables.{Stored}
use Rattle.pv_watch.specs.declared.event.Event.{Event}
use Rattle.pv_watch.specs.Slots.{Slot, Told}
use Rattle.pv_world.specs.Worlds.{World}
use Rattle.pv_eval.specs.declared.marked.Marked.{Marked}
use Rattle.pv_eval.specs.States.{Setting, State, Res, end_of}
use Rattle.pv_eval.specs.Moments.{Moment, IsSetting, Follows, Always, state_of}
use Rattle.pv_eval.specs.Machines.{Machine, Started}
use Rattle.pv_eval.specs.MachineSteps.{Fit, KeepsSetting}
use Rattle.pv_eval.specs.declared.failure.Failure.{Failure}
use Rattle.pv_eval.specs.declared.failure.Failure.TheVariants as failure
use Rattle.pv_exec.specs.declared.delivering.Undelivered.{Undelivered}
use Rattle.pv_exec.specs.declared.delivering.Undelivered.TheVariants as undelivered
use Rattle.pv_exec.specs.declared.running.Broken.TheVariants as broken
use Rattle.pv_exec.specs.declared.once.Last.{Last}
use Rattle.pv_exec.specs.declared.once.After.TheVariants as after
use Rattle.pv_exec.specs.declared.task.Task.{Task}
use Rattle.pv_exec.specs.declared.task.Doing.{Doing}
use Rattle.pv_exec.specs.Tasks.{Reached}
use Rattle.pv_exec.specs.Works.{Holds, turn_due}
use Rattle.pv_exec.specs.Fits.{Runs}
use Rattle.pv_exec.specs.Turning.{AdvancedLed, CutBefore}
use Rattle.pv_exec.specs.Streaming.{IsFar, HasWritten, HasTold, Delivered, DeliveredOr, Streams, Begins}
use Rattle.pv_exec.specs.Outlets.{Outlet, IsNear, event_of}
use Rattle.pv_exec.specs.Words.{FitsWords}
use Rattle.pv_exec.specs.Stages.{with_bound, IsStaged, Stands, StandsOr}
use Rattle.pv_exec.specs.Running.{KeepsApart, StatementsCut, StatementsLed}
use Rattle.pv_exec.proofs.Bounds.{holds-asked, has-stores}
use Rattle.pv_exec.proofs.Stages.{stands-first, stands-next, stands-cut, stands-last, let-out-block}
use Rattle.pv_exec.proofs.Growing.{each-append, each-weaker, Grows}
use Rattle.pv_exec.proofs.Adding.{holds-grow}

-- what was told in two parts was told
pub told-both : (old mid new : List Slot) (es fs : List Event) (names : List (List ℕ)) → Told old es names mid → Told mid fs names new → Told old (es ++ fs) names new
told-both old mid new [] fs names h k = subst (λ (s : List Slot). Told s fs names new) h k
told-both old mid new (e ∷ es) fs names h k = (h.0, h.1, told-both h.0 mid new es fs names h.2 k)

pub told-all : (old mid new : List Slot) (es fs : List Marked) (names : List (List ℕ)) → Told old (map event_of es) names mid → Told mid (map event_of fs) names new → Told old (map event_of (es ++ fs)) names new
told-all old mid new es fs names h k = subst (λ (xs : List Event). Told old xs names new) (sym (map-append event_of es fs)) (told-both old mid new (map event_of es) (map event_of fs) names h k)

near-later : (n m : ℕ) (es : List Marked) → n ≤ m → Each (IsNear n) es → Each (IsNear m) es
near-later n m es l h = each-weaker (IsNear n) (IsNear m) es (λ x q. omega (arith, l, q)) h

pub rose-both : (a b c : ℕ) → a ≤ b → Rose b c → Rose a c
rose-both a b c l h = omega (arith, l, h)

abbrev with_kept : Machine → List ℕ → List Marked → Machine
with_kept m ps es = record m { moment = record m.moment { printed = ps; waiting = es } }

delivered-same : (n k : ℕ) (old mid new : Machine) → mid ≡ record old { moment = record old.moment { printed = drop n old.moment.printed } } → new ≡ record mid { moment = record mid.moment { waiting = drop k mid.moment.waiting } } → new ≡ record old { moment = record old.moment { printed = new.moment.printed; waiting = new.moment.waiting } }
delivered-same n k old mid new h g =
    let a = record old { moment = record old.moment { printed = drop n old.moment.printed } } in
    let e : new ≡ with_kept old (drop n old.moment.printed) (drop k old.moment.waiting) = g ∙ ap (λ (q : Machine). record q { moment = record q.moment { waiting = drop k q.moment.waiting } }) h in
    e ∙ sym (ap (λ (q : Machine). with_kept old q.moment.printed q.moment.waiting) e)

-- both parts have left
pub delivered : {o o' : Outlet} {names : List (List ℕ)} (n w w' : ℕ) (old mid new : Machine) → HasWritten n o.sink o'.sink old mid → w' ≤ w + n → (w' + 1 < 2 ^ 64 → w' ≡ w + n) → HasTold w' o.hall o'.hall names mid new → Delivered o o' names w w' old new
delivered {o} {o'} {names} n w w' old mid new h l x k =
    let ps = old.moment.printed in
    let es = old.moment.waiting in
    let waits : mid.moment.waiting ≡ es = ap (λ (m : Machine). m.moment.waiting) h.left in
    let kept : mid.moment.printed ≡ drop n ps = ap (λ (m : Machine). m.moment.printed) h.left in
    let final : new.moment.printed ≡ mid.moment.printed = ap (λ (m : Machine). m.moment.printed) k.left in
    let left : new.moment.waiting ≡ drop k.count mid.moment.waiting = ap (λ (m : Machine). m.moment.waiting) k.left in
    let fs = mid.moment.waiting in
    let parts : length ps ≡ length (take n ps) + length (drop n ps) = ap length (sym (take-append-drop n ps)) ∙ length-append (take n ps) (drop n ps) in
    let rest : length new.moment.printed ≡ length (drop n ps) = ap length (final ∙ kept) in
    record {
      bytes = take n ps;
      printed = sym (take-append-drop n ps) ∙ ap (λ (xs : List ℕ). take n ps ++ xs) (sym (final ∙ kept));
      gains = h.first.gains;
      counts = omega (arith, l, length-take n ps, h.first.most);
      exact = λ lt. omega (arith, x lt, length-take n ps, h.first.most);
      blocks = h.first.blocks;
      whole = omega (arith, h.first.whole, length-take n ps, h.first.most);
      few = omega (arith, parts, rest, h.few, length-take n ps, h.first.most);
      events = take k.count fs;
      waiting = sym waits ∙ sym (take-append-drop k.count fs) ∙ ap (λ (xs : List Marked). take k.count fs ++ xs) (sym left);
      told = k.first.told;
      near = k.first.near;
      words = k.first.words;
      far = subst (λ (xs : List Marked). IsFar w' xs) (sym left) k.far;
      same = delivered-same n k.count old mid new h.left k.left;
    }

-- where nothing is printed and none waits
none-there : {A : Type 0} (xs : List A) → length xs ≡ 0 → xs ≡ []
none-there [] e = refl
none-there (x ∷ xs) e = absurd (omega (arith, e))

left-true : (a b : Bool) → (a && b) ≡ true → a ≡ true
left-true true b e = refl
left-true false b e = e

right-true : (a b : Bool) → (a && b) ≡ true → b ≡ true
right-true true b e = e
right-true false b e = let z : false ≡ true = e in absurd (cc)

pub delivered-quiet : (o : Outlet) (names : List (List ℕ)) (w : ℕ) (m : Machine) → (length m.moment.printed == 0 && length m.moment.waiting == 0) ≡ true → Delivered o o names w w m m
delivered-quiet o names w m e =
    let none : length m.moment.printed ≡ 0 = eqb-true (length m.moment.printed) 0 (left-true (length m.moment.printed == 0) (length m.moment.waiting == 0) e) in
    let waits : m.moment.waiting ≡ [] = none-there m.moment.waiting (eqb-true (length m.moment.waiting) 0 (right-true (length m.moment.printed == 0) (length m.moment.waiting == 0) e)) in
    record {
      bytes = [];
      printed = refl;
      gains = gains_nothing o.sink;
      counts = omega arith;
      exact = λ lt. omega arith;
      blocks = 0;
      whole = refl;
      few = omega (arith, none);
      events = [];
      waiting = refl;
      told = refl;
      near = tt;
      words = tt;
      far = subst (λ (xs : List Marked). IsFar w xs) (sym waits) tt;
      same = refl;
    }

-- the state of a run stays while bytes and events leave it
shift : {A : Type 0} (a b c d e : List A) → e ≡ c ++ d → (a ++ (b ++ c)) ++ d ≡ (a ++ b) ++ e
shift a b c d e h = ap (λ xs. xs ++ d) (sym (append_assoc a b c)) ∙ append_assoc (a ++ b) c d ∙ ap (λ xs. (a ++ b) ++ xs) (sym h)

abbrev made : World → List ℕ → List Marked → ℕ → State
made w o e t = record { world = w; output = o; events = e; taken = t }

pub state-same : {o o' : Outlet} {names : List (List ℕ)} {w w' : ℕ} (out bytes : List ℕ) (es events : List Marked) (old new : Machine) (d : Delivered o o' names w w' old new) → state_of new.moment (out ++ (bytes ++ d.bytes)) (es ++ (events ++ d.events)) ≡ state_of old.moment (out ++ bytes) (es ++ events)
state-same out bytes es events old new d =
    let m = old.moment in
    let n = new.moment in
    let world : n.world ≡ m.world = ap (λ (q : Machine). q.moment.world) d.same in
    let taken : n.taken ≡ m.taken = ap (λ (q : Machine). q.moment.taken) d.same in
    let output = shift out bytes d.bytes n.printed m.printed d.printed in
    let told = shift es events d.events n.waiting m.waiting d.waiting in
    ap (λ (q : World). made q ((out ++ (bytes ++ d.bytes)) ++ n.printed) ((es ++ (events ++ d.events)) ++ n.waiting) n.taken) world
    ∙ ap (λ (q : List ℕ). made m.world q ((es ++ (events ++ d.events)) ++ n.waiting) n.taken) output
    ∙ ap (λ (q : List Marked). made m.world ((out ++ bytes) ++ m.printed) q n.taken) told
    ∙ ap (λ (q : ℕ). made m.world ((out ++ bytes) ++ m.printed) ((es ++ events) ++ m.waiting) q) taken

-- what was written is a first part of what is printed in all
pub begins-part : (out bytes part rest : List ℕ) (es : List Marked) (m : Moment) (t : State) → part ++ rest ≡ m.printed → Grows (state_of m (out ++ bytes) es) t → Begins (out ++ (bytes ++ part)) es t
begins-part out bytes part rest es m t e g = record {
  unwritten = rest ++ g.bytes;
  output =
      shift out bytes part (rest ++ g.bytes) (m.printed ++ g.bytes) (ap (λ xs. xs ++ g.bytes) (sym e) ∙ append_assoc part rest g.bytes)
      ∙ sym (append_assoc (out ++ bytes) m.printed g.bytes) ∙ sym g.output;
  untold = m.waiting ++ g.more;
  events = sym (append_assoc es m.waiting g.more) ∙ sym g.events;
}

pub begins-all : (out : List ℕ) (es : List Marked) (m : Moment) (t : State) → Grows (state_of m out es) t → Begins out es t
begins-all out es m t g = record {
  unwritten = m.printed ++ g.bytes;
  output = sym (append_assoc out m.printed g.bytes) ∙ sym g.output;
  untold = m.waiting ++ g.more;
  events = sym (append_assoc es m.waiting g.more) ∙ sym g.events;
}

pub begins-later : (out : List ℕ) (es : List Marked) (s t : State) → Begins out es s → Grows s t → Begins out es t
begins-later out es s t h g = record {
  unwritten = h.unwritten ++ g.bytes;
  output = sym (append_assoc out h.unwritten g.bytes) ∙ ap (λ xs. xs ++ g.bytes) h.output ∙ sym g.output;
  untold = h.untold ++ g.more;
  events = sym (append_assoc es h.untold g.more) ∙ ap (λ xs. xs ++ g.more) h.events ∙ sym g.events;
}

-- what holds of a run that goes on holds of one that can't
pub streams-fail : {o o' : Outlet} {names : List (List ℕ)} {bytes : List ℕ} {events : List Marked} (x : Option Undelivered) → Streams None o o' names bytes events → Streams x o o' names bytes events
streams-fail None h = h
streams-fail (Some undelivered.WriteFault) h = record { gains = h.gains; told = h.told; near = h.near; words = h.words }
streams-fail (Some undelivered.NoMemory) h = record { gains = h.gains; told = tt; near = h.near; words = h.words }

pub streams-first : (o : Outlet) (names : List (List ℕ)) (x : Option Undelivered) → Streams x o o names [] []
streams-first o names x = streams-fail x (record { gains = gains_nothing o.sink; told = refl; near = tt; words = tt })

pub near-part : (bytes part : List ℕ) (es : List Marked) → Each (IsNear (length bytes)) es → Each (IsNear (length (bytes ++ part))) es
near-part bytes part es h = near-later (length bytes) (length (bytes ++ part)) es (omega (arith, length-append bytes part)) h

pub streams-on : {o o1 o2 : Outlet} {names : List (List ℕ)} {w w' : ℕ} {old new : Machine} (bytes : List ℕ) (events : List Marked) → Streams None o o1 names bytes events → w ≤ length bytes → (d : Delivered o1 o2 names w w' old new) → Streams None o o2 names (bytes ++ d.bytes) (events ++ d.events)
streams-on {o} {o1} {o2} {names} {w} {w'} bytes events h l d =
    let all = bytes ++ d.bytes in
    record {
      gains = gains_both h.gains d.gains;
      told = told-all o.hall o1.hall o2.hall events d.events names h.told d.told;
      near = each-append (IsNear (length all)) events d.events (near-part bytes d.bytes events h.near) (near-later w' (length all) d.events (omega (arith, l, d.counts, length-append bytes d.bytes)) d.near);
      words = each-append FitsWords events d.events h.words d.words;
    }

-- a run in progress, with what has left it, and the stage whose bytes and events those are
pub record Streaming (u : Stored) (before now : Outlet) (n written stages : ℕ) (d0 d : Doing) (tasks : List Task) (old m : Machine) : Type 0 where
  pub bytes : List ℕ
  pub events : List Marked
  pub streams : Streams None before now u.names bytes events
  pub counts : written ≤ length bytes
  pub exact : written + 1 < 2 ^ 64 → written ≡ length bytes
  pub keeps : KeepsApart bytes old.moment m.moment
  pub within : m.moment.taken ≤ n
  pub held : Always u old.moment (λ b out es. (all : Res Reached) → m.moment.taken ≤ b.bound → Holds b u all [] old.started d0 (state_of old.moment out es) → Holds b u all tasks m.started d (state_of m.moment (out ++ bytes) (es ++ events)))
  pub stands : (b : Setting) (stage : ℕ → State) → IsSetting b u old.moment → Follows old.moment 0 → IsStaged (StatementsCut b u d0 old) stage → Stands stage stages bytes events

state-first : (m : Moment) (out : List ℕ) (es : List Marked) → state_of m out es ≡ state_of m (out ++ []) (es ++ [])
state-first m out es =
    ap (λ (q : List ℕ). made m.world (q ++ m.printed) (es ++ m.waiting) m.taken) (sym (append-nil out))
    ∙ ap (λ (q : List Marked). made m.world ((out ++ []) ++ m.printed) (q ++ m.waiting) m.taken) (sym (append-nil es))

streaming-begun : (u : Stored) (o : Outlet) (n : ℕ) (d : Doing) (m : Machine) → m.moment.taken ≡ 0 → Streaming u o o n 0 m.moment.taken d d [] m m
streaming-begun u o n d m fresh = record {
  bytes = [];
  events = [];
  streams = streams-first o u.names None;
  counts = omega arith;
  exact = λ lt. refl;
  keeps = record { total = λ t f. omega (arith, f); sides = refl };
  within = omega (arith, fresh);
  held = λ b out es hs hl all q h. subst (λ (s : State). Holds b u all [] m.started d s) (state-first m.moment out es) h;
  stands = λ b stage hs hl st. stands-first stage m.moment.taken fresh st.output st.events;
}

pub streaming-first : (u : Stored) (o : Outlet) (n : ℕ) (d : Doing) (ts : List Task) (m : Machine) → m.moment.taken ≡ 0 → ts ≡ [] → Streaming u o o n 0 m.moment.taken d d ts m m
streaming-first u o n d ts m fresh e = subst (λ (xs : List Task). Streaming u o o n 0 m.moment.taken d d xs m m) (sym e) (streaming-begun u o n d m fresh)

pub runs-first-of-all : (u : Stored) (d : Doing) (ts : List Task) (es : List Started) → ts ≡ [] → Runs u [] es d → Runs u ts es d
runs-first-of-all u d ts es e h = subst (λ (xs : List Task). Runs u xs es d) (sym e) h

-- the setting, where these bytes have left
pub setting-apart : (b : Setting) (u : Stored) (bytes : List ℕ) (m n : Moment) → KeepsApart bytes m n → IsSetting b u m → IsSetting b u n
setting-apart b u bytes m n h i = record { unit = i.unit; types = i.types; sides = i.sides ∙ sym h.sides }

pub total-apart : (out bytes : List ℕ) (m n : Moment) → KeepsApart bytes m n → Follows m (length out) → Follows n (length (out ++ bytes))
total-apart out bytes m n h f = subst (λ (t : ℕ). Follows n t) (sym (length-append out bytes)) (h.total (length out) f)

keeps-on : (bytes : List ℕ) (l m n : Moment) → KeepsApart bytes l m → KeepsSetting m n → KeepsApart bytes l n
keeps-on bytes l m n h k = record { total = λ t f. k.total (t + length bytes) (h.total t f); sides = k.sides ∙ h.sides }

-- the stages in which nothing was printed or told
stages-cut : {o o' : Outlet} (u : Stored) (n w k : ℕ) (d0 d : Doing) (ts : List Task) (old m m' : Machine) → (h : Streaming u o o' n w k d0 d ts old m) → CutBefore u d ts m m' → (b : Setting) (stage : ℕ → State) → IsSetting b u old.moment → Follows old.moment 0 → IsStaged (StatementsCut b u d0 old) stage
    → (j : ℕ) → m.moment.taken ≤ j → j < m'.moment.taken → stage (suc j) ≡ state_of (record m.moment { taken = j }) h.bytes h.events
stages-cut u n w k d0 d ts old m m' h cut b stage hs hl st j low high =
    let c = with_bound b j in
    let hc : IsSetting c u old.moment = record { unit = hs.unit; types = hs.types; sides = hs.sides } in
    st.cut j (state_of (record m.moment { taken = j }) h.bytes h.events)
    (λ all g. cut c h.bytes h.events (setting-apart c u h.bytes old.moment m.moment h.keeps hc) (total-apart [] h.bytes old.moment m.moment h.keeps hl) all low high (h.held c [] [] hc hl all low g))

-- turns of the run
pub streaming-on : {o o' : Outlet} (u : Stored) (n w : ℕ) (d0 d e : Doing) (ts ts' : List Task) (old m m' : Machine) → Streaming u o o' n w (suc m.moment.taken) d0 d ts old m → AdvancedLed u n d (Ok (after.On e)) ts ts' m m' → CutBefore u d ts m m' → KeepsSetting m.moment m'.moment → m.moment.taken < m'.moment.taken → m'.moment.taken ≤ n → Streaming u o o' n w m'.moment.taken d0 e ts' old m'
streaming-on u n w d0 d e ts ts' old m m' h led cut k more le =
    record {
      bytes = h.bytes;
      events = h.events;
      streams = h.streams;
      counts = h.counts;
      exact = h.exact;
      keeps = keeps-on h.bytes old.moment m.moment m'.moment h.keeps k;
      within = le;
      held = λ b out es hs hl all q g.
          led b (out ++ h.bytes) (es ++ h.events) (setting-apart b u h.bytes old.moment m.moment h.keeps hs) (total-apart out h.bytes old.moment m.moment h.keeps hl) all q
          (h.held b out es hs hl all (omega (arith, more, q)) g);
      stands = λ b stage hs hl st.
          stands-cut stage m.moment.taken m'.moment.taken h.bytes h.events m.moment (stages-cut u n w (suc m.moment.taken) d0 d ts old m m' h cut b stage hs hl st) more (h.stands b stage hs hl st);
    }

-- what has left moves the counts
delivered-total : {o o' : Outlet} {names : List (List ℕ)} {w w' : ℕ} (bytes : List ℕ) (l : Moment) (m m' : Machine) → KeepsApart bytes l m.moment → (d : Delivered o o' names w w' m m') → KeepsApart (bytes ++ d.bytes) l m'.moment
delivered-total bytes l m m' h d =
    let total : m'.moment.total ≡ m.moment.total = ap (λ (q : Machine). q.moment.total) d.same in
    let printed : length m.moment.printed ≡ length d.bytes + length m'.moment.printed = ap length d.printed ∙ length-append d.bytes m'.moment.printed in
    record {
      total = λ t f. let e = h.total t f in omega (arith, e, total, printed, length-append bytes d.bytes);
      sides = ap (λ (q : Machine). q.moment.sides) d.same ∙ h.sides;
    }

-- where another turn is due, or an expression of a loop was not started, the run is at its next stage
stage-here : {o o' : Outlet} (u : Stored) (n w k : ℕ) (d0 d : Doing) (ts : List Task) (old m : Machine) → Runs u ts m.started d → turn_due m.started d ≡ 1 → (h : Streaming u o o' n w k d0 d ts old m) → (b : Setting) (stage : ℕ → State) → IsSetting b u old.moment → Follows old.moment 0 → IsStaged (StatementsCut b u d0 old) stage → stage (suc m.moment.taken) ≡ state_of m.moment h.bytes h.events
stage-here u n w k d0 d ts old m runs one h b stage hs hl st =
    let j = m.moment.taken in
    let c = with_bound b j in
    let s = state_of m.moment h.bytes h.events in
    st.cut j s (λ all g. holds-asked c u all ts m.started d s one (has-stores c u m.started d hs.unit runs.doing_fits) runs.doing_fits (omega arith)
    (h.held c [] [] (record { unit = hs.unit; types = hs.types; sides = hs.sides }) hl all (omega arith) g))

held-delivered : {o o1 o2 : Outlet} (u : Stored) (n w w' k : ℕ) (d0 d : Doing) (ts : List Task) (old m m' : Machine) (h : Streaming u o o1 n w k d0 d ts old m) (x : Delivered o1 o2 u.names w w' m m') → Always u old.moment (λ b out es. (all : Res Reached) → m.moment.taken ≤ b.bound → Holds b u all [] old.started d0 (state_of old.moment out es) → Holds b u all ts m'.started d (state_of m'.moment (out ++ (h.bytes ++ x.bytes)) (es ++ (h.events ++ x.events))))
held-delivered u n w w' k d0 d ts old m m' h x b out es hs hl all q g =
    let started : m'.started ≡ m.started = ap (λ (q : Machine). q.started) x.same in
    subst (λ (xs : List Started). Holds b u all ts xs d (state_of m'.moment (out ++ (h.bytes ++ x.bytes)) (es ++ (h.events ++ x.events)))) (sym started)
    (subst (λ (s : State). Holds b u all ts m.started d s) (sym (state-same out h.bytes es h.events m m' x)) (h.held b out es hs hl all q g))

pub streaming-delivered : {o o1 o2 : Outlet} (u : Stored) (n w w' k : ℕ) (d0 d : Doing) (ts : List Task) (old m m' : Machine) → Runs u ts m.started d → turn_due m.started d ≡ 1 → Streaming u o o1 n w k d0 d ts old m → Delivered o1 o2 u.names w w' m m' → Streaming u o o2 n w' (suc m'.moment.taken) d0 d ts old m'
streaming-delivered u n w w' k d0 d ts old m m' runs one h x =
    let taken : m'.moment.taken ≡ m.moment.taken = ap (λ (q : Machine). q.moment.taken) x.same in
    let long = length-append h.bytes x.bytes in
    let exact : w' + 1 < 2 ^ 64 → w' ≡ length (h.bytes ++ x.bytes) = λ lt. let e = x.exact lt in omega (arith, e, h.exact (omega (arith, e, lt)), long) in
    record {
      bytes = h.bytes ++ x.bytes;
      events = h.events ++ x.events;
      streams = streams-on h.bytes h.events h.streams h.counts x;
      counts = omega (arith, h.counts, x.counts, long);
      exact = exact;
      keeps = delivered-total h.bytes old.moment m m' h.keeps x;
      within = omega (arith, taken, h.within);
      held = λ b out es hs hl all q g. held-delivered u n w w' k d0 d ts old m m' h x b out es hs hl all (omega (arith, q, taken)) g;
      stands = λ b stage hs hl st.
          let here = stage-here u n w k d0 d ts old m runs one h b stage hs hl st in
          let there : stage (suc m'.moment.taken) ≡ state_of m'.moment (h.bytes ++ x.bytes) (h.events ++ x.events) =
          ap (λ (i : ℕ). stage (suc i)) taken ∙ here ∙ sym (state-same [] h.bytes [] h.events m m' x) in
          stands-next stage (suc m'.moment.taken) w' (h.bytes ++ x.bytes) (h.events ++ x.events) m'.moment (h.stands b stage hs hl st).blocks x.blocks there
          (let whole = (h.stands b stage hs hl st).whole in omega (arith, whole, x.whole, long)) x.few x.far (st.behind (suc m'.moment.taken)) exact;
    }

-- what has left changes nothing else
pub fit-delivered : {o o' : Outlet} {names : List (List ℕ)} {w w' : ℕ} (u : Stored) (m m' : Machine) → Delivered o o' names w w' m m' → Fit u m.started → Fit u m'.started
fit-delivered u m m' d h = subst (λ (xs : List Started). Fit u xs) (sym (ap (λ (q : Machine). q.started) d.same)) h

pub runs-delivered : {o o' : Outlet} {names : List (List ℕ)} {w w' : ℕ} (u : Stored) (ts : List Task) (d : Doing) (m m' : Machine) → Delivered o o' names w w' m m' → Runs u ts m.started d → Runs u ts m'.started d
runs-delivered u ts d m m' k h = subst (λ (xs : List Started). Runs u ts xs d) (sym (ap (λ (q : Machine). q.started) k.same)) h

pub asked-delivered : {o o' : Outlet} {names : List (List ℕ)} {w w' : ℕ} (d : Doing) (m m' : Machine) → Delivered o o' names w w' m m' → turn_due m.started d ≡ 1 → turn_due m'.started d ≡ 1
asked-delivered d m m' k h = ap (λ (q : Machine). turn_due q.started d) k.same ∙ h

-- how the statements ended
pub led-last : {o o' : Outlet} (u : Stored) (n w : ℕ) (d0 d : Doing) (l : Last) (ts ts' : List Task) (old m m' : Machine) → Streaming u o o' n w (suc m.moment.taken) d0 d ts old m → AdvancedLed u n d (Ok (after.Last l)) ts ts' m m' → CutBefore u d ts m m' → KeepsSetting m.moment m'.moment → StatementsLed u o o' n d0 (Ok l) old m'
led-last u n w d0 d l ts ts' old m m' h led cut k = record {
  bytes = h.bytes;
  events = h.events;
  streams = h.streams;
  keeps = keeps-on h.bytes old.moment m.moment m'.moment h.keeps k;
  led = λ b out es hs hl all q g. led b (out ++ h.bytes) (es ++ h.events) (setting-apart b u h.bytes old.moment m.moment h.keeps hs) (total-apart out h.bytes old.moment m.moment h.keeps hl) all q (h.held b out es hs hl all (omega (arith, q, h.within)) g);
  stands = λ b stage hs hl st.
      stands-last stage m.moment.taken m'.moment.taken h.bytes h.events m.moment _ refl (stages-cut u n w (suc m.moment.taken) d0 d ts old m m' h cut b stage hs hl st) (h.stands b stage hs hl st);
}

-- where an operation ended the run, or memory ran out
pub led-broken : {o o' : Outlet} (u : Stored) (n w : ℕ) (d0 d : Doing) (e : Failure) (ts ts' : List Task) (old m m' : Machine) → Streaming u o o' n w (suc m.moment.taken) d0 d ts old m → AdvancedLed u n d (Err e) ts ts' m m' → CutBefore u d ts m m' → StatementsLed u o o' n d0 (Err (broken.Operation e)) old m'
led-broken u n w d0 d (failure.Stop y line) ts ts' old m m' h led cut = record {
  bytes = h.bytes;
  events = h.events;
  streams = h.streams;
  keeps = tt;
  led = λ b out es hs hl all q g. led b (out ++ h.bytes) (es ++ h.events) (setting-apart b u h.bytes old.moment m.moment h.keeps hs) (total-apart out h.bytes old.moment m.moment h.keeps hl) all q (h.held b out es hs hl all (omega (arith, q, h.within)) g);
  stands = λ b stage hs hl st.
      stands-last stage m.moment.taken m'.moment.taken h.bytes h.events m.moment _ refl (stages-cut u n w (suc m.moment.taken) d0 d ts old m m' h cut b stage hs hl st) (h.stands b stage hs hl st);
}
led-broken u n w d0 d failure.NoMemory ts ts' old m m' h led cut = record {
  bytes = h.bytes;
  events = h.events;
  streams = streams-fail (Some undelivered.NoMemory) h.streams;
  keeps = tt;
  led = λ b out es hs hl all q g. begins-all (out ++ h.bytes) (es ++ h.events) m.moment (end_of all) (holds-grow b u all ts m.started d (state_of m.moment (out ++ h.bytes) (es ++ h.events)) (h.held b out es hs hl all (omega (arith, q, h.within)) g));
  stands = λ b stage hs hl st. tt;
}

-- where what they print and tell could not be delivered
part-of : (o1 o2 : Outlet) (e : Undelivered) (names : List (List ℕ)) (w w' : ℕ) (m m' : Machine) → DeliveredOr (Some e) o1 o2 names w w' m m' → GainsPrefix o1.sink o2.sink m.moment.printed
part-of o1 o2 undelivered.WriteFault names w w' m m' h = h.0.part
part-of o1 o2 undelivered.NoMemory names w w' m m' h = h

streams-part : (o o1 o2 : Outlet) (e : Undelivered) (names : List (List ℕ)) (w w' : ℕ) (m m' : Machine) (bytes part : List ℕ) (events : List Marked) → Streams None o o1 names bytes events → DeliveredOr (Some e) o1 o2 names w w' m m' → Gains o1.sink o2.sink part → Streams (Some e) o o2 names (bytes ++ part) events
streams-part o o1 o2 undelivered.WriteFault names w w' m m' bytes part events h d g = record {
  gains = gains_both h.gains g;
  told = subst (λ (s : List Slot). Told o.hall (map event_of events) names s) (sym d.1) h.told;
  near = near-part bytes part events h.near;
  words = h.words;
}
streams-part o o1 o2 undelivered.NoMemory names w w' m m' bytes part events h d g = record {
  gains = gains_both h.gains g;
  told = tt;
  near = near-part bytes part events h.near;
  words = h.words;
}

-- how far they were let out then
stands-part : (o o1 o2 : Outlet) (u : Stored) (n w w' : ℕ) (d0 d : Doing) (ts : List Task) (old m m' : Machine) (e : Undelivered) → Runs u ts m.started d → turn_due m.started d ≡ 1 → (h : Streaming u o o1 n w m.moment.taken d0 d ts old m) (x : DeliveredOr (Some e) o1 o2 u.names w w' m m') → (b : Setting) (stage : ℕ → State) → IsSetting b u old.moment → Follows old.moment 0 → IsStaged (StatementsCut b u d0 old) stage → StandsOr (Some e) stage m'.moment.taken (h.bytes ++ (part-of o1 o2 e u.names w w' m m' x).part) h.events
unfolding part-of
stands-part o o1 o2 u n w w' d0 d ts old m m' undelivered.NoMemory runs one h x b stage hs hl st = tt
stands-part o o1 o2 u n w w' d0 d ts old m m' undelivered.WriteFault runs one h x b stage hs hl st =
    λ last. let-out-block stage m.moment.taken last h.bytes m.moment.printed h.events o1.sink o2.sink (h.stands b stage hs hl st) x.0
    (ap (λ (s : State). s.output) (stage-here u n w m.moment.taken d0 d ts old m runs one h b stage hs hl st))

pub led-undelivered : (o o1 o2 : Outlet) (u : Stored) (n w w' : ℕ) (d0 d : Doing) (ts : List Task) (old m m' : Machine) (e : Undelivered) → Runs u ts m.started d → turn_due m.started d ≡ 1 → Streaming u o o1 n w m.moment.taken d0 d ts old m → DeliveredOr (Some e) o1 o2 u.names w w' m m' → StatementsLed u o o2 n d0 (Err (broken.Delivery e)) old m'
led-undelivered o o1 o2 u n w w' d0 d ts old m m' e runs one h k =
    let p = part-of o1 o2 e u.names w w' m m' k in
    record {
      bytes = h.bytes ++ p.part;
      events = h.events;
      streams = streams-part o o1 o2 e u.names w w' m m' h.bytes p.part h.events h.streams k p.gains;
      keeps = tt;
      led = λ b out es hs hl all q g. begins-part out h.bytes p.part p.rest (es ++ h.events) m.moment (end_of all) p.whole (holds-grow b u all ts m.started d (state_of m.moment (out ++ h.bytes) (es ++ h.events)) (h.held b out es hs hl all (omega (arith, q, h.within)) g));
      stands = λ b stage hs hl st. stands-part o o1 o2 u n w w' d0 d ts old m m' e runs one h k b stage hs hl st;
    }
