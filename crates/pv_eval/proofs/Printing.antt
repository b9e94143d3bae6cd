-- What an operation prints comes behind all that was printed, and behind its events.
use Rattle.std.proofs.Common.{◌≡◌, ℕ, ◌+◌, Bool, true, false, List, [], ◌++◌, length, Some, None, refl, sym, ap, ◌∙◌, subst, arith, append-nil}
use Rattle.std.specs.Prelude.{Option, Result, Ok, Err, nat_lt, slice_get, if◌then◌else◌}
use Rattle.std.proofs.lemmas.Bool.{le-ltb}
use Rattle.pv_typed.specs.Tables.{Stored}
use Rattle.pv_watch.specs.declared.event.What.{What}
use Rattle.pv_world.specs.declared.got.Got.{Got}
use Rattle.pv_world.specs.declared.got.Failure.{Failure as WorldFailure}
use Rattle.pv_world.specs.declared.got.Failure.TheVariants as world_failure
use Rattle.pv_world.specs.Worlds.{Worth, Nothing, World, Halts, SidesEnded}
use Rattle.pv_world.specs.ObjectParts.{without_first}
use Rattle.pv_world.specs.Telling.{Told, no_telling, telling, fault_told, fault_of, verdict_of}
use Rattle.pv_world.specs.Doing.{Done, Answers, Fails, Breaks}
use Rattle.pv_eval.specs.declared.failure.Failure.{Failure}
use Rattle.pv_eval.specs.declared.marked.Marked.{Marked}
use Rattle.pv_eval.specs.States.{Setting, State, Stopped, Res, Gives, Stops}
use Rattle.pv_eval.specs.Acting.{marked_events, after_telling, with_side, settling, by_side, answer_with_sides, after_doing, pair_count}
use Rattle.pv_eval.specs.Moments.{Moment, Follows, Stays, IsSetting, state_of, Came}
use Rattle.pv_eval.specs.Texts.{text_in, silent, behind_text, with_text, UnlessNoMemory, Wrote}
use Rattle.pv_eval.specs.Operations.{Op, EndsBody, does, act}

-- the text of what is told is written behind
noted_text : (w : World) (t : Told) (s : State) → after_telling w t s ≡ behind_text t.bytes (after_telling w (telling t.events) s)
noted_text w t s = ap (λ o. record { world = w; output = o ++ t.bytes; events = s.events ++ marked_events s.taken (length s.output) t.events; taken = s.taken }) (sym (append-nil s.output))

sided_text : (o : Option Bool) (v : Worth) (line : ℕ) (w : World) (t : Told) (s : State) → by_side o v line w t s ≡ with_text t.bytes (by_side o v line w (telling t.events) s)
sided_text None v line w t s = ap (Stops (Stopped (Halts (SidesEnded (pair_count w))) line)) (noted_text w (settling (pair_count w) t) s)
sided_text (Some high) v line w t s = ap (Gives v) (noted_text (with_side w (pair_count w) high) (settling (pair_count w) t) s)

choice_text : (c : Bool) (o : Option Bool) (v : Worth) (line : ℕ) (w : World) (t : Told) (s : State)
    → (if c then by_side o v line w t s else Gives v (after_telling w t s)) ≡ with_text t.bytes (if c then by_side o v line w (telling t.events) s else Gives v (after_telling w (telling t.events) s))
choice_text true o v line w t s = sided_text o v line w t s
choice_text false o v line w t s = ap (Gives v) (noted_text w t s)

answered_text : (sides : Option (List Bool)) (v : Worth) (line : ℕ) (w : World) (t : Told) (s : State) → answer_with_sides sides v line w t s ≡ with_text t.bytes (answer_with_sides sides v line w (telling t.events) s)
answered_text None v line w t s = ap (Gives v) (noted_text w t s)
answered_text (Some sides) v line w t s = choice_text (nat_lt (pair_count s.world) (pair_count w)) (slice_get sides (pair_count s.world)) v line w t s

pub acted_text : (b : Setting) (line : ℕ) (d : Done) (s : State) → after_doing b line d s ≡ with_text (text_in d) (after_doing b line (silent d) s)
acted_text b line (Answers v w t) s = answered_text b.sides v line w t s
acted_text b line (Fails y p w t) s = ap (Stops (Stopped y line)) (noted_text w (record t { events = t.events ++ fault_told s.world.memory y p }) s)
acted_text b line (Breaks y p w t) s = ap (Stops (Stopped y line)) (noted_text w (record t { events = t.events ++ fault_of p (verdict_of y) }) s)

-- what stays through one operation and another stays through both
pub stays_both : (a b c : Moment) → Stays a b → Stays b c → Stays a c
stays_both a b c s t = record { total = λ n h. t.total n (s.total n h); taken = t.taken ∙ s.taken; sides = t.sides ∙ s.sides }

pub stays_marked : (old new : Moment) → new ≡ record old { world = new.world; waiting = new.waiting } → Stays old new
stays_marked old new e = subst (Stays old) (sym e) (record { total = λ n h. h; taken = refl; sides = refl })

-- another world changes nothing of it
pub stays_from : (inner old new : Moment) (w : World) → inner ≡ old → Stays (record inner { world = w }) new → Stays old new
stays_from inner old new w e s = subst (λ (m : Moment). Stays m new) e (record { total = λ n h. s.total n h; taken = s.taken; sides = s.sides })

-- after an answer that isn't want of memory all is said
pub said : (answer : Result Got WorldFailure) (P : Type 0) → UnlessNoMemory answer P → (answer ≡ Err world_failure.NoMemory → ⊥) → P
said (Ok v) P h n = h
said (Err (world_failure.Stop z)) P h n = h
said (Err world_failure.NoMemory) P h n = absurd (n refl)

-- the closing of an operation that prints
pub closed_text : (b : Setting) (line : ℕ) (d : Done) (s t : State) (result : Result Got Failure) (text : List ℕ) → text ≡ text_in d → Came (with_text text (after_doing b line (silent d) s)) result t → Came (after_doing b line d s) result t
closed_text b line d s t result text is h =
    subst (λ r. Came r result t) (sym (acted_text b line d s)) (subst (λ xs. Came (with_text xs (after_doing b line (silent d) s)) result t) is h)

-- what was written, by the same lists
pub wrote_by : (op : World → Done) (r : Result Got WorldFailure) (w v : World) (before told slice : List What) (had text given : List ℕ) → before ≡ [] → slice ≡ told → had ≡ [] → given ≡ text
    → Wrote op r w v before told had text → Wrote op r w v [] slice [] given
wrote_by op r w v before told slice had text given e f g h did =
    let did1 = subst (λ x. Wrote op r w v x told had text) e did in
    let did2 = subst (λ x. Wrote op r w v [] x had text) (sym f) did1 in
    let did3 = subst (λ x. Wrote op r w v [] slice x text) g did2 in
    subst (λ x. Wrote op r w v [] slice [] x) (sym h) did3

module _ (b : Setting) (u : Stored) (o p : Op) (line : ℕ) (r : Result Got WorldFailure) (inner old : Moment) (w : World) (told : List What) (text out : List ℕ) (es : List Marked) (C : Res Worth → Type 0) where
  -- what closes whatever was made, of this moment
  abbrev Closes : Moment → Type 0
  Closes m =
      (op : World → Done) → b.sides ≡ m.sides → Follows m (length out) → Wrote op r m.world w [] told [] text → C (after_doing b line (op m.world) (state_of m out es))

  pub closing_text : inner ≡ old → IsSetting b u old → Follows old (length out) → p ≡ o → Wrote (does b p) r inner.world w [] told [] text → Closes inner → C (act b line o (state_of old out es))
  closing_text is hs hf same did k =
      let did1 = subst (λ (m : Moment). Wrote (does b p) r m.world w [] told [] text) is did in
      let k1 = subst (λ (m : Moment). Closes m) is k in
      subst (λ x. C (act b line x (state_of old out es))) same (k1 (does b p) hs.sides hf did1)

-- what tells nothing, prints nothing and makes no pair
still : (sides : Option (List Bool)) (v : Worth) (line : ℕ) (w : World) (s : State) → pair_count w ≡ pair_count s.world → answer_with_sides sides v line w no_telling s ≡ Gives v (after_telling w no_telling s)
still None v line w s e = refl
still (Some sides) v line w s e =
    let none : nat_lt (pair_count s.world) (pair_count w) ≡ false = le-ltb (pair_count s.world) (pair_count w) (omega (arith, e)) in
    ap (λ c. if c then by_side (slice_get sides (pair_count s.world)) v line w no_telling s else Gives v (after_telling w no_telling s)) none

pub given_still : (b : Setting) (line : ℕ) (m : Moment) (v : Worth) (w : World) (out : List ℕ) (es : List Marked) → pair_count w ≡ pair_count m.world → after_doing b line (Answers v w no_telling) (state_of m out es) ≡ Gives v (state_of (record m { world = w }) out es)
given_still b line m v w out es e =
    still b.sides v line w (state_of m out es) e
    ∙ ap (λ o. Gives v (record { world = w; output = o; events = (es ++ m.waiting) ++ []; taken = m.taken })) (append-nil (out ++ m.printed))
    ∙ ap (λ e. Gives v (record { world = w; output = out ++ m.printed; events = e; taken = m.taken })) (append-nil (es ++ m.waiting))

-- the innermost body ends
pub body_ended : (b : Setting) (line : ℕ) (inner new old : Moment) (v : World) (out : List ℕ) (es : List Marked) → inner ≡ old → v ≡ record inner.world { bodies = without_first inner.world.bodies } → new ≡ record inner { world = v }
    → act b line EndsBody (state_of old out es) ≡ Gives Nothing (state_of new out es)
body_ended b line inner new old v out es is ends made =
    let ended : World = record inner.world { bodies = without_first inner.world.bodies } in
    ap (λ (m : Moment). act b line EndsBody (state_of m out es)) (sym is)
    ∙ given_still b line inner Nothing ended out es refl
    ∙ ap (λ (x : World). Gives Nothing (state_of (record inner { world = x }) out es)) (sym ends)
    ∙ ap (λ (m : Moment). Gives Nothing (state_of m out es)) (sym made)
