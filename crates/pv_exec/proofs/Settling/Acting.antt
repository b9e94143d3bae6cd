-- An operation in the state of the late run, and of a settled one: there a pair that was just made has its side from then on.
use Rattle.std.proofs.Common.{◌≡◌, ℕ, suc, ◌-◌, ◌≤◌, Bool, true, false, not, ◌&&◌, cond, List, [], ◌∷◌, ◌++◌, length, set, Some, None, refl, sym, ap, ◌∙◌, subst, ◌⊎◌, inl, inr, arith, true≢false}
use Rattle.std.specs.Prelude.{nat_lt}
use Rattle.std.specs.List.{slice_get}
use Rattle.std.proofs.lemmas.Bool.Decides.{nat_tests}
use Rattle.pv_prov.specs.declared.pairs.Twin.{Twin}
use Rattle.pv_prov.specs.Names.{twin_at, after_narrowing}
use Rattle.pv_prov.specs.NameParts.{keeping}
use Rattle.pv_fault.specs.declared.verdict.Verdict.TheVariants as verdict
use Rattle.pv_world.specs.Worlds.{Worth, World, Wrong, ByVerdict, Halts, with_table}
use Rattle.pv_world.specs.Telling.{Told}
use Rattle.pv_world.specs.Doing.{Done, Answers, Fails, Breaks}
use Rattle.pv_eval.specs.declared.marked.Marked.{Marked}
use Rattle.pv_eval.specs.States.{Setting, State, Why, Turns, Unreached, Stopped, Res, Gives, Stops, end_of}
use Rattle.pv_eval.specs.Acting.{after_telling, pair_count, with_side, settling, by_side, answer_with_sides, after_doing}
use Rattle.pv_eval.specs.ActingParts.{one_kept, keeps_both}
use Rattle.pv_exec.proofs.Settling.Sides.{to_side, on_sides, on_world, holds, Allows, Covers, Nearly, length-sides}
use Rattle.pv_exec.proofs.Settling.Doings.{pairs_of, IsWrong, IsBad, EndsBy, Halted, Tracks}

-- the list, cut to the pairs that there are
abbrev pub cut : List Bool → List Twin → List Bool
cut ds [] = []
cut [] (t ∷ ts) = []
cut (d ∷ ds) (t ∷ ts) = d ∷ cut ds ts

pub cut-covers : (ds : List Bool) (ts : List Twin) → length ts ≤ length ds → Covers (cut ds ts) ts
cut-covers ds [] h = tt
cut-covers [] (t ∷ ts) h = absurd (omega (arith, h))
cut-covers (d ∷ ds) (t ∷ ts) h = cut-covers ds ts (omega (arith, h))

pub cut-on : (ds : List Bool) (ts : List Twin) → on_sides (cut ds ts) ts ≡ on_sides ds ts
cut-on ds [] = refl
cut-on [] (t ∷ ts) = refl
cut-on (d ∷ ds) (t ∷ ts) = ap (λ us. to_side d t ∷ us) (cut-on ds ts)

pub cut-allows : (ds : List Bool) (ts : List Twin) → Allows ds ts → Allows (cut ds ts) ts
cut-allows ds [] a = tt
cut-allows [] (t ∷ ts) a = tt
cut-allows (d ∷ ds) (t ∷ ts) a = (a.0, cut-allows ds ts a.1)

-- what the whole list allows, the cut one allows
pub cut-less : (ds : List Bool) (ts us : List Twin) → Allows ds us → Allows (cut ds ts) us
cut-less ds [] us a = tt
cut-less [] (t ∷ ts) us a = tt
cut-less (d ∷ ds) (t ∷ ts) [] a = tt
cut-less (d ∷ ds) (t ∷ ts) (u ∷ us) a = (a.0, cut-less ds ts us a.1)

-- what an operation has left: the same pairs, or one more, which has its side now
record IsEven (ds : List Bool) (ts us : List Twin) : Type 0 where
  many : length us ≡ length ts
  on : on_sides (cut ds ts) us ≡ on_sides ds us
  allows : Allows ds us

record IsMore (ds : List Bool) (ts us : List Twin) : Type 0 where
  many : length us ≡ suc (length ts)
  side : Bool
  there : slice_get ds (length ts) ≡ Some side
  last : Twin
  last_at : slice_get (on_sides (cut ds ts) us) (length ts) ≡ Some last
  both : (last.keeps_low && last.keeps_high) ≡ true
  on : set (on_sides (cut ds ts) us) (length ts) (to_side side last) ≡ on_sides ds us
  allows : Allows ds us

side-both : (d l h : Bool) → l ≡ true → h ≡ true → holds d l h ≡ true
side-both true l h e f = f
side-both false l h e f = e

and-true : (l h : Bool) → l ≡ true → h ≡ true → (l && h) ≡ true
and-true true h e f = f
and-true false h e f = absurd (true≢false (sym e))

counted : (ds : List Bool) (ts us : List Twin) → length ts ≤ length ds → length us ≤ length ds → Nearly (cut ds ts) us → Allows (cut ds ts) us → IsEven ds ts us ⊎ IsMore ds ts us
counted ds [] [] h g n a = inl (record { many = refl; on = refl; allows = none ds })
  where
    none : (ds : List Bool) → Allows ds []
    none [] = tt
    none (d ∷ ds) = tt
counted [] [] (u ∷ us) h g n a = absurd (omega (arith, g))
counted (d ∷ ds) [] (u ∷ []) h g n a =
    inr (record { many = refl; side = d; there = refl; last = u; last_at = refl; both = and-true u.keeps_low u.keeps_high n.0 n.1; on = refl; allows = (side-both d u.keeps_low u.keeps_high n.0 n.1, none ds) })
  where
    none : (ds : List Bool) → Allows ds []
    none [] = tt
    none (d ∷ ds) = tt
counted (d ∷ ds) [] (u ∷ (v ∷ us)) h g n a = absurd n
counted [] (t ∷ ts) us h g n a = absurd (omega (arith, h))
counted (d ∷ ds) (t ∷ ts) [] h g n a = absurd n
counted (d ∷ ds) (t ∷ ts) (u ∷ us) h g n a = more (counted ds ts us (omega (arith, h)) (omega (arith, g)) n a.1)
  where
    more : IsEven ds ts us ⊎ IsMore ds ts us → IsEven (d ∷ ds) (t ∷ ts) (u ∷ us) ⊎ IsMore (d ∷ ds) (t ∷ ts) (u ∷ us)
    more (inl e) = inl (record { many = ap suc e.many; on = ap (λ vs. to_side d u ∷ vs) e.on; allows = (a.0, e.allows) })
    more (inr e) = inr (record { many = ap suc e.many; side = e.side; there = e.there; last = e.last; last_at = e.last_at; both = e.both; on = ap (λ vs. to_side d u ∷ vs) e.on; allows = (a.0, e.allows) })

-- the state of a settled run, with its own events
abbrev pub on_state : List Bool → List Marked → State → State
on_state ds es s = record { world = on_world ds s.world; output = s.output; events = es; taken = s.taken }

abbrev pub pairs_at : State → List Twin
pairs_at s = pairs_of s.world

-- undefined, when no more turns were taken
abbrev pub IsUndefined : {A : Type 0} → Res A → ℕ → Type 0
IsUndefined (Gives a s) n = ⊥
IsUndefined (Stops Turns s) n = ⊥
IsUndefined (Stops Unreached s) n = ⊥
IsUndefined (Stops (Stopped (ByVerdict (verdict.Undefined f)) line) s) n = s.taken ≤ n
IsUndefined (Stops (Stopped (ByVerdict verdict.Undecided) line) s) n = ⊥
IsUndefined (Stops (Stopped (ByVerdict verdict.Indeterminate) line) s) n = ⊥
IsUndefined (Stops (Stopped (Halts h) line) s) n = ⊥

-- it stops for this reason, after as many turns and with the same output
abbrev pub EndsAs : {A : Type 0} → Why → State → Res A → Type 0
EndsAs y s (Gives a t) = ⊥
EndsAs y s (Stops z t) = (z ≡ y) × (t.taken ≡ s.taken) × (t.output ≡ s.output)

-- a settled run beside the late one
abbrev pub Stays : {A : Type 0} → List Bool → A → State → Res A → Type 0
Stays ds a t r = Allows ds (pairs_at t) × (es : List Marked) × (r ≡ Gives a (on_state ds es t))

abbrev pub Follows : {A : Type 0} → List Bool → Res A → Res A → Type 0
Follows ds (Gives a t) r = Stays ds a t r ⊎ ((Allows ds (pairs_at t) → ⊥) × IsUndefined r t.taken)
Follows ds (Stops Turns t) r = EndsAs Turns t r ⊎ ((Allows ds (pairs_at t) → ⊥) × IsUndefined r t.taken)
Follows ds (Stops Unreached t) r = EndsAs Unreached t r ⊎ ((Allows ds (pairs_at t) → ⊥) × IsUndefined r t.taken)
Follows ds (Stops (Stopped (ByVerdict (verdict.Undefined f)) line) t) r = IsUndefined r t.taken
Follows ds (Stops (Stopped (ByVerdict verdict.Undecided) line) t) r = Unit {0}
Follows ds (Stops (Stopped (ByVerdict verdict.Indeterminate) line) t) r = EndsAs (Stopped (ByVerdict verdict.Indeterminate) line) t r ⊎ ((Allows ds (pairs_at t) → ⊥) × IsUndefined r t.taken)
Follows ds (Stops (Stopped (Halts h) line) t) r = EndsAs (Stopped (Halts h) line) t r ⊎ ((Allows ds (pairs_at t) → ⊥) × IsUndefined r t.taken)

wrong-undefined : (y : Wrong) (line : ℕ) (s : State) (n : ℕ) → IsWrong y → s.taken ≤ n → IsUndefined {A = Worth} (Stops (Stopped y line) s) n
wrong-undefined (ByVerdict (verdict.Undefined f)) line s n h e = e
wrong-undefined (ByVerdict verdict.Undecided) line s n h e = absurd h
wrong-undefined (ByVerdict verdict.Indeterminate) line s n h e = absurd h
wrong-undefined (Halts k) line s n h e = absurd h

module _ (b b' : Setting) (ds : List Bool) (late : b.sides ≡ None) (sides : b'.sides ≡ Some ds) (line : ℕ) (s : State) (es : List Marked) (few : length (pairs_at s) ≤ length ds) where
  abbrev cs : List Bool
  cs = cut ds (pairs_at s)

  before-on : State
  before-on = on_state ds es s

  bad-undefined : (d : Done) → IsBad d → IsUndefined (after_doing b' line d (on_state ds es s)) s.taken
  bad-undefined (Answers v w t) h = absurd h
  bad-undefined (Fails y p w t) h = wrong-undefined y line _ s.taken h (omega arith)
  bad-undefined (Breaks y p w t) h = wrong-undefined y line _ s.taken h (omega arith)

  ends-as : (y : Wrong) (t : Told) (d : Done) (u : State) → EndsBy y t.bytes d → u.taken ≡ s.taken → u.output ≡ s.output ++ t.bytes → EndsAs (Stopped y line) u (after_doing b' line d (on_state ds es s))
  ends-as z t (Answers v w q) u e f g = absurd e
  ends-as z t (Fails y p w q) u e f g = (ap (λ z. Stopped z line) e.0, sym f, ap (λ z. s.output ++ z) e.1 ∙ sym g)
  ends-as z t (Breaks y p w q) u e f g = (ap (λ z. Stopped z line) e.0, sym f, ap (λ z. s.output ++ z) e.1 ∙ sym g)

  -- the late run stops in an operation
  stop-follows : (y : Wrong) (w : World) (t : Told) (u : State) (d : Done) → u.taken ≡ s.taken → u.output ≡ s.output ++ t.bytes → u.world ≡ w → Halted cs y (pairs_of w) t.bytes d
      → Follows {A = Worth} ds (Stops (Stopped y line) u) (after_doing b' line d (on_state ds es s))
  stop-follows (ByVerdict (verdict.Undefined f)) w t u d e g i h = subst (λ n. IsUndefined (after_doing b' line d (on_state ds es s)) n) (sym e) (bad-undefined d h)
  stop-follows (ByVerdict verdict.Undecided) w t u d e g i h = tt
  stop-follows (ByVerdict verdict.Indeterminate) w t u d e g i (inl h) = inl (ends-as (ByVerdict verdict.Indeterminate) t d u h.0 e g)
  stop-follows (Halts x) w t u d e g i (inl h) = inl (ends-as (Halts x) t d u h.0 e g)
  stop-follows (ByVerdict verdict.Indeterminate) w t u d e g i (inr h) =
      inr (λ a. h.1 (cut-less ds (pairs_at s) (pairs_of w) (subst (λ (v : World). Allows ds (pairs_of v)) i a)), subst (λ n. IsUndefined (after_doing b' line d (on_state ds es s)) n) (sym e) (bad-undefined d h.0))
  stop-follows (Halts x) w t u d e g i (inr h) =
      inr (λ a. h.1 (cut-less ds (pairs_at s) (pairs_of w) (subst (λ (v : World). Allows ds (pairs_of v)) i a)), subst (λ n. IsUndefined (after_doing b' line d (on_state ds es s)) n) (sym e) (bad-undefined d h.0))

  -- it goes on, and the settled one has ended
  gone : (v : Worth) (w : World) (t : Told) (d : Done) → IsBad d → (Allows cs (pairs_of w) → ⊥) → Follows ds (Gives v (after_telling w t s)) (after_doing b' line d (on_state ds es s))
  gone v w t d h n = inr (λ a. n (cut-less ds (pairs_at s) (pairs_of w) a), bad-undefined d h)

  -- both go on with the same pairs
  even-follows : (v : Worth) (w : World) (t t' : Told) → t'.bytes ≡ t.bytes → IsEven ds (pairs_at s) (pairs_of w) → Stays ds v (after_telling w t s) (answer_with_sides (Some ds) v line (on_world cs w) t' (on_state ds es s))
  even-follows v w t t' e h =
      let after = after_telling (on_world cs w) t' (on_state ds es s) in
      let here = length-sides ds (pairs_at s) in
      let there = length-sides cs (pairs_of w) in
      let many = h.many in
      let less : nat_lt (pair_count (on_state ds es s).world) (pair_count (on_world cs w)) ≡ false = grind (arith, nat_tests) in (
        h.allows,
        after.events,
        ap (λ c. cond c (by_side (slice_get ds (pair_count (on_state ds es s).world)) v line (on_world cs w) t' (on_state ds es s)) (Gives v after)) less
            ∙ λ i. Gives v (record { world = with_table w (record w.memory.table { pairs = h.on i }); output = s.output ++ e i; events = after.events; taken = s.taken }),
      )

  -- both go on with one pair more
  more-follows : (v : Worth) (w : World) (t t' : Told) → t'.bytes ≡ t.bytes → IsMore ds (pairs_at s) (pairs_of w) → Stays ds v (after_telling w t s) (answer_with_sides (Some ds) v line (on_world cs w) t' (on_state ds es s))
  more-follows v w t t' e h =
      let W = on_world cs w in
      let us = on_sides cs (pairs_of w) in
      let here = length-sides ds (pairs_at s) in
      let there = length-sides cs (pairs_of w) in
      let many = h.many in
      let k = pair_count W in
      let less : nat_lt (pair_count (on_state ds es s).world) k ≡ true = grind (arith, nat_tests) in
      let at : k - 1 ≡ length (pairs_at s) = omega (arith, there, many) in
      let last : twin_at us k ≡ Some h.last = ap (slice_get us) at ∙ h.last_at in
      let told = settling k t' in
      let after : (x : World) → State = λ x. after_telling x told (on_state ds es s) in
      let kept-is : after_narrowing us k (not h.side) h.side ≡ on_sides ds (pairs_of w) =
      ap (λ o. keeping o us k (not h.side) h.side) last ∙ ap (λ n. set us n (to_side h.side h.last)) at ∙ h.on in
      let sided-is : with_side W k h.side ≡ one_kept W k h.side = ap (λ o. cond (keeps_both o) (one_kept W k h.side) W) last ∙ ap (λ c. cond c (one_kept W k h.side) W) h.both in (
        h.allows,
        (after W).events,
        ap (λ c. cond c (by_side (slice_get ds (pair_count (on_state ds es s).world)) v line W t' (on_state ds es s)) (Gives v (after_telling W t' (on_state ds es s)))) less
            ∙ ap (λ n. by_side (slice_get ds n) v line W t' (on_state ds es s)) here
            ∙ ap (λ o. by_side o v line W t' (on_state ds es s)) h.there
            ∙ ap (λ x. Gives v (after x)) sided-is
            ∙ λ i. Gives v (record { world = with_table w (record w.memory.table { pairs = kept-is i }); output = s.output ++ e i; events = (after W).events; taken = s.taken }),
      )

  both-follow : (v : Worth) (w : World) (t t' : Told) → t'.bytes ≡ t.bytes → IsEven ds (pairs_at s) (pairs_of w) ⊎ IsMore ds (pairs_at s) (pairs_of w) → Stays ds v (after_telling w t s) (answer_with_sides (Some ds) v line (on_world cs w) t' (on_state ds es s))
  both-follow v w t t' e (inl h) = even-follows v w t t' e h
  both-follow v w t t' e (inr h) = more-follows v w t t' e h

  acted-by : (d d' : Done) → length (pairs_at (end_of (after_doing b line d s))) ≤ length ds → Tracks cs d d' → Follows ds (after_doing b line d s) (after_doing b' line d' (on_state ds es s))
  acted-by (Answers v w t) (Answers v' w' t') n h =
      subst (λ o. Follows ds (answer_with_sides o v line w t s) (answer_with_sides b'.sides v' line w' t' (on_state ds es s))) (sym late)
      (subst (λ o. Follows ds (Gives v (after_telling w t s)) (answer_with_sides o v' line w' t' (on_state ds es s))) (sym sides)
      (subst (λ x. Follows ds (Gives v (after_telling w t s)) (answer_with_sides (Some ds) x line w' t' (on_state ds es s))) (sym h.0)
      (subst (λ x. Follows ds (Gives v (after_telling w t s)) (answer_with_sides (Some ds) v line x t' (on_state ds es s))) (sym h.3)
      (inl (both-follow v w t t' h.1 (counted ds (pairs_at s) (pairs_of w) few (subst (λ o. length (pairs_at (end_of (answer_with_sides o v line w t s))) ≤ length ds) late n) h.4 h.2))))))
  acted-by (Answers v w t) (Fails y' p' w' t') n h = subst (λ o. Follows ds (answer_with_sides o v line w t s) (after_doing b' line (Fails y' p' w' t') (on_state ds es s))) (sym late) (gone v w t (Fails y' p' w' t') h.0 h.1)
  acted-by (Answers v w t) (Breaks y' p' w' t') n h = subst (λ o. Follows ds (answer_with_sides o v line w t s) (after_doing b' line (Breaks y' p' w' t') (on_state ds es s))) (sym late) (gone v w t (Breaks y' p' w' t') h.0 h.1)
  acted-by (Fails y p w t) d' n h = stop-follows y w t _ d' refl refl refl h
  acted-by (Breaks y p w t) d' n h = stop-follows y w t _ d' refl refl refl h

pub acted-follows : (b b' : Setting) (ds : List Bool) → b.sides ≡ None → b'.sides ≡ Some ds → (line : ℕ) (s : State) (es : List Marked) → length (pairs_at s) ≤ length ds → (d d' : Done)
    → length (pairs_at (end_of (after_doing b line d s))) ≤ length ds → Tracks (cut ds (pairs_at s)) d d' → Follows ds (after_doing b line d s) (after_doing b' line d' (on_state ds es s))
acted-follows b b' ds late sides line s es few d d' n h = acted-by b b' ds late sides line s es few d d' n h
