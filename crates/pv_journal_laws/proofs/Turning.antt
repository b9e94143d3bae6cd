-- Events of one turn behind those of earlier turns: where they pass without their turn, they pass with it (C17 5.1.2.3).
use Rattle.std.proofs.Common.{◌≡◌, ℕ, ◌-◌, ◌<◌, ◌≤◌, ◌^◌, Bool, true, false, ◌&&◌, not, cond, leb, ltb, List, [], ◌∷◌, ◌++◌, map, set, Option, Some, None, IsSome, refl, sym, ap, ◌∙◌, arith, subst}
use Rattle.std.specs.Prelude.{if◌then◌else◌}
use Rattle.std.proofs.lemmas.Bool.{false≢true, and_from}
use Rattle.std.proofs.lemmas.Bool.Decides.{nat_tests}
use Rattle.std.proofs.lemmas.Option.{same_Some}
use Rattle.std.specs.List.{slice_get}
use Rattle.std.specs.Option.{option_map, option_and_then}
use Rattle.pv_typed.specs.Known.{Each}
use Rattle.pv_watch.specs.declared.event.Event.{Event}
use Rattle.pv_watch.specs.declared.event.What.{What}
use Rattle.pv_watch.specs.declared.event.What.TheVariants as what
use Rattle.pv_fault.specs.declared.verdict.Verdict.{Verdict}
use Rattle.pv_world.specs.Telling.{fault_of}
use Rattle.pv_world.specs.declared.failing.Blame.{Blame}
use Rattle.pv_eval.specs.Acting.{marked_events}
use Rattle.pv_exec.specs.Outlets.{event_of}
use Rattle.pv_journal.specs.Journals.{Id, Fact, Made, Ended, Exposed, Paired, Used, Fault}
use Rattle.pv_journal_laws.specs.Runs.{FitsLine}
use Rattle.pv_journal.specs.Obeying.{Held, Bond, State, after, after_fact, may_make, may_pair, end_at, expose_at, at_held, with_held, place_of, use_at, keeping, left_of, may_leave}
use Rattle.pv_journal_laws.proofs.Telling.{fact_in, after_what, told_from, after_event, after_events}
use Rattle.pv_journal_laws.proofs.Changes.{AreFew}
use Rattle.pv_journal_laws.proofs.Parts.{and_some, if_some, some_of}

-- ---- a fact keeps the turn, and only a fault ends all

record Flat (s u : State) : Type 0 where
  turn : u.turn ≡ s.turn
  over : u.over ≡ false → s.over ≡ false

flat_by : (s t u : State) → t.turn ≡ s.turn → t.over ≡ s.over → Some t ≡ Some u → Flat s u
flat_by s t u n o e =
    let is : t ≡ u = same_Some t u e in
    record { turn = ap (λ (x : State). x.turn) (sym is) ∙ n; over = λ h. sym o ∙ ap (λ (x : State). x.over) is ∙ h }

held_flat : (s u : State) (id : Id) (f : ℕ → Held → Option State) → ((i : ℕ) (x : Held) → f i x ≡ Some u → Flat s u) → at_held s id f ≡ Some u → Flat s u
held_flat s u id f k h = and_some (λ i. option_and_then (f i) (slice_get s.held i)) (place_of s.held id) u h (λ i e g. and_some (f i) (slice_get s.held i) u g (λ x at g. k i x g))

use_flat : (s u : State) (i test : ℕ) (first : Id) (second : Option Id) (b : Bond) → use_at s i test first second b ≡ Some u → Flat s u
use_flat s u i test first second b h =
    if_some (b.keeps_low && b.keeps_high) (option_and_then go (left_of b first second)) u h (λ e g.
    and_some go (left_of b first second) u g (λ kept e g.
    if_some (may_leave s.held b test kept.0 kept.1) (Some (record s { bonds = set s.bonds i (keeping b kept) })) u g (λ e g. flat_by s (record s { bonds = set s.bonds i (keeping b kept) }) u refl refl g)))
  where
    go : Bool × Bool → Option State
    go kept = if may_leave s.held b test kept.0 kept.1 then Some (record s { bonds = set s.bonds i (keeping b kept) }) else None

fact_flat : (s u : State) (f : Fact) → after_fact s f ≡ Some u → Flat s u
fact_flat s u (Made id base size) h = if_some (may_make s.held id base size) (Some _) u h (λ e g. flat_by s _ u refl refl g)
fact_flat s u (Ended id) h = held_flat s u id (λ i x. end_at s i x) (λ i x g. if_some x.live (Some (with_held s i (record x { live = false }))) u g (λ e g. flat_by s (with_held s i (record x { live = false })) u refl refl g)) h
fact_flat s u (Exposed id) h =
    held_flat s u id (λ i x. expose_at s i x) (λ i x g. if_some (x.live && not x.exposed) (Some (with_held s i (record x { exposed = true }))) u g (λ e g. flat_by s (with_held s i (record x { exposed = true })) u refl refl g)) h
fact_flat s u (Paired pair address low high) h = if_some (may_pair s pair address low high) (Some _) u h (λ e g. flat_by s _ u refl refl g)
fact_flat s u (Used pair test first second) h =
    if_some (leb 1 pair) (option_and_then (λ b. use_at s (pair - 1) test first second b) (slice_get s.bonds (pair - 1))) u h (λ e g.
    and_some (λ b. use_at s (pair - 1) test first second b) (slice_get s.bonds (pair - 1)) u g (λ b at g. use_flat s u (pair - 1) test first second b g))
fact_flat s u Fault h =
    let is : record s { over = true } ≡ u = same_Some (record s { over = true }) u h in
    record { turn = ap (λ (x : State). x.turn) (sym is); over = λ e. absurd (false≢true (sym e ∙ ap (λ (x : State). x.over) (sym is))) }

what_flat : (names : List (List ℕ)) (s u : State) (w : What) → after_what names s w ≡ Some u → Flat s u
what_flat names s u w h = and_some (after_fact s) (fact_in names s w) u h (λ f e g. fact_flat s u f g)

told_over : (names : List (List ℕ)) (s u : State) (es : List What) → told_from names s es ≡ Some u → u.over ≡ false → s.over ≡ false
told_over names s u [] h o = ap (λ (x : State). x.over) (same_Some s u h) ∙ o
told_over names s u (e ∷ es) h o = and_some (λ t. told_from names t es) (after_what names s e) u h (λ t first rest. (what_flat names s t e first).over (told_over names t u es rest o))

pub told_turn : (names : List (List ℕ)) (s u : State) (es : List What) → told_from names s es ≡ Some u → (n : ℕ) → s.turn ≤ n → u.turn ≤ n
told_turn names s u [] h n le = subst (λ (x : State). x.turn ≤ n) (same_Some s u h) le
told_turn names s u (e ∷ es) h n le =
    and_some (λ t. told_from names t es) (after_what names s e) u h (λ t first rest.
    told_turn names t u es rest n (let q = (what_flat names s t e first).turn in omega (arith, q, le)))

-- ---- with the turn

same_says : (names : List (List ℕ)) (s : State) (n : ℕ) (w : What) → fact_in names (record s { turn = n }) w ≡ fact_in names s w
same_says names s n (what.Made inst name k base size) = refl
same_says names s n (what.Ended i) = refl
same_says names s n (what.Exposed i) = refl
same_says names s n (what.Pair pair address low high) = refl
same_says names s n (what.Tried pair test low high) = refl
same_says names s n (what.Fault verdict low high pair) = refl

due : (s : State) (n : ℕ) → s.over ≡ false → s.turn ≤ n → n < 2 ^ 64 → (not s.over && (leb s.turn n && ltb n (2 ^ 64))) ≡ true
due s n over le few =
    let a : leb s.turn n ≡ true = grind (arith, nat_tests) in
    let b : ltb n (2 ^ 64) ≡ true = grind (arith, nat_tests) in
    and_from (not s.over) _ (ap not over) (and_from (leb s.turn n) _ a b)

event_passes : (names : List (List ℕ)) (s u : State) (n : ℕ) (w : What) → s.over ≡ false → s.turn ≤ n → n < 2 ^ 64 → after_what names (record s { turn = n }) w ≡ Some u → after_event names s (record { turn = n; what = w }) ≡ Some u
event_passes names s u n w over le few h =
    and_some (after_fact (record s { turn = n })) (fact_in names (record s { turn = n }) w) u h (λ f says passes.
    ap (λ o. option_and_then (after s) (option_map (λ f. record { turn = n; says = f }) o)) (sym (same_says names s n w) ∙ says)
    ∙ ap (λ b. cond b (after_fact (record s { turn = n }) f) None) (due s n over le few) ∙ passes)

-- what events of this turn leave
abbrev pub left_by : List What → State → State → State
left_by [] s u = s
left_by (e ∷ es) s u = u

turn_same : (s : State) (n : ℕ) → s.turn ≡ n → record s { turn = n } ≡ s
turn_same s n e = λ i. record { held = s.held; bonds = s.bonds; turn = sym e i; over = s.over }

pub stamped_from : (names : List (List ℕ)) (n m : ℕ) (es : List What) (s u : State) → s.over ≡ false → s.turn ≤ n → Each FitsLine (marked_events n m es) → told_from names (record s { turn = n }) es ≡ Some u → u.over ≡ false
    → after_events names s (map event_of (marked_events n m es)) ≡ Some (left_by es s u)
stamped_from names n m [] s u over le fits h o = refl
stamped_from names n m (e ∷ es) s u over le fits h o =
    and_some (λ t. told_from names t es) (after_what names (record s { turn = n }) e) u h (λ t first rest.
    let flat : Flat (record s { turn = n }) t = what_flat names (record s { turn = n }) t e first in
    let open_still : t.over ≡ false = told_over names t u es rest o in
    let same : record t { turn = n } ≡ t = turn_same t n flat.turn in
    let le' : t.turn ≤ n = (let q = flat.turn in omega (arith, q)) in
    let next = stamped_from names n m es t u open_still le' fits.1 (ap (λ x. told_from names x es) same ∙ rest) o in
    ap (option_and_then (λ x. after_events names x (map event_of (marked_events n m es)))) (event_passes names s t n e over le fits.0.turn first) ∙ next ∙ ap Some (last t es rest))
  where
    last : (t : State) (es : List What) → told_from names t es ≡ Some u → left_by es t u ≡ u
    last t [] h = same_Some t u h
    last t (e ∷ es) h = refl

-- ---- lists of events

pub events_append : (names : List (List ℕ)) (es fs : List Event) (s t : State) → after_events names s es ≡ Some t → after_events names s (es ++ fs) ≡ after_events names t fs
events_append names [] fs s t h = ap (λ s. after_events names s fs) (same_Some s t h)
events_append names (e ∷ es) fs s t h =
    and_some (λ u. after_events names u es) (after_event names s e) t h (λ u first rest.
    ap (option_and_then (λ u. after_events names u (es ++ fs))) first ∙ events_append names es fs u t rest)

-- the first events pass where all do
pub events_front : {P : Type 0} (names : List (List ℕ)) (es fs : List Event) (s t : State) → after_events names s (es ++ fs) ≡ Some t → ((u : State) → after_events names s es ≡ Some u → P) → P
events_front names [] fs s t h k = k s refl
events_front names (e ∷ es) fs s t h k =
    and_some (λ u. after_events names u (es ++ fs)) (after_event names s e) t h (λ u first rest.
    events_front names es fs u t rest (λ v all. k v (ap (option_and_then (λ u. after_events names u es)) first ∙ all)))

pub stamped_append : (n m : ℕ) (es fs : List What) → marked_events n m (es ++ fs) ≡ marked_events n m es ++ marked_events n m fs
stamped_append n m [] fs = refl
stamped_append n m (e ∷ es) fs = ap (λ l. record { event = record { turn = n; what = e }; mark = m } ∷ l) (stamped_append n m es fs)

pub map_both : {X Y : Type 0} (f : X → Y) (xs ys : List X) → map f (xs ++ ys) ≡ map f xs ++ map f ys
map_both f [] ys = refl
map_both f (x ∷ xs) ys = ap (λ l. f x ∷ l) (map_both f xs ys)

pub each_parts : {X : Type 0} (P : X → Type 0) (xs ys : List X) → Each P (xs ++ ys) → Each P xs × Each P ys
each_parts P [] ys h = (tt, h)
each_parts P (x ∷ xs) ys h = let r = each_parts P xs ys h.1 in ((h.0, r.0), r.1)

-- numbers of new instances that are words are few
pub few_stamped : (n m : ℕ) (es : List What) → Each FitsLine (marked_events n m es) → AreFew es
few_stamped n m [] h = tt
few_stamped n m (e ∷ es) h = (h.0.few, few_stamped n m es h.1)

-- ---- a fault

-- it passes, whatever it carries
pub fault_passes : (names : List (List ℕ)) (n m : ℕ) (b : Option Blame) (o : Option Verdict) (s : State) → s.over ≡ false → s.turn ≤ n → Each FitsLine (marked_events n m (fault_of b o)) → IsSome (after_events names s (map event_of (marked_events n m (fault_of b o))))
fault_passes names n m b None s over le fits = refl
fault_passes names n m None (Some v) s over le fits =
    some_of _ (record s { turn = n; over = true }) (ap (option_and_then (λ x. Some x)) (event_passes names s (record s { turn = n; over = true }) n (what.Fault v None None None) over le fits.0.turn refl))
fault_passes names n m (Some b) (Some v) s over le fits =
    some_of _ (record s { turn = n; over = true }) (ap (option_and_then (λ x. Some x)) (event_passes names s (record s { turn = n; over = true }) n (what.Fault v b.low b.high b.pair) over le fits.0.turn refl))
