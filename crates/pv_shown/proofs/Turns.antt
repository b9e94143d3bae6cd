-- Turns along the lines of a journal, and the places at which they pass a position.
use Rattle.std.proofs.Common.{◌≡◌, ℕ, zero, suc, ◌+◌, ◌-◌, ◌<◌, ◌≤◌, ◌^◌, Bool, true, false, ◌&&◌, not, cond, leb, ltb, List, [], ◌∷◌, ◌++◌, length, map, set, take, drop, get_or, Option, Some, None, IsSome, refl, sym, ap, ◌∙◌, subst, arith}
use Rattle.std.proofs.lemmas.Bool.{and_parts}
use Rattle.std.proofs.lemmas.Bool.Decides.{nat_tests}
use Rattle.std.proofs.lemmas.Option.{same_Some}
use Rattle.std.proofs.lemmas.List.{map_more, map-append, take-append-drop, take_all}
use Rattle.std.specs.List.{slice_get}
use Rattle.std.specs.Option.{option_and_then}
use Rattle.std.specs.List.Sorted.{IsNonDecreasingBy, IsPartitionPoint}
use Rattle.pv_journal.specs.declared.line.Line.{Line}
use Rattle.pv_journal.specs.declared.line.Said.TheVariants as said
use Rattle.pv_journal.specs.Journals.{Id, Fact, Row, Made, Ended, Exposed, Paired, Used, Fault}
use Rattle.pv_journal.specs.Lines.{row_under, rows_under}
use Rattle.pv_journal.specs.Obeying.{Held, State, at_first, after, after_all, after_fact, Obeys, may_make, place_of, end_at, expose_at, at_held, with_held, may_pair, use_at, keeping, left_of, may_leave}
use Rattle.pv_shown.specs.declared.past.Life.{Life}
use Rattle.pv_shown.specs.declared.past.Tie.{Tie}
use Rattle.pv_shown.specs.Shown.{next_turn, last_turn}
use Rattle.pv_shown.specs.Recorded.{Tells, Notes}
use Rattle.pv_shown.proofs.Lists.{and_some, if_some}
use Rattle.pv_shown.proofs.Recording.{Kept, kept_more}

-- ---- a line leaves its turn

held_turn : (s u : State) (id : Id) (f : ℕ → Held → Option State) → ((i : ℕ) (x : Held) → f i x ≡ Some u → u.turn ≡ s.turn) → at_held s id f ≡ Some u → u.turn ≡ s.turn
held_turn s u id f k h = and_some (λ i. option_and_then (f i) (slice_get s.held i)) (place_of s.held id) u h (λ i e g. and_some (f i) (slice_get s.held i) u g (λ x at g. k i x g))

same_turn : (s t u : State) (c : Bool) → t.turn ≡ s.turn → cond c (Some t) None ≡ Some u → u.turn ≡ s.turn
same_turn s t u c e h = if_some c (Some t) u h (λ may g. ap (λ (z : State). z.turn) (sym (same_Some t u g)) ∙ e)

fact_turn : (s u : State) (f : Fact) → after_fact s f ≡ Some u → u.turn ≡ s.turn
fact_turn s u (Made id base size) h = same_turn s _ u (may_make s.held id base size) refl h
fact_turn s u (Ended id) h = held_turn s u id (λ i x. end_at s i x) (λ i x g. same_turn s (with_held s i (record x { live = false })) u x.live refl g) h
fact_turn s u (Exposed id) h = held_turn s u id (λ i x. expose_at s i x) (λ i x g. same_turn s (with_held s i (record x { exposed = true })) u (x.live && not x.exposed) refl g) h
fact_turn s u (Paired pair address low high) h = same_turn s _ u (may_pair s pair address low high) refl h
fact_turn s u (Used pair test first second) h =
    if_some (leb 1 pair) (option_and_then (λ b. use_at s (pair - 1) test first second b) (slice_get s.bonds (pair - 1))) u h (λ some h.
    and_some (λ b. use_at s (pair - 1) test first second b) (slice_get s.bonds (pair - 1)) u h (λ b at h.
    if_some (b.keeps_low && b.keeps_high) (option_and_then (λ kept. cond (may_leave s.held b test kept.0 kept.1) (Some (record s { bonds = set s.bonds (pair - 1) (keeping b kept) })) None) (left_of b first second)) u h (λ both h.
    and_some (λ kept. cond (may_leave s.held b test kept.0 kept.1) (Some (record s { bonds = set s.bonds (pair - 1) (keeping b kept) })) None) (left_of b first second) u h (λ kept left h.
    same_turn s (record s { bonds = set s.bonds (pair - 1) (keeping b kept) }) u (may_leave s.held b test kept.0 kept.1) refl h))))
fact_turn s u Fault h = ap (λ (z : State). z.turn) (sym (same_Some (record s { over = true }) u h))

record Turned (s u : State) (row : Row) : Type 0 where
  least : s.turn ≤ row.turn
  now : u.turn ≡ row.turn

turned : (s u : State) (row : Row) → after s row ≡ Some u → Turned s u row
turned s u row h =
    if_some (not s.over && (leb s.turn row.turn && ltb row.turn (2 ^ 64))) (after_fact (record s { turn = row.turn }) row.says) u h (λ may g. record {
      least = leb-turn s.turn row.turn (and_parts (leb s.turn row.turn) (ltb row.turn (2 ^ 64)) (and_parts (not s.over) _ may).1).0;
      now = fact_turn (record s { turn = row.turn }) u row.says g;
    })
  where
    leb-turn : (a b : ℕ) → leb a b ≡ true → a ≤ b
    leb-turn a b h = grind (arith, nat_tests)

-- ---- turns never fall

record First (o : Option State) (rows : List Row) : Type 0 where
  state : State
  is : o ≡ Some state
  rest : IsSome (after_all state rows)

first_of : (o : Option State) (rows : List Row) → IsSome (option_and_then (λ t. after_all t rows) o) → First o rows
first_of None rows h = absurd cc
first_of (Some u) rows h = record { state = u; is = refl; rest = h }

record Rises (lines : List Line) (n : ℕ) : Type 0 where
  ordered : IsNonDecreasingBy (λ (l : Line). l.turn) lines
  least : (j : ℕ) (d : Line) → j < length lines → n ≤ (get_or lines j d).turn

rises : (names : List (List ℕ)) (lines : List Line) (s : State) → IsSome (after_all s (rows_under names lines)) → Rises lines s.turn
rises names [] s h = record { ordered = λ i j d le lt. absurd (omega (arith, lt)); least = λ j d lt. absurd (omega (arith, lt)) }
rises names (l ∷ ls) s h =
    let one = first_of (after s (row_under names l)) (rows_under names ls) h in
    let t = turned s one.state (row_under names l) one.is in
    let rest = rises names ls one.state one.rest in
    record { ordered = λ i j d le lt. in_order i j d rest t.now le lt; least = λ j d lt. above j d rest t.now t.least lt }
  where
    above : {n m : ℕ} (j : ℕ) (d : Line) → Rises ls n → n ≡ l.turn → m ≤ l.turn → j < length (l ∷ ls) → m ≤ (get_or (l ∷ ls) j d).turn
    above zero d rest e le lt = le
    above (suc j) d rest e le lt = let r = rest.least j d (omega (arith, lt)) in omega (arith, r, e, le)

    in_order : {n : ℕ} (i j : ℕ) (d : Line) → Rises ls n → n ≡ l.turn → i ≤ j → j < length (l ∷ ls) → (get_or (l ∷ ls) i d).turn ≤ (get_or (l ∷ ls) j d).turn
    in_order zero zero d rest e le lt = omega arith
    in_order zero (suc j) d rest e le lt = let r = rest.least j d (omega (arith, lt)) in omega (arith, r, e)
    in_order (suc i) zero d rest e le lt = absurd (omega (arith, le))
    in_order (suc i) (suc j) d rest e le lt = rest.ordered i j d (omega (arith, le)) (omega (arith, lt))

pub turns_rise : (names : List (List ℕ)) (lines : List Line) → Obeys (rows_under names lines) → IsNonDecreasingBy (λ (l : Line). l.turn) lines
turns_rise names lines h = (rises names lines at_first h).ordered

-- ---- one line more is noted

front : (s : State) (a b : List Row) → IsSome (after_all s (a ++ b)) → (u : State) × (after_all s a ≡ Some u)
front s [] b h = (s, refl)
front s (r ∷ rs) b h =
    let one = first_of (after s r) (rs ++ b) h in
    let more = front one.state rs b one.rest in
    (more.0, ap (option_and_then (λ t. after_all t rs)) one.is ∙ more.1)

pub note_next : (names : List (List ℕ)) (lines : List Line) (i : ℕ) (d : Line) (xs ys : List Life) (bs cs : List Tie) → Obeys (rows_under names lines) → i < length lines
    → Kept names (rows_under names (take i lines)) xs bs → Notes names (get_or lines i d).turn (get_or lines i d).what xs ys bs cs → Kept names (rows_under names (take (i + 1) lines)) ys cs
note_next names lines i d xs ys bs cs obeys lt kept notes =
    let line = get_or lines i d in
    let more : rows_under names (take (i + 1) lines) ≡ rows_under names (take i lines) ++ row_under names line ∷ [] = map_more (row_under names) lines i d lt in
    let whole : rows_under names lines ≡ rows_under names (take (i + 1) lines) ++ rows_under names (drop (i + 1) lines) =
    ap (map (row_under names)) (sym (take-append-drop (i + 1) lines)) ∙ map-append (row_under names) (take (i + 1) lines) (drop (i + 1) lines) in
    let passes = front at_first (rows_under names (take (i + 1) lines)) (rows_under names (drop (i + 1) lines)) (subst Obeys whole obeys) in
    subst (λ rows. Kept names rows ys cs) (sym more)
    (kept_more names (rows_under names (take i lines)) line xs ys bs cs passes.0 kept (ap (after_all at_first) (sym more) ∙ passes.1) notes)

pub all_noted : (names : List (List ℕ)) (lines : List Line) (i : ℕ) (xs : List Life) (bs : List Tie) → length lines ≤ i → Kept names (rows_under names (take i lines)) xs bs
    → Tells names (rows_under names lines) xs bs
all_noted names lines i xs bs le kept = subst (λ ls. Tells names (rows_under names ls) xs bs) (take_all i lines le) kept.tells

-- ---- the next turn

abbrev Passed : ℕ → Line → Type 0
Passed n l = leb l.turn n ≡ true

abbrev Due : ℕ → Line → Type 0
Due n l = leb l.turn n ≡ false

pub next_is : (names : List (List ℕ)) (lines : List Line) (n p : ℕ) (d : Line) → p < length lines → IsPartitionPoint (Passed n) (Due n) lines p → (get_or lines p d).turn ≡ next_turn n (rows_under names lines)
next_is names [] n p d lt parts = absurd (omega (arith, lt))
next_is names (l ∷ ls) n zero d lt parts =
    let here : leb l.turn n ≡ false = parts.1 0 d (omega arith) lt in
    let test : ltb n l.turn ≡ true = grind (arith, nat_tests) in
    sym (ap (λ b. cond b l.turn (next_turn n (rows_under names ls))) test)
next_is names (l ∷ ls) n (suc p) d lt parts =
    let here : leb l.turn n ≡ true = parts.0 0 d (omega arith) (omega arith) in
    let test : ltb n l.turn ≡ false = grind (arith, nat_tests) in
    next_is names ls n p d (omega (arith, lt)) (λ k e a b. parts.0 (suc k) e (omega arith) (omega (arith, b)), λ k e a b. parts.1 (suc k) e (omega (arith, a)) (omega (arith, b)))
    ∙ sym (ap (λ b. cond b l.turn (next_turn n (rows_under names ls))) test)

pub next_none : (names : List (List ℕ)) (lines : List Line) (n p : ℕ) → length lines ≤ p → IsPartitionPoint (Passed n) (Due n) lines p → n ≡ next_turn n (rows_under names lines)
next_none names [] n p le parts = refl
next_none names (l ∷ ls) n zero le parts = absurd (omega (arith, le))
next_none names (l ∷ ls) n (suc p) le parts =
    let here : leb l.turn n ≡ true = parts.0 0 l (omega arith) (omega arith) in
    let test : ltb n l.turn ≡ false = grind (arith, nat_tests) in
    next_none names ls n p (omega (arith, le)) (λ k e a b. parts.0 (suc k) e (omega arith) (omega (arith, b)), λ k e a b. parts.1 (suc k) e (omega (arith, a)) (omega (arith, b)))
    ∙ sym (ap (λ b. cond b l.turn (next_turn n (rows_under names ls))) test)

-- ---- the last turn before

abbrev Before : ℕ → Line → Type 0
Before n l = ltb l.turn n ≡ true

abbrev From : ℕ → Line → Type 0
From n l = ltb l.turn n ≡ false

-- the turn of the line before a place, where it is one
abbrev last_at : Line → List Line → ℕ → (b : ℕ) → ℕ
last_at d lines zero b = b
last_at d lines (suc q) b = cond (leb 1 (get_or lines q d).turn) (get_or lines q d).turn b

last_is : (names : List (List ℕ)) (lines : List Line) (n b p : ℕ) (d : Line) → IsNonDecreasingBy (λ (l : Line). l.turn) lines → p ≤ length lines → IsPartitionPoint (Before n) (From n) lines p
    → last_turn n b (rows_under names lines) ≡ last_at d lines p b
last_is names [] n b zero d ordered le parts = refl
last_is names [] n b (suc p) d ordered le parts = absurd (omega (arith, le))
last_is names (l ∷ ls) n b zero d ordered le parts =
    let here : ltb l.turn n ≡ false = parts.1 0 d (omega arith) (omega arith) in
    ap (λ t. last_turn n (cond (t && leb 1 l.turn) l.turn b) (rows_under names ls)) here
    ∙ last_is names ls n b zero d (λ i j e le lt. ordered (suc i) (suc j) e (omega (arith, le)) (omega (arith, lt))) (omega arith)
    (λ k e a b. absurd (omega (arith, b)), λ k e a b. parts.1 (suc k) e (omega (arith, a)) (omega (arith, b)))
last_is names (l ∷ ls) n b (suc q) d ordered le parts =
    let here : ltb l.turn n ≡ true = parts.0 0 d (omega arith) (omega arith) in
    ap (λ t. last_turn n (cond (t && leb 1 l.turn) l.turn b) (rows_under names ls)) here
    ∙ last_is names ls n (cond (leb 1 l.turn) l.turn b) q d (λ i j e le lt. ordered (suc i) (suc j) e (omega (arith, le)) (omega (arith, lt))) (omega (arith, le))
    (λ k e a b. parts.0 (suc k) e (omega arith) (omega (arith, b)), λ k e a b. parts.1 (suc k) e (omega (arith, a)) (omega (arith, b)))
    ∙ joined q (λ j lt. ordered 0 (suc j) d (omega arith) (omega (arith, lt))) (omega (arith, le))
  where
    joined : (q : ℕ) → ((j : ℕ) → j < length ls → l.turn ≤ (get_or ls j d).turn) → q ≤ length ls → last_at d ls q (cond (leb 1 l.turn) l.turn b) ≡ last_at d (l ∷ ls) (suc q) b
    joined zero above le = refl
    joined (suc r) above le = by (leb 1 (get_or ls r d).turn) refl
      where
        by : (t : Bool) → leb 1 (get_or ls r d).turn ≡ t → cond t (get_or ls r d).turn (cond (leb 1 l.turn) l.turn b) ≡ cond t (get_or ls r d).turn b
        by true e = refl
        by false e =
            let a = above r (omega (arith, le)) in
            let none : leb 1 l.turn ≡ false = grind (arith, nat_tests) in
            ap (λ t. cond t l.turn b) none

pub last_none : (names : List (List ℕ)) (lines : List Line) (n p : ℕ) → IsNonDecreasingBy (λ (l : Line). l.turn) lines → p ≡ 0 → IsPartitionPoint (Before n) (From n) lines p → n ≡ last_turn n n (rows_under names lines)
last_none names lines n p ordered e parts =
    sym (last_is names lines n n 0 (record { turn = 0; what = said.Fault }) ordered (omega arith) (subst (IsPartitionPoint (Before n) (From n) lines) e parts))

behind : (p : ℕ) → (p ≡ 0 → ⊥) → p ≡ suc (p - 1)
behind p h = omega arith

pub last_some : (names : List (List ℕ)) (lines : List Line) (n p : ℕ) (d : Line) → IsNonDecreasingBy (λ (l : Line). l.turn) lines → p ≤ length lines → (p ≡ 0 → ⊥) → IsPartitionPoint (Before n) (From n) lines p
    → last_turn n n (rows_under names lines) ≡ cond (leb 1 (get_or lines (p - 1) d).turn) (get_or lines (p - 1) d).turn n
last_some names lines n p d ordered le some parts = last_is names lines n n p d ordered le parts ∙ ap (λ k. last_at d lines k n) (behind p some)

pub zero_turn : (t n : ℕ) → t ≡ 0 → n ≡ cond (leb 1 t) t n
zero_turn t n e = let test : leb 1 t ≡ false = grind (arith, nat_tests) in sym (ap (λ b. cond b t n) test)

pub other_turn : (t n : ℕ) → (t ≡ 0 → ⊥) → t ≡ cond (leb 1 t) t n
other_turn t n e = let test : leb 1 t ≡ true = one t e in sym (ap (λ b. cond b t n) test)
  where
    one : (t : ℕ) → (t ≡ 0 → ⊥) → leb 1 t ≡ true
    one zero e = absurd (e refl)
    one (suc t) e = let le : 1 ≤ suc t = omega arith in grind (arith, nat_tests)
