-- A line that passes fits, and what it leaves stands.
use Rattle.std.proofs.Common.{◌≡◌, ℕ, zero, suc, ◌+◌, ◌-◌, ◌<◌, ◌≤◌, ◌^◌, Bool, true, false, ◌&&◌, ◌||◌, eqb, leb, ltb, cond, not, List, [], ◌∷◌, ◌++◌, codes, length, get_or, set, All, Option, Some, None, refl, sym, ap, arith, subst, length-append}
use Rattle.std.proofs.lemmas.Bool.Decides.{nat_tests, Decides-eqb}
use Rattle.std.proofs.lemmas.Bool.{and_parts, false≢true}
use Rattle.std.proofs.lemmas.Slice.Eq.{bytes_eq-Decides}
use Rattle.std.proofs.lemmas.Option.{option_and_then_some, same_Some, slice_get_within}
use Rattle.std.proofs.lemmas.List.Elements.{All-set, All-push, All-nil}
use Rattle.std.proofs.lemmas.List.Quantifiers.{position-Some}
use Rattle.std.specs.List.{slice_get, slice_set}
use Rattle.std.specs.Option.{option_and_then}
use Rattle.std.specs.Str.{bytes_eq}
use Rattle.pv_script.specs.Words.{is_name}
use Rattle.pv_prov.specs.TestNumbers.{test_text}
use Rattle.pv_journal.specs.Journals.{Id, Fact, Made, Ended, Exposed, Paired, Used, Fault, Row}
use Rattle.pv_journal.specs.Obeying.{Held, Bond, State, at_first, same_id, place_of, held_at, is_open, ends_at, begins_at, is_id, left_of, may_leave, may_make, may_pair, with_held, keeping, end_at, expose_at, at_held, after_fact, after}
use Rattle.pv_journal.specs.Reading.{test_in}
use Rattle.pv_journal.proofs.Splits.{Lacks}
use Rattle.pv_journal.proofs.Letters.{Stranger, plain_lacks}
use Rattle.pv_journal.proofs.Complete.{FitsId, FitsSecond, FitsFact, Fits}
use Rattle.pv_journal.proofs.Sound.{if_some, either_some}

pub record HeldFits (x : Held) : Type 0 where
  pub id : FitsId x.id
  pub low : 4096 ≤ x.base
  pub high : x.base + x.size ≤ 2 ^ 47

pub record BondFits (b : Bond) : Type 0 where
  pub low : FitsId b.low
  pub high : FitsId b.high

pub record Stands (s : State) : Type 0 where
  pub held : All HeldFits s.held
  pub bonds : All BondFits s.bonds

pub first_stands : Stands at_first
first_stands = record { held = All-nil HeldFits; bonds = All-nil BondFits }

pub at_most : (a b : ℕ) → leb a b ≡ true → a ≤ b
at_most a b h = grind (arith, nat_tests)

pub below : (a b : ℕ) → ltb a b ≡ true → a < b
below a b h = grind (arith, nat_tests)

pub same_id_is : (a b : Id) → same_id a b ≡ true → a ≡ b
same_id_is a b h =
    let q = and_parts (eqb a.k b.k) (bytes_eq a.name b.name) h in
    let name : a.name ≡ b.name = (bytes_eq-Decides a.name b.name).0 q.1 in
    let k : a.k ≡ b.k = (Decides-eqb a.k b.k).0 q.0 in
    λ i. record { name = name i; k = k i }

fits_id : (id : Id) → is_id id ≡ true → FitsId id
fits_id id h =
    let q = and_parts (is_name id.name) (leb 1 id.k && ltb id.k (2 ^ 64)) h in
    record { name = q.0; k = below id.k (2 ^ 64) (and_parts (leb 1 id.k) (ltb id.k (2 ^ 64)) q.1).1 }

all_get : {X : Type 0} (P : X → Type 0) (xs : List X) (i : ℕ) (x : X) → All P xs → slice_get xs i ≡ Some x → P x
all_get P xs i x all h = by (get_is xs i x h) (all i x (slice_get_within xs i x h))
  where
    get_is : {X : Type 0} (xs : List X) (i : ℕ) (x : X) → slice_get xs i ≡ Some x → get_or xs i x ≡ x
    get_is [] i x h = refl
    get_is (y ∷ ys) zero x h = same_Some y x h
    get_is (y ∷ ys) (suc i) x h = get_is ys i x h

    by : get_or xs i x ≡ x → P (get_or xs i x) → P x
    by e p = subst P e p

-- the instance that is found is the one that was looked for
found : (xs : List Held) (id : Id) (i : ℕ) (x : Held) → place_of xs id ≡ Some i → slice_get xs i ≡ Some x → x.id ≡ id
found xs id i x h g =
    let p = (position-Some (λ (x : Held). same_id x.id id) xs i x h).1 in
    same_id_is x.id id (subst (λ (y : Held). same_id y.id id ≡ true) (get_is xs i x g) p)
  where
    get_is : {X : Type 0} (xs : List X) (i : ℕ) (x : X) → slice_get xs i ≡ Some x → get_or xs i x ≡ x
    get_is [] i x h = refl
    get_is (y ∷ ys) zero x h = same_Some y x h
    get_is (y ∷ ys) (suc i) x h = get_is ys i x h

pub held_fits : (xs : List Held) (id : Id) (x : Held) → All HeldFits xs → held_at xs id ≡ Some x → FitsId id × HeldFits x
held_fits xs id x all h =
    option_and_then_some (λ i. slice_get xs i) (place_of xs id) x h (λ i p g.
    let f : HeldFits x = all_get HeldFits xs i x all g in (subst FitsId (found xs id i x p g) f.id, f))

-- what is done to an instance
at_held_some : {P : Type 0} (s : State) (id : Id) (f : ℕ → Held → Option State) (t : State) → at_held s id f ≡ Some t
    → ((i : ℕ) (x : Held) → place_of s.held id ≡ Some i → slice_get s.held i ≡ Some x → f i x ≡ Some t → P) → P
at_held_some s id f t h k =
    option_and_then_some (λ i. option_and_then (f i) (slice_get s.held i)) (place_of s.held id) t h (λ i p g. option_and_then_some (f i) (slice_get s.held i) t g (λ x q e. k i x p q e))

-- ---- tests

abbrev pub TestFits : ℕ → Type 0
TestFits n = ((test_in (codes "test=" ++ test_text n) ≡ Some n) × ((c : ℕ) → Stranger c → Lacks c (test_text n)))

test_1 : TestFits 1
test_1 = (refl, λ c s. plain_lacks c s.plain (codes "live") refl)

test_2 : TestFits 2
test_2 = (refl, λ c s. plain_lacks c s.plain (codes "range") refl)

test_3 : TestFits 3
test_3 = (refl, λ c s. plain_lacks c s.plain (codes "block") refl)

test_4 : TestFits 4
test_4 = (refl, λ c s. plain_lacks c s.plain (codes "same") refl)

test_5 : TestFits 5
test_5 = (refl, λ c s. plain_lacks c s.plain (codes "code") refl)

test_fits : (n : ℕ) (a b c : Bool) → cond (eqb n 1) a (cond (eqb n 3) b (cond (eqb n 5) c (eqb n 2 || eqb n 4))) ≡ true → TestFits n
test_fits n a b c h = by (eqb n 1) (eqb n 3) (eqb n 5) (eqb n 2) (eqb n 4) ((Decides-eqb n 1).0) ((Decides-eqb n 3).0) ((Decides-eqb n 5).0) ((Decides-eqb n 2).0) ((Decides-eqb n 4).0) h
  where
    by : (d e f g i : Bool) → (d ≡ true → n ≡ 1) → (e ≡ true → n ≡ 3) → (f ≡ true → n ≡ 5) → (g ≡ true → n ≡ 2) → (i ≡ true → n ≡ 4)
        → cond d a (cond e b (cond f c (g || i))) ≡ true → TestFits n
    by true e f g i p q r s t h = subst TestFits (sym (p refl)) test_1
    by false true f g i p q r s t h = subst TestFits (sym (q refl)) test_3
    by false false true g i p q r s t h = subst TestFits (sym (r refl)) test_5
    by false false false true i p q r s t h = subst TestFits (sym (s refl)) test_2
    by false false false false true p q r s t h = subst TestFits (sym (t refl)) test_4
    by false false false false false p q r s t h = absurd (false≢true h)

left_fits : (b : Bond) (first : Id) (second : Option Id) (kept : Bool × Bool) → BondFits b → left_of b first second ≡ Some kept → FitsId first × FitsSecond second
left_fits b first None kept f h =
    either_some (same_id first b.low) _ _ kept h (λ t e. (subst FitsId (sym (same_id_is first b.low t)) f.low, tt)) (λ h.
    if_some (same_id first b.high) _ kept h (λ t e. (subst FitsId (sym (same_id_is first b.high t)) f.high, tt)))
left_fits b first (Some second) kept f h =
    if_some (same_id first b.low && same_id second b.high) _ kept h (λ t e.
    let q = and_parts (same_id first b.low) (same_id second b.high) t in
    (subst FitsId (sym (same_id_is first b.low q.0)) f.low, subst FitsId (sym (same_id_is second b.high q.1)) f.high))

open_some : {P : Type 0} (o : Option Held) → is_open o ≡ true → ((x : Held) → o ≡ Some x → P) → P
open_some None h k = absurd (false≢true h)
open_some (Some x) h k = k x refl

-- ---- lines

-- what a line leaves: it fits, what it leaves stands, and there is at most one pair more
abbrev pub Passes : State → Fact → State → Type 0
Passes s f t = FitsFact f × Stands t × (length t.bonds ≤ length s.bonds + 1)

made_passes : (s : State) (id : Id) (base size : ℕ) (t : State) → Stands s → after_fact s (Made id base size) ≡ Some t → Passes s (Made id base size) t
made_passes s id base size t st h =
    if_some (may_make s.held id base size) _ t h (λ may e.
    let a = and_parts (is_id id) _ may in
    let b = and_parts _ _ a.1 in
    let c = and_parts (leb 1 size) _ b.1 in
    let d = and_parts (leb 4096 base) _ c.1 in
    let f = and_parts (leb (base + size) (2 ^ 47)) _ d.1 in
    let low = at_most 4096 base d.0 in
    let high = at_most (base + size) (2 ^ 47) f.0 in
    let i : FitsId id = fits_id id a.0 in
    let x : Held = record { id = id; base = base; size = size; live = true; exposed = false } in
    let all : All HeldFits (s.held ++ x ∷ []) = All-push HeldFits s.held x st.held (record { id = i; low = low; high = high }) in
    let new : Stands (record s { held = s.held ++ x ∷ [] }) = record { held = all; bonds = st.bonds } in (
      (i, omega (arith, low), omega (arith, high), omega (arith, high)),
      subst Stands (same_Some (record s { held = s.held ++ x ∷ [] }) t e) new,
      subst (λ (t : State). length t.bonds ≤ length s.bonds + 1) (same_Some (record s { held = s.held ++ x ∷ [] }) t e) (omega arith),
    ))

with_held_stands : (s : State) (i : ℕ) (x : Held) → Stands s → HeldFits x → Stands (with_held s i x)
with_held_stands s i x st f = record { held = All-set HeldFits s.held i x f st.held; bonds = st.bonds }

ended_passes : (s : State) (id : Id) (t : State) → Stands s → after_fact s (Ended id) ≡ Some t → Passes s (Ended id) t
ended_passes s id t st h =
    at_held_some s id (λ i x. end_at s i x) t h (λ i x p g e. if_some x.live _ t e (λ l e.
    let f : HeldFits x = all_get HeldFits s.held i x st.held g in
    let y : Held = record x { live = false } in
    let z = same_Some (with_held s i y) t e in (
      subst FitsId (found s.held id i x p g) f.id,
      subst Stands z (with_held_stands s i y st (record { id = f.id; low = f.low; high = f.high })),
      subst (λ (t : State). length t.bonds ≤ length s.bonds + 1) z (omega arith),
    )))

exposed_passes : (s : State) (id : Id) (t : State) → Stands s → after_fact s (Exposed id) ≡ Some t → Passes s (Exposed id) t
exposed_passes s id t st h =
    at_held_some s id (λ i x. expose_at s i x) t h (λ i x p g e. if_some (x.live && not x.exposed) _ t e (λ l e.
    let f : HeldFits x = all_get HeldFits s.held i x st.held g in
    let y : Held = record x { exposed = true } in
    let z = same_Some (with_held s i y) t e in (
      subst FitsId (found s.held id i x p g) f.id,
      subst Stands z (with_held_stands s i y st (record { id = f.id; low = f.low; high = f.high })),
      subst (λ (t : State). length t.bonds ≤ length s.bonds + 1) z (omega arith),
    )))

pub length-snoc : {X : Type 0} (xs : List X) (x : X) → length (xs ++ x ∷ []) ≡ length xs + 1
length-snoc xs x = length-append xs (x ∷ [])

paired_passes : (s : State) (pair address : ℕ) (low high : Id) (t : State) → Stands s → length s.bonds + 1 < 2 ^ 64 → after_fact s (Paired pair address low high) ≡ Some t
    → Passes s (Paired pair address low high) t
paired_passes s pair address low high t st few h =
    if_some (may_pair s pair address low high) _ t h (λ may e.
    let a = and_parts (eqb pair (length s.bonds + 1)) _ may in
    let b = and_parts (is_open (held_at s.held low)) _ a.1 in
    let c = and_parts (is_open (held_at s.held high)) _ b.1 in
    let d = and_parts (ends_at (held_at s.held low) address) (begins_at (held_at s.held high) address) c.1 in
    open_some (held_at s.held low) b.0 (λ l le. open_some (held_at s.held high) c.0 (λ g ge.
    let lf = held_fits s.held low l st.held le in
    let gf = held_fits s.held high g st.held ge in
    let begins : g.base ≡ address = (Decides-eqb g.base address).0 (subst (λ o. begins_at o address ≡ true) ge d.1) in
    let number : pair ≡ length s.bonds + 1 = (Decides-eqb pair (length s.bonds + 1)).0 a.0 in
    let from = gf.1.low in
    let upto = gf.1.high in
    let x : Bond = record { address = address; low = low; high = high; keeps_low = true; keeps_high = true } in
    let new : Stands (record s { bonds = s.bonds ++ x ∷ [] }) = record { held = st.held; bonds = All-push BondFits s.bonds x st.bonds (record { low = lf.0; high = gf.0 }) } in
    let z = same_Some (record s { bonds = s.bonds ++ x ∷ [] }) t e in (
      (omega (arith, number, few), omega (arith, begins, from), omega (arith, begins, upto), lf.0, gf.0),
      subst Stands z new,
      subst (λ (t : State). length t.bonds ≤ length s.bonds + 1) z (omega (arith, length-snoc s.bonds x)),
    ))))

length-set : {X : Type 0} (xs : List X) (i : ℕ) (x : X) → length (set xs i x) ≡ length xs
length-set [] i x = refl
length-set (y ∷ ys) zero x = refl
length-set (y ∷ ys) (suc i) x = ap suc (length-set ys i x)

used_passes : (s : State) (pair test : ℕ) (first : Id) (second : Option Id) (t : State) → Stands s → length s.bonds + 1 < 2 ^ 64 → after_fact s (Used pair test first second) ≡ Some t
    → Passes s (Used pair test first second) t
used_passes s pair test first second t st few h =
    if_some (leb 1 pair) _ t h (λ some h. option_and_then_some _ (slice_get s.bonds (pair - 1)) t h (λ b g h.
    if_some (b.keeps_low && b.keeps_high) _ t h (λ keeps h. option_and_then_some _ (left_of b first second) t h (λ kept l h.
    if_some (may_leave s.held b test kept.0 kept.1) _ t h (λ may e.
    let within = slice_get_within s.bonds (pair - 1) b g in
    let f : BondFits b = all_get BondFits s.bonds (pair - 1) b st.bonds g in
    let w = (and_parts _ _ (and_parts _ _ may).1).1 in
    let n : TestFits test = test_fits test _ _ _ w in
    let ids = left_fits b first second kept f l in
    let x : Bond = keeping b kept in
    let new : Stands (record s { bonds = slice_set s.bonds (pair - 1) x }) = record { held = st.held; bonds = All-set BondFits s.bonds (pair - 1) x (record { low = f.low; high = f.high }) st.bonds } in
    let z = same_Some (record s { bonds = slice_set s.bonds (pair - 1) x }) t e in
    let from = at_most 1 pair some in (
      (omega (arith, within, few, from), n.0, n.1, ids.0, ids.1),
      subst Stands z new,
      subst (λ (t : State). length t.bonds ≤ length s.bonds + 1) z (omega (arith, length-set s.bonds (pair - 1) x)),
    ))))))

fact_passes : (s : State) (f : Fact) (t : State) → Stands s → length s.bonds + 1 < 2 ^ 64 → after_fact s f ≡ Some t → Passes s f t
fact_passes s (Made id base size) t st few h = made_passes s id base size t st h
fact_passes s (Ended id) t st few h = ended_passes s id t st h
fact_passes s (Exposed id) t st few h = exposed_passes s id t st h
fact_passes s (Paired pair address low high) t st few h = paired_passes s pair address low high t st few h
fact_passes s (Used pair test first second) t st few h = used_passes s pair test first second t st few h
fact_passes s Fault t st few h =
    let z = same_Some (record s { over = true }) t h in
    (tt, subst Stands z (record { held = st.held; bonds = st.bonds }), subst (λ (t : State). length t.bonds ≤ length s.bonds + 1) z (omega arith))

-- a line that passes fits, and what it leaves stands
pub row_passes : (s : State) (row : Row) (t : State) → Stands s → length s.bonds + 1 < 2 ^ 64 → after s row ≡ Some t → Fits row × Stands t × (length t.bonds ≤ length s.bonds + 1)
row_passes s row t st few h =
    if_some (not s.over && (leb s.turn row.turn && ltb row.turn (2 ^ 64))) _ t h (λ ok e.
    let a = and_parts (not s.over) _ ok in
    let b = and_parts (leb s.turn row.turn) (ltb row.turn (2 ^ 64)) a.1 in
    let p = fact_passes (record s { turn = row.turn }) row.says t (record { held = st.held; bonds = st.bonds }) few e in
    ((below row.turn (2 ^ 64) b.1, p.0), p.1, p.2))
