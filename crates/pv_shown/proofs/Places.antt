-- Where an instance stands among instances of which no two are one.
use Rattle.std.proofs.Common.{◌≡◌, ℕ, zero, suc, ◌<◌, Bool, true, false, ◌||◌, cond, eqb, ltb, not, List, [], ◌∷◌, ◌++◌, length, get_or, set, Option, Some, None, refl, sym, ap, ◌∙◌, subst, ⊎_elim, arith, position}
use Rattle.std.proofs.lemmas.Bool.{and_parts}
use Rattle.std.proofs.lemmas.Bool.Decides.{Decides-eqb, nat_tests}
use Rattle.std.proofs.lemmas.Slice.Eq.{bytes_eq-Decides}
use Rattle.std.proofs.lemmas.Option.{none-some, same_Some, slice_get_within, get_or_from_slice_get, slice_get-get_or}
use Rattle.std.proofs.lemmas.List.Sums.{position_or_len_is, prefix_len-le-length}
use Rattle.std.proofs.lemmas.List.Quantifiers.{position-Some}
use Rattle.std.specs.Prelude.{IfSome}
use Rattle.std.specs.Option.{option_map}
use Rattle.std.specs.List.{position_or_len, slice_get, list_all}
use Rattle.std.specs.Str.{bytes_eq}
use Rattle.pv_journal.specs.Journals.{Id}
use Rattle.pv_journal.specs.Obeying.{Held, same_id, exceeds}
use Rattle.pv_journal.proofs.Indices.{get_push, get_set}

abbrev pub AreApart : List Held → Type 0
AreApart xs = (j k : ℕ) (x y : Held) → j < k → slice_get xs j ≡ Some x → slice_get xs k ≡ Some y → x.id ≡ y.id → ⊥

same_id_is : (a b : Id) → same_id a b ≡ true → a ≡ b
same_id_is a b h =
    let p = and_parts (eqb a.k b.k) (bytes_eq a.name b.name) h in
    let k = (Decides-eqb a.k b.k).0 p.0 in
    let n = (bytes_eq-Decides a.name b.name).0 p.1 in
    λ i. record { name = n i; k = k i }

refuted : (b : Bool) → (b ≡ true → ⊥) → b ≡ false
refuted true h = absurd (h refl)
refuted false h = refl

-- what is found is the place
pub stands_at : (xs : List Held) (id : Id) (i : ℕ) (x : Held) → AreApart xs → slice_get xs i ≡ Some x → same_id x.id id ≡ true → position (λ (y : Held). same_id y.id id) xs ≡ Some i
stands_at xs id i x apart g h =
    let within = slice_get_within xs i x g in
    let p : Held → Bool = λ y. same_id y.id id in
    let here : p (get_or xs i x) ≡ true = ap p (get_or_from_slice_get xs i x x g) ∙ h in
    let e : position_or_len p xs ≡ i = position_or_len_is p xs i x (omega (arith, within)) (λ k l.
    refuted (p (get_or xs k x)) (λ t.
    apart k i (get_or xs k x) x l (slice_get-get_or xs k x (omega (arith, l, within))) g
    (same_id_is (get_or xs k x).id id t ∙ sym (same_id_is x.id id h)))) (λ w. here) in
    let t : ltb i (length xs) ≡ true = grind (arith, nat_tests) in
    ap (λ n. cond (ltb n (length xs)) (Some n) None) e ∙ ap (λ b. cond b (Some i) None) t

exceeded : (y : Held) (zs : List Held) (j : ℕ) (a : Held) → slice_get zs j ≡ Some a → list_all (exceeds y.id) zs ≡ true → a.id ≡ y.id → ⊥
exceeded y [] j a p t e = none-some a p
exceeded y (z ∷ zs) zero a p t e =
    let here = (and_parts (exceeds y.id z) (list_all (exceeds y.id) zs) t).0 in
    let same : z.id ≡ y.id = ap (λ (w : Held). w.id) (same_Some z a p) ∙ e in
    let name : bytes_eq z.id.name y.id.name ≡ true = (bytes_eq-Decides z.id.name y.id.name).1 (ap (λ (x : Id). x.name) same) in
    let k : z.id.k ≡ y.id.k = ap (λ (x : Id). x.k) same in
    let less : ltb z.id.k y.id.k ≡ true = sym (ap (λ b. not b || ltb z.id.k y.id.k) name) ∙ here in
    let lt : z.id.k < y.id.k = grind (arith, nat_tests) in
    omega (arith, k, lt)
exceeded y (z ∷ zs) (suc j) a p t e = exceeded y zs j a p (and_parts (exceeds y.id z) (list_all (exceeds y.id) zs) t).1 e

pub apart_push : (xs : List Held) (y : Held) → AreApart xs → list_all (exceeds y.id) xs ≡ true → AreApart (xs ++ y ∷ [])
apart_push xs y apart above j k a b l g h =
    ⊎_elim
    (λ q. ⊎_elim (λ p. apart j k a b l p q) (λ p. absurd (let w = slice_get_within xs k b q in omega (arith, p.0, l, w))) (get_push xs y j a g))
    (λ q. ⊎_elim
    (λ p. λ e. exceeded y xs j a p above (e ∙ ap (λ (w : Held). w.id) q.1))
    (λ p. absurd (omega (arith, p.0, q.0, l)))
    (get_push xs y j a g))
    (get_push xs y k b h)

pub apart_set : (xs : List Held) (i : ℕ) (x y : Held) → slice_get xs i ≡ Some x → y.id ≡ x.id → AreApart xs → AreApart (set xs i y)
apart_set xs i x y at e apart j k a b l g h =
    ⊎_elim
    (λ p. ⊎_elim
    (λ q. absurd (omega (arith, p.0, q.0, l)))
    (λ q. λ t. apart j k x b l (subst (λ (n : ℕ). slice_get xs n ≡ Some x) (sym p.0) at) q.1 (sym e ∙ ap (λ (w : Held). w.id) (sym p.1) ∙ t))
    (get_set xs i y k b h))
    (λ p. ⊎_elim
    (λ q. λ t. apart j k a x l p.1 (subst (λ (n : ℕ). slice_get xs n ≡ Some x) (sym q.0) at) (t ∙ ap (λ (w : Held). w.id) q.1 ∙ e))
    (λ q. apart j k a b l p.1 q.1)
    (get_set xs i y k b h))
    (get_set xs i y j a g)

-- ---- what a search finds

pub found_at : {X : Type 0} (p : X → Bool) (xs : List X) (r : Option ℕ) → r ≡ position p xs → IfSome r (λ i. option_map p (slice_get xs i) ≡ Some true)
found_at p xs None e = tt
found_at p [] (Some i) e = absurd (none-some i (sym e))
found_at p (x ∷ xs) (Some i) e =
    let at = position-Some p (x ∷ xs) i x (sym e) in
    ap (option_map p) (slice_get-get_or (x ∷ xs) i x at.0) ∙ ap Some at.1

pub at_is : {X : Type 0} (p : X → Bool) (xs : List X) (i : ℕ) (x : X) → option_map p (slice_get xs i) ≡ Some true → slice_get xs i ≡ Some x → p x ≡ true
at_is p xs i x h at = same_Some (p x) true (sym (ap (option_map p) at) ∙ h)

pub some_place : {X : Type 0} (p : X → Bool) (xs : List X) (i : ℕ) → Some i ≡ position p xs → i ≡ position_or_len p xs
some_place p xs i e = by (ltb (position_or_len p xs) (length xs)) e
  where
    by : (b : Bool) → Some i ≡ cond b (Some (position_or_len p xs)) None → i ≡ position_or_len p xs
    by true h = same_Some i (position_or_len p xs) h
    by false h = absurd (none-some i (sym h))

pub no_place : {X : Type 0} (p : X → Bool) (xs : List X) → None ≡ position p xs → length xs ≡ position_or_len p xs
no_place p xs e = by (ltb (position_or_len p xs) (length xs)) refl e
  where
    by : (b : Bool) → ltb (position_or_len p xs) (length xs) ≡ b → None ≡ cond b (Some (position_or_len p xs)) None → length xs ≡ position_or_len p xs
    by true t h = absurd (none-some (position_or_len p xs) h)
    by false t h = let le = prefix_len-le-length (λ x. not (p x)) xs in grind (arith, nat_tests)
