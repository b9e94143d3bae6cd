-- Who is who is known from what was told: the instance of a number is the one that was told of as many makings before, and so with pairs.
use Rattle.std.proofs.Common.{◌≡◌, ◌≢◌, ℕ, zero, suc, ◌+◌, ◌-◌, ◌<◌, Bool, true, false, cond, eqb, ltb, List, [], ◌∷◌, ◌++◌, codes, length, Option, Some, None, refl, sym, ap, ◌∙◌, ◌⊎◌, inl, inr, arith, subst}
use Rattle.std.proofs.lemmas.Bool.{false≢true}
use Rattle.std.proofs.lemmas.Bool.Decides.{nat_tests, Decides-eqb}
use Rattle.std.proofs.lemmas.Option.{none-some, same_Some}
use Rattle.std.specs.List.{slice_get}
use Rattle.std.specs.Option.{option_or}
use Rattle.std.specs.Fmt.{decimal}
use Rattle.pv_script.specs.Words.{is_name}
use Rattle.pv_script.specs.Names.{name_at}
use Rattle.pv_watch.specs.declared.event.Event.{Event}
use Rattle.pv_watch.specs.declared.event.What.{What}
use Rattle.pv_watch.specs.declared.event.What.TheVariants as what
use Rattle.pv_watch.specs.Lines.{first_told, making_of, making_of_pair, text_of_instance, instance_text}
use Rattle.pv_journal.specs.Journals.{Id, id_text}

-- ---- what was told first

told-snoc : {A : Type 0} (f : What → Option A) (es : List Event) (e : Event) → first_told f (es ++ e ∷ []) ≡ option_or (first_told f es) (option_or (f e.what) None)
told-snoc f [] e = refl
told-snoc {A} f (d ∷ es) e = by (f d.what) (told-snoc f es e)
  where
    by : (o : Option A) → first_told f (es ++ e ∷ []) ≡ option_or (first_told f es) (option_or (f e.what) None) → option_or o (first_told f (es ++ e ∷ [])) ≡ option_or (option_or o (first_told f es)) (option_or (f e.what) None)
    by None h = h
    by (Some x) h = refl

told-more : {A : Type 0} (f : What → Option A) (es fs : List Event) (x : A) → first_told f es ≡ Some x → first_told f (es ++ fs) ≡ Some x
told-more f [] fs x h = absurd (none-some x h)
told-more {A} f (d ∷ es) fs x h = by (f d.what) h (told-more f es fs x)
  where
    by : (o : Option A) → option_or o (first_told f es) ≡ Some x → (first_told f es ≡ Some x → first_told f (es ++ fs) ≡ Some x) → option_or o (first_told f (es ++ fs)) ≡ Some x
    by None h g = g h
    by (Some y) h g = h

-- what is told now, where nothing was before
told-now : {A : Type 0} (f : What → Option A) (es : List Event) (e : Event) (x : A) → first_told f es ≡ None → f e.what ≡ Some x → first_told f (es ++ e ∷ []) ≡ Some x
told-now f es e x h g = told-snoc f es e ∙ ap (λ o. option_or o (option_or (f e.what) None)) h ∙ ap (λ o. option_or o None) g

-- nothing, still
told-not : {A : Type 0} (f : What → Option A) (es : List Event) (e : Event) → first_told f es ≡ None → f e.what ≡ None → first_told f (es ++ e ∷ []) ≡ None
told-not f es e h g = told-snoc f es e ∙ ap (λ o. option_or o (option_or (f e.what) None)) h ∙ ap (λ o. option_or o None) g

-- ---- who an instance is

-- the making of this instance was told, under this name and number
pub record IsMade (seen : List Event) (names : List (List ℕ)) (i : ℕ) (id : Id) : Type 0 where
  pub first : ℕ × ℕ
  pub told : first_told (making_of i) seen ≡ Some first
  pub text : text_of_instance names (Some first) ≡ id_text id

pub made_text : (seen : List Event) (names : List (List ℕ)) (i : ℕ) (id : Id) → IsMade seen names i id → instance_text seen names i ≡ id_text id
made_text seen names i id m = ap (text_of_instance names) m.told ∙ m.text

pub made_more : (seen more : List Event) (names : List (List ℕ)) (i : ℕ) (id : Id) → IsMade seen names i id → IsMade (seen ++ more) names i id
made_more seen more names i id m = record { first = m.first; told = told-more (making_of i) seen more m.first m.told; text = m.text }

-- the making of this pair was told, of these two
pub record IsPaired (seen : List Event) (names : List (List ℕ)) (k : ℕ) (left right : Id) : Type 0 where
  pub first : ℕ × ℕ
  pub told : first_told (making_of_pair k) seen ≡ Some first
  pub low : IsMade seen names first.0 left
  pub high : IsMade seen names first.1 right

pub paired_more : (seen more : List Event) (names : List (List ℕ)) (k : ℕ) (low high : Id) → IsPaired seen names k low high → IsPaired (seen ++ more) names k low high
paired_more seen more names k low high m = record {
  first = m.first;
  told = told-more (making_of_pair k) seen more m.first m.told;
  low = made_more seen more names m.first.0 low m.low;
  high = made_more seen more names m.first.1 high m.high;
}

-- an element by its number, the first one being number 1
abbrev pub at_number : {X : Type 0} → List X → ℕ → Option X
at_number xs i = cond (eqb i 0) None (slice_get xs (i - 1))

-- all that was told makes known these instances and these pairs, and no more
pub record Knows (names : List (List ℕ)) (seen : List Event) (ids : List Id) (twos : List (Id × Id)) : Type 0 where
  pub made : (i : ℕ) (id : Id) → at_number ids i ≡ Some id → IsMade seen names i id
  pub unmade : (i : ℕ) → length ids < i → first_told (making_of i) seen ≡ None
  pub paired : (k : ℕ) (low high : Id) → at_number twos k ≡ Some (low, high) → IsPaired seen names k low high
  pub unpaired : (k : ℕ) → length twos < k → first_told (making_of_pair k) seen ≡ None

pub knows_none : (names : List (List ℕ)) → Knows names [] [] []
knows_none names = record {
  made = λ i id e. absurd (nobody i id e);
  unmade = λ i l. refl;
  paired = λ k low high e. absurd (nobody k (low, high) e);
  unpaired = λ k l. refl;
}
  where
    slice_none : {X : Type 0} (i : ℕ) (x : X) → slice_get {X = X} [] i ≡ Some x → ⊥
    slice_none zero x e = none-some x e
    slice_none (suc i) x e = none-some x e

    nobody : {X : Type 0} (i : ℕ) (x : X) → at_number {X = X} [] i ≡ Some x → ⊥
    nobody {X} i x e = by (eqb i 0) e
      where
        by : (b : Bool) → cond b None (slice_get {X = X} [] (i - 1)) ≡ Some x → ⊥
        by true e = none-some x e
        by false e = slice_none (i - 1) x e

-- ---- one more event

-- an event that makes nothing
abbrev pub MakesNone : What → Type 0
MakesNone w = ((i : ℕ) → making_of i w ≡ None) × ((k : ℕ) → making_of_pair k w ≡ None)

pub knows_still : (names : List (List ℕ)) (seen : List Event) (e : Event) (ids : List Id) (twos : List (Id × Id)) → MakesNone e.what → Knows names seen ids twos → Knows names (seen ++ e ∷ []) ids twos
knows_still names seen e ids twos n h = record {
  made = λ i id g. made_more seen (e ∷ []) names i id (h.made i id g);
  unmade = λ i l. told-not (making_of i) seen e (h.unmade i l) (n.0 i);
  paired = λ k low high g. paired_more seen (e ∷ []) names k low high (h.paired k low high g);
  unpaired = λ k l. told-not (making_of_pair k) seen e (h.unpaired k l) (n.1 k);
}

-- an element of a list with one more
number_pushed : {X : Type 0} (xs : List X) (y x : X) (i : ℕ) → at_number (xs ++ y ∷ []) i ≡ Some x → (at_number xs i ≡ Some x) ⊎ ((i ≡ length xs + 1) × (y ≡ x))
number_pushed {X} xs y x i e = by (eqb i 0) refl e
  where
    nothing : (k : ℕ) → slice_get {X = X} [] k ≡ None
    nothing zero = refl
    nothing (suc k) = refl

    pushed : (zs : List X) (k : ℕ) → slice_get (zs ++ y ∷ []) k ≡ Some x → (slice_get zs k ≡ Some x) ⊎ ((k ≡ length zs) × (y ≡ x))
    pushed [] zero e = inr (refl, same_Some y x e)
    pushed [] (suc k) e = absurd (none-some x (sym (nothing k) ∙ e))
    pushed (z ∷ zs) zero e = inl e
    pushed (z ∷ zs) (suc k) e = next (pushed zs k e)
      where
        next : (slice_get zs k ≡ Some x) ⊎ ((k ≡ length zs) × (y ≡ x)) → (slice_get zs k ≡ Some x) ⊎ ((suc k ≡ suc (length zs)) × (y ≡ x))
        next (inl h) = inl h
        next (inr h) = inr (ap suc h.0, h.1)

    by : (b : Bool) → eqb i 0 ≡ b → cond b None (slice_get (xs ++ y ∷ []) (i - 1)) ≡ Some x → (cond b None (slice_get xs (i - 1)) ≡ Some x) ⊎ ((i ≡ length xs + 1) × (y ≡ x))
    by true q e = absurd (none-some x e)
    by false q e = next (pushed xs (i - 1) e)
      where
        next : (slice_get xs (i - 1) ≡ Some x) ⊎ ((i - 1 ≡ length xs) × (y ≡ x)) → (slice_get xs (i - 1) ≡ Some x) ⊎ ((i ≡ length xs + 1) × (y ≡ x))
        next (inl h) = inl h
        next (inr h) = inr (let p = h.0 in grind (arith, nat_tests), h.1)

length_snoc : {X : Type 0} (xs : List X) (y : X) → length (xs ++ y ∷ []) ≡ length xs + 1
length_snoc [] y = refl
length_snoc (x ∷ xs) y = let h = length_snoc xs y in omega (arith, h)

eqb_so : (n : ℕ) → eqb n n ≡ true
eqb_so n = (Decides-eqb n n).1 refl

eqb_not : (n m : ℕ) → n ≢ m → eqb n m ≡ false
eqb_not n m h = by (eqb n m) refl
  where
    by : (b : Bool) → eqb n m ≡ b → b ≡ false
    by true e = absurd (h ((Decides-eqb n m).0 e))
    by false e = refl

-- a name that has a text
named_is : (names : List (List ℕ)) (n k : ℕ) → is_name (name_at names n) ≡ true → text_of_instance names (Some (n, k)) ≡ id_text (record { name = name_at names n; k = k })
named_is names n k h =
    let within : n < length names = within names n h in
    let test : ltb n (length names) ≡ true = grind (arith, nat_tests) in
    ap (λ b. cond b (name_at names n ++ codes "#" ++ decimal k) (codes "?")) test
  where
    within : (names : List (List ℕ)) (n : ℕ) → is_name (name_at names n) ≡ true → n < length names
    within [] zero h = absurd (false≢true h)
    within [] (suc n) h = absurd (false≢true h)
    within (x ∷ xs) zero h = omega arith
    within (x ∷ xs) (suc n) h = let l = within xs n h in omega (arith, l)

-- an instance is made that has the next number
pub knows_made : (names : List (List ℕ)) (seen : List Event) (turn inst name k base size : ℕ) (ids : List Id) (twos : List (Id × Id)) → inst ≡ length ids + 1 → is_name (name_at names name) ≡ true → Knows names seen ids twos
    → Knows names (seen ++ record { turn = turn; what = what.Made inst name k base size } ∷ []) (ids ++ record { name = name_at names name; k = k } ∷ []) twos
knows_made names seen turn inst name k base size ids twos next valid h = record {
  made = λ i id g. by i id (number_pushed ids new id i g);
  unmade = λ i l. told-not (making_of i) seen e (h.unmade i (let n = length_snoc ids new in omega (arith, l, n))) (other i (λ q. let n = length_snoc ids new in omega (arith, l, n, next, q)));
  paired = λ j low high g. paired_more seen (e ∷ []) names j low high (h.paired j low high g);
  unpaired = λ j l. told-not (making_of_pair j) seen e (h.unpaired j l) refl;
}
  where
    e : Event
    e = record { turn = turn; what = what.Made inst name k base size }

    new : Id
    new = record { name = name_at names name; k = k }

    other : (i : ℕ) → inst ≢ i → making_of i (what.Made inst name k base size) ≡ None
    other i n = ap (λ b. cond b (Some (name, k)) None) (eqb_not inst i n)

    here : making_of inst (what.Made inst name k base size) ≡ Some (name, k)
    here = ap (λ b. cond b (Some (name, k)) None) (eqb_so inst)

    made_now : IsMade (seen ++ e ∷ []) names inst new
    made_now = record {
      first = (name, k);
      told = told-now (making_of inst) seen e (name, k) (h.unmade inst (omega (arith, next))) here;
      text = named_is names name k valid;
    }

    by : (i : ℕ) (id : Id) → (at_number ids i ≡ Some id) ⊎ ((i ≡ length ids + 1) × (new ≡ id)) → IsMade (seen ++ e ∷ []) names i id
    by i id (inl g) = made_more seen (e ∷ []) names i id (h.made i id g)
    by i id (inr g) = subst (λ j. IsMade (seen ++ e ∷ []) names j id) (next ∙ sym g.0) (subst (λ d. IsMade (seen ++ e ∷ []) names inst d) g.1 made_now)

-- a pair is
pub knows_paired : (names : List (List ℕ)) (seen : List Event) (turn pair address i j : ℕ) (low high : Id) (ids : List Id) (twos : List (Id × Id)) → pair ≡ length twos + 1 → at_number ids i ≡ Some low → at_number ids j ≡ Some high → Knows names seen ids twos
    → Knows names (seen ++ record { turn = turn; what = what.Pair pair address i j } ∷ []) ids (twos ++ (low, high) ∷ [])
knows_paired names seen turn pair address i j low high ids twos next il jh h = record {
  made = λ n id g. made_more seen (e ∷ []) names n id (h.made n id g);
  unmade = λ n l. told-not (making_of n) seen e (h.unmade n l) refl;
  paired = λ n l r g. by n l r (number_pushed twos (low, high) (l, r) n g);
  unpaired = λ n l. told-not (making_of_pair n) seen e (h.unpaired n (let q = length_snoc twos (low, high) in omega (arith, l, q))) (other n (λ q. let m = length_snoc twos (low, high) in omega (arith, l, m, next, q)));
}
  where
    e : Event
    e = record { turn = turn; what = what.Pair pair address i j }

    other : (n : ℕ) → pair ≢ n → making_of_pair n (what.Pair pair address i j) ≡ None
    other n q = ap (λ b. cond b (Some (i, j)) None) (eqb_not pair n q)

    here : making_of_pair pair (what.Pair pair address i j) ≡ Some (i, j)
    here = ap (λ b. cond b (Some (i, j)) None) (eqb_so pair)

    paired_now : IsPaired (seen ++ e ∷ []) names pair low high
    paired_now = record {
      first = (i, j);
      told = told-now (making_of_pair pair) seen e (i, j) (h.unpaired pair (omega (arith, next))) here;
      low = made_more seen (e ∷ []) names i low (h.made i low il);
      high = made_more seen (e ∷ []) names j high (h.made j high jh);
    }

    by : (n : ℕ) (l r : Id) → (at_number twos n ≡ Some (l, r)) ⊎ ((n ≡ length twos + 1) × (◌≡◌ {A = Id × Id} (low, high) (l, r))) → IsPaired (seen ++ e ∷ []) names n l r
    by n l r (inl g) = paired_more seen (e ∷ []) names n l r (h.paired n l r g)
    by n l r (inr g) =
        subst (λ m. IsPaired (seen ++ e ∷ []) names m l r) (next ∙ sym g.0)
        (subst (λ a. IsPaired (seen ++ e ∷ []) names pair a r) (ap (λ (p : Id × Id). p.0) g.1) (subst (λ b. IsPaired (seen ++ e ∷ []) names pair low b) (ap (λ (p : Id × Id). p.1) g.1) paired_now))
