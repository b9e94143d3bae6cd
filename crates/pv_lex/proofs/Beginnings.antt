-- A table cut by the bytes with which its spellings begin: for a text that begins with one of them, the rows under it answer as the whole table.
use Rattle.std.proofs.Common.{◌≡◌, ℕ, ◌<◌, Bool, true, false, cond, ◌&&◌, ◌||◌, List, [], ◌∷◌, length, get_or, take, Option, Some, None, nat_eq, refl, sym, ap, ◌∙◌, subst, arith}
use Rattle.std.specs.Option.{option_map}
use Rattle.std.specs.Cmp.Lexicographic.{pointwise}
use Rattle.std.proofs.lemmas.Bool.{eqb-false}
use Rattle.std.proofs.lemmas.Bool.Decides.{nat_tests}
use Rattle.pv_lex.specs.Tables.{first_row, row_of}

pub some_byte : (text : List ℕ) (t : Bool) → t ≡ nat_eq (length text) 0 → t ≡ false → 0 < length text
some_byte text t e f = omega (arith, eqb-false (length text) 0 (sym e ∙ f))

-- the byte is one of these
abbrev pub among : List ℕ → ℕ → Bool
among [] b = false
among (k ∷ ks) b = nat_eq b k || among ks b

-- what a default arm knows of the arms before it, first to last
abbrev pub Apart : Type 0 → List ℕ → ℕ → Type 0
Apart N [] b = N
Apart N (k ∷ ks) b = Apart (N × (b ≡ k → ⊥)) ks b

first_known : (N : Type 0) (ks : List ℕ) (b : ℕ) → Apart N ks b → N
first_known N [] b n = n
first_known N (k ∷ ks) b n = (first_known (N × (b ≡ k → ⊥)) ks b n).0

none_among : (N : Type 0) (ks : List ℕ) (b : ℕ) → Apart N ks b → among ks b ≡ false
none_among N [] b n = refl
none_among N (k ∷ ks) b n =
    let here : nat_eq b k ≡ false = unequal b k (first_known (N × (b ≡ k → ⊥)) ks b n).1 in
    ap (λ t. t || among ks b) here ∙ none_among (N × (b ≡ k → ⊥)) ks b n
  where
    unequal : (a b : ℕ) → (a ≡ b → ⊥) → nat_eq a b ≡ false
    unequal a b e = grind (arith, nat_tests)

pub apart : (ks : List ℕ) (b : ℕ) → Apart (Unit {0}) ks b → among ks b ≡ false
apart ks b n = none_among (Unit {0}) ks b n

differs : (ks : List ℕ) (b k : ℕ) → among ks b ≡ false → among ks k ≡ true → nat_eq b k ≡ false
differs ks b k out ins = by (nat_eq b k) refl
  where
    equal : (a b : ℕ) → nat_eq a b ≡ true → a ≡ b
    equal a b e = grind (arith, nat_tests)

    by : (t : Bool) → nat_eq b k ≡ t → nat_eq b k ≡ false
    by true e = absurd (no_both (among ks b) out (ap (among ks) (equal b k e) ∙ ins))
      where
        no_both : (t : Bool) → t ≡ false → t ≡ true → ⊥
        no_both true n y = absurd cc
        no_both false n y = absurd cc
    by false e = e

turned : (a b : ℕ) → nat_eq a b ≡ nat_eq b a
turned a b = grind (arith, nat_tests)

same : (a : ℕ) → nat_eq a a ≡ true
same a = grind (arith, nat_tests)

both_true : (s t : Bool) → s && t ≡ true → (s ≡ true) × (t ≡ true)
both_true true t e = (refl, e)
both_true false t e = absurd cc

-- the spelling has a first byte, which is one of these
abbrev pub begins_among : List ℕ → List ℕ → Bool
begins_among ks [] = false
begins_among ks (k ∷ t) = among ks k

-- the spelling begins with the byte, or is empty
abbrev pub leads : ℕ → List ℕ → Bool
leads b [] = true
leads b (k ∷ t) = nat_eq k b

module _ {A : Type 0} where
  -- each spelling of the table begins with one of these
  abbrev pub begin_with : List ℕ → List (List ℕ × A) → Bool
  begin_with ks [] = true
  begin_with ks (row ∷ rows) = begins_among ks row.0 && begin_with ks rows

  -- a row's length, and what it stands for
  abbrev pub measured : List ℕ × A → ℕ × A
  measured r = (length r.0, r.1)

  -- the rows whose spellings begin with the byte, or are empty
  abbrev pub under : ℕ → List (List ℕ × A) → List (List ℕ × A)
  under b [] = []
  under b (row ∷ rows) = cond (leads b row.0) (row ∷ under b rows) (under b rows)

  row_on : (b : ℕ) (bs : List ℕ) (all : List (List ℕ × A)) → row_of (under b all) (b ∷ bs) ≡ row_of all (b ∷ bs)
  row_on b bs [] = refl
  row_on b bs (([], v) ∷ rows) = row_on b bs rows
  row_on b bs ((k ∷ t, v) ∷ rows) = by (nat_eq k b) refl (row_on b bs rows)
    where
      one : Bool → Option A
      one x = row_of (cond x ((k ∷ t, v) ∷ under b rows) (under b rows)) (b ∷ bs)

      by : (x : Bool) → nat_eq k b ≡ x → row_of (under b rows) (b ∷ bs) ≡ row_of rows (b ∷ bs) → one (nat_eq k b) ≡ cond (nat_eq b k && pointwise nat_eq bs t) (Some v) (row_of rows (b ∷ bs))
      by true e rest = ap one e ∙ ap (λ r. cond (nat_eq b k && pointwise nat_eq bs t) (Some v) r) rest
      by false e rest = ap one e ∙ rest ∙ sym (ap (λ x. cond (x && pointwise nat_eq bs t) (Some v) (row_of rows (b ∷ bs))) (turned b k ∙ e))

  first_on : (b : ℕ) (bs : List ℕ) (all : List (List ℕ × A)) → first_row (under b all) (b ∷ bs) ≡ first_row all (b ∷ bs)
  first_on b bs [] = refl
  first_on b bs (([], v) ∷ rows) = refl
  first_on b bs ((k ∷ t, v) ∷ rows) = by (nat_eq k b) refl (first_on b bs rows)
    where
      one : Bool → Option (List ℕ × A)
      one x = first_row (cond x ((k ∷ t, v) ∷ under b rows) (under b rows)) (b ∷ bs)

      by : (x : Bool) → nat_eq k b ≡ x → first_row (under b rows) (b ∷ bs) ≡ first_row rows (b ∷ bs) → one (nat_eq k b) ≡ cond (nat_eq k b && pointwise nat_eq t (take (length t) bs)) (Some (k ∷ t, v)) (first_row rows (b ∷ bs))
      by true e rest = ap one e ∙ ap (λ r. cond (nat_eq k b && pointwise nat_eq t (take (length t) bs)) (Some (k ∷ t, v)) r) rest
      by false e rest = ap one e ∙ rest ∙ sym (ap (λ x. cond (x && pointwise nat_eq t (take (length t) bs)) (Some (k ∷ t, v)) (first_row rows (b ∷ bs))) e)

  pub row_under : (all : List (List ℕ × A)) (b : ℕ) (text : List ℕ) → 0 < length text → get_or text 0 0 ≡ b → row_of (under b all) text ≡ row_of all text
  row_under all b [] some e = absurd (omega (arith, some))
  row_under all b (c ∷ bs) some e = subst (λ (x : ℕ). row_of (under x all) (c ∷ bs) ≡ row_of all (c ∷ bs)) e (row_on c bs all)

  first_under : (all : List (List ℕ × A)) (b : ℕ) (text : List ℕ) → 0 < length text → get_or text 0 0 ≡ b → first_row (under b all) text ≡ first_row all text
  first_under all b [] some e = absurd (omega (arith, some))
  first_under all b (c ∷ bs) some e = subst (λ (x : ℕ). first_row (under x all) (c ∷ bs) ≡ first_row all (c ∷ bs)) e (first_on c bs all)

  -- a byte with which one spelling alone begins, and it is the byte alone
  pub first_alone : (all : List (List ℕ × A)) (b : ℕ) (v : A) (text : List ℕ) → 0 < length text → get_or text 0 0 ≡ b → under b all ≡ (b ∷ [], v) ∷ [] → Some (1, v) ≡ option_map measured (first_row all text)
  first_alone all b v [] some e one = absurd (omega (arith, some))
  first_alone all b v (c ∷ bs) some e one =
      ap (λ x. option_map measured (cond (x && true) (Some (b ∷ [], v)) None)) (sym (same b))
      ∙ ap (λ rows. option_map measured (first_row rows (b ∷ bs))) (sym one)
      ∙ ap (option_map measured) (first_on b bs all)
      ∙ ap (λ (x : ℕ). option_map measured (first_row all (x ∷ bs))) (sym e)

  pub first_counted : (all : List (List ℕ × A)) (b : ℕ) (text : List ℕ) → 0 < length text → get_or text 0 0 ≡ b → option_map measured (first_row (under b all) text) ≡ option_map measured (first_row all text)
  first_counted all b text some e = ap (option_map measured) (first_under all b text some e)

  pub no_row : (all : List (List ℕ × A)) (ks : List ℕ) (text : List ℕ) → 0 < length text → begin_with ks all ≡ true → among ks (get_or text 0 0) ≡ false → row_of all text ≡ None
  no_row all ks [] some all_in out = absurd (omega (arith, some))
  no_row [] ks (b ∷ bs) some all_in out = refl
  no_row (([], v) ∷ rows) ks (b ∷ bs) some all_in out = absurd cc
  no_row ((k ∷ t, v) ∷ rows) ks (b ∷ bs) some all_in out =
      let inside = both_true (among ks k) (begin_with ks rows) all_in in
      ap (λ e. cond (e && pointwise nat_eq bs t) (Some v) (row_of rows (b ∷ bs))) (differs ks b k out inside.0) ∙ no_row rows ks (b ∷ bs) some inside.1 out

  pub no_first : (all : List (List ℕ × A)) (ks : List ℕ) (text : List ℕ) → 0 < length text → begin_with ks all ≡ true → among ks (get_or text 0 0) ≡ false → first_row all text ≡ None
  no_first all ks [] some all_in out = absurd (omega (arith, some))
  no_first [] ks (b ∷ bs) some all_in out = refl
  no_first (([], v) ∷ rows) ks (b ∷ bs) some all_in out = absurd cc
  no_first ((k ∷ t, v) ∷ rows) ks (b ∷ bs) some all_in out =
      let inside = both_true (among ks k) (begin_with ks rows) all_in in
      ap (λ e. cond (e && pointwise nat_eq t (take (length t) bs)) (Some (k ∷ t, v)) (first_row rows (b ∷ bs))) (turned k b ∙ differs ks b k out inside.0) ∙ no_first rows ks (b ∷ bs) some inside.1 out

  pub no_row_empty : (all : List (List ℕ × A)) (ks : List ℕ) (text : List ℕ) → length text ≡ 0 → begin_with ks all ≡ true → row_of all text ≡ None
  no_row_empty all ks (b ∷ bs) e all_in = absurd (omega (arith, e))
  no_row_empty [] ks [] e all_in = refl
  no_row_empty (([], v) ∷ rows) ks [] e all_in = absurd cc
  no_row_empty ((k ∷ t, v) ∷ rows) ks [] e all_in = no_row_empty rows ks [] e (both_true (among ks k) (begin_with ks rows) all_in).1

  pub no_first_empty : (all : List (List ℕ × A)) (ks : List ℕ) (text : List ℕ) → length text ≡ 0 → begin_with ks all ≡ true → first_row all text ≡ None
  no_first_empty all ks (b ∷ bs) e all_in = absurd (omega (arith, e))
  no_first_empty [] ks [] e all_in = refl
  no_first_empty (([], v) ∷ rows) ks [] e all_in = absurd cc
  no_first_empty ((k ∷ t, v) ∷ rows) ks [] e all_in = no_first_empty rows ks [] e (both_true (among ks k) (begin_with ks rows) all_in).1
