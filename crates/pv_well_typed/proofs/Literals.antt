-- String literals (C17 6.4.5): the characters of some in a row, with their zero, and what is so of all of a unit.
use Rattle.std.proofs.Common.{◌≡◌, ℕ, zero, suc, ◌<◌, ◌≤◌, ◌+◌, Bool, true, false, List, [], ◌∷◌, ◌++◌, length, get_or, refl, sym, ap, subst, arith, length-append, ◌⊎◌, inl, inr}
use Rattle.std.specs.Prelude.{if◌then◌else◌}
use Rattle.pv_typed.specs.Known.{Each}
use Rattle.pv_typed.proofs.Each.{each_append, each_weaker}
use Rattle.pv_typed.specs.Adding.{with_literal}
use Rattle.pv_typed.specs.TypedUnits.{Literal}
use Rattle.pv_typed.specs.UnitParts.{no_literal}
use Rattle.pv_check.specs.StringLiterals.{bytes_of_text, concatenation_of}
use Rattle.pv_check.specs.State.{State, env}
use Rattle.pv_well_typed.proofs.PrimaryRows.{each-at, last-at, beyond-at}
use Rattle.pv_well_typed.proofs.Changes.{before-at}
use Rattle.pv_well_typed.proofs.Sources.{AreBytes, letters}
use Rattle.pv_well_typed.proofs.Moving.{AreTexts, IsText, IsWritten, IsOrderly, Orderly}

-- 6.4.5p6: a string literal, with its zero
pub ended-more : (xs : List Literal) (x : Literal) (is : List ℕ) → Each (λ l. 1 ≤ length (get_or xs l no_literal).bytes) is → Each (λ l. 1 ≤ length (get_or (xs ++ (x ∷ [])) l no_literal).bytes) is
ended-more xs x is h = each_weaker (λ l. 1 ≤ length (get_or xs l no_literal).bytes) (λ l. 1 ≤ length (get_or (xs ++ (x ∷ [])) l no_literal).bytes) (λ l q. by l q (either l (length xs))) is h
  where
    either : (o n : ℕ) → (o < n) ⊎ (n ≤ o)
    either o n = grind arith

    by : (l : ℕ) → 1 ≤ length (get_or xs l no_literal).bytes → (l < length xs) ⊎ (length xs ≤ l) → 1 ≤ length (get_or (xs ++ (x ∷ [])) l no_literal).bytes
    by l q (inl lt) = subst (λ (y : Literal). 1 ≤ length y.bytes) (sym (before-at no_literal xs (x ∷ []) l lt)) q
    by l q (inr le) = let none = ap (λ (y : Literal). length y.bytes) (beyond-at no_literal xs l le) in absurd (omega (arith, q, none))

pub written-orderly : (line : ℕ) (bytes : List ℕ) (s : State) (instance : Bool) → (Orderly s → IsText bytes) → Orderly s
    → IsOrderly s.unit.names s.unit.functions s.scopes s.used s.texts (with_literal s.unit (record { bytes = bytes; line = line }) instance).literals (with_literal s.unit (record { bytes = bytes; line = line }) instance).instances (env s) s.unit.objects
written-orderly line bytes s instance good h =
    let g = good h in
    let x : Literal = record { bytes = bytes; line = line } in
    record {
      names = h.names;
      uses = h.uses;
      sources = h.sources;
      written = each_append IsWritten s.unit.literals (x ∷ []) h.written ((g.0, g.2), tt);
      ended = ends x g.1 instance;
      laid = h.laid;
      apart = h.apart;
    }
  where
    ends : (x : Literal) → 1 ≤ length x.bytes → (b : Bool) → Each (λ l. 1 ≤ length (get_or (s.unit.literals ++ (x ∷ [])) l no_literal).bytes) (if b then s.unit.instances ++ (length s.unit.literals ∷ []) else s.unit.instances)
    ends x one true =
        each_append (λ l. 1 ≤ length (get_or (s.unit.literals ++ (x ∷ [])) l no_literal).bytes) s.unit.instances (length s.unit.literals ∷ []) (ended-more s.unit.literals x s.unit.instances h.ended)
        (subst (λ (y : Literal). 1 ≤ length y.bytes) (sym (last-at no_literal s.unit.literals x)) one, tt)
    ends x one false = ended-more s.unit.literals x s.unit.instances h.ended

-- 6.4.5p5, p6: the characters of string literals in a row, and the zero behind them
joined-bytes : (texts : List (List ℕ)) (first more : ℕ) → Each AreBytes texts → AreBytes (concatenation_of texts first more)
joined-bytes texts first zero h = each-at AreBytes [] texts first tt h
joined-bytes texts first (suc more) h =
    each_append (λ b. b < 256) (concatenation_of texts first more) (get_or texts (first + suc more) []) (joined-bytes texts first more h) (each-at AreBytes [] texts (first + suc more) tt h)

-- 5.2.4.1p1: they are no longer than all texts together
abbrev letters-to : ℕ → List (List ℕ) → ℕ
letters-to zero texts = 0
letters-to (suc n) [] = 0
letters-to (suc n) (x ∷ xs) = length x + letters-to n xs

to-within : (n : ℕ) (texts : List (List ℕ)) → letters-to n texts ≤ letters texts
to-within zero texts = omega arith
to-within (suc n) [] = omega arith
to-within (suc n) (x ∷ xs) = let r = to-within n xs in omega (arith, r)

to-next : (n : ℕ) (texts : List (List ℕ)) → letters-to (suc n) texts ≡ letters-to n texts + length (get_or texts n [])
to-next zero [] = omega arith
to-next zero (x ∷ xs) = omega arith
to-next (suc n) [] = omega arith
to-next (suc n) (x ∷ xs) = let r = to-next n xs in omega (arith, r)

joined-within : (texts : List (List ℕ)) (first more k : ℕ) → k ≡ first + more → length (concatenation_of texts first more) ≤ letters-to (suc k) texts
joined-within texts first zero k e =
    let same : k ≡ first = omega (arith, e) in
    let r = to-next k texts in
    let s = ap (λ i. length (get_or texts i [])) same in
    omega (arith, r, s)
joined-within texts first (suc more) k e =
    let l = length-append (concatenation_of texts first more) (get_or texts (first + suc more) []) in
    let before = joined-within texts first more (first + more) refl in
    let same : k ≡ suc (first + more) = omega (arith, e) in
    let r = to-next k texts in
    let p = ap (λ i. letters-to i texts) same in
    let s = ap (λ i. length (get_or texts i [])) e in
    omega (arith, l, before, r, p, s)

pub text-bytes : (texts : List (List ℕ)) (first more : ℕ) → AreTexts texts → IsText (bytes_of_text texts first more)
text-bytes texts first more h = (
  each_append (λ b. b < 256) (concatenation_of texts first more) (0 ∷ []) (joined-bytes texts first more h.0) (omega arith, tt),
  let l = length-append (concatenation_of texts first more) (0 ∷ []) in omega (arith, l),
  let l = length-append (concatenation_of texts first more) (0 ∷ []) in
      let j = joined-within texts first more (first + more) refl in
      let w = to-within (suc (first + more)) texts in
      let few = h.1 in
      omega (arith, l, j, w, few),
)
