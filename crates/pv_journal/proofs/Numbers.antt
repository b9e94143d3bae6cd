-- Numbers: what is printed is read, and what is read was printed so.
use Rattle.std.proofs.Common.{◌≡◌, ℕ, zero, suc, ◌+◌, ◌*◌, ◌<◌, ◌≤◌, ◌^◌, Bool, true, false, ◌&&◌, cond, ltb, List, [], ◌∷◌, drop, Option, Some, None, refl, sym, ap, ◌∙◌, arith, lit<}
use Rattle.std.proofs.lemmas.Bool.Decides.{nat_tests}
use Rattle.std.proofs.lemmas.Slice.Eq.{bytes_eq-Decides}
use Rattle.std.proofs.lemmas.Option.{option_and_then_some, none-some, same_Some}
use Rattle.std.proofs.lemmas.Fmt.{decimal_is_IsNumeral, digits_is_IsNumeral}
use Rattle.std.specs.Option.{option_and_then}
use Rattle.std.specs.Str.{bytes_eq}
use Rattle.std.specs.Str.Parse.{AllDigits, digits_value_after}
use Rattle.std.specs.Char.{digit_value}
use Rattle.std.specs.Fmt.{decimal, digits}
use Rattle.pv_print.specs.Texts.{address_text}
use Rattle.pv_journal.specs.Reading.{numeral_from, if_spelled, decimal_in, address_in}

-- ---- a number is at least what its first digits write

pub value_grows : (base : ℕ) → ((n c : ℕ) → n ≤ n * base + c) → (cs : List ℕ) (n : ℕ) → n ≤ digits_value_after base n cs
value_grows base up [] n = omega arith
value_grows base up (c ∷ cs) n = let h = value_grows base up cs (n * base + digit_value c) in let g = up n (digit_value c) in omega (arith, h, g)

by_tests : (a b c d : ℕ) (o : Option ℕ) (r : Option ℕ) → a < b → c < d → o ≡ r → cond (ltb a b && ltb c d) o None ≡ r
by_tests a b c d o r h g e =
    let t : ltb a b ≡ true = grind (arith, nat_tests) in
    let u : ltb c d ≡ true = grind (arith, nat_tests) in
    ap (λ x. cond (x && ltb c d) o None) t ∙ ap (λ x. cond x o None) u ∙ e

pub numeral_is_read : (base : ℕ) → ((n c : ℕ) → n ≤ n * base + c) → (cs : List ℕ) (v : ℕ) → AllDigits base cs → digits_value_after base v cs < 2 ^ 64 → numeral_from base v cs ≡ Some (digits_value_after base v cs)
numeral_is_read base up [] v all fits = refl
numeral_is_read base up (c ∷ cs) v all fits =
    let h = value_grows base up cs (v * base + digit_value c) in
    let within : v * base + digit_value c < 2 ^ 64 = omega (arith, h, fits) in
    by_tests (digit_value c) base (v * base + digit_value c) (2 ^ 64) (numeral_from base (v * base + digit_value c) cs) (Some (digits_value_after base v (c ∷ cs))) all.0 within
    (numeral_is_read base up cs (v * base + digit_value c) all.1 fits)

-- ---- one spelling

spelled : (b : Bool) (n : ℕ) → b ≡ true → cond b (Some n) None ≡ Some n
spelled b n e = ap (λ x. cond x (Some n) None) e

pub spelled_so : (spelling : ℕ → List ℕ) (n : ℕ) → if_spelled spelling (spelling n) n ≡ Some n
spelled_so spelling n = spelled (bytes_eq (spelling n) (spelling n)) n ((bytes_eq-Decides (spelling n) (spelling n)).1 refl)

was_spelled : (b : Bool) (n m : ℕ) (P : Type 0) → (b ≡ true → P) → cond b (Some n) None ≡ Some m → (n ≡ m → P → ⊥) → ⊥
was_spelled true n m P f h k = k (same_Some n m h) (f refl)
was_spelled false n m P f h k = none-some m h

pub spelling_is : (spelling : ℕ → List ℕ) (text : List ℕ) (n m : ℕ) → if_spelled spelling text n ≡ Some m → text ≡ spelling m
spelling_is spelling text n m h = by (bytes_eq (spelling n) text) ((bytes_eq-Decides (spelling n) text).0) h
  where
    by : (b : Bool) → (b ≡ true → spelling n ≡ text) → cond b (Some n) None ≡ Some m → text ≡ spelling m
    by true f e = sym (f refl) ∙ ap spelling (same_Some n m e)
    by false f e = absurd (none-some m e)

-- ---- decimal numbers

ten : (n c : ℕ) → n ≤ n * 10 + c
ten n c = omega arith

sixteen : (n c : ℕ) → n ≤ n * 16 + c
sixteen n c = omega arith

pub decimal_is_read : (n : ℕ) → n < 2 ^ 64 → decimal_in (decimal n) ≡ Some n
decimal_is_read n h =
    let r = decimal_is_IsNumeral n h in
    let fits : digits_value_after 10 0 (decimal n) < 2 ^ 64 = omega (arith, r.1, h) in
    ap (option_and_then (if_spelled decimal (decimal n))) (numeral_is_read 10 ten (decimal n) 0 r.0.1 fits ∙ ap Some r.1) ∙ spelled_so decimal n

pub decimal_was_read : (text : List ℕ) (n : ℕ) → decimal_in text ≡ Some n → text ≡ decimal n
decimal_was_read text n h = option_and_then_some (if_spelled decimal text) (numeral_from 10 0 text) n h (λ m a b. spelling_is decimal text m n b)

-- ---- addresses

pub address_was_read : (text : List ℕ) (n : ℕ) → address_in text ≡ Some n → text ≡ address_text n
address_was_read text n h = option_and_then_some (if_spelled address_text text) (numeral_from 16 0 (drop 2 text)) n h (λ m a b. spelling_is address_text text m n b)

pub address_is_read : (n : ℕ) → 0 < n → n < 2 ^ 64 → address_in (address_text n) ≡ Some n
address_is_read zero some h = absurd (omega arith)
address_is_read (suc m) some h =
    let n : ℕ = suc m in
    let wide : n < 16 ^ 64 = omega (arith, h) in
    let r = digits_is_IsNumeral 16 false (lit< tt) (lit< tt) n wide in
    let fits : digits_value_after 16 0 (digits 16 false n) < 2 ^ 64 = omega (arith, r.1, h) in
    ap (option_and_then (if_spelled address_text (address_text n))) (numeral_is_read 16 sixteen (digits 16 false n) 0 r.0.1 fits ∙ ap Some r.1) ∙ spelled_so address_text n
