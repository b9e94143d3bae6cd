-- Steps of the loop over the lines of a list.
use Rattle.std.proofs.Common.{◌≡◌, ℕ, zero, suc, ◌+◌, ◌<◌, ◌≤◌, List, [], ◌∷◌, length, drop, get_or, map, Bool, Result, Ok, Err, refl, sym, ap, ◌∙◌, arith, drop-cons, ltb, cond, false, ◌==◌}
use Rattle.std.proofs.lemmas.Bool.Decides.{nat_tests}
use Rattle.std.proofs.lemmas.List.{length-map}
use Rattle.std.proofs.lemmas.List.Splits.{length-slice_split}
use Rattle.std.proofs.lemmas.List.Sums.{count_by-le-length}
use Rattle.std.specs.List.{slice_split}
use Rattle.pv_cases.specs.declared.list.ListError.{ListError}
use Rattle.pv_cases.specs.declared.list.ListError.TheVariants as error
use Rattle.pv_script.specs.Scripts.{and_then}
use Rattle.pv_cases.specs.Cases.{SuiteCase, after_line, after_lines, cases_of}
use Rattle.pv_cases.specs.Views.{OrNoMemory}

-- the first line that is left, and then the others
first_left : (lines : List (List ℕ)) (i : ℕ) (d : List ℕ) (cs : List SuiteCase) → i < length lines
    → after_lines (i + 1) (drop i lines) cs ≡ and_then (after_line (i + 1) (get_or lines i d) cs) (λ ds. after_lines ((i + 1) + 1) (drop (i + 1) lines) ds)
first_left lines i d cs l =
    let e : suc i ≡ i + 1 = omega arith in
    ap (λ ls. after_lines (i + 1) ls cs) (drop-cons lines i d l ∙ ap (λ k. get_or lines i d ∷ drop k lines) e)

-- where it has a reading, the others are left
pub passes_on : (lines : List (List ℕ)) (i : ℕ) (d : List ℕ) (cs ds : List SuiteCase) → i < length lines → Ok ds ≡ after_line (i + 1) (get_or lines i d) cs
    → after_lines ((i + 1) + 1) (drop (i + 1) lines) ds ≡ after_lines (i + 1) (drop i lines) cs
passes_on lines i d cs ds l h = ap (λ r. and_then r (λ es. after_lines ((i + 1) + 1) (drop (i + 1) lines) es)) h ∙ sym (first_left lines i d cs l)

-- where it has none, the list has none
pub fault_of_all : (lines : List (List ℕ)) (i : ℕ) (d : List ℕ) (cs : List SuiteCase) (e : ListError) → i < length lines
    → after_lines (i + 1) (drop i lines) cs ≡ after_lines 1 lines [] → Err e ≡ after_line (i + 1) (get_or lines i d) cs → Err e ≡ after_lines 1 lines []
fault_of_all lines i d cs e l rest h = ap (λ r. and_then r (λ es. after_lines ((i + 1) + 1) (drop (i + 1) lines) es)) h ∙ sym (first_left lines i d cs l) ∙ rest

pub fault_told : {A B C D : Type 0} (f : A → B) (g : C → D) (e : ListError) (w : Result B ListError) (v : Result D ListError) → OrNoMemory f (Err e) w
    → (Err e ≡ w → Err e ≡ v) → OrNoMemory g (Err e) v
fault_told f g error.Size w v h k = k h
fault_told f g (error.BadLine n) w v h k = k h
fault_told f g error.NoMemory w v h k = tt

drop_all : {X : Type 0} (xs : List X) (n : ℕ) → n ≡ length xs → drop n xs ≡ []
drop_all xs n h = ap (λ k. drop k xs) h ∙ whole xs
  where
    whole : {X : Type 0} (xs : List X) → drop (length xs) xs ≡ []
    whole [] = refl
    whole (x ∷ xs) = whole xs

pub get_or_map : {X : Type 0} (f : X → List ℕ) (xs : List X) (i : ℕ) (d : X) → f (get_or xs i d) ≡ get_or (map f xs) i (f d)
get_or_map f [] i d = refl
get_or_map f (x ∷ xs) zero d = refl
get_or_map f (x ∷ xs) (suc i) d = get_or_map f xs i d

-- there are at most as many lines as bytes, and one more
few_pieces : (p : ℕ → Bool) (xs : List ℕ) → length (slice_split p xs) ≤ length xs + 1
few_pieces p xs = omega (arith, length-slice_split p xs, count_by-le-length p xs)

pub few_lines : {X : Type 0} (f : X → List ℕ) (p : ℕ → Bool) (xs : List X) (text : List ℕ) → map f xs ≡ slice_split p text → length text ≤ 65536 → length xs ≤ 65537
few_lines f p xs text e h = omega (arith, few_pieces p text, length-map xs f, ap length e)

-- after the last line all cases are there
pub all_read : (lines : List (List ℕ)) (i : ℕ) (cs : List SuiteCase) → i ≡ length lines → after_lines (i + 1) (drop i lines) cs ≡ after_lines 1 lines [] → Ok cs ≡ after_lines 1 lines []
all_read lines i cs h rest = sym (ap (λ ls. after_lines (i + 1) ls cs) (drop_all lines i h)) ∙ rest

-- a text that is short enough is its lines
pub list_is : (text : List ℕ) (lines : List (List ℕ)) → length text ≤ 65536 → lines ≡ slice_split (λ b. b == 10) text → after_lines 1 lines [] ≡ cases_of text
list_is text lines h e =
    let t : ltb 65536 (length text) ≡ false = grind (arith, nat_tests) in
    ap (λ ls. after_lines 1 ls []) e ∙ sym (ap (λ b. cond b (Err error.Size) (after_lines 1 (slice_split (λ b. b == 10) text) [])) t)
