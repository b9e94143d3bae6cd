-- Which files' counts of faults rose.
use Rattle.std.proofs.Common.{◌≡◌, ℕ, suc, ◌≤◌, List, [], ◌∷◌, ◌++◌, ap, ◌∙◌, arith}
use Rattle.std.specs.Prelude.{Any, Result, Err, option_to_list}
use Rattle.std.proofs.lemmas.List.{length-append, get_or_append_left}
use Rattle.pv_script.specs.Outside.{Rose}
use Rattle.pv_serve.specs.Outside.{AnyRose}
use Rattle.pv_cases.specs.Cases.{SuiteCase}
use Rattle.pv_suite.specs.Causes.{case_files}

-- ---- some of a list

any_later : (P : List ℕ → Type 0) (x : List ℕ) (xs : List (List ℕ)) → Any P xs → Any P (x ∷ xs)
any_later P x xs a = (suc a.0, a.1, omega (arith, a.2), a.3, a.4)

any_map : (P Q : List ℕ → Type 0) (xs : List (List ℕ)) → ((x : List ℕ) → P x → Q x) → Any P xs → Any Q xs
any_map P Q xs f a = (a.0, a.1, a.2, a.3, f a.1 a.4)

pub any_left : (P : List ℕ → Type 0) (xs ys : List (List ℕ)) → Any P xs → Any P (xs ++ ys)
any_left P xs ys a = (a.0, a.1, omega (arith, a.2, length-append xs ys), get_or_append_left xs ys a.1 a.0 a.2 ∙ a.3, a.4)

pub any_right : (P : List ℕ → Type 0) (xs ys : List (List ℕ)) → Any P ys → Any P (xs ++ ys)
any_right P [] ys a = a
any_right P (x ∷ xs) ys a = any_later P x (xs ++ ys) (any_right P xs ys a)

-- ---- counts

pub rose_within : (old mid between new : ℕ) → old ≤ mid → between ≤ new → Rose mid between → Rose old new
rose_within old mid between new before behind rose = omega arith

pub any_within : (names : List (List ℕ)) (old mid between new : List ℕ → ℕ) → ((n : List ℕ) → old n ≤ mid n) → ((n : List ℕ) → between n ≤ new n) → AnyRose names mid between
    → AnyRose names old new
any_within names old mid between new before behind any =
    any_map (λ n. Rose (mid n) (between n)) (λ n. Rose (old n) (new n)) names (λ n rose. rose_within (old n) (mid n) (between n) (new n) (before n) (behind n) rose) any

-- ---- the files of a case

pub script_rose : (c : SuiteCase) (old mid new : List ℕ → ℕ) → ((n : List ℕ) → old n ≤ mid n) → AnyRose (option_to_list c.script) mid new → AnyRose (case_files c) old new
script_rose c old mid new later any =
    any_later (λ n. Rose (old n) (new n)) c.source (option_to_list c.script ++ option_to_list c.output)
    (any_left (λ n. Rose (old n) (new n)) (option_to_list c.script) (option_to_list c.output) (any_within (option_to_list c.script) old mid new new later (λ n. omega arith) any))

pub output_rose : (c : SuiteCase) (old mid between new : List ℕ → ℕ) → ((n : List ℕ) → old n ≤ mid n) → ((n : List ℕ) → mid n ≤ between n) → AnyRose (option_to_list c.output) between new
    → AnyRose (case_files c) old new
output_rose c old mid between new first later any =
    any_later (λ n. Rose (old n) (new n)) c.source (option_to_list c.script ++ option_to_list c.output)
    (any_right (λ n. Rose (old n) (new n)) (option_to_list c.script) (option_to_list c.output)
    (any_within (option_to_list c.output) old between new new (λ n. omega (arith, first n, later n)) (λ n. omega arith) any))

-- ---- errors

err_same : {A E : Type 0} (e f : E) → ◌≡◌ {A = Result A E} (Err e) (Err f) → e ≡ f
err_same e f same = cc

-- the same error, of another result
pub other_err : {A B E : Type 0} (e f : E) → ◌≡◌ {A = Result A E} (Err e) (Err f) → ◌≡◌ {A = Result B E} (Err e) (Err f)
other_err {A = A} {B = B} {E = E} e f same = let is : e ≡ f = err_same {A = A} {E = E} e f same in ap (λ (x : E). Err x) is
