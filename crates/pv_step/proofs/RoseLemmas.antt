-- Which files' counts of faults rose.
use Rattle.std.proofs.Common.{◌≡◌, ℕ, suc, ◌≤◌, List, [], ◌∷◌, ◌++◌, refl, ap, ◌∙◌, arith}
use Rattle.std.specs.Prelude.{Any, Result, Err, option_to_list}
use Rattle.std.proofs.lemmas.List.{length-append, get_or_append_left}
use Rattle.pv_script.specs.Outside.{Rose}
use Rattle.pv_serve.specs.Outside.{AnyRose}
use Rattle.pv_step.specs.Words.{StepJob, files_of}

-- ---- some of a list

any_later : (P : List ℕ → Type 0) (x : List ℕ) (xs : List (List ℕ)) → Any P xs → Any P (x ∷ xs)
any_later P x xs a = (suc a.0, a.1, omega (arith, a.2), a.3, a.4)

any_map : (P Q : List ℕ → Type 0) (xs : List (List ℕ)) → ((x : List ℕ) → P x → Q x) → Any P xs → Any Q xs
any_map P Q xs f a = (a.0, a.1, a.2, a.3, f a.1 a.4)

any_left : (P : List ℕ → Type 0) (xs ys : List (List ℕ)) → Any P xs → Any P (xs ++ ys)
any_left P xs ys a = (a.0, a.1, omega (arith, a.2, length-append xs ys), get_or_append_left xs ys a.1 a.0 a.2 ∙ a.3, a.4)

any_right : (P : List ℕ → Type 0) (xs ys : List (List ℕ)) → Any P ys → Any P (xs ++ ys)
any_right P [] ys a = a
any_right P (x ∷ xs) ys a = any_later P x (xs ++ ys) (any_right P xs ys a)

-- ---- counts

rose_within : (old mid new : ℕ) → old ≤ mid → Rose mid new → Rose old new
rose_within old mid new before rose = omega arith

any_within : (names : List (List ℕ)) (old mid new : List ℕ → ℕ) → ((n : List ℕ) → old n ≤ mid n) → AnyRose names mid new → AnyRose names old new
any_within names old mid new before any = any_map (λ n. Rose (mid n) (new n)) (λ n. Rose (old n) (new n)) names (λ n rose. rose_within (old n) (mid n) (new n) (before n) rose) any

-- ---- the files that are asked for

-- the source, which is read first
pub source_rose : (j : StepJob) (old new : List ℕ → ℕ) → Rose (old j.file) (new j.file) → AnyRose (files_of j) old new
source_rose j old new rose = (0, j.file, omega arith, refl, rose)

pub script_rose : (j : StepJob) (old mid new : List ℕ → ℕ) → ((n : List ℕ) → old n ≤ mid n) → AnyRose (option_to_list j.script) mid new → AnyRose (files_of j) old new
script_rose j old mid new later any =
    any_later (λ n. Rose (old n) (new n)) j.file (option_to_list j.script ++ j.commands ∷ [])
    (any_left (λ n. Rose (old n) (new n)) (option_to_list j.script) (j.commands ∷ []) (any_within (option_to_list j.script) old mid new later any))

pub commands_rose : (j : StepJob) (old mid between new : List ℕ → ℕ) → ((n : List ℕ) → old n ≤ mid n) → ((n : List ℕ) → mid n ≤ between n) → Rose (between j.commands) (new j.commands)
    → AnyRose (files_of j) old new
commands_rose j old mid between new first later rose =
    any_later (λ n. Rose (old n) (new n)) j.file (option_to_list j.script ++ j.commands ∷ [])
    (any_right (λ n. Rose (old n) (new n)) (option_to_list j.script) (j.commands ∷ [])
    (0, j.commands, omega arith, refl, rose_within (old j.commands) (between j.commands) (new j.commands) (omega (arith, first j.commands, later j.commands)) rose))

-- ---- errors

err_same : {A E : Type 0} (e f : E) → ◌≡◌ {A = Result A E} (Err e) (Err f) → e ≡ f
err_same e f same = cc

-- the same error, of another result
pub other_err : {A B E : Type 0} (e f : E) → ◌≡◌ {A = Result A E} (Err e) (Err f) → ◌≡◌ {A = Result B E} (Err e) (Err f)
other_err {A = A} {B = B} {E = E} e f same = let is : e ≡ f = err_same {A = A} {E = E} e f same in ap (λ (x : E). Err x) is
