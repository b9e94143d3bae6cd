-- Options of a command line: two words more.
use Rattle.std.proofs.Common.{◌≡◌, ℕ, ◌-◌, ◌<◌, ◌≤◌, List, [], ◌∷◌, take, drop, get_or, length, refl, sym, ◌∙◌, ap, arith}
use Rattle.std.specs.Prelude.{Option, Some, None, option_and_then, String, string_bytes}
use Rattle.std.proofs.lemmas.List.{take_all}
use Rattle.std.specs.declared.alloc.Global.{Global}
use Rattle.pv_serve.specs.declared.words.Mode.{Mode}
use Rattle.pv_serve.specs.Words.{Options, options, with_option, texts, file_job}

rest_is : (v w : String Global) (rest : List (String Global)) → take (length (v ∷ w ∷ rest) - 2) rest ≡ rest
rest_is v w rest = take_all (length (v ∷ w ∷ rest) - 2) rest (omega arith)

pub two_more : (m : Mode) (ws : List (String Global)) (x y : String Global) (a b : List ℕ) (o p : Options) → 2 ≤ length ws → x ≡ get_or ws 0 x → y ≡ get_or ws 1 y → a ≡ string_bytes x → b ≡ string_bytes y
    → with_option m o a b ≡ Some p → options m o (texts ws) ≡ options m p (texts (take (length ws - 2) (drop 2 ws)))
two_more m [] x y a b o p h ex ey ea eb e = absurd (omega arith)
two_more m (v ∷ []) x y a b o p h ex ey ea eb e = absurd (omega arith)
two_more m (v ∷ w ∷ rest) x y a b o p h ex ey ea eb e =
    let first : a ≡ string_bytes v = ea ∙ ap (λ (s : String Global). string_bytes s) ex in
    let second : b ≡ string_bytes w = eb ∙ ap (λ (s : String Global). string_bytes s) ey in
    let given : with_option m o (string_bytes v) (string_bytes w) ≡ Some p =
    ap (λ (k : List ℕ). with_option m o k (string_bytes w)) (sym first) ∙ ap (λ (k : List ℕ). with_option m o a k) (sym second) ∙ e in
    ap (λ (q : Option Options). option_and_then (λ r. options m r (texts rest)) q) given ∙ ap (λ (l : List (String Global)). options m p (texts l)) (sym (rest_is v w rest))

-- a word that stands alone is no option
pub one_left : (m : Mode) (o : Options) (ws : List (String Global)) → 1 ≤ length ws → length ws < 2 → options m o (texts ws) ≡ None
one_left m o [] some few = absurd (omega arith)
one_left m o (w ∷ []) some few = refl
one_left m o (w ∷ v ∷ rest) some few = absurd (omega arith)

-- fewer than two words name no file
pub no_file_named : (ws : List (String Global)) → length ws < 2 → file_job (texts ws) ≡ None
no_file_named [] few = refl
no_file_named (w ∷ []) few = refl
no_file_named (w ∷ v ∷ rest) few = absurd (omega arith)
