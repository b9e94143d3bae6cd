-- An access and its rivals: the first one that it conflicts with, or none.
use Rattle.std.proofs.Common.{◌≡◌, ℕ, Bool, true, false, List, [], ◌∷◌, Some, None, refl, sym}
use Rattle.std.specs.Prelude.{Option, find, cond, ◌||◌}
use Rattle.std.specs.List.{list_any}
use Rattle.pv_seq.specs.declared.error.SeqStop.TheVariants.{Conflict}
use Rattle.pv_seq.specs.Sequencing.{Access, Open, clash, rivals, conflicts}
use Rattle.pv_seq.specs.Rivals.{first_rival, Tells}

passes_none : {A : Type 0} (x : A) (t r : Bool) (o : Option A) → (o ≡ None → r ≡ false) → cond t (Some x) o ≡ None → (t || r) ≡ false
passes_none x true r o h e = absurd cc
passes_none x false r o h e = h e

passes_some : {A : Type 0} (x b : A) (t r : Bool) (o : Option A) → (o ≡ Some b → r ≡ true) → cond t (Some x) o ≡ Some b → (t || r) ≡ true
passes_some x b true r o h e = refl
passes_some x b false r o h e = h e

none_found : {A : Type 0} (p : A → Bool) (xs : List A) → find p xs ≡ None → list_any p xs ≡ false
none_found p [] e = refl
none_found p (x ∷ xs) e = passes_none x (p x) (list_any p xs) (find p xs) (none_found p xs) e

some_found : {A : Type 0} (p : A → Bool) (b : A) (xs : List A) → find p xs ≡ Some b → list_any p xs ≡ true
some_found p b [] e = absurd cc
some_found p b (x ∷ xs) e = passes_some x b (p x) (list_any p xs) (find p xs) (some_found p b xs) e

pub no_conflict : (a : Access) (j : Open) → first_rival a j ≡ None → false ≡ conflicts a (rivals j)
no_conflict a j e = sym (none_found (clash a) (rivals j) e)

pub some_conflict : (a : Access) (j : Open) (e : ℕ × ℕ × Bool) → Tells (first_rival a j) (Conflict e) → true ≡ conflicts a (rivals j)
some_conflict a j e h = by_answer (first_rival a j) refl h
  where
    by_answer : (o : Option Access) → first_rival a j ≡ o → Tells o (Conflict e) → true ≡ conflicts a (rivals j)
    by_answer None is told = absurd told
    by_answer (Some b) is told = sym (some_found (clash a) b (rivals j) is)
