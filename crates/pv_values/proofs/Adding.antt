-- Texts that are added one behind the other.
use Rattle.std.proofs.Common.{◌≡◌, ℕ, suc, ◌+◌, ◌-◌, ◌<◌, ◌≤◌, Bool, true, false, nat_lt, List, [], ◌∷◌, ◌++◌, codes, refl, sym, ap, ◌∙◌, arith, append_assoc}
use Rattle.std.proofs.lemmas.Bool.Decides.{nat_tests}
use Rattle.std.specs.Fmt.{decimal}
use Rattle.std.specs.Prelude.{Option, Some, option_map, Result, Ok, Err, OnOk, if◌then◌else◌}
use Rattle.std.specs.Option.{option_map_or}
use Rattle.pv_inst.specs.declared.values.Instance.{Instance}
use Rattle.pv_object.specs.Memory.{Mem}
use Rattle.pv_types.specs.Ty.{Ty}
use Rattle.pv_types.specs.Known.{Known}
use Rattle.pv_types.specs.Sorts.{bare_type}
use Rattle.pv_typed.specs.TypedUnits.{WholeUnit}
use Rattle.pv_values.specs.declared.shapes.Shape as declared
use Rattle.pv_values.specs.Values.{Shape, shape_of, shape_text, scalar_text, value_at}
use Rattle.pv_values.specs.ShapeParts.{seen_shape, AreShown}
use Rattle.pv_values.specs.Standing.{texts_from, line, more_calls}

pub then_ok : {A E P Q : Type 0} (r : Result A E) → (P → Q) → OnOk r P → OnOk r Q
then_ok (Ok a) f p = f p
then_ok (Err e) f p = p

pub two : (t a b : List ℕ) → (t ++ a) ++ b ≡ t ++ (a ++ b)
two t a b = append_assoc t a b

pub three : (t a b c : List ℕ) → ((t ++ a) ++ b) ++ c ≡ t ++ ((a ++ b) ++ c)
three t a b c = ap (λ x. x ++ c) (append_assoc t a b) ∙ append_assoc t (a ++ b) c

pub four : (t a b c d : List ℕ) → (((t ++ a) ++ b) ++ c) ++ d ≡ t ++ (((a ++ b) ++ c) ++ d)
four t a b c d = ap (λ x. x ++ d) (three t a b c) ∙ append_assoc t ((a ++ b) ++ c) d

-- one more behind what is known
pub step : {a b : List ℕ} (c s : List ℕ) → a ≡ b → c ≡ a ++ s → c ≡ b ++ s
step c s e f = f ∙ ap (λ x. x ++ s) e

-- ---- the texts of numbers

texts_cons : (f : ℕ → List ℕ) (i count : ℕ) → i < count → texts_from f i (count - i) ≡ f i ++ texts_from f (i + 1) (count - (i + 1))
texts_cons f i count lt = let left : count - i ≡ suc (count - (i + 1)) = omega (arith, lt) in ap (texts_from f i) left

-- one text more was added
pub texts_next : (f : ℕ → List ℕ) (i count : ℕ) (old new all : List ℕ) → i < count → new ≡ old ++ f i → old ++ texts_from f i (count - i) ≡ all
    → new ++ texts_from f (i + 1) (count - (i + 1)) ≡ all
texts_next f i count old new all lt is before =
    ap (λ x. x ++ texts_from f (i + 1) (count - (i + 1))) is ∙ append_assoc old (f i) (texts_from f (i + 1) (count - (i + 1)))
    ∙ ap (λ x. old ++ x) (sym (texts_cons f i count lt)) ∙ before

append_none : (xs : List ℕ) → xs ++ [] ≡ xs
append_none [] = refl
append_none (x ∷ xs) = ap (λ ys. x ∷ ys) (append_none xs)

-- none is left
pub texts_end : (f : ℕ → List ℕ) (i count : ℕ) (old all : List ℕ) → count ≤ i → old ++ texts_from f i (count - i) ≡ all → old ≡ all
texts_end f i count old all le is =
    let none : count - i ≡ 0 = omega (arith, le) in
    sym (append_none old) ∙ ap (λ (k : ℕ). old ++ texts_from f i k) (sym none) ∙ is

-- ---- values

-- the parts of a value are the value
pub value_some : {A E : Type 0} (U : WholeUnit) (M : Mem) (x : Option Instance) (levels l o : ℕ) (t : Ty) (k : Known) (s : declared.Shape) (found : Option declared.Shape) (old new : List ℕ) (r : Result A E)
    → suc l ≡ levels → found ≡ Some s → AreShown U k (bare_type t) found → OnOk r (new ≡ old ++ shape_text U (value_at U M x l) o (seen_shape k s)) → OnOk r (new ≡ old ++ value_at U M x levels o t)
value_some U M x levels l o t k s found old new r n is shown added =
    let same : Some (seen_shape k s) ≡ shape_of U t = ap (option_map (seen_shape k)) (sym is) ∙ shown in
    then_ok r (λ e. e ∙ ap (λ v. old ++ v) (ap (λ (q : Option Shape). option_map_or (shape_text U (value_at U M x l) o) q (scalar_text U M x o t)) same ∙ ap (λ (j : ℕ). value_at U M x j o t) n)) added

-- ---- calls

more_is : (n : ℕ) (b : Bool) → nat_lt 64 n ≡ b → 64 < n → line (codes "calls more=" ++ decimal (n - 64)) ≡ (if b then line (codes "calls more=" ++ decimal (n - 64)) else [])
more_is n true is more = refl
more_is n false is more = absurd (grind (arith, nat_tests))

-- how many calls more there are was added
pub more_added : {A E : Type 0} (n : ℕ) (t a b c : List ℕ) (r : Result A E) → 64 < n → a ≡ t ++ codes "calls more=" → b ≡ a ++ decimal (n - 64) → OnOk r (c ≡ b ++ codes "\n") → OnOk r (c ≡ t ++ more_calls n)
more_added n t a b c r more first second last =
    then_ok r (λ e. step c (codes "\n") (step b (decimal (n - 64)) first second) e ∙ three t (codes "calls more=") (decimal (n - 64)) (codes "\n")
    ∙ ap (λ x. t ++ x) (more_is n (nat_lt 64 n) refl more)) last
