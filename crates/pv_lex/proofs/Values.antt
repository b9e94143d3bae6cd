-- How a loop over digits comes to `value_from`.
use Rattle.std.proofs.Common.{◌≡◌, ℕ, suc, ◌+◌, ◌*◌, ◌<◌, ◌≤◌, ◌^◌, List, [], ◌∷◌, length, get_or, drop, refl, sym, ap, ◌∙◌, add-one, arith}
use Rattle.std.proofs.Math.Seq.{drop-cons}
use Rattle.std.specs.Prelude.{true, false, cond, if◌then◌else◌, Option, Some, None, nat_lt}
use Rattle.std.proofs.lemmas.Bool.Decides.{nat_tests}
use Rattle.std.proofs.lemmas.List.{drop_all}
use Rattle.pv_lex.specs.Constants.{digit_value, value_from}

times_grows : (n base : ℕ) → 1 ≤ base → n ≤ n * base
times_grows n base h = grind arith

pub value_grows : (base n : ℕ) (ds : List ℕ) → 1 ≤ base → n ≤ value_from base n ds
unfolding value_from
value_grows base n [] h = omega arith
value_grows base n (d ∷ ds) h = omega (arith, times_grows n base h, value_grows base (n * base + digit_value d) ds h)

value_cons : (base n d : ℕ) (ds : List ℕ) → value_from base n (d ∷ ds) ≡ value_from base (n * base + digit_value d) ds
unfolding value_from
value_cons base n d ds = refl

value_nil : (base n : ℕ) → value_from base n [] ≡ n
unfolding value_from
value_nil base n = refl

pub value_step : (base n i : ℕ) (ds : List ℕ) (total : ℕ) → i < length ds → total ≡ value_from base n (drop i ds) → total ≡ value_from base (n * base + digit_value (get_or ds i 0)) (drop (i + 1) ds)
value_step base n i ds total lt e = e ∙ ap (value_from base n) (drop-cons ds i 0 lt) ∙ value_cons base n (get_or ds i 0) (drop (suc i) ds) ∙ ap (λ k. value_from base (n * base + digit_value (get_or ds i 0)) (drop k ds)) (sym (add-one i))

pub value_end : (base n i : ℕ) (ds : List ℕ) (total : ℕ) → length ds ≤ i → total ≡ value_from base n (drop i ds) → total ≡ n
value_end base n i ds total le e = e ∙ ap (value_from base n) (drop_all i ds le) ∙ value_nil base n

pub too_big : (v : ℕ) → 2 ^ 64 ≤ v → ◌≡◌ {A = Option ℕ} None (if nat_lt v (2 ^ 64) then Some v else None)
too_big v h = sym (ap (λ t. cond t (Some v) None) (le-ltb v h))
  where
    le-ltb : (v : ℕ) → 2 ^ 64 ≤ v → nat_lt v (2 ^ 64) ≡ false
    le-ltb v h = grind (arith, nat_tests)

pub small_enough : (v n : ℕ) → v ≡ n → n < 2 ^ 64 → ◌≡◌ {A = Option ℕ} (Some n) (if nat_lt v (2 ^ 64) then Some v else None)
small_enough v n e h = sym (ap (λ t. cond t (Some v) None) (lt-ltb v (omega arith)) ∙ ap Some e)
  where
    lt-ltb : (v : ℕ) → v < 2 ^ 64 → nat_lt v (2 ^ 64) ≡ true
    lt-ltb v h = grind (arith, nat_tests)
