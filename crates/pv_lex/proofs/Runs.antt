-- How a loop over bytes comes to `run`.
use Rattle.std.proofs.Common.{◌≡◌, ℕ, suc, ◌+◌, ◌<◌, ◌≤◌, Bool, true, false, cond, List, [], ◌∷◌, length, get_or, drop, refl, ap, ◌∙◌, add-one, arith}
use Rattle.pv_lex.specs.declared.bytes.Class.{Class}
use Rattle.pv_lex.specs.Bytes.{is_in, run}
use Rattle.std.proofs.Math.Seq.{drop-cons}
use Rattle.std.proofs.lemmas.List.{drop_all}

run_on : (k : Class) (b : ℕ) (bs : List ℕ) → is_in k b ≡ true → run k (b ∷ bs) ≡ suc (run k bs)
unfolding run
run_on k b bs e = ap (λ t. cond t (suc (run k bs)) 0) e

run_off : (k : Class) (b : ℕ) (bs : List ℕ) → is_in k b ≡ false → run k (b ∷ bs) ≡ 0
unfolding run
run_off k b bs e = ap (λ t. cond t (suc (run k bs)) 0) e

run_nil : (k : Class) → run k [] ≡ 0
unfolding run
run_nil k = refl

pub run_within : (k : Class) (s : List ℕ) → run k s ≤ length s
unfolding run
run_within k [] = omega arith
run_within k (b ∷ bs) = by (is_in k b) (run_within k bs)
  where
    by : (t : Bool) → run k bs ≤ length bs → cond t (suc (run k bs)) 0 ≤ suc (length bs)
    by true h = omega arith
    by false h = omega arith

pub run_step : (k : Class) (s : List ℕ) (n : ℕ) → n < length s → is_in k (get_or s n 0) ≡ true → run k s ≡ n + run k (drop n s) → run k s ≡ n + 1 + run k (drop (n + 1) s)
run_step k s n lt here so_far =
    let e : run k (drop n s) ≡ suc (run k (drop (suc n) s)) = ap (run k) (drop-cons s n 0 lt) ∙ run_on k (get_or s n 0) (drop (suc n) s) here in
    let f : run k (drop (n + 1) s) ≡ run k (drop (suc n) s) = rw add-one refl in
    omega (arith, e, f)

pub run_stop : (k : Class) (s : List ℕ) (n : ℕ) → n < length s → is_in k (get_or s n 0) ≡ false → run k s ≡ n + run k (drop n s) → n ≡ run k s
run_stop k s n lt here so_far =
    let e : run k (drop n s) ≡ 0 = ap (run k) (drop-cons s n 0 lt) ∙ run_off k (get_or s n 0) (drop (suc n) s) here in
    omega (arith, e)

pub run_end : (k : Class) (s : List ℕ) (n : ℕ) → length s ≤ n → run k s ≡ n + run k (drop n s) → n ≡ run k s
run_end k s n le so_far =
    let e : run k (drop n s) ≡ 0 = ap (run k) (drop_all n s le) ∙ run_nil k in
    omega (arith, e)

-- a class reaches over the first byte if this is in it
pub run_some : (k : Class) (s : List ℕ) → 0 < length s → is_in k (get_or s 0 0) ≡ true → 1 ≤ run k s
run_some k [] h e = absurd (omega arith)
run_some k (b ∷ bs) h e = omega (arith, run_on k b bs e)
