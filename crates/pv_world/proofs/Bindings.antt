-- A few bindings over a map: what they say together, and what one more leaves.
use Rattle.std.proofs.Common.{◌≡◌, ℕ, zero, suc, ◌+◌, ◌-◌, ◌<◌, ◌==◌, Bool, true, false, cond, List, [], ◌∷◌, ◌++◌, length, get_or, take, drop, drop-cons, Option, Some, None, refl, sym, ap, ◌∙◌, subst, arith, nat_cmp}
use Rattle.std.specs.Cmp.{nat_cmp_total, unsigned_tied}
use Rattle.std.specs.FinMap.{get, insert, get-insert, same_map, nat_cmp-IsAntisymmetric}
use Rattle.std.specs.Option.{option_or}
use Rattle.std.proofs.lemmas.Bool.Decides.{nat_tests}
use Rattle.pv_world.specs.Worlds.{Bindings}
use Rattle.pv_world.specs.BoundParts.{with_bindings, last_at}

abbrev none : ℕ × ℕ
none = (0, 0)

get_put : (m : Bindings) (k v q : ℕ) → get (insert m k v) q ≡ cond (q == k) (Some v) (get m q)
get_put m k v q = get-insert nat_cmp_total m k v q ∙ ap (λ b. cond b (Some v) (get m q)) (unsigned_tied q k)

-- the last binding of a number says it, and else the map
pub get_laid : (es : List (ℕ × ℕ)) (m : Bindings) (n : ℕ) → get (with_bindings m es) n ≡ option_or (last_at es n) (get m n)
get_laid [] m n = refl
get_laid (e ∷ es) m n = get_laid es (insert m e.0 e.1) n ∙ ap (option_or (last_at es n)) (get_put m e.0 e.1 n) ∙ by (last_at es n) (n == e.0)
  where
    by : (o : Option ℕ) (b : Bool) → option_or o (cond b (Some e.1) (get m n)) ≡ option_or (option_or o (cond b (Some e.1) None)) (get m n)
    by (Some i) b = refl
    by None true = refl
    by None false = refl

-- one more
pub laid_more : (es : List (ℕ × ℕ)) (m : Bindings) (n i : ℕ) → with_bindings m (es ++ (n, i) ∷ []) ≡ insert (with_bindings m es) n i
laid_more [] m n i = refl
laid_more (e ∷ es) m n i = laid_more es (insert m e.0 e.1) n i

-- the oldest goes into the map
pub oldest_laid : (xs : List (ℕ × ℕ)) (e : ℕ × ℕ) (m p : Bindings) → 0 < length xs → e ≡ get_or xs 0 e → p ≡ insert m e.0 e.1 → with_bindings p (take 0 xs ++ drop 1 xs) ≡ with_bindings m xs
oldest_laid [] e m p h is put = absurd (omega (arith, h))
oldest_laid (x ∷ xs) e m p h is put = ap (λ b. with_bindings b xs) (put ∙ ap (λ (s : ℕ × ℕ). insert m s.0 s.1) is)

-- without a binding of one number the others are as they were
or_none : (o : Option ℕ) → option_or o None ≡ o
or_none None = refl
or_none (Some i) = refl

apart : (q n k : ℕ) → (q == n) ≡ false → (n == k) ≡ true → (q == k) ≡ false
apart q n k f t = grind (arith, nat_tests)

last_without : (xs : List (ℕ × ℕ)) (k n q : ℕ) → k < length xs → (n == (get_or xs k none).0) ≡ true → (q == n) ≡ false → last_at (take k xs ++ drop (suc k) xs) q ≡ last_at xs q
last_without [] k n q h t f = absurd (omega (arith, h))
last_without (x ∷ xs) zero n q h t f = sym (ap (λ b. option_or (last_at xs q) (cond b (Some x.1) None)) (apart q n x.0 f t) ∙ or_none (last_at xs q))
last_without (x ∷ xs) (suc k) n q h t f = ap (λ o. option_or o (cond (q == x.0) (Some x.1) None)) (last_without xs k n q (omega (arith, h)) t f)

-- a number that is bound anew may lose its binding before
pub renewed : (xs : List (ℕ × ℕ)) (k n i : ℕ) (m : Bindings) → k < length xs → (n == (get_or xs k none).0) ≡ true → insert (with_bindings m (take k xs ++ drop (suc k) xs)) n i ≡ insert (with_bindings m xs) n i
renewed xs k n i m within t = same_map nat_cmp_total nat_cmp-IsAntisymmetric _ _ (λ q. get_put (with_bindings m (take k xs ++ drop (suc k) xs)) n i q ∙ by q (q == n) refl ∙ sym (get_put (with_bindings m xs) n i q))
  where
    by : (q : ℕ) (b : Bool) → (q == n) ≡ b → cond b (Some i) (get (with_bindings m (take k xs ++ drop (suc k) xs)) q) ≡ cond b (Some i) (get (with_bindings m xs) q)
    by q true e = refl
    by q false e = get_laid (take k xs ++ drop (suc k) xs) m q ∙ ap (λ o. option_or o (get m q)) (last_without xs k n q within t e) ∙ sym (get_laid xs m q)

-- a step of the search from the end
front : (xs : List (ℕ × ℕ)) (k n : ℕ) → 0 < k → k < length xs + 1 → last_at (drop (k - 1) xs) n ≡ option_or (last_at (drop k xs) n) (cond (n == (get_or xs (k - 1) none).0) (Some (get_or xs (k - 1) none).1) None)
front xs k n some within =
    let e : suc (k - 1) ≡ k = omega (arith, some) in
    ap (λ ys. last_at ys n) (drop-cons xs (k - 1) none (omega (arith, some, within)) ∙ ap (λ j. get_or xs (k - 1) none ∷ drop j xs) e)

pub front_none : (xs : List (ℕ × ℕ)) (k n : ℕ) → 0 < k → k < length xs + 1 → last_at (drop k xs) n ≡ None → (n == (get_or xs (k - 1) none).0) ≡ false → last_at (drop (k - 1) xs) n ≡ None
front_none xs k n some within rest f =
    front xs k n some within ∙ ap (λ o. option_or o (cond (n == (get_or xs (k - 1) none).0) (Some (get_or xs (k - 1) none).1) None)) rest
    ∙ ap (λ b. cond b (Some (get_or xs (k - 1) none).1) None) f

tail_some : (xs : List (ℕ × ℕ)) (j n v : ℕ) → last_at (drop j xs) n ≡ Some v → last_at xs n ≡ Some v
tail_some xs zero n v h = h
tail_some [] (suc j) n v h = h
tail_some (x ∷ xs) (suc j) n v h = ap (λ o. option_or o (cond (n == x.0) (Some x.1) None)) (tail_some xs j n v h)

pub front_some : (xs : List (ℕ × ℕ)) (k n : ℕ) → 0 < k → k < length xs + 1 → last_at (drop k xs) n ≡ None → (n == (get_or xs (k - 1) none).0) ≡ true → last_at xs n ≡ Some (get_or xs (k - 1) none).1
front_some xs k n some within rest t = tail_some xs (k - 1) n (get_or xs (k - 1) none).1
    (front xs k n some within ∙ ap (λ o. option_or o (cond (n == (get_or xs (k - 1) none).0) (Some (get_or xs (k - 1) none).1) None)) rest
    ∙ ap (λ b. cond b (Some (get_or xs (k - 1) none).1) None) t)
