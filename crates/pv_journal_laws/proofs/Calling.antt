-- What instances are called by stays as it is where a row changes, and where one is made that has the next number of its name (C17 6.2.4p2).
use Rattle.std.proofs.Common.{◌≡◌, ◌≢◌, ℕ, zero, suc, ◌+◌, ◌-◌, ◌<◌, ◌≤◌, Bool, true, false, cond, eqb, List, [], ◌∷◌, ◌++◌, codes, length, get_or, set, All, Option, Some, None, refl, sym, ap, ◌∙◌, ◌⊎◌, inl, inr, arith, subst}
use Rattle.std.proofs.lemmas.Bool.Decides.{nat_tests, Decides-eqb}
use Rattle.std.proofs.lemmas.Option.{none-some, same_Some}
use Rattle.std.proofs.lemmas.List.Elements.{All-set, All-push}
use Rattle.std.specs.List.{slice_get}
use Rattle.std.specs.Option.{unwrap_or}
use Rattle.std.specs.Ordering.{nat_cmp}
use Rattle.std.specs.Cmp.{nat_cmp_total, unsigned_tied}
use Rattle.std.specs.FinMap.{FinMap, get, insert, get-insert}
use Rattle.pv_script.specs.Words.{is_name}
use Rattle.pv_script.specs.Names.{name_at}
use Rattle.pv_inst.specs.declared.values.Instance.{Instance}
use Rattle.pv_inst.specs.Table.{instance_at, with_instance}
use Rattle.pv_inst.specs.Use.{is_heap}
use Rattle.pv_inst.proofs.Rows.{IsRow, row_found}
use Rattle.pv_inst.proofs.Together.{slice_get-set_here, slice_get-set_other}
use Rattle.pv_inst.proofs.Meetings.{same_or_not}
use Rattle.pv_journal_laws.proofs.Telling.{AreCalledBy}

-- ---- a row that changes

-- who stood where another stands now
record WasThere (o : Option Instance) (z : Instance) : Type 0 where
  was : Instance
  at : o ≡ Some was
  name : was.name ≡ z.name
  k : was.k ≡ z.k

itself_there : (o : Option Instance) (z : Instance) → o ≡ Some z → WasThere o z
itself_there o z e = record { was = z; at = e; name = refl; k = refl }

set_there : (xs : List Instance) (i j : ℕ) (x y z : Instance) → slice_get xs i ≡ Some x → i < length xs → y.name ≡ x.name → y.k ≡ x.k → slice_get (set xs i y) j ≡ Some z → (i ≡ j) ⊎ (i ≢ j) → WasThere (slice_get xs j) z
set_there xs i j x y z got within name k e (inl same) =
    let new : y ≡ z = same_Some y z (sym (slice_get-set_here xs i y within) ∙ ap (slice_get (set xs i y)) same ∙ e) in
    record { was = x; at = ap (slice_get xs) (sym same) ∙ got; name = sym name ∙ ap (λ (w : Instance). w.name) new; k = sym k ∙ ap (λ (w : Instance). w.k) new }
set_there xs i j x y z got within name k e (inr other) = itself_there (slice_get xs j) z (sym (slice_get-set_other xs i j y other) ∙ e)

row_there : (xs : List Instance) (i j : ℕ) (x y z : Instance) → IsRow xs i x → y.name ≡ x.name → y.k ≡ x.k → instance_at (with_instance xs i y) j ≡ Some z → WasThere (instance_at xs j) z
row_there xs i j x y z r name k e = by (eqb j 0) e
  where
    by : (b : Bool) → cond b None (slice_get (set xs (i - 1) y) (j - 1)) ≡ Some z → WasThere (cond b None (slice_get xs (j - 1))) z
    by true e = absurd (none-some z e)
    by false e = set_there xs (i - 1) (j - 1) x y z r.got r.within name k e (same_or_not (i - 1) (j - 1))

pub called_row : (names : List (List ℕ)) (xs : List Instance) (counts : FinMap nat_cmp ℕ) (i : ℕ) (x y : Instance) → IsRow xs i x → y.name ≡ x.name → y.k ≡ x.k → y.kind ≡ x.kind
    → AreCalledBy names xs counts → AreCalledBy names (with_instance xs i y) counts
called_row names xs counts i x y r name k kind h =
    let at : (P : Instance → Type 0) → All P xs → P x = (λ P all. subst P r.here (all (i - 1) x r.within)) in
    let counted = at (λ (z : Instance). (1 ≤ z.k) × (z.k ≤ unwrap_or (get counts z.name) 0)) h.counted in
    record {
      within = All-set (λ (z : Instance). z.name < length names) xs (i - 1) y (subst (λ n. n < length names) (sym name) (at (λ (z : Instance). z.name < length names) h.within)) h.within;
      valid = All-set (λ (z : Instance). is_name (name_at names z.name) ≡ true) xs (i - 1) y (ap (λ n. is_name (name_at names n)) name ∙ at (λ (z : Instance). is_name (name_at names z.name) ≡ true) h.valid) h.valid;
      counted = All-set (λ (z : Instance). (1 ≤ z.k) × (z.k ≤ unwrap_or (get counts z.name) 0)) xs (i - 1) y
          (subst (λ n. 1 ≤ n) (sym k) counted.0, subst (λ n. n ≤ unwrap_or (get counts y.name) 0) (sym k) (subst (λ n. x.k ≤ unwrap_or (get counts n) 0) (sym name) counted.1)) h.counted;
      once = λ a b z w ea eb en ek.
          let p = row_there xs i a x y z r name k ea in
          let q = row_there xs i b x y w r name k eb in
          h.once a b p.was q.was p.at q.at (p.name ∙ en ∙ sym q.name) (p.k ∙ ek ∙ sym q.k);
      heap = All-set (λ (z : Instance). is_heap z.kind ≡ true → name_at names z.name ≡ codes "@heap") xs (i - 1) y
          (λ e. ap (name_at names) name ∙ at (λ (z : Instance). is_heap z.kind ≡ true → name_at names z.name ≡ codes "@heap") h.heap (ap is_heap (sym kind) ∙ e)) h.heap;
    }

-- ---- how often a name was asked for

-- what was asked for, with one name more often
pub count_here : (counts : FinMap nat_cmp ℕ) (name k : ℕ) → unwrap_or (get (insert counts name k) name) 0 ≡ k
count_here counts name k =
    let same : eqb name name ≡ true = (Decides-eqb name name).1 refl in
    ap (λ o. unwrap_or o 0) (get-insert nat_cmp_total counts name k name ∙ ap (λ t. cond t (Some k) (get counts name)) (unsigned_tied name name ∙ same))

more_at : (counts : FinMap nat_cmp ℕ) (name k n : ℕ) → unwrap_or (get counts name) 0 ≤ k → unwrap_or (get counts n) 0 ≤ unwrap_or (get (insert counts name k) n) 0
more_at counts name k n le = subst (λ o. unwrap_or (get counts n) 0 ≤ unwrap_or o 0) (sym (get-insert nat_cmp_total counts name k n ∙ ap (λ t. cond t (Some k) (get counts n)) (unsigned_tied n name))) (by (eqb n name) refl)
  where
    by : (b : Bool) → eqb n name ≡ b → unwrap_or (get counts n) 0 ≤ unwrap_or (cond b (Some k) (get counts n)) 0
    by true e = let same : n ≡ name = (Decides-eqb n name).0 e in subst (λ m. unwrap_or (get counts m) 0 ≤ k) (sym same) le
    by false e = omega arith

-- more is asked for
pub called_more : (names : List (List ℕ)) (xs : List Instance) (counts : FinMap nat_cmp ℕ) (name k : ℕ) → unwrap_or (get counts name) 0 ≤ k → AreCalledBy names xs counts → AreCalledBy names xs (insert counts name k)
called_more names xs counts name k le h = record {
  within = h.within;
  valid = h.valid;
  counted = λ i d l. let c = h.counted i d l in let m = more_at counts name k (get_or xs i d).name le in (c.0, omega (arith, c.1, m));
  once = h.once;
  heap = h.heap;
}

-- ---- one more row

-- it is an older one, or the new one
slice_pushed : (xs : List Instance) (y z : Instance) (k : ℕ) → slice_get (xs ++ y ∷ []) k ≡ Some z → (slice_get xs k ≡ Some z) ⊎ ((k ≡ length xs) × (y ≡ z))
slice_pushed [] y z zero e = inr (refl, same_Some y z e)
slice_pushed [] y z (suc k) e = absurd (none-some z (sym (nothing k) ∙ e))
  where
    nothing : (k : ℕ) → slice_get {X = Instance} [] k ≡ None
    nothing zero = refl
    nothing (suc k) = refl
slice_pushed (x ∷ xs) y z zero e = inl e
slice_pushed (x ∷ xs) y z (suc k) e = by (slice_pushed xs y z k e)
  where
    by : (slice_get xs k ≡ Some z) ⊎ ((k ≡ length xs) × (y ≡ z)) → (slice_get xs k ≡ Some z) ⊎ ((suc k ≡ suc (length xs)) × (y ≡ z))
    by (inl h) = inl h
    by (inr h) = inr (ap suc h.0, h.1)

row_pushed : (xs : List Instance) (y z : Instance) (j : ℕ) → instance_at (xs ++ y ∷ []) j ≡ Some z → (instance_at xs j ≡ Some z) ⊎ ((j ≡ length xs + 1) × (y ≡ z))
row_pushed xs y z j e = by (eqb j 0) refl e
  where
    next : (b : Bool) → eqb j 0 ≡ b → b ≡ false → j - 1 ≡ length xs → j ≡ length xs + 1
    next b e f h = let some : eqb j 0 ≡ false = e ∙ f in grind (arith, nat_tests)

    by : (b : Bool) → eqb j 0 ≡ b → cond b None (slice_get (xs ++ y ∷ []) (j - 1)) ≡ Some z → (cond b None (slice_get xs (j - 1)) ≡ Some z) ⊎ ((j ≡ length xs + 1) × (y ≡ z))
    by true q e = absurd (none-some z e)
    by false q e = of (slice_pushed xs y z (j - 1) e)
      where
        of : (slice_get xs (j - 1) ≡ Some z) ⊎ ((j - 1 ≡ length xs) × (y ≡ z)) → (slice_get xs (j - 1) ≡ Some z) ⊎ ((j ≡ length xs + 1) × (y ≡ z))
        of (inl h) = inl h
        of (inr h) = inr (next false q refl h.0, h.1)

-- a new one has the next number of its name
pub called_push : (names : List (List ℕ)) (xs : List Instance) (counts : FinMap nat_cmp ℕ) (y : Instance) → y.name < length names → is_name (name_at names y.name) ≡ true → y.k ≡ unwrap_or (get counts y.name) 0 + 1
    → (is_heap y.kind ≡ true → name_at names y.name ≡ codes "@heap") → AreCalledBy names xs counts → AreCalledBy names (xs ++ y ∷ []) (insert counts y.name y.k)
called_push names xs counts y named valid next heap h =
    let le : unwrap_or (get counts y.name) 0 ≤ y.k = omega (arith, next) in
    let m = called_more names xs counts y.name y.k le h in
    record {
      within = All-push (λ (z : Instance). z.name < length names) xs y h.within named;
      valid = All-push (λ (z : Instance). is_name (name_at names z.name) ≡ true) xs y h.valid valid;
      counted = All-push (λ (z : Instance). (1 ≤ z.k) × (z.k ≤ unwrap_or (get (insert counts y.name y.k) z.name) 0)) xs y m.counted
          (omega (arith, next), let e = count_here counts y.name y.k in omega (arith, e));
      once = λ a b z w ea eb en ek. by a b z w en ek (row_pushed xs y z a ea) (row_pushed xs y w b eb);
      heap = All-push (λ (z : Instance). is_heap z.kind ≡ true → name_at names z.name ≡ codes "@heap") xs y h.heap heap;
    }
  where
    -- an older one has a lower number
    older : (a : ℕ) (z : Instance) → instance_at xs a ≡ Some z → z.name ≡ y.name → z.k ≡ y.k → ⊥
    older a z e en ek =
        let r = row_found xs a z (sym e) in
        let c = subst (λ (q : Instance). (1 ≤ q.k) × (q.k ≤ unwrap_or (get counts q.name) 0)) r.here (h.counted (a - 1) z r.within) in
        let same : unwrap_or (get counts z.name) 0 ≡ unwrap_or (get counts y.name) 0 = ap (λ n. unwrap_or (get counts n) 0) en in
        omega (arith, c.1, same, ek, next)

    by : (a b : ℕ) (z w : Instance) → z.name ≡ w.name → z.k ≡ w.k → (instance_at xs a ≡ Some z) ⊎ ((a ≡ length xs + 1) × (y ≡ z)) → (instance_at xs b ≡ Some w) ⊎ ((b ≡ length xs + 1) × (y ≡ w)) → a ≡ b
    by a b z w en ek (inl p) (inl q) = h.once a b z w p q en ek
    by a b z w en ek (inl p) (inr q) = absurd (older a z p (en ∙ sym (ap (λ (i : Instance). i.name) q.1)) (ek ∙ sym (ap (λ (i : Instance). i.k) q.1)))
    by a b z w en ek (inr p) (inl q) = absurd (older b w q (sym en ∙ sym (ap (λ (i : Instance). i.name) p.1)) (sym ek ∙ sym (ap (λ (i : Instance). i.k) p.1)))
    by a b z w en ek (inr p) (inr q) = p.0 ∙ sym q.0
