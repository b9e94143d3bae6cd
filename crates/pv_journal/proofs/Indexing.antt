-- What is kept beside the instances, before and after each change of their list.
use Rattle.std.proofs.Common.{◌≡◌, ℕ, zero, suc, ◌+◌, ◌-◌, ◌<◌, ◌≤◌, ◌^◌, max, Bool, true, false, ◌&&◌, not, cond, eqb, ltb, leb, List, [], ◌∷◌, ◌++◌, length, get_or, set, Some, None, refl, sym, ap, ◌∙◌, subst, ⊎_elim, arith, nat_cmp}
use Rattle.std.proofs.lemmas.Bool.{and_parts, cases_lt, false≢true}
use Rattle.std.proofs.lemmas.Bool.Decides.{Decides-eqb, nat_tests}
use Rattle.std.proofs.lemmas.Option.{none-some}
use Rattle.std.proofs.lemmas.List.{get_or-set_same, get_or-set_other}
use Rattle.std.proofs.lemmas.List.Sums.{sum_by_push}
use Rattle.std.specs.BTreeMap.{is_at}
use Rattle.std.specs.Ordering.{is_lt}
use Rattle.std.specs.declared.cmp.Ordering.TheVariants.{Less, Equal, Greater}
use Rattle.std.specs.List.{slice_get, slice_set, list_all, list_any, sum_by}
use Rattle.pv_journal.specs.Keyed.{exceeded_by, shares_bytes, live_size, fresh, may_make}
use Rattle.pv_journal.specs.Indexed.{said_at, greatest_number, AreIndexed, IsFree}
use Rattle.pv_journal.specs.declared.line.Key.{Key}
use Rattle.pv_journal.specs.declared.held.Held.{Held}
use Rattle.pv_journal.proofs.Passing.{at_most, below}
use Rattle.pv_journal.proofs.Changed.{ended_sum, exposed_sum, lives_if}
use Rattle.pv_journal.proofs.Indices.{greatest_push, greatest_set, exceeds_by, distinct_push, distinct_set, living_push, living_kept, living_over}

-- ---- no instance

none_indexed : AreIndexed [] 0 (λ n. get_or [] n 0) []
none_indexed = record {
  sum = refl;
  tops = λ n. refl;
  distinct = λ j k x y l h g e. none-some x h;
  living = record {
    there = λ k x h l. absurd (none-some x h);
    only = λ b e h. absurd (none-some e h);
    some = λ k x h. absurd (none-some x h);
    apart = λ j k x y n h g l m. absurd (none-some x h);
  };
}

pub indexed_new : (xs : List Held) (ts : List ℕ) (es : List (ℕ × ℕ)) → xs ≡ [] → ts ≡ [] → es ≡ [] → AreIndexed xs 0 (λ n. get_or ts n 0) es
indexed_new xs ts es a b c =
    subst (λ (l : List Held). AreIndexed l 0 (λ n. get_or ts n 0) es) (sym a)
    (subst (λ (l : List ℕ). AreIndexed [] 0 (λ n. get_or l n 0) es) (sym b)
    (subst (λ (l : List (ℕ × ℕ)). AreIndexed [] 0 (λ n. get_or [] n 0) l) (sym c) none_indexed))

-- ---- nothing changed but memory

pub indexed_as : (xs ys : List Held) (live : ℕ) (ts us : List ℕ) (es fs : List (ℕ × ℕ)) → AreIndexed xs live (λ n. get_or ts n 0) es → ys ≡ xs → ((n : ℕ) → get_or us n 0 ≡ get_or ts n 0) → fs ≡ es
    → AreIndexed ys live (λ n. get_or us n 0) fs
indexed_as xs ys live ts us es fs h a b c =
    subst (λ (l : List Held). AreIndexed l live (λ n. get_or us n 0) fs) (sym a)
    (subst (λ (l : List (ℕ × ℕ)). AreIndexed xs live (λ n. get_or us n 0) l) (sym c)
    (record { sum = h.sum; tops = λ n. b n ∙ h.tops n; distinct = h.distinct; living = h.living }))

-- ---- one more instance

top_raised : (n k g : ℕ) (b : Bool) → (b ≡ true → g < k) → cond b k g ≡ cond b (max k g) g
top_raised n k g true h = let l = h refl in omega (arith, l)
top_raised n k g false h = refl

pub indexed_push : (xs : List Held) (live : ℕ) (ts us : List ℕ) (es fs : List (ℕ × ℕ)) (key : Key) (base size : ℕ) → AreIndexed xs live (λ n. get_or ts n 0) es → IsFree xs key base size
    → ((n : ℕ) → get_or us n 0 ≡ cond (eqb key.name n) key.k (get_or ts n 0)) → ((q : ℕ) → said_at fs q ≡ cond (is_at (nat_cmp base) q) (Some (base + size)) (said_at es q))
    → AreIndexed (xs ++ fresh key base size ∷ []) (live + size) (λ n. get_or us n 0) fs
indexed_push xs live ts us es fs key base size h free written put =
    let old = h.sum in
    let sum = sum_by_push live_size xs (fresh key base size) in
    record {
      sum = omega (arith, old, sum);
      tops = λ n.
          written n ∙ ap (λ g. cond (eqb key.name n) key.k g) (h.tops n)
          ∙ top_raised n key.k (greatest_number n xs) (eqb key.name n) (λ t. exceeds n ((Decides-eqb key.name n).0 t))
          ∙ sym (greatest_push n xs (fresh key base size));
      distinct = distinct_push xs (fresh key base size) h.distinct free.exceeds;
      living = living_push xs es fs (fresh key base size) h.living refl free.some free.apart put;
    }
  where
    exceeds : (n : ℕ) → key.name ≡ n → greatest_number n xs < key.k
    exceeds n e = subst (λ (m : ℕ). greatest_number m xs < key.k) e (below (greatest_number key.name xs) key.k (sym (exceeds_by key xs free.number) ∙ free.exceeds))

-- the number of the name, where it is written
pub top_written : (ts us : List ℕ) (m k : ℕ) → m < length ts → us ≡ set ts m k → (n : ℕ) → get_or us n 0 ≡ cond (eqb m n) k (get_or ts n 0)
top_written ts us m k l e n = ap (λ (s : List ℕ). get_or s n 0) e ∙ at (eqb m n) refl
  where
    at : (b : Bool) → eqb m n ≡ b → get_or (set ts m k) n 0 ≡ cond b k (get_or ts n 0)
    at true q = ap (λ (j : ℕ). get_or (set ts m k) j 0) (sym ((Decides-eqb m n).0 q)) ∙ get_or-set_same ts m k 0 l
    at false q = get_or-set_other ts m n k 0 (λ h. false≢true (sym q ∙ (Decides-eqb m n).1 (sym h)))

-- a zero more says nothing
pub zero_more : (ts : List ℕ) (n : ℕ) → get_or (ts ++ 0 ∷ []) n 0 ≡ get_or ts n 0
zero_more [] zero = refl
zero_more [] (suc n) = refl
zero_more (t ∷ ts) zero = refl
zero_more (t ∷ ts) (suc n) = zero_more ts n

pub free_by : (xs : List Held) (valid : Bool) (key : Key) (base size : ℕ) → may_make xs valid key base size ≡ true → IsFree xs key base size
free_by xs valid key base size h =
    let a = and_parts (valid && leb 1 key.k) _ h in
    let b = and_parts valid (leb 1 key.k) a.0 in
    let c = and_parts (list_all (exceeded_by key) xs) _ a.1 in
    let d = and_parts (leb 1 size) _ c.1 in
    let e = and_parts (leb 4096 base) _ d.1 in
    let f = and_parts (leb (base + size) (2 ^ 47)) _ e.1 in
    let g = and_parts (not (list_any (shares_bytes base size) xs)) (leb (sum_by live_size xs + size) (2 ^ 24)) f.1 in
    record {
      number = at_most 1 key.k b.1;
      exceeds = c.0;
      some = at_most 1 size d.0;
      end = at_most (base + size) (2 ^ 47) f.0;
      apart = none (list_any (shares_bytes base size) xs) g.0;
      few = at_most (sum_by live_size xs + size) (2 ^ 24) g.1;
    }
  where
    none : (b : Bool) → not b ≡ true → b ≡ false
    none true h = absurd (false≢true h)
    none false h = refl

-- ---- an instance that ends, or is exposed

pub indexed_over : (xs : List Held) (live : ℕ) (top : ℕ → ℕ) (es fs : List (ℕ × ℕ)) (i : ℕ) (x : Held) → AreIndexed xs live top es → slice_get xs i ≡ Some x → not x.live ≡ false
    → ((q : ℕ) → said_at fs q ≡ cond (is_at (nat_cmp x.base) q) None (said_at es q)) → AreIndexed (slice_set xs i (record x { live = false })) (live - x.size) top fs
indexed_over xs live top es fs i x h at l gone =
    let old = h.sum in
    let sum = ended_sum xs i x at l in
    record {
      sum = omega (arith, old, sum);
      tops = λ n. h.tops n ∙ sym (greatest_set n xs i x (record x { live = false }) at refl);
      distinct = distinct_set xs i x (record x { live = false }) at refl h.distinct;
      living = living_over xs es fs i x (record x { live = false }) h.living at (lives_if x.live l) refl refl gone;
    }

pub indexed_exposed : (xs : List Held) (live : ℕ) (top : ℕ → ℕ) (es : List (ℕ × ℕ)) (i : ℕ) (x : Held) → AreIndexed xs live top es → slice_get xs i ≡ Some x
    → AreIndexed (slice_set xs i (record x { exposed = true })) live top es
indexed_exposed xs live top es i x h at = record {
  sum = h.sum ∙ sym (exposed_sum xs i x at);
  tops = λ n. h.tops n ∙ sym (greatest_set n xs i x (record x { exposed = true }) at refl);
  distinct = distinct_set xs i x (record x { exposed = true }) at refl h.distinct;
  living = living_kept xs es i x (record x { exposed = true }) h.living at refl refl refl;
}

-- ---- what the map of live ones says below an address

pub is_less : (q a : ℕ) → q < a → nat_cmp q a ≡ Less
is_less q a l = let t : ltb q a ≡ true = grind (arith, nat_tests) in ap (λ b. cond b Less (cond (eqb q a) Equal Greater)) t

pub not_less : (b q : ℕ) → is_lt (nat_cmp b q) ≡ false → q ≤ b
not_less b q h = ⊎_elim (λ l. absurd (false≢true (sym h ∙ ap is_lt (is_less b q l)))) (λ g. omega (arith, g)) (cases_lt b q)
