-- A use tells what passes, and leaves the state of the table that it settles.
use Rattle.std.proofs.Common.{◌≡◌, ℕ, ◌+◌, ◌-◌, ◌<◌, ◌≤◌, Bool, true, false, ◌&&◌, ◌||◌, eqb, List, [], ◌∷◌, codes, length, set, All, Option, Some, None, Result, Ok, Err, if◌then◌else◌, refl, sym, ap, ◌∙◌, ◌⊎◌, inl, inr, arith, subst}
use Rattle.std.proofs.lemmas.Bool.Decides.{Decides-eqb}
use Rattle.std.proofs.lemmas.Bool.{and_parts, false≢true}
use Rattle.std.proofs.lemmas.Option.{same_Some, slice_get-map}
use Rattle.std.specs.List.{slice_get}
use Rattle.std.specs.Option.{option_and_then, option_map}
use Rattle.pv_script.specs.Names.{name_at}
use Rattle.pv_journal_laws.specs.Naming.{AreDistinct}
use Rattle.pv_prov.specs.declared.pairs.Twin.{Twin}
use Rattle.pv_prov.specs.declared.names.Prov.{Prov}
use Rattle.pv_prov.specs.declared.names.Prov.TheVariants as prov
use Rattle.pv_prov.specs.Names.{twin_at, after_narrowing, stands_of, one_candidate}
use Rattle.pv_prov.specs.NameParts.{keeping, those_kept}
use Rattle.pv_inst.specs.declared.values.Instance.{Instance}
use Rattle.pv_inst.specs.declared.values.Test.{Test}
use Rattle.pv_inst.specs.declared.values.Test.TheVariants.{Live, Range, Block, Code}
use Rattle.pv_inst.specs.declared.values.Tried.{Tried}
use Rattle.pv_inst.specs.declared.values.Miss.{Miss}
use Rattle.pv_inst.specs.declared.values.Miss.TheVariants as miss
use Rattle.pv_inst.specs.Table.{Table, instance_at}
use Rattle.pv_inst.specs.Use.{passes, survives, any_survives, test_answer, if_two, use_answer, after_use, is_heap, is_function, miss_of, empty_answer, test_number}
use Rattle.pv_inst.specs.SameParts.{made_passes}
use Rattle.pv_inst.specs.WellFormed.{HasMet}
use Rattle.pv_inst.proofs.Rows.{row_found}
use Rattle.pv_watch.specs.declared.event.What.TheVariants as what
use Rattle.pv_world.specs.Telling.{uses}
use Rattle.pv_journal.specs.Journals.{Id, Fact}
use Rattle.pv_journal.specs.Obeying.{State, same_id, after_fact}
use Rattle.pv_journal_laws.proofs.Telling.{id_of, IsNumbered, bond_of, state_of, used_by, told_from, AreCalled}
use Rattle.pv_journal_laws.proofs.Rows.{same_is, met_rows, may_with, may_live, may_range, may_block, may_code, use_passes}
use Rattle.pv_journal_laws.proofs.Parts.{bool_false, all_here, set_same}

-- each instance has a byte
abbrev pub AllFill : List Instance → Type 0
AllFill xs = All (λ (x : Instance). 1 ≤ x.size) xs

-- the state of a table's instances and pairs
abbrev pub at_table : List (List ℕ) → (turn : ℕ) → (over : Bool) → Table → State
at_table names turn over T = state_of names turn over T.instances T.pairs

pub row_all : (P : Instance → Type 0) (xs : List Instance) (i : ℕ) (x : Instance) → All P xs → instance_at xs i ≡ Some x → P x
row_all P xs i x all at = let r = row_found xs i x (sym at) in subst P r.here (all (i - 1) x r.within)

-- ---- which tests leave what

module _ (names : List (List ℕ)) where
  one_of : (p q : Bool) → (p || q) ≡ true → (p ≡ true) ⊎ (q ≡ true)
  one_of true q h = inl refl
  one_of false q h = inr h

  -- no two that meet begin at one address
  not_both : (p q : Instance → Bool) (x y : Instance) (a : ℕ) → 1 ≤ x.size → x.base + x.size ≡ y.base → (p x ≡ true → x.base ≡ a) → (q y ≡ true → y.base ≡ a) → (p x && q y) ≡ false
  not_both p q x y a some meet px qy = bool_false (p x && q y) (λ e. both e)
    where
      both : (p x && q y) ≡ true → ⊥
      both e =
          let z = and_parts (p x) (q y) e in
          let bx : x.base ≡ a = px z.0 in
          let by : y.base ≡ a = qy z.1 in
          omega (arith, bx, by, some, meet)

  block_base : (x : Instance) (a : ℕ) → passes true x (Block a) ≡ true → x.base ≡ a
  block_base x a e = (Decides-eqb x.base a).0 (and_parts (is_heap x.kind) (eqb x.base a) (and_parts x.live _ e).1).1

  code_base : (x : Instance) (a : ℕ) → passes true x (Code a) ≡ true → x.base ≡ a
  code_base x a e = (Decides-eqb x.base a).0 (and_parts (is_function x.kind) (eqb x.base a) (and_parts x.live _ e).1).1

  may_use : (x y : Instance) (t : Test) → (is_heap x.kind ≡ true → name_at names x.name ≡ codes "@heap") → (is_heap y.kind ≡ true → name_at names y.name ≡ codes "@heap")
      → 1 ≤ x.size → x.base + x.size ≡ y.base → (passes true x t || passes true y t) ≡ true
      → may_with x.live y.live (name_at names x.name) (name_at names y.name) (test_number t) (passes true x t) (passes true y t) ≡ true
  may_use x y Live hx hy some meet any = may_live x.live y.live (name_at names x.name) (name_at names y.name)
  may_use x y (Range a n) hx hy some meet any =
      may_range x.live y.live (passes true x (Range a n)) (passes true y (Range a n)) (name_at names x.name) (name_at names y.name) (λ e. (and_parts x.live _ e).0) (λ e. (and_parts y.live _ e).0)
  may_use x y (Block a) hx hy some meet any =
      may_block x.live y.live (passes true x (Block a)) (passes true y (Block a)) (name_at names x.name) (name_at names y.name)
      (λ e. let q = and_parts x.live _ e in (q.0, hx (and_parts (is_heap x.kind) (eqb x.base a) q.1).0))
      (λ e. let q = and_parts y.live _ e in (q.0, hy (and_parts (is_heap y.kind) (eqb y.base a) q.1).0))
      (one_of (passes true x (Block a)) (passes true y (Block a)) any)
      (not_both (λ z. passes true z (Block a)) (λ z. passes true z (Block a)) x y a some meet (block_base x a) (block_base y a))
  may_use x y (Code a) hx hy some meet any =
      may_code x.live y.live (passes true x (Code a)) (passes true y (Code a)) (name_at names x.name) (name_at names y.name)
      (λ e. (and_parts x.live _ e).0) (λ e. (and_parts y.live _ e).0)
      (not_both (λ z. passes true z (Code a)) (λ z. passes true z (Code a)) x y a some meet (code_base x a) (code_base y a))

-- ---- the use of a pair

-- a use that is told, of the pair with this number
pub tried_told : (names : List (List ℕ)) (turn : ℕ) (over : Bool) (T : Table) (k test : ℕ) (t : Twin) (l h : Bool) (U : State) → twin_at T.pairs k ≡ Some t → (l ≡ true) ⊎ (h ≡ true)
    → ((f : Fact) → used_by k test (bond_of names T.instances t) l h ≡ Some f → after_fact (at_table names turn over T) f ≡ Some U)
    → told_from names (at_table names turn over T) (what.Tried k test l h ∷ []) ≡ Some U
tried_told names turn over T k test t l h U at some pass =
    let s = at_table names turn over T in
    let got : slice_get s.bonds (k - 1) ≡ Some (bond_of names T.instances t) = slice_get-map (bond_of names T.instances) T.pairs (k - 1) ∙ ap (option_map (bond_of names T.instances)) at in
    ap (λ o. option_and_then (λ u. Some u) (option_and_then (after_fact s) (option_and_then (λ b. used_by k test b l h) o))) got ∙ by l h some pass
  where
    by : (l h : Bool) → (l ≡ true) ⊎ (h ≡ true) → ((f : Fact) → used_by k test (bond_of names T.instances t) l h ≡ Some f → after_fact (at_table names turn over T) f ≡ Some U)
        → option_and_then (λ u. Some u) (option_and_then (after_fact (at_table names turn over T)) (used_by k test (bond_of names T.instances t) l h)) ≡ Some U
    by true true some pass = ap (option_and_then (λ u. Some u)) (pass _ refl)
    by true false some pass = ap (option_and_then (λ u. Some u)) (pass _ refl)
    by false true some pass = ap (option_and_then (λ u. Some u)) (pass _ refl)
    by false false (inl e) pass = absurd (false≢true e)
    by false false (inr e) pass = absurd (false≢true e)

module _ (names : List (List ℕ)) (distinct : AreDistinct names) where
  -- two candidates have two names
  pub differ : (T : Table) (i j : ℕ) (x y : Instance) → AreCalled names T → instance_at T.instances i ≡ Some x → instance_at T.instances j ≡ Some y → 1 ≤ x.size → x.base + x.size ≡ y.base → same_id (id_of names y) (id_of names x) ≡ false
  differ T i j x y called xi yj some meet = bool_false (same_id (id_of names y) (id_of names x)) (λ e. other e)
    where
      other : same_id (id_of names y) (id_of names x) ≡ true → ⊥
      other e =
          let same : id_of names y ≡ id_of names x = same_is (id_of names y) (id_of names x) e in
          let wx = row_all (λ (z : Instance). z.name < length names) T.instances i x called.within xi in
          let wy = row_all (λ (z : Instance). z.name < length names) T.instances j y called.within yj in
          let one : y.name ≡ x.name = distinct.distinct y.name x.name wy wx (ap (λ (a : Id). a.name) same) in
          let place : j ≡ i = called.once j i y x yj xi one (ap (λ (a : Id). a.k) same) in
          let base : Some y.base ≡ Some x.base = ap (option_map (λ (z : Instance). z.base)) (sym yj ∙ ap (instance_at T.instances) place ∙ xi) in
          let b : y.base ≡ x.base = same_Some y.base x.base base in
          omega (arith, b, some, meet)

  -- the event, where both are kept
  two_kept : (turn : ℕ) (over : Bool) (T : Table) (k : ℕ) (t : Twin) (x y : Instance) (test : Test) → AreCalled names T → AllFill T.instances → 1 ≤ k → twin_at T.pairs k ≡ Some t → t.keeps_low ≡ true → t.keeps_high ≡ true
      → instance_at T.instances t.low ≡ Some x → instance_at T.instances t.high ≡ Some y → x.base + x.size ≡ y.base → (passes true x test || passes true y test) ≡ true
      → told_from names (at_table names turn over T) (what.Tried k (test_number test) (passes true x test) (passes true y test) ∷ []) ≡ Some (state_of names turn over T.instances (after_narrowing T.pairs k (passes true x test) (passes true y test)))
  two_kept turn over T k t x y test called fill one at kl kh lat hat meet any =
      let some = row_all (λ (z : Instance). 1 ≤ z.size) T.instances t.low x fill lat in
      let may = may_use names x y test (row_all (λ (z : Instance). is_heap z.kind ≡ true → name_at names z.name ≡ codes "@heap") T.instances t.low x called.heap lat)
      (row_all (λ (z : Instance). is_heap z.kind ≡ true → name_at names z.name ≡ codes "@heap") T.instances t.high y called.heap hat) some meet any in
      tried_told names turn over T k (test_number test) t (passes true x test) (passes true y test) _ at (one_of names (passes true x test) (passes true y test) any)
      (λ f e. use_passes names distinct turn over T k (test_number test) t x y (passes true x test) (passes true y test) called one at kl kh lat hat (differ T t.low t.high x y called lat hat some meet) may f e)

-- ---- a use of any name

pub keeps_as : (ts : List Twin) (k : ℕ) (t : Twin) (low high : Bool) → twin_at ts k ≡ Some t → low ≡ t.keeps_low → high ≡ t.keeps_high → after_narrowing ts k low high ≡ ts
keeps_as ts k t low high at l h =
    let same : record { low = t.low; high = t.high; keeps_low = low; keeps_high = high } ≡ t = (λ n. record { low = t.low; high = t.high; keeps_low = l n; keeps_high = h n }) in
    ap (λ o. keeping o ts k low high) at ∙ ap (λ u. set ts (k - 1) u) same ∙ set_same ts (k - 1) t at

-- the answer of a use, with this zap
abbrev answer_by : (zap : Bool) → Table → Prov → Test → Result Tried Miss
answer_by zap T prov.Empty t = empty_answer t
answer_by zap T (prov.Inst i) t = test_answer zap T.instances (one_candidate i) None t
answer_by zap T (prov.Pair k) t = test_answer zap T.instances (stands_of (twin_at T.pairs k)) (if_two k (stands_of (twin_at T.pairs k))) t

module _ (names : List (List ℕ)) (distinct : AreDistinct names) where
  -- what is told of a use, and what it leaves
  abbrev pub UsePasses : (turn : ℕ) (over : Bool) → Table → Prov → Test → Result Tried Miss → Type 0
  UsePasses turn over T p test answer = told_from names (at_table names turn over T) (uses (test_number test) answer) ≡ Some (state_of names turn over T.instances (after_use T p answer).pairs)

  alone_passes : (turn : ℕ) (over : Bool) (T : Table) (i : ℕ) (test : Test) (a : Bool) (low high : Bool) (m : Miss)
      → UsePasses turn over T (prov.Inst i) test (if a then Ok (record { pair = None; low = low; high = high }) else Err m)
  alone_passes turn over T i test true low high m = refl
  alone_passes turn over T i test false low high m = refl

  -- a pair that keeps one alone
  one_passes : (turn : ℕ) (over : Bool) (T : Table) (k : ℕ) (t : Twin) (test : Test) (a low high : Bool) (m : Miss) → twin_at T.pairs k ≡ Some t → (a ≡ true → low ≡ t.keeps_low) → (a ≡ true → high ≡ t.keeps_high)
      → UsePasses turn over T (prov.Pair k) test (if a then Ok (record { pair = None; low = low; high = high }) else Err m)
  one_passes turn over T k t test true low high m at l h = ap (λ ts. Some (state_of names turn over T.instances ts)) (sym (keeps_as T.pairs k t low high at (l refl) (h refl)))
  one_passes turn over T k t test false low high m at l h = refl

  both_pass : (turn : ℕ) (over : Bool) (T : Table) (k : ℕ) (t : Twin) (x y : Instance) (test : Test) (m : Miss) (a : Bool) → a ≡ (passes true x test || passes true y test) → AreCalled names T → AllFill T.instances → 1 ≤ k
      → twin_at T.pairs k ≡ Some t → t.keeps_low ≡ true → t.keeps_high ≡ true → instance_at T.instances t.low ≡ Some x → instance_at T.instances t.high ≡ Some y → x.base + x.size ≡ y.base
      → UsePasses turn over T (prov.Pair k) test (if a then Ok (record { pair = Some k; low = passes true x test; high = passes true y test }) else Err m)
  both_pass turn over T k t x y test m true e called fill one at kl kh lat hat meet = two_kept names distinct turn over T k t x y test called fill one at kl kh lat hat meet (sym e)
  both_pass turn over T k t x y test m false e called fill one at kl kh lat hat meet = refl

  -- a pair that was made, whatever it keeps
  pair_passes_use : (turn : ℕ) (over : Bool) (T : Table) (k : ℕ) (t : Twin) (test : Test) → AreCalled names T → AllFill T.instances → 1 ≤ k → twin_at T.pairs k ≡ Some t → HasMet T.instances t
      → UsePasses turn over T (prov.Pair k) test (test_answer true T.instances (those_kept t) (if_two k (those_kept t)) test)
  pair_passes_use turn over T k t test called fill one at met =
      met_rows T.instances t.low t.high met (λ x y lat hat meet. by x y lat hat meet t.keeps_low t.keeps_high refl refl)
    where
      low_so : (b : Bool) → (b || false) ≡ true → b ≡ true
      low_so true h = refl
      low_so false h = h

      by : (x y : Instance) → instance_at T.instances t.low ≡ Some x → instance_at T.instances t.high ≡ Some y → x.base + x.size ≡ y.base → (kl kh : Bool) → t.keeps_low ≡ kl → t.keeps_high ≡ kh
          → UsePasses turn over T (prov.Pair k) test (test_answer true T.instances (record { low = if kl then Some t.low else None; high = if kh then Some t.high else None })
          (if_two k (record { low = if kl then Some t.low else None; high = if kh then Some t.high else None })) test)
      by x y lat hat meet true true el eh =
          let here = ap (λ o. made_passes true o test) lat in
          let there = ap (λ o. made_passes true o test) hat in
          let P : Bool → Bool → Type 0 = λ l h. UsePasses turn over T (prov.Pair k) test
          (if l || h then Ok (record { pair = Some k; low = l; high = h }) else Err (if survives true T.instances (Some t.low) Live || survives true T.instances (Some t.high) Live then miss_of test else miss.Ended)) in
          subst (λ l. P l (made_passes true (instance_at T.instances t.high) test)) (sym here) (subst (λ h. P (passes true x test) h) (sym there)
          (both_pass turn over T k t x y test _ (passes true x test || passes true y test) refl called fill one at el eh lat hat meet))
      by x y lat hat meet true false el eh =
          one_passes turn over T k t test (survives true T.instances (Some t.low) test || false) (survives true T.instances (Some t.low) test) false _ at (λ e. low_so (survives true T.instances (Some t.low) test) e ∙ sym el) (λ e. sym eh)
      by x y lat hat meet false true el eh =
          one_passes turn over T k t test (survives true T.instances (Some t.high) test) false (survives true T.instances (Some t.high) test) _ at (λ e. sym el) (λ e. e ∙ sym eh)
      by x y lat hat meet false false el eh = refl

  numbered_passes : (turn : ℕ) (over : Bool) (T : Table) (p : Prov) (test : Test) → AreCalled names T → AllFill T.instances → All (HasMet T.instances) T.pairs → IsNumbered p
      → (zap : Bool) → zap ≡ true → UsePasses turn over T p test (answer_by zap T p test)
  numbered_passes turn over T prov.Empty Live called fill met made zap z = refl
  numbered_passes turn over T prov.Empty (Range a n) called fill met made zap z = refl
  numbered_passes turn over T prov.Empty (Block a) called fill met made zap z = refl
  numbered_passes turn over T prov.Empty (Code a) called fill met made zap z = refl
  numbered_passes turn over T (prov.Inst i) test called fill met made zap z = alone_passes turn over T i test (any_survives zap T.instances (one_candidate i) test) _ _ _
  numbered_passes turn over T (prov.Pair k) test called fill met made zap z =
      subst (λ b. UsePasses turn over T (prov.Pair k) test (answer_by b T (prov.Pair k) test)) (sym z) (by (twin_at T.pairs k) refl)
    where
      by : (o : Option Twin) → twin_at T.pairs k ≡ o → UsePasses turn over T (prov.Pair k) test (test_answer true T.instances (stands_of o) (if_two k (stands_of o)) test)
      by None e = refl
      by (Some t) e = pair_passes_use turn over T k t test called fill made e (all_here (HasMet T.instances) T.pairs (k - 1) t met e)

  -- a use of any name: what it tells passes, and leaves the state of the settled table
  pub use_passes_told : (turn : ℕ) (over : Bool) (T : Table) (p : Prov) (test : Test) → T.zap ≡ true → AreCalled names T → AllFill T.instances → All (HasMet T.instances) T.pairs → IsNumbered p
      → UsePasses turn over T p test (use_answer T p test)
  use_passes_told turn over T p test zap called fill met numbered = subst (λ a. UsePasses turn over T p test a) (answer_is p test) (numbered_passes turn over T p test called fill met numbered T.zap zap)
    where
      answer_is : (p : Prov) (test : Test) → answer_by T.zap T p test ≡ use_answer T p test
      answer_is prov.Empty test = refl
      answer_is (prov.Inst i) test = refl
      answer_is (prov.Pair k) test = refl
