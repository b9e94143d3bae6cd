-- Order and subtraction (6.5.8p5, 6.5.6p9) in both runs.
use Rattle.std.proofs.Common.{◌≡◌, ℕ, zero, suc, ◌-◌, Bool, true, false, not, ◌&&◌, ◌||◌, cond, eqb, List, [], ◌∷◌, length, set, Option, Some, None, Result, Ok, Err, refl, sym, ap, ◌∙◌, subst, inl, inr, arith, true≢false}
use Rattle.std.proofs.lemmas.Bool.Decides.{nat_tests}
use Rattle.pv_fault.specs.declared.faults.Clause.{Clause}
use Rattle.pv_fault.specs.declared.faults.Clause.TheVariants as clause
use Rattle.pv_prov.specs.declared.pairs.Twin.{Twin}
use Rattle.pv_prov.specs.declared.names.Stands.{Stands}
use Rattle.pv_prov.specs.declared.names.Prov.{Prov}
use Rattle.pv_prov.specs.declared.names.Prov.TheVariants.{Empty, Inst, Pair}
use Rattle.pv_prov.specs.Names.{stands, twin_at, is_empty, same_name}
use Rattle.pv_prov.specs.NameParts.{keeping}
use Rattle.pv_inst.specs.declared.values.Instance.{Instance}
use Rattle.pv_inst.specs.declared.values.Test.TheVariants.{Live}
use Rattle.pv_inst.specs.declared.values.Tried.{Tried}
use Rattle.pv_inst.specs.declared.values.Miss.{Miss}
use Rattle.pv_inst.specs.declared.values.Miss.TheVariants.{Empty as NoName, Ended, Apart, Undecided, Outside, Block as NoBlock}
use Rattle.pv_inst.specs.Table.{Table, IsMadeIn}
use Rattle.pv_inst.specs.Use.{any_survives, after_use}
use Rattle.pv_inst.specs.TwoPointers.{in_common, tried_beside, miss_of_two, same_miss, same_left, same_right, after_left, same_by, same_state}
use Rattle.pv_inst.specs.SameParts.{after_both}
use Rattle.pv_inst.proofs.Together.{Common, common_found, turned, right_can}
use Rattle.pv_object.specs.declared.values.Pointer.{Pointer}
use Rattle.pv_object.specs.declared.values.Stop.{Stop}
use Rattle.pv_object.specs.declared.values.Stop.TheVariants as stop
use Rattle.pv_fault.specs.declared.verdict.Verdict.TheVariants as verdicts
use Rattle.pv_object.specs.Access.{is_null}
use Rattle.pv_object.specs.Operations.{same_stop, together, order}
use Rattle.pv_object.specs.OperationParts.{both_or_stop, order_by}
use Rattle.pv_exec.specs.Staying.{AllSettle}
use Rattle.pv_exec.proofs.Memory.Rows.{led-itself, kept-led}
use Rattle.pv_exec.proofs.Settling.Sides.{on_sides, on_table, Allows, Covers, nearly}
use Rattle.pv_exec.proofs.Settling.Uses.{settled-covers}
use Rattle.pv_exec.proofs.Settling.Along.{IsFault, Ends, Along, lost, either-along, before}
use Rattle.pv_exec.proofs.Settling.Pointers.{Anyhow, SameOne}
use Rattle.pv_exec.proofs.Settling.Same.{One, Of, alive, verdict, shape, decided, open_only, one-miss, one-is, common-of, common-alive, common-in, any-of, of-one, some-common, both-common, itself, IsCand, cand}

-- a miss that is no open question
abbrev IsPlain : Miss → Type 0
IsPlain NoName = Unit {0}
IsPlain Ended = Unit {0}
IsPlain Outside = Unit {0}
IsPlain NoBlock = Unit {0}
IsPlain Apart = Unit {0}
IsPlain Undecided = ⊥

plain-fault : (c : Clause) (m : Miss) → IsPlain m → IsFault (same_stop c m)
plain-fault c NoName h = tt
plain-fault c Ended h = tt
plain-fault c Outside h = tt
plain-fault c NoBlock h = tt
plain-fault c Apart h = tt
plain-fault c Undecided h = absurd h

miss-ends : (ds : List Bool) (c : Clause) (m m' : Miss) (T : Table) → IsPlain m' → Ends {A = Tried × Tried} ds (same_stop c m) T (Err (same_stop c m'))
miss-ends ds c NoName m' T h = plain-fault c m' h
miss-ends ds c Ended m' T h = plain-fault c m' h
miss-ends ds c Outside m' T h = plain-fault c m' h
miss-ends ds c NoBlock m' T h = plain-fault c m' h
miss-ends ds c Apart m' T h = plain-fault c m' h
miss-ends ds c Undecided m' T h = tt

-- the answer and the table that is left, by the miss
abbrev met : Option Miss → Clause → Table → Prov → Prov → Result (Tried × Tried) Stop × Table
met o c T p q = (both_or_stop c (same_by o T p q), same_state o T p q)

filled-left : (a b : Bool) → (a || b) ≡ false → a ≡ false
filled-left true b h = absurd (true≢false h)
filled-left false b h = refl

filled-right : (a b : Bool) → (a || b) ≡ false → b ≡ false
filled-right true b h = absurd (true≢false h)
filled-right false b h = h

settled-instances : (T : Table) (p : Prov) (tried : Tried) → (after_use T p (Ok tried)).instances ≡ T.instances
settled-instances T Empty tried = refl
settled-instances T (Inst i) tried = refl
settled-instances T (Pair k) tried = refl

same-is : (p q : Prov) → same_name p q ≡ true → p ≡ q
same-is Empty Empty h = refl
same-is Empty (Inst j) h = absurd (true≢false (sym h))
same-is Empty (Pair m) h = absurd (true≢false (sym h))
same-is (Inst i) Empty h = absurd (true≢false (sym h))
same-is (Inst i) (Inst j) h = let e : i ≡ j = grind (arith, nat_tests) in ap Inst e
same-is (Inst i) (Pair m) h = absurd (true≢false (sym h))
same-is (Pair k) Empty h = absurd (true≢false (sym h))
same-is (Pair k) (Inst j) h = absurd (true≢false (sym h))
same-is (Pair k) (Pair m) h = let e : k ≡ m = grind (arith, nat_tests) in ap Pair e

inst-common : (T : Table) (p : Prov) (r : Stands) → Common T.instances (stands T.pairs p) r → (i : ℕ) → p ≡ Inst i → in_common T.instances (Some i) r ≡ true
inst-common T p r h i e = alone-common (subst (λ x. Common T.instances (stands T.pairs x) r) e h)
  where
    alone-common : Common T.instances (stands T.pairs (Inst i)) r → in_common T.instances (Some i) r ≡ true
    alone-common (inl g) = g
    alone-common (inr g) = absurd (true≢false (sym g))

made-after : (T : Table) (p : Prov) (tried : Tried) (q : Prov) → IsMadeIn T q → IsMadeIn (after_use T p (Ok tried)) q
made-after T p tried Empty h = tt
made-after T Empty tried (Inst i) h = h
made-after T (Inst j) tried (Inst i) h = h
made-after T (Pair k) tried (Inst i) h = h
made-after T Empty tried (Pair m) h = h
made-after T (Inst j) tried (Pair m) h = h
made-after T (Pair k) tried (Pair m) h = let e = kept-length T k tried in (h.0, omega (arith, h.1, e))
  where
    set-length : (ts : List Twin) (i : ℕ) (t : Twin) → length (set ts i t) ≡ length ts
    set-length [] i t = refl
    set-length (v ∷ ts) zero t = refl
    set-length (v ∷ ts) (suc i) t = ap suc (set-length ts i t)

    kept-length : (T : Table) (k : ℕ) (tried : Tried) → length (after_use T (Pair k) (Ok tried)).pairs ≡ length T.pairs
    kept-length T k tried = by (twin_at T.pairs k)
      where
        by : (o : Option Twin) → length (keeping o T.pairs k tried.low tried.high) ≡ length T.pairs
        by None = refl
        by (Some w) = set-length T.pairs (k - 1) (record { low = w.low; high = w.high; keeps_low = tried.low; keeps_high = tried.high })

-- what the right one keeps is less than it kept
right-settles : (T : Table) (p q : Prov) → IsMadeIn T p → IsMadeIn T q → Common T.instances (stands T.pairs p) (stands T.pairs q) → AllSettle (after_left T p q).pairs (after_both T p q).pairs
right-settles T p Empty a b h = (led-itself {F = Unit {0}} {xs = T.instances} {ts = (after_left T p Empty).pairs}).settle
right-settles T p (Inst j) a b h = (led-itself {F = Unit {0}} {xs = T.instances} {ts = (after_left T p (Inst j)).pairs}).settle
right-settles T p (Pair m) a b h =
    let U = after_left T p (Pair m) in
    let tried = same_right T p (Pair m) in
    (kept-led {F = Unit {0}} U.instances U.pairs m tried.low tried.high (right_can T p (Pair m) a b h)).settle

module _ (ds : List Bool) (T : Table) (p q : Prov) (e : (is_empty p || is_empty q) ≡ false) (mp : IsMadeIn T p) (mq : IsMadeIn T q) (c : Covers ds T.pairs) (al : Allows ds T.pairs) where
  abbrev xs : List Instance
  xs = T.instances

  abbrev s : Stands
  s = stands T.pairs p

  abbrev r : Stands
  r = stands T.pairs q

  abbrev U : Table
  U = after_left T p q

  abbrev cp : (x : ℕ) × IsCand ds T p x
  cp = cand ds T p (filled-left (is_empty p) (is_empty q) e) mp c al

  abbrev cq : (y : ℕ) × IsCand ds T q y
  cq = cand ds T q (filled-right (is_empty p) (is_empty q) e) mq c al

  covers-left : Covers ds U.pairs
  covers-left = settled-covers ds T p (Ok (same_left T p q)) c

  covers-both : Covers ds (after_both T p q).pairs
  covers-both = settled-covers ds U q (Ok (same_right T p q)) covers-left

  -- the right name, once the left one was settled
  right : Allows ds U.pairs → IsCand ds U q cq.0
  right au =
      let cu = cand ds U q (filled-right (is_empty p) (is_empty q) e) (made-after T p (same_left T p q) q mq) covers-left au in
      let same : cu.0 ≡ cq.0 = one-is (stands (on_sides ds T.pairs) q) cu.0 cq.0 (subst (λ (V : Table). One (stands V.pairs q) cu.0) (cp.1.stays r) cu.1.one) cq.1.one in
      subst (λ y. IsCand ds U q y) same cu.1

  abbrev InCommonU : ℕ → Type 0
  InCommonU y = in_common U.instances (Some y) s ≡ true

  to-left : (y : ℕ) → in_common xs (Some y) s ≡ true → in_common U.instances (Some y) s ≡ true
  to-left y h = ap (λ v. in_common v (Some y) s) (settled-instances T p (same_left T p q)) ∙ h

  from-left : (y : ℕ) → in_common U.instances (Some y) s ≡ true → in_common xs (Some y) s ≡ true
  from-left y h = ap (λ v. in_common v (Some y) s) (sym (settled-instances T p (same_left T p q))) ∙ h

  -- where both go on
  both-on : alive xs cp.0 ≡ true → cp.0 ≡ cq.0 → (c' : Clause) → Along ds Anyhow (met None c' T p q) (met None c' (on_table ds T) p q)
  both-on a f c' =
      let x = cp.0 in
      let y = cq.0 in
      let member : Of r x = subst (λ z. Of r z) (sym f) cq.1.member in
      let other : Of s y = subst (λ z. Of s z) f cp.1.member in
      let ay : alive xs y ≡ true = subst (λ z. alive xs z ≡ true) f a in
      let au : Allows ds U.pairs = cp.1.allows r (common-of xs x r a member) in
      let cr = right au in
      let ab : Allows ds (after_both T p q).pairs = cr.allows s (to-left y (common-of xs y s ay other)) in
      let S = on_table ds T in
      let r' = stands S.pairs q in
      let s' = stands S.pairs p in
      let left : after_left S p q ≡ S = cp.1.own r' (common-of xs x r' a (subst (λ z. Of r' z) (sym f) (of-one r' y cq.1.one))) in
      let both : after_both S p q ≡ S = ap (λ (V : Table). after_use V q (Ok (tried_beside V q s'))) left ∙ cq.1.own s' (common-of xs y s' ay (subst (λ z. Of s' z) f (of-one s' x cp.1.one))) in
      (tt, ab, both ∙ sym (cr.stays s ∙ cp.1.stays r), nearly ds (after_both T p q).pairs covers-both)

  -- where the late one goes on alone, it has dropped a side
  module _ (late : same_miss T p q ≡ None) where
    common : Common xs s r
    common = common_found xs p q s r late

    settled-decided : ((in_common xs s.low r && in_common xs s.high r) && not (same_name p q)) ≡ false
    unfolding miss_of_two
    settled-decided = decided (same_name p q) (is_empty p || is_empty q) (any_survives true xs s Live) (any_survives true xs r Live) (in_common xs s.low r) (in_common xs s.high r) late

    same-names : (b : Bool) → same_name p q ≡ b → (in_common xs s.low r && in_common xs s.high r) ≡ true → p ≡ q
    same-names true f h = same-is p q f
    same-names false f h = absurd (true≢false (sym (ap (λ u. u && not (same_name p q)) h ∙ ap not f) ∙ settled-decided))

    met-there : Allows ds (after_both T p q).pairs → (alive xs cp.0 ≡ true) × (alive xs cq.0 ≡ true) × (eqb cp.0 cq.0 ≡ true)
    met-there ab =
        let x = cp.0 in
        let y = cq.0 in
        let au : Allows ds U.pairs = before ds U.pairs (after_both T p q).pairs (right-settles T p q mp mq common) ab in
        let cx : in_common xs (Some x) r ≡ true = cp.1.refuses r (inst-common T p r common) au in
        let cr = right au in
        let cy : in_common xs (Some y) s ≡ true = from-left y (cr.refuses s (λ i f. to-left i (inst-common T q s (turned xs s r common) i f)) ab) in
        let ax = common-alive xs x r cx in
        let ay = common-alive xs y s cy in
        (ax, ay, together-is (eqb x y) refl cx (common-of xs y r ay cq.1.member) (common-in xs y s cy))
      where
        together-is : (b : Bool) → eqb cp.0 cq.0 ≡ b → in_common xs (Some cp.0) r ≡ true → in_common xs (Some cq.0) r ≡ true → Of s cq.0 → eqb cp.0 cq.0 ≡ true
        together-is true f h g o = f
        together-is false f h g o =
            let names : p ≡ q = same-names (same_name p q) refl (both-common xs s r cp.0 cq.0 f cp.1.member o h g) in
            let same : cp.0 ≡ cq.0 = one-is (stands (on_sides ds T.pairs) q) cp.0 cq.0 (subst (λ z. One (stands (on_sides ds T.pairs) z) cp.0) names cp.1.one) cq.1.one in
            ap (λ z. eqb z cq.0) same ∙ itself cq.0

  -- where the settled one goes on, the late one does so too, or is undecided
  late-open : alive xs cp.0 ≡ true → cp.0 ≡ cq.0 → same_miss T p q ≡ cond ((in_common xs s.low r && in_common xs s.high r) && not (same_name p q)) (Some Undecided) None
  unfolding miss_of_two
  late-open a f =
      let member : Of r cp.0 = subst (λ z. Of r z) (sym f) cq.1.member in
      ap (λ b. shape (same_name p q) b (any_survives true xs s Live) (any_survives true xs r Live) (in_common xs s.low r) (in_common xs s.high r)) e
      ∙ open_only (same_name p q) (any_survives true xs s Live) (any_survives true xs r Live) (in_common xs s.low r) (in_common xs s.high r)
      (any-of xs s cp.0 a cp.1.member) (any-of xs r cp.0 a member) (some-common xs s r cp.0 a cp.1.member member)

  -- the settled one stops
  stops-both : (c' : Clause) (o : Option Miss) (m' : Miss) → same_miss T p q ≡ o → IsPlain m' → (Allows ds (after_both T p q).pairs → same_miss T p q ≡ None → ⊥) → Along ds Anyhow (met o c' T p q) (met (Some m') c' (on_table ds T) p q)
  stops-both c' None m' f h n = lost {A = Tried × Tried} ds Anyhow (Ok (same_left T p q, same_right T p q)) (after_both T p q) (same_stop c' m') (on_table ds T) (plain-fault c' m' h) (λ a. n a f)
  stops-both c' (Some m) m' f h n = miss-ends ds c' m m' T h

  goes-both : (c' : Clause) (b : Bool) → alive xs cp.0 ≡ true → cp.0 ≡ cq.0 → Along ds Anyhow (met (cond b (Some Undecided) None) c' T p q) (met None c' (on_table ds T) p q)
  goes-both c' true a f = tt
  goes-both c' false a f = both-on a f c'

  by-verdict : (c' : Clause) (u v w : Bool) → alive xs cp.0 ≡ u → alive xs cq.0 ≡ v → eqb cp.0 cq.0 ≡ w → Along ds Anyhow (met (same_miss T p q) c' T p q) (met (verdict u v w) c' (on_table ds T) p q)
  by-verdict c' true true true f g h =
      let same : cp.0 ≡ cq.0 = grind (arith, nat_tests) in
      subst (λ o. Along ds Anyhow (met o c' T p q) (met None c' (on_table ds T) p q)) (sym (late-open f same)) (goes-both c' ((in_common xs s.low r && in_common xs s.high r) && not (same_name p q)) f same)
  by-verdict c' true true false f g h = stops-both c' (same_miss T p q) Apart refl tt (λ a l. true≢false (sym (met-there l a).2 ∙ h))
  by-verdict c' true false w f g h = stops-both c' (same_miss T p q) Ended refl tt (λ a l. true≢false (sym (met-there l a).1 ∙ g))
  by-verdict c' false v w f g h = stops-both c' (same_miss T p q) Ended refl tt (λ a l. true≢false (sym (met-there l a).0 ∙ f))

  meets : (c' : Clause) → Along ds Anyhow (met (same_miss T p q) c' T p q) (met (same_miss (on_table ds T) p q) c' (on_table ds T) p q)
  meets c' =
      subst (λ o. Along ds Anyhow (met (same_miss T p q) c' T p q) (met o c' (on_table ds T) p q))
      (sym (one-miss xs p q (stands (on_sides ds T.pairs) p) (stands (on_sides ds T.pairs) q) cp.0 cq.0 e cp.1.one cq.1.one))
      (by-verdict c' (alive xs cp.0) (alive xs cq.0) (eqb cp.0 cq.0) refl refl refl)

empty-meets : (ds : List Bool) (T : Table) (p q : Prov) (c' : Clause) → (is_empty p || is_empty q) ≡ true → Along ds Anyhow (met (same_miss T p q) c' T p q) (met (same_miss (on_table ds T) p q) c' (on_table ds T) p q)
unfolding miss_of_two
empty-meets ds T Empty q c' h = tt
empty-meets ds T (Inst i) Empty c' h = tt
empty-meets ds T (Pair k) Empty c' h = tt
empty-meets ds T (Inst i) (Inst j) c' h = absurd (true≢false (sym h))
empty-meets ds T (Inst i) (Pair m) c' h = absurd (true≢false (sym h))
empty-meets ds T (Pair k) (Inst j) c' h = absurd (true≢false (sym h))
empty-meets ds T (Pair k) (Pair m) c' h = absurd (true≢false (sym h))

names-meet : (ds : List Bool) (T : Table) (p q : Prov) (c' : Clause) (b : Bool) → (is_empty p || is_empty q) ≡ b → IsMadeIn T p → IsMadeIn T q → Covers ds T.pairs → Allows ds T.pairs
    → Along ds Anyhow (met (same_miss T p q) c' T p q) (met (same_miss (on_table ds T) p q) c' (on_table ds T) p q)
names-meet ds T p q c' true e mp mq c al = empty-meets ds T p q c' e
names-meet ds T p q c' false e mp mq c al = meets ds T p q e mp mq c al c'

pub together-along : (ds : List Bool) (c' : Clause) (T : Table) (p q : Pointer) → IsMadeIn T p.prov → IsMadeIn T q.prov → Allows ds T.pairs → Covers ds T.pairs → Along ds Anyhow (together c' T p q) (together c' (on_table ds T) p q)
together-along ds c' T p q mp mq al c =
    either-along ds Anyhow (is_null p || is_null q) _ _ _ _ tt (names-meet ds T p.prov q.prov c' (is_empty p.prov || is_empty q.prov) refl mp mq c al)

order-by : (ds : List Bool) (p q : Pointer) (got got' : Result (Tried × Tried) Stop × Table) → Along ds Anyhow got got' → Along ds SameOne (order_by p q got.0, got.1) (order_by p q got'.0, got'.1)
order-by ds p q ((Ok a), V) ((Ok a'), V') h = (refl, h.1, h.2, h.3)
order-by ds p q ((Ok a), V) ((Err y'), V') h = h
order-by ds p q ((Err (stop.Ends (verdicts.Undefined f))), V) ((Ok a'), V') h = absurd h
order-by ds p q ((Err (stop.Ends (verdicts.Undefined f))), V) ((Err y'), V') h = h
order-by ds p q ((Err (stop.Ends verdicts.Undecided)), V) (r', V') h = tt
order-by ds p q ((Err stop.NoMemory), V) (r', V') h = tt
order-by ds p q ((Err (stop.Ends verdicts.Indeterminate)), V) ((Ok a'), V') (inl g) = absurd (ok-err g.0)
  where
    is_ok_result : Result (Tried × Tried) Stop → Bool
    is_ok_result (Ok x) = true
    is_ok_result (Err y) = false

    ok-err : Ok a' ≡ Err (stop.Ends verdicts.Indeterminate) → ⊥
    ok-err e = true≢false (ap is_ok_result e)
order-by ds p q ((Err (stop.Ends verdicts.Indeterminate)), V) ((Ok a'), V') (inr g) = absurd g.0
order-by ds p q ((Err (stop.Ends verdicts.Indeterminate)), V) ((Err y'), V') (inl g) = inl (ap (order_by p q) g.0, g.1)
order-by ds p q ((Err (stop.Ends verdicts.Indeterminate)), V) ((Err y'), V') (inr g) = inr g

pub order-along : (ds : List Bool) (T : Table) (p q : Pointer) → IsMadeIn T p.prov → IsMadeIn T q.prov → Allows ds T.pairs → Covers ds T.pairs → Along ds SameOne (order T p q) (order (on_table ds T) p q)
order-along ds T p q mp mq al c = order-by ds p q (together clause.OrderOfPointers T p q) (together clause.OrderOfPointers (on_table ds T) p q) (together-along ds clause.OrderOfPointers T p q mp mq al c)
