-- Bytes that lie in a live instance (C17 6.2.4p2), and what a test of a pointer found: such bytes (6.5.3.2p4), or an allocation that
-- lives (7.22.3.3p2).
use Rattle.std.proofs.Common.{◌≡◌, ℕ, ◌+◌, ◌≤◌, Bool, true, false, cond, eqb, List, Option, Some, None, Result, Ok, Err, IfOk, IsSomeAnd, IsTrue, is_ok, refl, sym, ap, ◌∙◌, subst, inl, inr, arith}
use Rattle.std.proofs.lemmas.Bool.{false≢true}
use Rattle.std.proofs.lemmas.Option.{none-some}
use Rattle.pv_fault.specs.declared.faults.Clause.{Clause}
use Rattle.pv_prov.specs.declared.names.Prov.{Prov}
use Rattle.pv_prov.specs.declared.names.Prov.TheVariants.{Empty, Inst, Pair}
use Rattle.pv_prov.specs.Names.{stands, is_empty}
use Rattle.pv_inst.specs.declared.values.CreateError.{CreateError}
use Rattle.pv_inst.specs.declared.values.Instance.{Instance}
use Rattle.pv_inst.specs.declared.values.Test.TheVariants.{Range, Block}
use Rattle.pv_inst.specs.declared.values.Tried.{Tried}
use Rattle.pv_inst.specs.declared.values.Miss.{Miss}
use Rattle.pv_inst.specs.Table.{Table, instance_at}
use Rattle.pv_inst.specs.Answers.{IsLive}
use Rattle.pv_inst.specs.Infos.{base_of}
use Rattle.pv_inst.specs.Placing.{Request, place}
use Rattle.pv_inst.specs.Use.{use_answer, after_use, survives, is_heap}
use Rattle.pv_inst.specs.SameParts.{made_passes}
use Rattle.pv_inst.proofs.Fitting.{and_left, and_right}
use Rattle.pv_object.specs.declared.values.Asker.{Asker}
use Rattle.pv_object.specs.declared.values.Pointer.{Pointer}
use Rattle.pv_object.specs.declared.values.Reach.{Reach}
use Rattle.pv_object.specs.declared.values.Stop.{Stop}
use Rattle.pv_object.specs.Access.{reach, reach_after, access_check, first_survivor, clause_of, is_null}
use Rattle.pv_object.specs.Creating.{creation, with_new_bytes}
use Rattle.pv_object.specs.Later.{IsLater}
use Rattle.pv_object.specs.Memory.{Mem}
use Rattle.pv_object.specs.Reaching.{IsReach, IsReachIn}
use Rattle.pv_object.proofs.Survivors.{pick, survivor, settled_instances, reach_checked}
use Rattle.pv_object.proofs.Born.{BornOrRefused, born_or_refused, born}
use Rattle.pv_object.proofs.Later.{later_itself, settled_later}
use Rattle.pv_object.proofs.Sizes.{created_size}

-- 6.2.4p2: so many bytes from an address on lie in one instance, which lives
pub record AreInLive (T : Table) (a n : ℕ) : Type 0 where
  pub number : ℕ
  pub inst : Instance
  pub is : instance_at T.instances number ≡ Some inst
  pub live : inst.live ≡ true
  pub from : inst.base ≤ a
  pub upto : a + n ≤ inst.base + inst.size

-- 7.22.3.3p2: an allocation that lives
abbrev pub IsAllocated : Option Instance → Type 0
IsAllocated None = ⊥
IsAllocated (Some x) = (x.live ≡ true) × (is_heap x.kind ≡ true)

abbrev pub IsAllocation : Table → ℕ → Type 0
IsAllocation T i = IsAllocated (instance_at T.instances i)

allocated-lives : (o : Option Instance) → IsAllocated o → IsSomeAnd o (λ (x : Instance). IsTrue x.live)
allocated-lives None h = absurd h
allocated-lives (Some x) h = h.0

pub allocation-lives : (T : Table) (i : ℕ) → IsAllocation T i → IsLive T.instances i
allocation-lives T i h = allocated-lives (instance_at T.instances i) h

-- the same instances
pub in-live-same : (T U : Table) (a n : ℕ) → U.instances ≡ T.instances → AreInLive T a n → AreInLive U a n
in-live-same T U a n e h = record { number = h.number; inst = h.inst; is = ap (λ xs. instance_at xs h.number) e ∙ h.is; live = h.live; from = h.from; upto = h.upto }

-- what was reached
pub reach-in-live : (T : Table) (r : Reach) (n : ℕ) → IsReach T r n → AreInLive T r.address n
reach-in-live T r n h = by (instance_at T.instances r.inst) refl h
  where
    by : (o : Option Instance) → instance_at T.instances r.inst ≡ o → IsReachIn o r n → AreInLive T r.address n
    by None e h = absurd h
    by (Some x) e h = record { number = r.inst; inst = x; is = e; live = h.0; from = omega (arith, h.1); upto = omega (arith, h.1, h.2) }

abbrev Reaches : (n : ℕ) → Result Reach Stop × Table → Type 0
Reaches n got = IfOk got.0 (λ r. AreInLive got.1 r.address n)

reaches-if : (n : ℕ) (c : Bool) (w v : Result Reach Stop × Table) → Reaches n w → Reaches n v → Reaches n (cond c w v)
reaches-if n true w v h g = h
reaches-if n false w v h g = g

in-live-if : (U : Table) (n : ℕ) (r : Result Reach Stop) → IfOk r (λ r. IsReach U r n) → Reaches n (r, U)
in-live-if U n (Ok r) h = reach-in-live U r n h
in-live-if U n (Err y) h = tt

checked-reaches : (U : Table) (o : Option ℕ) (c : Clause) (p : Pointer) (n align : ℕ) (write : Bool) (tried : Tried) → ((i : ℕ) → o ≡ Some i → survives true U.instances (Some i) (Range p.address n) ≡ true)
    → Reaches n (access_check U o c p n align write tried, U)
checked-reaches U None c p n align write tried h = tt
checked-reaches U (Some i) c p n align write tried h = in-live-if U n (access_check U (Some i) c p n align write tried) (reach_checked U i c p n align write tried (h i refl))

after-reaches : (T : Table) (p : Pointer) (n align : ℕ) (write : Bool) (c : Clause) (r : Result Tried Miss) → use_answer T p.prov (Range p.address n) ≡ r → Reaches n (reach_after T p n align write c r)
after-reaches T p n align write c (Err m) e = tt
after-reaches T p n align write c (Ok tried) e =
    checked-reaches (after_use T p.prov (Ok tried)) (first_survivor (stands T.pairs p.prov) tried) c p n align write tried
    (λ i f. ap (λ (xs : List Instance). survives true xs (Some i) (Range p.address n)) (settled_instances T p.prov (Ok tried)) ∙ survivor T p.prov p.address n tried i e f)

pub reach-reaches : (T : Table) (p : Pointer) (n align : ℕ) (write : Bool) (by : Asker) → Reaches n (reach T p n align write by)
reach-reaches T p n align write by =
    reaches-if n (is_null p) _ _ tt (reaches-if n (is_empty p.prov) _ _ tt (after-reaches T p n align write (clause_of by) (use_answer T p.prov (Range p.address n)) refl))

-- a use changes no instance, and loses no name
keeps-if : (P : Table → Type 0) (c : Bool) (w v : Result Reach Stop × Table) → P w.1 → P v.1 → P (cond c w v).1
keeps-if P true w v h g = h
keeps-if P false w v h g = g

after-keeps : (P : Table → Type 0) (T : Table) (p : Pointer) (n align : ℕ) (write : Bool) (c : Clause) (r : Result Tried Miss) → P T → P (after_use T p.prov r) → P (reach_after T p n align write c r).1
after-keeps P T p n align write c (Err m) h g = h
after-keeps P T p n align write c (Ok tried) h g = g

reach-keeps : (P : Table → Type 0) (T : Table) (p : Pointer) (n align : ℕ) (write : Bool) (by : Asker) → P T → ((r : Result Tried Miss) → P (after_use T p.prov r)) → P (reach T p n align write by).1
reach-keeps P T p n align write by h g =
    let r = use_answer T p.prov (Range p.address n) in
    keeps-if P (is_null p) _ _ h (keeps-if P (is_empty p.prov) _ _ h (after-keeps P T p n align write (clause_of by) r h (g r)))

pub reach-instances : (T : Table) (p : Pointer) (n align : ℕ) (write : Bool) (by : Asker) → (reach T p n align write by).1.instances ≡ T.instances
reach-instances T p n align write by = reach-keeps (λ U. U.instances ≡ T.instances) T p n align write by refl (λ r. settled_instances T p.prov r)

pub reach-later : (T : Table) (p : Pointer) (n align : ℕ) (write : Bool) (by : Asker) → IsLater T (reach T p n align write by).1
reach-later T p n align write by = reach-keeps (λ U. IsLater T U) T p n align write by (later_itself T) (λ r. settled_later T p.prov r)

-- 7.22.3.3p2: the block test passes no other instance
no-error : {A : Type 0} (m : Miss) (x : A) → Err m ≡ Ok x → ⊥
no-error m x e = false≢true (ap is_ok e)

block-passes : (zap : Bool) (o : Option Instance) (a : ℕ) → made_passes zap o (Block a) ≡ true → IsAllocated o
block-passes zap None a h = absurd (false≢true h)
block-passes zap (Some x) a h = (and_left x.live _ h, and_left (is_heap x.kind) (eqb x.base a) (and_right x.live _ h))

pub chosen-block : (T : Table) (p : Prov) (a : ℕ) (tried : Tried) (i : ℕ) → use_answer T p (Block a) ≡ Ok tried → first_survivor (stands T.pairs p) tried ≡ Some i → IsAllocation T i
chosen-block T Empty a tried i e h = absurd (no-error _ tried e)
chosen-block T (Inst j) a tried i e h =
    let s = stands T.pairs (Inst j) in
    block-passes T.zap (instance_at T.instances i) a (pick _ _ s.low s.high T.zap T.instances (Block a) _ _ tried i refl refl e h)
chosen-block T (Pair k) a tried i e h =
    let s = stands T.pairs (Pair k) in
    block-passes T.zap (instance_at T.instances i) a (pick _ _ s.low s.high T.zap T.instances (Block a) _ _ tried i refl refl e h)

-- an instance is as it was when another one was made
pub place-keeps : (T : Table) (r : Request) (i : ℕ) (x : Instance) → instance_at T.instances i ≡ Some x → instance_at (place T r).1.instances i ≡ Some x
place-keeps T r i x e = by (born_or_refused T r)
  where
    by : BornOrRefused T (place T r) → instance_at (place T r).1.instances i ≡ Some x
    by (inl w) = ap (λ xs. instance_at xs i) w.2 ∙ e
    by (inr w) = w.2.others i (λ f. none-some x (sym w.2.was ∙ sym (ap (instance_at T.instances) f) ∙ e)) ∙ e

pub allocation-placed : (T : Table) (r : Request) (i : ℕ) → IsAllocation T i → IsAllocation (place T r).1 i
allocation-placed T r i h = by (instance_at T.instances i) refl h
  where
    by : (o : Option Instance) → instance_at T.instances i ≡ o → IsAllocated o → IsAllocation (place T r).1 i
    by None e h = absurd h
    by (Some x) e h = subst IsAllocated (sym (place-keeps T r i x e)) h

-- 6.2.4p2: what was made lives, with as many bytes as were asked for
made-in-live : (M : Mem) (r : Request) (w : Result ℕ CreateError × Table) → place M.table r ≡ w
    → IfOk (with_new_bytes M w).0 (λ i. AreInLive (with_new_bytes M w).1.table (base_of (instance_at (with_new_bytes M w).1.table.instances i)) r.size)
made-in-live M r (Ok i, U) e =
    let answer : Ok i ≡ (place M.table r).0 = ap (λ (x : Result ℕ CreateError × Table). x.0) (sym e) in
    let table : U ≡ (place M.table r).1 = ap (λ (x : Result ℕ CreateError × Table). x.1) (sym e) in
    let n = born M.table U r i answer table in
    let base : base_of (instance_at U.instances i) ≡ n.inst.base = ap base_of n.is in
    let size : n.inst.size ≡ r.size = subst (λ o. IsSomeAnd o (λ (x : Instance). x.size ≡ r.size)) n.is (created_size (Ok i) M.table U r i refl (answer, table)) in
    record { number = i; inst = n.inst; is = n.is; live = n.live; from = omega (arith, base); upto = omega (arith, base, size) }
made-in-live M r (Err y, U) e = tt

pub created-in-live : (M : Mem) (r : Request) → IfOk (creation M r).0 (λ i. AreInLive (creation M r).1.table (base_of (instance_at (creation M r).1.table.instances i)) r.size)
created-in-live M r = made-in-live M r (place M.table r) refl
