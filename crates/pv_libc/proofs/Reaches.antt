-- Places within a place that was reached, and the whole of an instance as a place.
use Rattle.std.proofs.Common.{◌≡◌, ℕ, ◌+◌, ◌^◌, ◌≤◌, Bool, true, false, cond, Option, Some, None, IsSomeAnd, IsTrue, refl, sym, ap, ◌∙◌, arith}
use Rattle.std.proofs.lemmas.Option.{none-some}
use Rattle.pv_inst.specs.declared.values.Instance.{Instance}
use Rattle.pv_inst.specs.declared.values.Info.{Info}
use Rattle.pv_inst.specs.Table.{Table, instance_at}
use Rattle.pv_inst.specs.Infos.{info_of}
use Rattle.pv_inst.specs.Answers.{IsLive}
use Rattle.pv_inst.specs.WellFormed.{IsWellFormed}
use Rattle.pv_inst.specs.Use.{empty_use}
use Rattle.pv_object.specs.declared.values.Reach.{Reach}
use Rattle.pv_object.specs.Reaching.{IsReach, IsReachIn}

bound_in : (o : Option Instance) (T : Table) (r : Reach) (n : ℕ) → IsWellFormed T → instance_at T.instances r.inst ≡ o → IsReachIn o r n → r.address + n ≤ 2 ^ 47
bound_in None T r n w e h = absurd h
bound_in (Some x) T r n w e h = let p = w.placed r.inst x e in omega (arith, p.upto, h.1, h.2)

-- it lies within the addresses
pub reach_bound : (T : Table) (r : Reach) (n : ℕ) → IsWellFormed T → IsReach T r n → r.address + n ≤ 2 ^ 47
reach_bound T r n w h = bound_in (instance_at T.instances r.inst) T r n w refl h

offset_in : (o : Option Instance) (r : Reach) (n : ℕ) → IsReachIn o r n → r.offset ≤ r.address
offset_in None r n h = absurd h
offset_in (Some x) r n h = omega (arith, h.1)

pub reach_offset : (T : Table) (r : Reach) (n : ℕ) → IsReach T r n → r.offset ≤ r.address
reach_offset T r n h = offset_in (instance_at T.instances r.inst) r n h

-- the bytes from number i on
later_in : (o : Option Instance) (r : Reach) (n i m : ℕ) → i + m ≤ n → IsReachIn o r n → IsReachIn o (record r { offset = r.offset + i; address = r.address + i }) m
later_in None r n i m l h = absurd h
later_in (Some x) r n i m l h = (h.0, omega (arith, h.1), omega (arith, h.2, l))

pub reach_within : (T : Table) (r : Reach) (n i m : ℕ) → i + m ≤ n → IsReach T r n → IsReach T (record r { offset = r.offset + i; address = r.address + i }) m
reach_within T r n i m l h = later_in (instance_at T.instances r.inst) r n i m l h

-- what is told of is live
live_by : (b : Bool) (y z : Info) → cond b (Some z) None ≡ Some y → b ≡ true
live_by true y z e = refl
live_by false y z e = absurd (none-some y e)

live_in : (o : Option Instance) (y : Info) → info_of o ≡ Some y → IsSomeAnd o (λ (x : Instance). IsTrue x.live)
live_in None y e = absurd (none-some y e)
live_in (Some x) y e = live_by x.live y _ e

pub told_live : (T : Table) (i : ℕ) (y : Info) → info_of (instance_at T.instances i) ≡ Some y → IsLive T.instances i
told_live T i y e = live_in (instance_at T.instances i) y e

whole_by : (b : Bool) (x : Instance) (y z : Info) (k : ℕ) → x.live ≡ b → z.base ≡ x.base → z.size ≡ x.size → cond b (Some z) None ≡ Some y → (x.live ≡ true) × (y.base ≡ x.base) × (y.size ≡ x.size)
whole_by false x y z k l p q e = absurd (none-some y e)
whole_by true x y z k l p q e = let same : z ≡ y = cc in (l, sym (ap (λ (w : Info). w.base) same) ∙ p, sym (ap (λ (w : Info). w.size) same) ∙ q)

whole_in : (o : Option Instance) (i : ℕ) (y : Info) (k : ℕ) → info_of o ≡ Some y → k ≤ y.size → IsReachIn o (record { inst = i; offset = 0; address = y.base; tried = empty_use }) k
whole_in None i y k e l = absurd (none-some y e)
whole_in (Some x) i y k e l =
    let w = whole_by x.live x y _ k refl refl refl e in
    (w.0, omega (arith, w.1), omega (arith, l, w.2))

-- its first bytes are within reach
pub whole_reach : (T : Table) (i : ℕ) (y : Info) (k : ℕ) → info_of (instance_at T.instances i) ≡ Some y → k ≤ y.size → IsReach T (record { inst = i; offset = 0; address = y.base; tried = empty_use }) k
whole_reach T i y k e l = whole_in (instance_at T.instances i) i y k e l
