-- A bridge: which addresses lie in live instances, and which places an access reaches.
use Rattle.std.specs.Prelude.{◌≡◌, ℕ, ◌+◌, ◌<◌, ◌≤◌, true, Some, IsSome, Option, None}
use Rattle.std.specs.FinMap.{get}
use Rattle.pv_inst.specs.declared.values.Instance.{Instance}
use Rattle.pv_inst.specs.Table.{Table, instance_at, IsMadeIn}
use Rattle.pv_shadow.specs.declared.byte.Byte.{Byte}
use Rattle.pv_shadow.specs.Bytes.{Store}
use Rattle.pv_shadow.specs.Readings.{HasBytes}
use Rattle.pv_object.specs.declared.values.Reach.{Reach}

-- 6.2.4p2: the address lies in a live instance
pub record IsInLive (T : Table) (a : ℕ) : Type 0 where
  pub number : ℕ
  pub inst : Instance
  pub is : instance_at T.instances number ≡ Some inst
  pub live : inst.live ≡ true
  pub from : inst.base ≤ a
  pub before : a < inst.base + inst.size

-- 6.2.4p2: the addresses that have bytes are exactly those in live instances; and the provenance names in bytes were made
pub record HasLiveBytes (T : Table) (b : Store) : Type 0 where
  pub there : (i : ℕ) (x : Instance) → instance_at T.instances i ≡ Some x → x.live ≡ true → HasBytes b x.base x.size
  pub only : (a : ℕ) → IsSome (get b a) → IsInLive T a
  pub named : (a : ℕ) (x : Byte) → get b a ≡ Some x → IsMadeIn T x.prov

-- 6.2.4p2: the instance is live, the address is that of the offset in it, and so many bytes lie in it from there on
abbrev pub IsReachIn : Option Instance → Reach → ℕ → Type 0
IsReachIn None r n = ⊥
IsReachIn (Some x) r n = (x.live ≡ true) × (r.address ≡ x.base + r.offset) × (r.offset + n ≤ x.size)

-- 6.2.4p2: a place of this table that was reached: its instance is live, and so many bytes lie in it from there on
abbrev pub IsReach : Table → Reach → ℕ → Type 0
IsReach T r n = IsReachIn (instance_at T.instances r.inst) r n
