-- The invariant of the memory model's instances, on which a caller may rest.
use Rattle.std.specs.Prelude.{◌+◌, ◌^◌, ◌≤◌, ◌⊎◌, ◌≡◌, true, Option, Some, None, ℕ, List, ◌≢◌, All}
use Rattle.pv_prov.specs.declared.pairs.Twin.{Twin}
use Rattle.pv_prov.specs.Twins.{KeepsOne}
use Rattle.pv_inst.specs.declared.values.Instance.{Instance}
use Rattle.pv_inst.specs.Table.{instance_at, Table, live_bytes}

-- 6.2.4p2: an instance has a byte, and lies within the addresses that this target gives
pub record IsPlaced (x : Instance) : Type 0 where
  pub some : 1 ≤ x.size
  pub from : 4096 ≤ x.base
  pub upto : x.base + x.size ≤ 2 ^ 47

-- 6.2.4p2, 7.22.3p1: two instances share no byte
abbrev pub Disjoint : Instance → Instance → Type 0
Disjoint x y = (x.base + x.size ≤ y.base) ⊎ (y.base + y.size ≤ x.base)

-- 6.2.4p2: two live instances share no byte, since the bytes of each are reserved for it
abbrev pub Apart : Instance → Instance → Type 0
Apart x y = x.live ≡ true → y.live ≡ true → Disjoint x y

-- the memory model, a pair of candidates: both are exposed, and the high one begins where the low one ends
abbrev pub Meet : Option Instance → Option Instance → Type 0
Meet (Some x) (Some y) = (x.exposed ≡ true) × (y.exposed ≡ true) × (x.base + x.size ≡ y.base)
Meet (Some x) None = ⊥
Meet None o = ⊥

-- the memory model: the instances with these numbers are exposed, and the high one begins where the low one ends
abbrev pub AreMet : List Instance → ℕ → ℕ → Type 0
AreMet xs low high = Meet (instance_at xs low) (instance_at xs high)

-- the memory model: so it is with the two of each pair
abbrev pub HasMet : List Instance → Twin → Type 0
HasMet xs t = AreMet xs t.low t.high

-- The memory model's invariant, on which a caller may rest: instances lie within the addresses, live ones share no byte (6.2.4p2),
-- each pair keeps one of its two at least, and its two are exposed and meet at its address.
pub record IsWellFormed (T : Table) : Type 0 where
  pub placed : (i : ℕ) (x : Instance) → instance_at T.instances i ≡ Some x → IsPlaced x
  pub apart : (i j : ℕ) (x y : Instance) → i ≢ j → instance_at T.instances i ≡ Some x → instance_at T.instances j ≡ Some y → Apart x y
  pub met : All (HasMet T.instances) T.pairs
  pub one : KeepsOne T.pairs
  pub few : live_bytes T.instances ≤ 2 ^ 24
