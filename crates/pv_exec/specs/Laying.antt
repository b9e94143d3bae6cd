-- How the storage instances of a run lie at a moment (C17 6.2.4p2): within the addresses, and apart from one another while they live.
use Rattle.std.specs.Prelude.{◌≡◌, ◌≢◌, ◌↔◌, ℕ, ◌+◌, ◌^◌, ◌≤◌, ◌<◌, true, List, Some, IsSome, All}
use Rattle.std.specs.FinMap.{get}
use Rattle.pv_types.specs.Layouts.{AllFill}
use Rattle.pv_types.specs.Known.{env}
use Rattle.pv_prov.specs.Twins.{KeepsOne}
use Rattle.pv_inst.specs.declared.values.Instance.{Instance}
use Rattle.pv_inst.specs.Table.{Table, instance_at, live_bytes, IsMadeIn}
use Rattle.pv_inst.specs.WellFormed.{Apart, HasMet}
use Rattle.pv_shadow.specs.declared.byte.Byte.{Byte}
use Rattle.pv_typed.specs.Tables.{Stored}
use Rattle.pv_eval.specs.States.{State}

-- the memory model: the instances and pairs at this moment
abbrev pub table_at : State → Table
table_at s = s.world.memory.table

-- 6.2.4p2: two different instances that live share no byte
abbrev pub AreApart : List Instance → Type 0
AreApart xs = (i j : ℕ) (x y : Instance) → i ≢ j → instance_at xs i ≡ Some x → instance_at xs j ≡ Some y → Apart x y

-- 6.2.4p2: so it is at this moment of a run
abbrev pub LieApart : State → Type 0
LieApart s = AreApart (table_at s).instances

-- 6.2.4p2: an instance lies within the addresses that this target gives
pub record LiesWithin (x : Instance) : Type 0 where
  pub from : 4096 ≤ x.base
  pub upto : x.base + x.size ≤ 2 ^ 47

-- The memory model's invariant, whatever the sizes of types are: instances lie within the addresses, live ones share no byte (6.2.4p2)
-- and have at most 2^24 bytes, each pair keeps one of its two at least, and its two are exposed and meet at its address.
pub record IsLaidOut (T : Table) : Type 0 where
  pub within : (i : ℕ) (x : Instance) → instance_at T.instances i ≡ Some x → LiesWithin x
  pub apart : AreApart T.instances
  pub met : All (HasMet T.instances) T.pairs
  pub one : KeepsOne T.pairs
  pub few : live_bytes T.instances ≤ 2 ^ 24

-- 6.2.4p2: the address lies in an instance that lives
pub record IsOfLive (T : Table) (a : ℕ) : Type 0 where
  pub number : ℕ
  pub inst : Instance
  pub is : instance_at T.instances number ≡ Some inst
  pub live : inst.live ≡ true
  pub from : inst.base ≤ a
  pub before : a < inst.base + inst.size

-- 6.2.4p2, 6.2.6.1p2: at this moment of a run the addresses that have abstract bytes are exactly those in live instances; and what the
-- provenance name of a byte speaks of was made (the memory model)
pub record BytesAreOfLive (s : State) : Type 0 where
  pub exactly : (a : ℕ) → IsSome (get s.world.memory.bytes a) ↔ IsOfLive (table_at s) a
  pub named : (a : ℕ) (x : Byte) → get s.world.memory.bytes a ≡ Some x → IsMadeIn (table_at s) x.prov

-- 6.2.6.1p2, 6.7.2.1p8: each completed structure and union of the unit has a byte. So it is with every table of types that is built
abbrev pub HasNoEmptyTag : Stored → Type 0
HasNoEmptyTag u = AllFill (env u.known)
