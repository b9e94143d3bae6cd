-- What stays of storage instances and of pairs of candidates, from one moment of a run to a later one (C17 6.2.4, the memory model).
use Rattle.std.specs.Prelude.{◌≡◌, ℕ, true, List, Option, Some, None}
use Rattle.pv_prov.specs.declared.pairs.Twin.{Twin}
use Rattle.pv_prov.specs.Names.{twin_at}
use Rattle.pv_inst.specs.declared.values.Instance.{Instance}
use Rattle.pv_inst.specs.Table.{instance_at}
use Rattle.pv_eval.specs.States.{State}
use Rattle.pv_exec.specs.Laying.{table_at}

-- 6.2.4p2: an instance has a constant address and size, and lives no more once it has ended; what is exposed stays exposed (the memory
-- model)
pub record StaysAs (x y : Instance) : Type 0 where
  pub name : y.name ≡ x.name
  pub k : y.k ≡ x.k
  pub base : y.base ≡ x.base
  pub size : y.size ≡ x.size
  pub kind : y.kind ≡ x.kind
  pub lived : y.live ≡ true → x.live ≡ true
  pub exposed : x.exposed ≡ true → y.exposed ≡ true

-- 6.2.4p2: the instance with a number, if there was one, is there still, and stays as it was
abbrev pub Remains : Option Instance → Option Instance → Type 0
Remains None o = Unit {0}
Remains (Some x) None = ⊥
Remains (Some x) (Some y) = StaysAs x y

-- 6.2.4p2: every instance is there still, under its number
abbrev pub AllRemain : List Instance → List Instance → Type 0
AllRemain xs ys = (i : ℕ) → Remains (instance_at xs i) (instance_at ys i)

-- 6.2.4p2: so it is from this moment of a run to that one
abbrev pub InstancesRemain : State → State → Type 0
InstancesRemain s t = AllRemain (table_at s).instances (table_at t).instances

-- the memory model: a pair has the same two candidates ever after, and keeps none again that it has dropped
pub record SettlesFrom (t u : Twin) : Type 0 where
  pub low : u.low ≡ t.low
  pub high : u.high ≡ t.high
  pub keeps_low : u.keeps_low ≡ true → t.keeps_low ≡ true
  pub keeps_high : u.keeps_high ≡ true → t.keeps_high ≡ true

-- the memory model: the pair with a number, if there was one, is there still, and keeps none again that it has dropped
abbrev pub Settles : Option Twin → Option Twin → Type 0
Settles None o = Unit {0}
Settles (Some t) None = ⊥
Settles (Some t) (Some u) = SettlesFrom t u

-- the memory model: every pair is there still, under its number
abbrev pub AllSettle : List Twin → List Twin → Type 0
AllSettle ts us = (k : ℕ) → Settles (twin_at ts k) (twin_at us k)

-- the memory model: so it is from this moment of a run to that one
abbrev pub PairsSettle : State → State → Type 0
PairsSettle s t = AllSettle (table_at s).pairs (table_at t).pairs
