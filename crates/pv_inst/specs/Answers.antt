-- A bridge: what operations on instances ask for and answer.
use Rattle.std.specs.Prelude.{ℕ, List, IsTrue, IsSomeAnd, ◌≡◌, Result, Err, true, ◌⊎◌}
use Rattle.pv_prov.specs.declared.names.Prov.{Prov}
use Rattle.pv_prov.specs.declared.names.Prov.TheVariants.{Empty, Inst, Pair}
use Rattle.pv_prov.specs.Made.{Stands_low, Stands_high}
use Rattle.pv_inst.specs.declared.values.Instance.{Instance}
use Rattle.pv_inst.specs.Table.{instance_at, Table}
use Rattle.pv_inst.specs.declared.values.CreateError.{CreateError}
use Rattle.pv_inst.specs.declared.values.CreateError.TheVariants.{NoMemory}
use Rattle.pv_inst.specs.declared.values.Tried.{Tried}

-- 6.2.4p2: the number is that of a live instance
abbrev pub IsLive : List Instance → ℕ → Type 0
IsLive xs i = IsSomeAnd (instance_at xs i) (λ (x : Instance). IsTrue x.live)

-- this answer and this table of instances (6.2.4p2); or no memory, and nothing changed
abbrev pub OrNoMemory : Result ℕ CreateError → Table → Table → Result ℕ CreateError × Table → Type 0
OrNoMemory (Err NoMemory) old new wanted = new ≡ old
OrNoMemory r old new wanted = (r ≡ wanted.0) × (new ≡ wanted.1)

-- the memory model: a pair may keep these: one of them, and none that it dropped before
abbrev pub CanKeep : Table → Prov → Tried → Type 0
CanKeep T (Pair k) tried = ((tried.low ≡ true) ⊎ (tried.high ≡ true)) × (tried.low ≡ true → Stands_low T.pairs k) × (tried.high ≡ true → Stands_high T.pairs k)
CanKeep T (Inst i) tried = Unit {0}
CanKeep T Empty tried = Unit {0}
