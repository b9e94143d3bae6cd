-- A bridge: the pointer that loaded bytes are, and what a load answers where it makes a pair of candidates.
use Rattle.std.specs.Prelude.{List, Option, unwrap_or, option_map, ℕ, IsSome, ◌≡◌, None, IsSomeAnd, Result, Err}
use Rattle.pv_num.specs.declared.kinds.IntKind.TheVariants.{Int}
use Rattle.pv_prov.specs.declared.names.Prov.{Prov}
use Rattle.pv_inst.specs.Table.{Table}
use Rattle.pv_inst.specs.Finding.{name_at, found_at}
use Rattle.pv_shadow.specs.declared.byte.Byte.{Byte}
use Rattle.pv_shadow.specs.Whole.{whole_name, number_in}
use Rattle.pv_shadow.specs.Readings.{pointer_in}
use Rattle.pv_object.specs.declared.values.Pointer.{Pointer}
use Rattle.pv_object.specs.declared.values.Scalar.{Scalar}
use Rattle.pv_object.specs.declared.values.Scalar.TheVariants as scalar
use Rattle.pv_object.specs.declared.values.Stop.{Stop}
use Rattle.pv_object.specs.declared.values.Stop.TheVariants.{NoMemory}

-- The memory model: the name that a pointer has which these bytes are, before its live test: that of a pointer stored whole, or else that
-- which the number finds (of two instances, the next pair). None where a byte has no value.
abbrev pub loaded_name : Table → List Byte → Option Prov
loaded_name T bytes = option_map (λ a. unwrap_or (whole_name bytes) (name_at T a)) (number_in bytes)

-- the memory model: the pointer that bytes are which were stored as one and are whole, before its live test
abbrev pub whole_pointer : List Byte → Option Pointer
whole_pointer bytes = option_map (λ x. record { address = x.0; prov = x.1 }) (pointer_in bytes)

-- the memory model: two instances fit at the number
abbrev pub FitsTwo : Table → ℕ → Type 0
FitsTwo T a = IsSome (found_at T a).high

-- the memory model: the bytes are no whole pointer, and a number at which two instances fit
abbrev pub MakesPair : Table → List Byte → Scalar → Type 0
MakesPair T bytes (scalar.Int k) = ⊥
MakesPair T bytes scalar.Pointer = (whole_name bytes ≡ None) × IsSomeAnd (number_in bytes) (FitsTwo T)

-- this answer and this table; or no memory, only where a pair of candidates is made (memory model), and nothing changed
abbrev pub OrNoPair : {A : Type 0} → Type 0 → Result A Stop → Table → Table → Result A Stop × Table → Type 0
OrNoPair two (Err NoMemory) old new wanted = (new ≡ old) × two
OrNoPair two r old new wanted = (r ≡ wanted.0) × (new ≡ wanted.1)
