-- Which abstract bytes and pointers a run has (C17 6.2.6.1, the memory model).
use Rattle.std.specs.Prelude.{◌≡◌, ℕ, ◌<◌, ◌≤◌, ◌^◌, false, Some}
use Rattle.std.specs.FinMap.{get}
use Rattle.pv_prov.specs.Names.{is_empty}
use Rattle.pv_inst.specs.Table.{Table, IsMadeIn}
use Rattle.pv_shadow.specs.declared.byte.Byte.{Byte}
use Rattle.pv_shadow.specs.Bytes.{Store}
use Rattle.pv_object.specs.declared.values.Pointer.{Pointer}
use Rattle.pv_object.specs.declared.values.Value.{Value}
use Rattle.pv_object.specs.declared.values.Value.TheVariants.{Int as IntValue, Unset, Pointer as PointerValue}

-- the memory model, 6.2.6.1p2: an abstract byte has a value below 256, if it has one, and its name was made; of the bytes of a pointer with
-- a name the last two are 0, since every instance ends at 2 ^ 47 at the latest
pub record IsFair (T : Table) (x : Byte) : Type 0 where
  pub value : (v : ℕ) → x.value ≡ Some v → v < 256
  pub named : IsMadeIn T x.prov
  pub high : (i v : ℕ) → is_empty x.prov ≡ false → x.index ≡ Some i → x.value ≡ Some v → 6 ≤ i → v ≡ 0

-- each abstract byte of a store is fair (the memory model)
abbrev pub AreFair : Table → Store → Type 0
AreFair T m = (a : ℕ) (x : Byte) → get m a ≡ Some x → IsFair T x

-- the memory model: the name of a pointer was made, and one that has a name lies within the addresses of instances or close to them
abbrev pub IsFairPointer : Table → Pointer → Type 0
IsFairPointer T p = IsMadeIn T p.prov × (is_empty p.prov ≡ false → p.address < 2 ^ 48)

-- a scalar that is a pointer is a fair one (the memory model)
abbrev pub IsFairValue : Table → Value → Type 0
IsFairValue T (PointerValue p) = IsFairPointer T p
IsFairValue T (IntValue n) = Unit {0}
IsFairValue T Unset = Unit {0}

-- 6.2.5p20: an address of this target, where the value is a pointer
abbrev pub HasAddress : Value → Type 0
HasAddress (PointerValue p) = p.address < 2 ^ 64
HasAddress (IntValue n) = Unit {0}
HasAddress Unset = Unit {0}

-- 7.1.4p1: the value of an argument
abbrev pub IsArgument : Table → Value → Type 0
IsArgument T v = IsFairValue T v × HasAddress v
