-- Want of memory, which is no verdict of C17: no operation of a run and no call of the library (C17 7) stops for it in the definitions.
use Rattle.std.specs.Prelude.{◌≡◌, ℕ, ℤ, Bool, true, false, List, Result, Ok, Err}
use Rattle.pv_num.specs.declared.kinds.IntKind.{IntKind}
use Rattle.pv_fault.specs.declared.faults.Clause.{Clause}
use Rattle.pv_inst.specs.Table.{Table}
use Rattle.pv_shadow.specs.declared.byte.Byte.{Byte}
use Rattle.pv_object.specs.declared.values.Asker.{Asker}
use Rattle.pv_object.specs.declared.values.Pointer.{Pointer}
use Rattle.pv_object.specs.declared.values.Scalar.{Scalar}
use Rattle.pv_object.specs.declared.values.Stop.{Stop}
use Rattle.pv_object.specs.declared.values.Stop.TheVariants.{NoMemory, Ends}
use Rattle.pv_object.specs.Access.{reach}
use Rattle.pv_object.specs.Loading.{value_of}
use Rattle.pv_object.specs.Operations.{truth, pointer_equality, to_ptr, recast, to_int, shift, select, code, together, order}

-- it stops, if it does, for another reason than want of memory
abbrev pub had_memory : {A : Type 0} → Result A Stop → Bool
had_memory (Ok a) = true
had_memory (Err (Ends v)) = true
had_memory (Err NoMemory) = false

-- 6.3.2.3, 6.5.2.2p1, 6.5.3.2p4, 6.5.6, 6.5.8, 6.5.9, 6.2.6.1p5: what operations ask of the memory
pub record NeverWants (T : Table) : Type 0 where
  pub truth : (p : Pointer) → had_memory (truth T p).0 ≡ true
  pub equality : (p q : Pointer) → had_memory (pointer_equality T p q).0 ≡ true
  pub pointer : (n : ℤ) → had_memory (to_ptr T n).0 ≡ true
  pub recast : (p : Pointer) (align : ℕ) → had_memory (recast T p align).0 ≡ true
  pub number : (p : Pointer) (k : IntKind) → had_memory (to_int T p k).0 ≡ true
  pub shift : (p : Pointer) (by : ℤ) → had_memory (shift T p by).0 ≡ true
  pub select : (p : Pointer) (offset : ℕ) → had_memory (select T p offset).0 ≡ true
  pub code : (p : Pointer) → had_memory (code T p).0 ≡ true
  pub together : (c : Clause) (p q : Pointer) → had_memory (together c T p q).0 ≡ true
  pub order : (p q : Pointer) → had_memory (order T p q).0 ≡ true
  pub access : (p : Pointer) (n align : ℕ) (write : Bool) (by : Asker) → had_memory (reach T p n align write by).0 ≡ true
  pub load : (bytes : List Byte) (s : Scalar) → had_memory (value_of T bytes s).0 ≡ true
