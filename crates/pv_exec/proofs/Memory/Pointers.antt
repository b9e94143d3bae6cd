-- What each operation on pointers and each access leads to (C17 6.3.2.3, 6.5.3.2, 6.5.6, 6.5.8, 6.5.9).
use Rattle.std.proofs.Common.{ℕ, ℤ, pos, Bool, true, false, cond, List, [], ◌∷◌, Option, Some, None, Result, Ok, Err}
use Rattle.pv_num.specs.declared.kinds.IntKind.{IntKind}
use Rattle.pv_fault.specs.declared.faults.Clause.{Clause}
use Rattle.pv_fault.specs.declared.faults.Clause.TheVariants as clause
use Rattle.pv_num.specs.Kinds.{fits_of, is_character_kind as is_character}
use Rattle.pv_prov.specs.declared.names.Prov.{Prov}
use Rattle.pv_prov.specs.Names.{is_empty}
use Rattle.pv_inst.specs.declared.values.Test.TheVariants.{Live, Range, Code}
use Rattle.pv_inst.specs.declared.values.Tried.{Tried}
use Rattle.pv_inst.specs.declared.values.Miss.{Miss}
use Rattle.pv_inst.specs.Table.{Table, IsMadeIn}
use Rattle.pv_inst.specs.Use.{use_answer, after_use}
use Rattle.pv_inst.specs.Exposure.{expose}
use Rattle.pv_inst.specs.Finding.{after_name, name_at}
use Rattle.pv_shadow.specs.declared.byte.Byte.{Byte}
use Rattle.pv_shadow.specs.Whole.{whole_name, number_in}
use Rattle.pv_object.specs.declared.values.Pointer.{Pointer}
use Rattle.pv_object.specs.declared.values.Scalar.{Scalar}
use Rattle.pv_object.specs.declared.values.Scalar.TheVariants as scalar
use Rattle.pv_object.specs.declared.values.Asker.{Asker}
use Rattle.pv_object.specs.Access.{reach, reach_after, clause_of, is_null}
use Rattle.pv_object.specs.Memory.{Mem, with_table}
use Rattle.pv_object.specs.Loading.{value_of, integer_of, pointer_of, pointer_named, exposed_by, is_trap}
use Rattle.pv_object.specs.Operations.{truth, pointer_equality, equal_after, recast, to_ptr, address_of, to_int, to_int_after, move_under, code, together, order}
use Rattle.pv_object.specs.OperationParts.{address_on}
use Rattle.pv_exec.proofs.Memory.Ways.{Changes}

-- the memory with another table
abbrev pub Retabled : (Mem → Mem → Type 0) → Mem → Table → Type 0
Retabled R M T = R M (with_table M T)

module _ {F : Type 0} {R : Mem → Mem → Type 0} (changes : Changes F R) where
  pair-if : {A : Type 0} (b : Bool) (M : Mem) (w v : A × Table) → Retabled R M w.1 → Retabled R M v.1 → Retabled R M (cond b w v).1
  pair-if true M w v h g = h
  pair-if false M w v h g = g

  after-leads : (M : Mem) (p : Pointer) (n align : ℕ) (write : Bool) (c : Clause) (r : Result Tried Miss) → Retabled R M (after_use M.table p.prov r) → Retabled R M (reach_after M.table p n align write c r).1
  after-leads M p n align write c (Err m) h = changes.itself
  after-leads M p n align write c (Ok tried) h = h

  pub reach-leads : (M : Mem) (p : Pointer) (n align : ℕ) (write : Bool) (by : Asker) → Retabled R M (reach M.table p n align write by).1
  reach-leads M p n align write by =
      pair-if (is_null p) M _ _ changes.itself
      (pair-if (is_empty p.prov) M _ _ changes.itself (after-leads M p n align write (clause_of by) (use_answer M.table p.prov (Range p.address n)) (changes.uses M p.prov (Range p.address n))))

  -- loads
  exposed-leads : (M : Mem) (bs : List Byte) → Retabled R M (exposed_by M.table bs)
  exposed-leads M [] = changes.itself
  exposed-leads M (b ∷ bs) = changes.trans (changes.exposes M b.prov) (exposed-leads (with_table M (expose M.table b.prov)) bs)

  integer-leads : (M : Mem) (k : IntKind) (bytes : List Byte) (o : Option ℕ) → Retabled R M (integer_of M.table k bytes o).1
  integer-leads M k bytes None = pair-if (is_character k) M _ _ (exposed-leads M bytes) changes.itself
  integer-leads M k bytes (Some n) = pair-if (is_trap k n) M _ _ changes.itself (exposed-leads M bytes)

  named-leads : (M : Mem) (o : Option Prov) (a : ℕ) → Retabled R M (pointer_named M.table o a).1
  named-leads M (Some p) a = changes.uses M p Live
  named-leads M None a = changes.trans (changes.names M a) (changes.uses (with_table M (after_name M.table a)) (name_at M.table a) Live)

  pointer-leads : (M : Mem) (bytes : List Byte) (o : Option ℕ) → Retabled R M (pointer_of M.table bytes o).1
  pointer-leads M bytes None = changes.itself
  pointer-leads M bytes (Some a) = named-leads M (whole_name bytes) a

  -- a load is this of the bytes that it reads
  pub value-leads : (M : Mem) (bytes : List Byte) (t : Scalar) → Retabled R M (value_of M.table bytes t).1
  value-leads M bytes (scalar.Int k) = integer-leads M k bytes (number_in bytes)
  value-leads M bytes scalar.Pointer = pointer-leads M bytes (number_in bytes)

  -- operators and conversions
  pub truth-leads : (M : Mem) (p : Pointer) → Retabled R M (truth M.table p).1
  truth-leads M p = changes.uses M p.prov Live

  equal-after : (M : Mem) (p q : Pointer) (r : Result Tried Miss) → Retabled R M (after_use M.table p.prov r) → Retabled R M (equal_after M.table p q r).1
  equal-after M p q (Err m) h = changes.itself
  equal-after M p q (Ok left) h = changes.trans h (changes.uses (with_table M (after_use M.table p.prov (Ok left))) q.prov Live)

  pub equal-leads : (M : Mem) (p q : Pointer) → Retabled R M (pointer_equality M.table p q).1
  equal-leads M p q = equal-after M p q (use_answer M.table p.prov Live) (changes.uses M p.prov Live)

  pub to_ptr-leads : (M : Mem) (n : ℤ) → Retabled R M (to_ptr M.table n).1
  to_ptr-leads M n = changes.names M (address_of n)

  pub recast-leads : (M : Mem) (p : Pointer) (align : ℕ) → Retabled R M (recast M.table p align).1
  recast-leads M p align = changes.uses M p.prov Live

  to_int-after : (M : Mem) (p : Pointer) (k : IntKind) (r : Result Tried Miss) → Retabled R M (after_use M.table p.prov r) → Retabled R M (to_int_after M.table p k r).1
  to_int-after M p k (Err m) h = changes.itself
  to_int-after M p k (Ok tried) h =
      let N = with_table M (after_use M.table p.prov (Ok tried)) in
      changes.trans h (pair-if (fits_of k (pos p.address)) N _ _ (changes.exposes N p.prov) changes.itself)

  pub to_int-leads : (M : Mem) (p : Pointer) (k : IntKind) → Retabled R M (to_int M.table p k).1
  to_int-leads M p k = to_int-after M p k (use_answer M.table p.prov Live) (changes.uses M p.prov Live)

  pub move-leads : (c : Clause) (M : Mem) (p : Pointer) (by : ℤ) → Retabled R M (move_under c M.table p by).1
  move-leads c M p by =
      pair-if (is_null p) M _ _ changes.itself
      (pair-if (is_empty p.prov) M _ _ changes.itself (changes.uses M p.prov (Range (address_on p.address by) 0)))

  pub code-leads : (M : Mem) (p : Pointer) → Retabled R M (code M.table p).1
  code-leads M p =
      pair-if (is_null p) M _ _ changes.itself
      (pair-if (is_empty p.prov) M _ _ changes.itself (changes.uses M p.prov (Code p.address)))

  pub together-leads : (c : Clause) (M : Mem) (p q : Pointer) → IsMadeIn M.table p.prov → IsMadeIn M.table q.prov → Retabled R M (together c M.table p q).1
  together-leads c M p q a b = pair-if _ M _ _ changes.itself (changes.meets M p.prov q.prov a b)

  pub order-leads : (M : Mem) (p q : Pointer) → IsMadeIn M.table p.prov → IsMadeIn M.table q.prov → Retabled R M (order M.table p q).1
  order-leads M p q a b = together-leads clause.OrderOfPointers M p q a b
