-- A bridge: what the operations of a run ask of sizes, values and instances.
use Rattle.std.specs.Prelude.{◌≡◌, ℕ, ◌≤◌, length, ◌+◌, IsSomeAnd, true, pos, neg_ℤ, ◌≤ℤ◌, ◌^◌}
use Rattle.pv_inst.specs.declared.values.Instance.{Instance}
use Rattle.pv_inst.specs.Table.{instance_at}
use Rattle.pv_object.specs.declared.values.Pointer.{Pointer}
use Rattle.pv_object.specs.declared.values.Scalar.TheVariants as scalar
use Rattle.pv_object.specs.Encoding.{size_of}
use Rattle.pv_object.specs.Values.{IsOf}
use Rattle.pv_world.specs.declared.got.Shape.{Shape}
use Rattle.pv_world.specs.declared.got.Shape.TheVariants as shape
use Rattle.pv_world.specs.Worlds.{Whole, Worth, Nothing, Missing, Scalar, World}
use Rattle.pv_world.specs.Worths.{int_of}

-- 6.2.6.1p4: what is asked of bytes: they are as many as the scalar has
abbrev pub HasSizeOf : Shape → ℕ → Type 0
HasSizeOf (shape.Int k) n = n ≡ size_of (scalar.Int k)
HasSizeOf shape.Pointer n = n ≡ size_of scalar.Pointer
HasSizeOf shape.Whole n = Unit {0}

-- 6.5.2.3p3: what is asked of a value whose part is taken: if it is there, it is a structure or union that has these bytes
abbrev pub HasPart : Worth → (offset size : ℕ) → Type 0
HasPart (Whole bs a) offset size = offset + size ≤ length bs
HasPart Missing offset size = Unit {0}
HasPart Nothing offset size = ⊥
HasPart (Scalar v) offset size = ⊥

-- 6.2.6.1p4: what is asked of a value that is stored in so many bytes: it is of this shape
abbrev pub IsStored : Shape → ℕ → Worth → Type 0
IsStored shape.Whole n (Whole bs a) = n ≡ length bs
IsStored (shape.Int k) n (Scalar v) = (n ≡ size_of (scalar.Int k)) × IsOf (scalar.Int k) v
IsStored shape.Pointer n (Scalar v) = (n ≡ size_of scalar.Pointer) × IsOf scalar.Pointer v
IsStored shape.Whole n (Scalar v) = ⊥
IsStored (shape.Int k) n (Whole bs a) = ⊥
IsStored shape.Pointer n (Whole bs a) = ⊥
IsStored s n Nothing = ⊥
IsStored s n Missing = ⊥

-- 6.2.4p2: so many bytes of a live instance, from an offset on
abbrev pub HasRoom : World → (i offset n : ℕ) → Type 0
HasRoom w i offset n = IsSomeAnd (instance_at w.memory.table.instances i) (λ (x : Instance). (x.live ≡ true) × (offset + n ≤ x.size))

-- a number of an integer type lies within these
abbrev pub IsSmall : Worth → Type 0
IsSmall v = (neg_ℤ (pos (2 ^ 64)) ≤ℤ int_of v) × (int_of v ≤ℤ pos (2 ^ 64))
