-- A bridge: what the calls of the memory ask for and answer.
use Rattle.std.specs.Prelude.{ℕ, Option, option_and_then, ◌≡◌, Result, Err, List, IsSomeAnd, int_div, int_rem, ℤ, pos, Ok, if◌then◌else◌, ◌-ℤ◌}
use Rattle.std.specs.Ordering.{int_eq}
use Rattle.pv_fault.specs.declared.faults.Clause.TheVariants as clause
use Rattle.pv_fault.specs.declared.faults.Reason.TheVariants as reason
use Rattle.pv_num.specs.declared.kinds.IntKind.TheVariants.{Int}
use Rattle.pv_inst.specs.declared.values.Info.{Info}
use Rattle.pv_inst.specs.Table.{Table, instance_at, IsMadeIn}
use Rattle.pv_inst.specs.Infos.{info_of}
use Rattle.pv_inst.specs.declared.values.CreateError.{CreateError}
use Rattle.pv_inst.specs.declared.values.CreateError.TheVariants.{NoMemory}
use Rattle.pv_inst.specs.declared.values.Instance.{Instance}
use Rattle.pv_inst.specs.declared.values.Tried.{Tried}
use Rattle.pv_inst.specs.declared.values.Miss.{Miss}
use Rattle.pv_inst.specs.Use.{empty_use}
use Rattle.pv_object.specs.Memory.{Mem}
use Rattle.pv_object.specs.declared.values.Stop.{Stop}
use Rattle.pv_object.specs.declared.values.Stopped.{Stopped}
use Rattle.pv_object.specs.Access.{fault}
use Rattle.pv_object.specs.declared.values.Pointer.{Pointer}
use Rattle.pv_object.specs.Operations.{together}
use Rattle.pv_object.specs.declared.values.Scalar.{Scalar}
use Rattle.pv_object.specs.declared.values.Value.{Value}
use Rattle.pv_object.specs.Encoding.{encode}
use Rattle.pv_object.specs.Copying.{with_bytes}
use Rattle.pv_object.specs.declared.values.Value.TheVariants as value

-- 6.2.4p2: the instance that is meant, if it is live
abbrev pub instance_meant : Table → Option ℕ → Option Info
instance_meant T o = option_and_then (λ i. info_of (instance_at T.instances i)) o

-- this answer and this memory (memory model); after want of memory the memory isn't used again
abbrev pub OrSpent : Result ℕ CreateError → Mem → Result ℕ CreateError × Mem → Type 0
OrSpent (Err NoMemory) new wanted = Unit {0}
OrSpent r new wanted = (r ≡ wanted.0) × (new ≡ wanted.1)

-- 6.2.4p2: the instance has so many bytes
abbrev pub HasSize : List Instance → (i size : ℕ) → Type 0
HasSize xs i size = IsSomeAnd (instance_at xs i) (λ (x : Instance). x.size ≡ size)

-- 6.5.6p9: the difference in elements, where it is whole; the quotient is exact then
abbrev pub quotient_answer : ℤ → ℕ → Tried × Tried → Result (ℤ × Tried × Tried) Stop
quotient_answer d size both =
    if int_eq (int_rem d (pos size)) (pos 0) then Ok (int_div d (pos size), both.0, both.1) else Err (fault clause.SubtractionOfPointers reason.Uneven)

-- 6.5.6p9: the difference of the addresses, where both are into one instance
abbrev pub subtract_by : Pointer → Pointer → ℕ → Result (Tried × Tried) Stop → Result (ℤ × Tried × Tried) Stop
subtract_by p q size (Ok both) = quotient_answer (pos p.address -ℤ pos q.address) size both
subtract_by p q size (Err stop) = Err stop

-- 6.5.6p9: the difference of two pointers into one storage instance, in elements of this size
abbrev pub subtract : Table → Pointer → Pointer → ℕ → Result (ℤ × Tried × Tried) Stop × Table
subtract T p q size = let r = together clause.SubtractionOfPointers T p q in (subtract_by p q size r.0, r.1)

-- 6.5.16.1p2, 6.2.6.1p4: the bytes of an object become those of the value that is stored
abbrev pub after_storing : Mem → ℕ → Scalar → Value → Option ℕ → Mem
after_storing M a t v mark = with_bytes M a (encode t v mark)

-- the memory model: the provenance name of a pointer was made in this table
abbrev pub IsMadeValue : Table → Value → Type 0
IsMadeValue T (value.Pointer p) = IsMadeIn T p.prov
IsMadeValue T (value.Int n) = Unit {0}
IsMadeValue T value.Unset = Unit {0}

-- the memory model: an answer, or why there is none, without what a use found by then
abbrev pub without_use : {A : Type 0} → Result A Stopped → Result A Stop
without_use (Ok a) = Ok a
without_use (Err s) = Err s.stop

-- the memory model: what the use of a name found, on success and on a stop alike
abbrev pub tried_in : {A : Type 0} → (A → Tried) → Result A Stopped → Tried
tried_in f (Ok a) = f a
tried_in f (Err s) = s.tried

-- the memory model: the survivors of a use, none where it has none
abbrev pub survivors : Result Tried Miss → Tried
survivors (Ok tried) = tried
survivors (Err m) = empty_use
