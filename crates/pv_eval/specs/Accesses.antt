-- Reads and writes through lvalues (C17 6.3.2.1p2, 6.5.16), with their checks in order: null, empty name, ended, outside,
-- misaligned, readonly, effective type, sequencing, inexact overlap; of what is read then a byte without a value, and a trap.
use Rattle.std.specs.Prelude.{ℕ, Bool, true, false, List, Option, Some, if◌then◌else◌}
use Rattle.pv_fault.specs.declared.faults.Clause.TheVariants.{EffectiveTypes, Sequencing, OverlappingAssignment}
use Rattle.pv_fault.specs.declared.faults.Reason.TheVariants.{WrongType, Unsequenced, Overlap}
use Rattle.pv_shadow.specs.Bytes.{bytes_from}
use Rattle.pv_object.specs.declared.values.Pointer.{Pointer}
use Rattle.pv_object.specs.declared.values.Reach.{Reach}
use Rattle.pv_seq.specs.Sequencing.{Access, conflicts}
use Rattle.pv_world.specs.Worlds.{Worth, World}
use Rattle.pv_world.specs.Telling.{Told}
use Rattle.pv_world.specs.Doing.{Done, Answers, Fails}
use Rattle.pv_world.specs.Worths.{undefined_behaviour, on_present_value, pointer_of}
use Rattle.pv_world.specs.Objects.{put_at}
use Rattle.pv_world.specs.Accesses.{reaching, worth_in, stored_as, is_inexact}
use Rattle.pv_eval.specs.States.{Setting}
use Rattle.pv_eval.specs.TypeForms.{Lvalue}
use Rattle.pv_eval.specs.Permission.{permits}

-- 6.5p2: the access that a read or a write through an lvalue makes
abbrev pub access_to : Lvalue → Pointer → (writes : Bool) → Access
access_to l p writes = record { place = p.address; length = l.size; writes = writes }

-- 6.5p2, 6.2.6.1p5: a read that is permitted, against its rivals
abbrev pub reads_permitted : Lvalue → Pointer → List Access → Reach → World → Told → Done
reads_permitted l p rivals at w t =
    if conflicts (access_to l p false) rivals then Fails (undefined_behaviour Sequencing Unsequenced) (Some p.prov) w t
    else worth_in w (bytes_from w.memory.bytes at.address l.size) l.shape (Some at.address) (Some p.prov) t

-- 6.5p7: a read, once its bytes are reached
abbrev pub reads_at : Setting → Lvalue → Pointer → List Access → Reach → World → Told → Done
reads_at b l p rivals at w t =
    if permits b w l at false then reads_permitted l p rivals at w t
    else Fails (undefined_behaviour EffectiveTypes WrongType) (Some p.prov) w t

-- 6.3.2.1p2: the value of the lvalue at the place that this value is, against its rivals
abbrev pub reads : Setting → Lvalue → (place : Worth) → List Access → World → Done
reads b l v rivals w = reaching (pointer_of v) l.size l.align false w (reads_at b l (pointer_of v) rivals)

-- 6.5.16.1p3: a write that has no rivals, of a value that was read from this address
abbrev pub writes_alone : Lvalue → Pointer → Worth → (from : Option ℕ) → Reach → World → Told → Done
writes_alone l p v from at w t =
    if is_inexact from p.address l.size then Fails (undefined_behaviour OverlappingAssignment Overlap) (Some p.prov) w t
    else Answers v (put_at w at.address (stored_as l.number l.shape v)) t

-- 6.5p2: a write that is permitted, against its rivals
abbrev pub writes_permitted : Lvalue → Pointer → Worth → (from : Option ℕ) → List Access → Reach → World → Told → Done
writes_permitted l p v from rivals at w t =
    if conflicts (access_to l p true) rivals then Fails (undefined_behaviour Sequencing Unsequenced) (Some p.prov) w t
    else writes_alone l p v from at w t

-- 6.5p7: a write, once its bytes are reached
abbrev pub writes_at : Setting → Lvalue → Pointer → Worth → (from : Option ℕ) → List Access → Reach → World → Told → Done
writes_at b l p v from rivals at w t =
    if permits b w l at true then writes_permitted l p v from rivals at w t
    else Fails (undefined_behaviour EffectiveTypes WrongType) (Some p.prov) w t

-- 6.5.16p3: a write to this place, with the checks of an access first
abbrev pub writes_to : Setting → Lvalue → Pointer → (from : Option ℕ) → List Access → World → Worth → Done
writes_to b l p from rivals w v = reaching p l.size l.align true w (writes_at b l p v from rivals)

-- 6.5.16p3: the value is stored at this place, against its rivals
abbrev pub writes : Setting → Lvalue → (place value : Worth) → (from : Option ℕ) → List Access → World → Done
writes b l place v from rivals w = on_present_value v w (writes_to b l (pointer_of place) from rivals w)
