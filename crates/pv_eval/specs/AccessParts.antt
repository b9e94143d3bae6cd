-- A bridge: what functions answer that do a part of what Accesses says.
use Rattle.pv_world.specs.Doing.{Done}
use Rattle.pv_eval.specs.TypeForms.{Lvalue}
use Rattle.pv_world.specs.Worlds.{World, Worth}
use Rattle.pv_world.specs.Accesses.{reaching, takes_bytes}
use Rattle.std.specs.Prelude.{ℕ, List, false}
use Rattle.pv_seq.specs.Sequencing.{Access}
use Rattle.pv_object.specs.declared.values.Pointer.{Pointer}
use Rattle.pv_eval.specs.States.{Setting}
use Rattle.pv_eval.specs.Accesses.{reads_at}

-- a member of a structure or union value
abbrev pub takes_part : (offset : ℕ) → Lvalue → Worth → World → Done
takes_part offset l v w = takes_bytes offset l.size l.shape v w

-- the value of the lvalue at this place, against its rivals
abbrev pub reads_from : Setting → Lvalue → Pointer → List Access → World → Done
reads_from b l p rivals w = reaching p l.size l.align false w (reads_at b l p rivals)
