-- A bridge: what functions answer that do a part of what Accesses says.
use Rattle.pv_world.specs.Telling.{range_test, uses}
use Rattle.pv_inst.specs.Table.{Table}
use Rattle.pv_inst.specs.declared.values.Test.TheVariants.{Range}
use Rattle.pv_inst.specs.Use.{use_answer}
use Rattle.pv_object.specs.declared.values.Pointer.{Pointer}
use Rattle.std.specs.Prelude.{List, ℕ}
use Rattle.pv_watch.specs.declared.event.What.{What}

-- 6.5.3.2p4: the use of a pointer for a range of so many bytes, as it is made on this table (the memory model)
abbrev pub range_use : Table → Pointer → (n : ℕ) → List What
range_use T p n = uses range_test (use_answer T p.prov (Range p.address n))
