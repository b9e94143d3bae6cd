-- A bridge: the bytes at a place of an instance.
use Rattle.std.specs.Prelude.{ℕ, List, Option}
use Rattle.pv_inst.specs.Table.{instance_at}
use Rattle.pv_shadow.specs.declared.byte.Byte.{Byte}
use Rattle.pv_object.specs.Memory.{Mem}
use Rattle.pv_values.specs.declared.scalars.Spot.{Spot}
use Rattle.pv_values.specs.Values.{bytes_in}

-- 6.2.6.1p4: n bytes of an instance by its number, from an offset on, where it lives and has them
abbrev pub bytes_at : Mem → Spot → (n : ℕ) → Option (List Byte)
bytes_at M at n = bytes_in M (instance_at M.table.instances at.instance) at.offset n
