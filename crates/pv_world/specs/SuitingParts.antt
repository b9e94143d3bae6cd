-- A bridge: what functions answer that do a part of what Suiting says.
use Rattle.std.specs.Prelude.{Bool, Option, false, nat_le, ℕ, ◌&&◌, ◌+◌, List}
use Rattle.pv_inst.specs.declared.values.Instance.{Instance}
use Rattle.pv_shadow.specs.declared.byte.Byte.{Byte}
use Rattle.pv_inst.specs.Table.{Table}
use Rattle.pv_world.specs.Suiting.{knows}
use Rattle.std.specs.List.{list_all}
use Rattle.std.specs.Option.{option_map_or}

-- 6.2.4p2: a live instance has so many bytes from an offset on
abbrev pub room_in : Option Instance → (offset n : ℕ) → Bool
room_in o offset n = option_map_or (λ (x : Instance). x.live && nat_le (offset + n) x.size) o false

-- what the names in abstract bytes speak of was made (the memory model)
abbrev pub knows_bytes : Table → List Byte → Bool
knows_bytes T bytes = list_all (λ (x : Byte). knows T x.prov) bytes
