-- A bridge: what functions answer that do a part of what Heap says.
use Rattle.pv_inst.specs.Placing.{Request}
use Rattle.pv_inst.specs.declared.values.Kind.TheVariants.{Heap}
use Rattle.pv_inst.specs.declared.values.Info.{Info}
use Rattle.std.specs.Prelude.{codes, ℕ, Option}
use Rattle.pv_libc.specs.Blocks.{after_filling}
use Rattle.pv_object.specs.Memory.{Mem}
use Rattle.std.specs.Option.{option_map_or}

-- 7.22.3p1: an allocation is aligned for every object type
abbrev pub heap_request : ℕ → Request
heap_request size = record { text = codes "@heap"; name = 1; size = size; align = 16; kind = Heap }

-- where it begins
abbrev pub base_of : Option Info → ℕ
base_of x = option_map_or (λ (x : Info). x.base) x 0

-- 7.22.3.2p2: all bytes are 0
abbrev pub with_zeros : ℕ → Option Info → Mem → Mem
with_zeros i x N = option_map_or (λ (x : Info). after_filling N x.base x.size 0) x N
