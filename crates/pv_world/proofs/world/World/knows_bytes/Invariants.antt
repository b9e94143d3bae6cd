use Rattle.std.proofs.Common.{◌≡◌, take}
use Rattle.std.specs.Prelude.{true}
use Rattle.std.specs.List.{list_all}
use Rattle.pv_shadow.specs.declared.byte.Byte.{Byte}
use Rattle.pv_world.specs.Suiting.{knows}
use Rattle.pv_world.proofs.world.World.knows_bytes.Given as goal

-- those so far were made
abbrev pub invariant-loop-i : goal.invariant-loop-i
invariant-loop-i l = list_all (λ (x : Byte). knows l.self.memory.table x.prov) (take l.i l.bytes) ≡ true
