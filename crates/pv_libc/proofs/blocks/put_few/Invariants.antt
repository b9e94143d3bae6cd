use Rattle.std.proofs.Common.{◌≡◌, map, take, length}
use Rattle.pv_libc.specs.Blocks.{plain_byte}
use Rattle.pv_libc.proofs.blocks.put_few.Given as goal

-- the row so far
abbrev pub invariant-loop-i : goal.invariant-loop-i
invariant-loop-i l = record {
  four : length l.bytes ≡ 4;
  so_far : take l.i l.bytes ≡ map plain_byte (take l.i l.text);
}
