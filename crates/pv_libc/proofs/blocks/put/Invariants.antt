use Rattle.std.proofs.Common.{◌≡◌, ◌+◌, ◌-◌, ◌≤◌, ◌++◌, ◌∷◌, [], map, drop, length}
use Rattle.pv_object.specs.Reaching.{IsReach}
use Rattle.pv_object.specs.Copying.{with_bytes}
use Rattle.pv_libc.specs.Blocks.{plain_byte}
use Rattle.pv_libc.proofs.blocks.put.Given as goal

-- the bytes that are left, put
abbrev pub invariant-loop-i : goal.invariant-loop-i
invariant-loop-i l = record {
  few : l.i ≤ length l.text;
  rest : with_bytes l.memory (l.at.address + l.i) (map plain_byte (drop l.i l.text ++ 0 ∷ [])) ≡ with_bytes l.initial.memory l.at.address (map plain_byte (l.text ++ 0 ∷ []));
  reached : IsReach l.memory.table l.at (length l.text + 1);
}

abbrev pub decreases-loop-i : goal.decreases-loop-i
decreases-loop-i l = length l.text - l.i
