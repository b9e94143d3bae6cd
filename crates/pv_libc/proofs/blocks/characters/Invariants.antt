use Rattle.std.proofs.Common.{◌≡◌, ◌+◌, ◌-◌, []}
use Rattle.pv_object.specs.Reaching.{IsReach}
use Rattle.pv_object.specs.Later.{IsLater}
use Rattle.pv_libc.specs.Steps.{with_notes}
use Rattle.pv_libc.specs.Characters.{characters_from}
use Rattle.pv_libc.proofs.blocks.characters.Given as goal

-- the characters that are left, behind those read, do what all do
abbrev pub invariant-loop-i : goal.invariant-loop-i
invariant-loop-i l = record {
  same : characters_from (l.n - l.i) l.given (l.at.address + l.i) l.read.items (with_notes l.memory l.notes.items) ≡ characters_from l.n l.given l.at.address [] (with_notes l.initial.memory l.initial.notes.items);
  reached : IsReach l.memory.table l.at l.n;
  later : IsLater l.initial.memory.table l.memory.table;
}
