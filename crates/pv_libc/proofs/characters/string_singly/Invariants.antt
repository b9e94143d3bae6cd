use Rattle.std.proofs.Common.{◌≡◌, ◌-◌, [], length}
use Rattle.pv_inst.specs.Table.{IsMadeIn}
use Rattle.pv_object.specs.Later.{IsLater}
use Rattle.pv_libc.specs.Steps.{with_notes}
use Rattle.pv_libc.specs.Characters.{most, string_from}
use Rattle.pv_libc.proofs.characters.string_singly.Given as goal

-- what is left of the string, behind the characters read, does what the whole does
abbrev pub invariant-loop-i : goal.invariant-loop-i
invariant-loop-i l = record {
  count : length l.read.items ≡ l.i;
  same : string_from (most - l.i) l.by l.given l.read.items (with_notes l.memory l.notes.items) ≡ string_from most l.by l.given [] (with_notes l.initial.memory l.initial.notes.items);
  made : IsMadeIn l.memory.table l.given.pointer.prov;
  later : IsLater l.initial.memory.table l.memory.table;
}
