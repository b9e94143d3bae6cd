use Rattle.std.proofs.Common.{◌≡◌, ◌+◌, ◌-◌, List, [], length}
use Rattle.pv_object.specs.declared.values.Asker.{Asker}
use Rattle.pv_shadow.specs.Readings.{HasDigits}
use Rattle.pv_libc.specs.declared.values.Note.{Note}
use Rattle.pv_libc.specs.Steps.{with_notes}
use Rattle.pv_libc.specs.Characters.{most, string_from}
use Rattle.pv_libc.proofs.known.plain_string.Given as goal

-- what is left of the string, behind the characters read, does what the whole does
abbrev pub invariant-loop-i : goal.invariant-loop-i
invariant-loop-i l = record {
  count : length l.read.items ≡ l.i;
  known : HasDigits l.memory.bytes (l.given.pointer.address + l.i) l.known.count l.known.number;
  same : (by : Asker) (notes : List Note) → string_from (most - l.i) by l.given l.read.items (with_notes l.memory notes) ≡ string_from most by l.given [] (with_notes l.memory notes);
}
