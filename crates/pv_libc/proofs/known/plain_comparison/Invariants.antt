use Rattle.std.proofs.Common.{◌≡◌, ◌+◌, ◌-◌, List}
use Rattle.pv_shadow.specs.Readings.{HasDigits}
use Rattle.pv_libc.specs.declared.values.Note.{Note}
use Rattle.pv_libc.specs.Steps.{with_notes}
use Rattle.pv_libc.specs.Characters.{most}
use Rattle.pv_libc.specs.Strings.{compared_from}
use Rattle.pv_libc.proofs.known.plain_comparison.Given as goal

-- what is left of the strings does what the whole does
abbrev pub invariant-loop-i : goal.invariant-loop-i
invariant-loop-i l = record {
  left : HasDigits l.memory.bytes (l.p.pointer.address + l.i) l.left.count l.left.number;
  right : HasDigits l.memory.bytes (l.q.pointer.address + l.i) l.right.count l.right.number;
  same : (notes : List Note) → compared_from (most - l.i) l.p l.q l.i (with_notes l.memory notes) ≡ compared_from most l.p l.q 0 (with_notes l.memory notes);
}
