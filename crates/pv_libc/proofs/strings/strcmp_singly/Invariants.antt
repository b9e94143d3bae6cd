use Rattle.std.proofs.Common.{◌≡◌, ◌-◌}
use Rattle.pv_inst.specs.Table.{IsMadeIn}
use Rattle.pv_libc.specs.Steps.{with_notes}
use Rattle.pv_libc.specs.Characters.{most}
use Rattle.pv_libc.specs.Strings.{compared_from}
use Rattle.pv_libc.proofs.strings.strcmp_singly.Given as goal

-- what is left of the strings does what the whole does
abbrev pub invariant-loop-i : goal.invariant-loop-i
invariant-loop-i l = record {
  same : compared_from (most - l.i) l.p l.q l.i (with_notes l.memory l.notes.items) ≡ compared_from most l.p l.q 0 (with_notes l.initial.memory l.initial.notes.items);
  left : IsMadeIn l.memory.table l.p.pointer.prov;
  right : IsMadeIn l.memory.table l.q.pointer.prov;
}
