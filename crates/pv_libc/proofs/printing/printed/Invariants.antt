use Rattle.std.proofs.Common.{◌≡◌, ◌≤◌, [], drop, length, All}
use Rattle.pv_object.specs.Answers.{IsMadeValue}
use Rattle.pv_libc.specs.Steps.{with_notes}
use Rattle.pv_libc.specs.declared.formats.Within.TheVariants as within
use Rattle.pv_libc.specs.Printing.{printed_from}
use Rattle.pv_libc.proofs.printing.printed.Given as goal

-- what is left of the format, with the arguments left and behind the text so far, does what the whole does
abbrev pub invariant-loop-i : goal.invariant-loop-i
invariant-loop-i l = record {
  same : printed_from (drop l.i l.format) (record { within = l.within; left = drop l.next l.args; text = l.text.items }) (with_notes l.memory l.notes.items) ≡ printed_from l.format (record { within = within.Text; left = l.args; text = [] }) (with_notes l.initial.memory l.initial.notes.items);
  made : All (λ x. IsMadeValue l.memory.table x.arg.value) l.args;
  few : l.next ≤ length l.args;
}
