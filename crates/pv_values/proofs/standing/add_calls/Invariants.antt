use Rattle.std.proofs.Common.{◌≡◌, ◌-◌, ◌++◌}
use Rattle.pv_typed.specs.Tables.{whole_unit}
use Rattle.pv_values.specs.Standing.{texts_from, call_text}
use Rattle.pv_values.proofs.standing.add_calls.Given as goal

abbrev pub invariant-loop-k : goal.invariant-loop-k
invariant-loop-k l =
    l.text.items ++ texts_from (call_text (whole_unit l.u) l.world l.all) l.k (l.count - l.k)
    ≡ l.initial.text.items ++ texts_from (call_text (whole_unit l.u) l.world l.all) 0 l.count
