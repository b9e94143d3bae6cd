use Rattle.std.proofs.Common.{◌≡◌, ◌-◌, ◌++◌}
use Rattle.pv_typed.specs.Tables.{whole_unit}
use Rattle.pv_values.specs.Standing.{texts_from, own_text}
use Rattle.pv_values.proofs.objects.add_objects.Given as goal

abbrev pub invariant-loop-n : goal.invariant-loop-n
invariant-loop-n l = l.text.items ++ texts_from (own_text (whole_unit l.u) l.world l.k) l.n (l.count - l.n) ≡ l.initial.text.items ++ texts_from (own_text (whole_unit l.u) l.world l.k) 0 l.count
