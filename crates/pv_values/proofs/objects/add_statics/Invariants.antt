use Rattle.std.proofs.Common.{◌≡◌, ◌-◌, ◌++◌}
use Rattle.pv_typed.specs.Tables.{whole_unit}
use Rattle.pv_values.specs.Standing.{texts_from, static_text}
use Rattle.pv_values.proofs.objects.add_statics.Given as goal

abbrev pub invariant-loop-n : goal.invariant-loop-n
invariant-loop-n l = l.text.items ++ texts_from (static_text (whole_unit l.u) l.world) l.n (l.count - l.n) ≡ l.initial.text.items ++ texts_from (static_text (whole_unit l.u) l.world) 0 l.count
