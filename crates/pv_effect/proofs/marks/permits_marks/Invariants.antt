use Rattle.std.proofs.Common.{◌≡◌, drop}
use Rattle.pv_types.specs.Known.{tree, env}
use Rattle.pv_types.specs.Layouts.{layout_in}
use Rattle.pv_layout.specs.Parts.{leaves}
use Rattle.pv_effect.specs.EffectiveType.{permits_bytes}
use Rattle.pv_effect.proofs.marks.permits_marks.Given as goal

abbrev pub invariant-loop-i : goal.invariant-loop-i
invariant-loop-i l =
    permits_bytes l.types (leaves (layout_in (env l.types) (tree l.types l.want.0)).parts) 0 l.marks
    ≡ permits_bytes l.types (leaves (layout_in (env l.types) (tree l.types l.want.0)).parts) l.i (drop l.i l.marks)
