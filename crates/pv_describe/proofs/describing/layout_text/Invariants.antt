use Rattle.std.proofs.Common.{◌≡◌, drop}
use Rattle.pv_typed.specs.Tables.{whole_unit}
use Rattle.pv_describe.specs.Describing.{layout_text}
use Rattle.pv_describe.proofs.Members.{tags_left}
use Rattle.pv_describe.proofs.describing.layout_text.Given as goal

abbrev pub invariant-loop-t : goal.invariant-loop-t
invariant-loop-t l = tags_left l.u l.text.items (drop l.t-index l.t-items) ≡ layout_text (whole_unit l.u)
