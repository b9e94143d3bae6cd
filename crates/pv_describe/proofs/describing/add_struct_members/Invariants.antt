use Rattle.std.proofs.Common.{◌≡◌, ◌++◌, drop}
use Rattle.pv_types.specs.Ty.{StructTag}
use Rattle.pv_types.specs.Members.{placed_in}
use Rattle.pv_typed.specs.Tables.{whole_unit}
use Rattle.pv_describe.specs.Describing.{member_lines}
use Rattle.pv_layout.proofs.Ahead.{Ahead}
use Rattle.pv_describe.proofs.Members.{struct_left}
use Rattle.pv_describe.proofs.describing.add_struct_members.Given as goal

abbrev pub invariant-loop-m : goal.invariant-loop-m
invariant-loop-m l =
    Ahead l.u.known l.tag l.end (drop l.m-index l.m-items)
    × (struct_left l.u l.text.items l.end (drop l.m-index l.m-items) ≡ l.initial.text.items ++ member_lines (whole_unit l.u) (placed_in (whole_unit l.u).completed (StructTag l.tag)))
