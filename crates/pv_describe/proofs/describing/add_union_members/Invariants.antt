use Rattle.std.proofs.Common.{◌≡◌, ◌++◌, drop}
use Rattle.pv_types.specs.Ty.{UnionTag}
use Rattle.pv_types.specs.Members.{placed_in}
use Rattle.pv_typed.specs.Tables.{whole_unit}
use Rattle.pv_describe.specs.Describing.{member_lines}
use Rattle.pv_describe.proofs.Members.{union_left, Left}
use Rattle.pv_describe.proofs.describing.add_union_members.Given as goal

abbrev pub invariant-loop-m : goal.invariant-loop-m
invariant-loop-m l =
    Left l.u.known (drop l.m-index l.m-items)
    × (union_left l.u l.text.items (drop l.m-index l.m-items) ≡ l.initial.text.items ++ member_lines (whole_unit l.u) (placed_in (whole_unit l.u).completed (UnionTag l.tag)))
