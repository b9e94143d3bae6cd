use Rattle.std.proofs.Common.{◌≡◌, drop}
use Rattle.pv_types.specs.Formed.{members_in}
use Rattle.pv_types.specs.Places.{union_places}
use Rattle.pv_values.specs.ShapeParts.{first_parts}
use Rattle.pv_values.proofs.Shaped.{so_far, union_left}
use Rattle.pv_values.proofs.shapes.union_parts.Given as goal

abbrev pub invariant-loop-m : goal.invariant-loop-m
invariant-loop-m l = so_far l.parts.items (union_left l.u.known (drop l.m-index l.m-items)) ≡ first_parts (union_places l.u.known (members_in l.u.known.done l.tag))
