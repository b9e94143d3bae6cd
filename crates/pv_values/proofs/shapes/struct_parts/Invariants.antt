use Rattle.std.proofs.Common.{◌≡◌, drop}
use Rattle.pv_types.specs.Formed.{members_in}
use Rattle.pv_types.specs.Places.{struct_places}
use Rattle.pv_layout.proofs.Ahead.{Ahead}
use Rattle.pv_values.specs.ShapeParts.{first_parts}
use Rattle.pv_values.proofs.Shaped.{so_far, struct_left}
use Rattle.pv_values.proofs.shapes.struct_parts.Given as goal

abbrev pub invariant-loop-m : goal.invariant-loop-m
invariant-loop-m l =
    Ahead l.u.known l.tag l.end (drop l.m-index l.m-items)
    × (so_far l.parts.items (struct_left l.u.known l.end (drop l.m-index l.m-items)) ≡ first_parts (struct_places l.u.known 0 (members_in l.u.known.done l.tag)))
