-- Where the members of structures and unions begin, on type trees.
use Rattle.std.specs.Prelude.{ℕ, ◌==◌, if◌then◌else◌, List, [], ◌∷◌}
use Rattle.pv_types.specs.Ty.{Ty, StructTag, UnionTag, ConstOf}
use Rattle.pv_types.specs.Layouts.{Part, Named, Placed, Completed, layouts_of, layout_at, struct_placed, union_placed}

-- 6.7.2.1p8: the members that a tag was completed with, in their order; none of another
abbrev pub completed_members : List Completed → ℕ → List Named
completed_members [] n = []
completed_members (d ∷ ds) n = if d.tag == n then d.members else completed_members ds n

-- 6.7.2.1p15, p16: the members of a structure or union type where they begin, qualifiers aside (6.5.2.3p1); another type has none
abbrev pub placed_in : List Completed → Ty → List (Placed Named)
placed_in done (StructTag n) = struct_placed (layout_at (layouts_of done)) 0 (completed_members done n)
placed_in done (UnionTag n) = union_placed (layout_at (layouts_of done)) (completed_members done n)
placed_in done (ConstOf t) = placed_in done t
placed_in done _ = []

-- 6.2.5p20: a member as a part of its structure or union: where it begins, and its type
abbrev pub member_part : Placed Named → Part
member_part p = record { offset = p.offset; t = p.member.t }
