-- A bridge: what functions answer that do a part of what Members says.
use Rattle.pv_types.specs.Layouts.{Completed, Part}
use Rattle.pv_types.specs.Members.{placed_in}
use Rattle.pv_types.specs.Ty.{Ty}
use Rattle.std.specs.Prelude.{Option, ℕ, List}
use Rattle.pv_check.specs.Members.{member_named}

-- 6.5.2.3p1: the member of this name of a structure or union, qualifiers aside
abbrev pub member_of : List Completed → ℕ → Ty → Option Part
member_of ds name t = member_named name (placed_in ds t)
