-- A bridge: what functions answer that do a part of what Known says.
use Rattle.std.specs.Prelude.{ℕ, List, [], slice_index_or}
use Rattle.pv_types.specs.declared.terms.TypeId.{TypeId}
use Rattle.pv_types.specs.Layouts.{Entry, layouts_of}
use Rattle.pv_types.specs.Ty.{Ty}
use Rattle.pv_types.specs.Known.{DoneTag, completed_in}

-- the list of parameters of a number
abbrev pub list_at : List (List TypeId) → ℕ → List TypeId
list_at lists p = slice_index_or lists p []

-- the layouts of the completed tags, where the trees of the types are given
abbrev pub env_of : List Ty → List DoneTag → List Entry
env_of ts done = layouts_of (completed_in ts done)
