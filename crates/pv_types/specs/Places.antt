-- A bridge: where the members of the structures and unions of a table stand.
use Rattle.std.specs.Prelude.{◌≡◌, ℕ, ◌+◌, ◌<◌, ◌&&◌, if◌then◌else◌, nat_le, nat_lt, Some, None, List, [], ◌∷◌, length, slice_index_or}
use Rattle.std.specs.declared.option.Option.{Option}
use Rattle.pv_types.specs.declared.terms.Member.{Member}
use Rattle.pv_types.specs.declared.terms.TypeId.{TypeId}
use Rattle.pv_types.specs.declared.types.Tag.{Tag}
use Rattle.pv_types.specs.Layouts.{Layout, Placed, layout_in, struct_placed, union_placed}
use Rattle.pv_types.specs.Known.{Known, tree, env}
use Rattle.pv_types.specs.Formed.{members_in}

-- 6.7.2.1p9: the layout of a member's type
abbrev pub member_layout : Known → Member → Layout
member_layout m x = layout_in (env m) (tree m x.t.0)

-- 6.7.2.1p15: the members of a structure where they stand, from where the one before ends
abbrev pub struct_places : Known → ℕ → List Member → List (Placed Member)
struct_places m o xs = struct_placed (member_layout m) o xs

-- 6.7.2.1p16: the members of a union where they stand
abbrev pub union_places : Known → List Member → List (Placed Member)
union_places m xs = union_placed (member_layout m) xs

-- 6.7.2.1p15: the member that has the byte at this offset, and where it begins. Between members there may be none (p15: padding)
abbrev pub holder : ℕ → List (Placed Member) → Option (ℕ × TypeId)
holder o [] = None
holder o (p ∷ ps) = if nat_le p.offset o && nat_lt o (p.offset + p.layout.size) then Some (p.offset, p.member.t) else holder o ps

-- 6.7.2.1p15: where the members begin
abbrev pub starts : List (Placed Member) → List ℕ
starts [] = []
starts (p ∷ ps) = p.offset ∷ starts ps

-- 6.7.2.1p15: where the members of a tag begin, as the tag keeps it
abbrev pub starts_of : Tag → List ℕ
starts_of t = t.starts.items

-- 6.7.2.1p15: the same of the tag of a number
abbrev pub starts_at : List (List ℕ) → ℕ → List ℕ
starts_at ss n = slice_index_or ss n []

-- 6.7.2.1p15: of each tag either nothing is kept, or where all of its members begin
abbrev pub AreIndexed : Known → List (List ℕ) → Type 0
AreIndexed m ss = (n : ℕ) → n < length ss → 0 < length (starts_at ss n) → starts_at ss n ≡ starts (struct_places m 0 (members_in m.done n))
