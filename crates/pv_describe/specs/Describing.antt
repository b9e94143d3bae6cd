-- What the modes `check` and `layout` print of a typed unit. C17 leaves the form of such a report to an implementation (5.1.1.3).
use Rattle.std.specs.Prelude.{ℕ, ◌+◌, if◌then◌else◌, is_some, List, [], ◌∷◌, ◌++◌, codes, Option, Some, None}
use Rattle.std.specs.Fmt.{decimal}
use Rattle.pv_types.specs.Ty.{Ty, StructTag, UnionTag}
use Rattle.pv_types.specs.Known.{heading_at}
use Rattle.pv_types.specs.Layouts.{Named, Placed, layout_in, look}
use Rattle.pv_types.specs.Members.{placed_in}
use Rattle.pv_typed.specs.TypedUnits.{WholeUnit, layouts, name_at}
use Rattle.std.specs.List.{flat_map}

-- 5.1.1.3: the end of a line
abbrev pub line_feed : List ℕ
line_feed = 10 ∷ []

-- 6.9p1: how many external declarations there are
abbrev pub check_text : WholeUnit → List ℕ
check_text u = codes "checked declarations=" ++ decimal u.declarations ++ line_feed

-- 6.4.2.1: the names of a source stand behind two that no source has
abbrev pub source_name : WholeUnit → ℕ → List ℕ
source_name u n = name_at u (n + 2)

-- 6.7.2.3: the name of a tag, if it has one
abbrev pub name_if : WholeUnit → Option ℕ → List ℕ
name_if u None = []
name_if u (Some n) = source_name u n

-- 6.7.2.1p15, p16: the members in their order: of each its name, where it begins, in bytes from the beginning of the whole, and how many bytes it
-- takes
abbrev pub member_lines : WholeUnit → List (Placed Named) → List ℕ
member_lines u ps =
    flat_map (λ (p : Placed Named).
    codes "  " ++ source_name u p.member.name ++ codes " offset=" ++ decimal p.offset ++ codes " size=" ++ decimal p.layout.size ++ line_feed) ps

-- 6.2.6.1p4, 6.2.8p1: the first line of a structure or union: `struct` or `union`, the name that its tag was made with (6.7.2.3), how many bytes an
-- object takes, and what its address is a multiple of
abbrev pub tag_head : WholeUnit → (word : List ℕ) → ℕ → Ty → List ℕ
tag_head u word tag t =
    word ++ name_if u (heading_at u.headings tag).name ++ codes " size=" ++ decimal (layout_in (layouts u) t).size ++ codes " align="
    ++ decimal (layout_in (layouts u) t).align ++ line_feed

-- 6.7.2.1p15, p16: a structure or union: its size and alignment, then its members; what is not complete has no layout (6.7.2.1p8)
abbrev pub tag_text : WholeUnit → Ty → List ℕ
tag_text u (StructTag n) =
    if is_some (look (layouts u) n) then tag_head u (codes "struct ") n (StructTag n) ++ member_lines u (placed_in u.completed (StructTag n)) else []
tag_text u (UnionTag n) =
    if is_some (look (layouts u) n) then tag_head u (codes "union ") n (UnionTag n) ++ member_lines u (placed_in u.completed (UnionTag n)) else []
tag_text u _ = []

-- 6.7.2.1p8: the texts of the structures and unions with a tag that are complete at file scope, in their order
abbrev pub layout_text : WholeUnit → List ℕ
layout_text u = flat_map (tag_text u) u.tags
