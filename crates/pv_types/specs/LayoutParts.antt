-- A bridge: what functions answer that do a part of what Layouts says.
use Rattle.std.specs.Prelude.{ℕ, List, length, unwrap_or, drop}
use Rattle.pv_types.specs.Layouts.{Part, Layout, Entry, Named, struct_placed, union_placed, last_end, greatest_size, placed_parts, layout_at, no_layout}
use Rattle.std.specs.declared.option.Option.{Option}

-- how many parts there are: more than an element or a member of the type has
abbrev pub part_count : Layout → ℕ
part_count l = length l.parts

-- where the members of a structure end, from an offset on
abbrev pub struct_end : List Entry → ℕ → List Named → ℕ
struct_end env o ms = last_end o (struct_placed (layout_at env) o ms)

-- where the members of a union end: it is as large as its largest member
abbrev pub union_end : List Entry → ℕ → List Named → ℕ
union_end env o ms = greatest_size o (union_placed (layout_at env) ms)

-- the parts of the members of a union
abbrev pub union_parts : List Entry → List Named → List Part
union_parts env ms = placed_parts (union_placed (layout_at env) ms)

-- the parts of the members of a structure, from an offset on
abbrev pub struct_parts : List Entry → List Named → ℕ → List Part
struct_parts env ms o = placed_parts (struct_placed (layout_at env) o ms)

-- the layout, or of an incomplete type (6.2.5p1) the one without a byte
abbrev pub or_none : Option Layout → Layout
or_none o = unwrap_or o no_layout

-- the parts behind the whole: those of its elements or members
abbrev pub behind_whole : List Part → List Part
behind_whole ps = drop 1 ps
