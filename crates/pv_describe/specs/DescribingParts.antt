-- A bridge: what functions answer that do a part of what Describing says.
use Rattle.std.specs.Prelude.{◌++◌, codes, List, ℕ}
use Rattle.std.specs.Fmt.{decimal}
use Rattle.std.specs.List.{flat_map}
use Rattle.pv_describe.specs.Describing.{line_feed, name_if, tag_text}
use Rattle.pv_typed.specs.TypedUnits.{WholeUnit}
use Rattle.pv_types.specs.Known.{heading_at}
use Rattle.pv_types.specs.Ty.{Ty}

-- 6.2.6.1p4, 6.2.8p1: `struct` or `union`, the tag's name, how many bytes an object takes, and what its address is a multiple of
abbrev pub head_line : (word name : List ℕ) → (size align : ℕ) → List ℕ
head_line word name size align = word ++ name ++ codes " size=" ++ decimal size ++ codes " align=" ++ decimal align ++ line_feed

-- 6.7.2.1p15: a member: its name, where it begins, in bytes from the beginning of the whole, and how many bytes it takes
abbrev pub member_line : (name : List ℕ) → (offset size : ℕ) → List ℕ
member_line name offset size = codes "  " ++ name ++ codes " offset=" ++ decimal offset ++ codes " size=" ++ decimal size ++ line_feed

-- 6.7.2.3: the name that the tag was made with
abbrev pub tag_name : WholeUnit → ℕ → List ℕ
tag_name u tag = name_if u (heading_at u.headings tag).name

-- the same of several, one after the other
abbrev pub tag_texts : WholeUnit → List Ty → List ℕ
tag_texts u ts = flat_map (tag_text u) ts
