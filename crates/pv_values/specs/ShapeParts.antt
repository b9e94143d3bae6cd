-- A bridge: what functions answer that do a part of what Values says of the parts of a type.
use Rattle.std.specs.Prelude.{ℕ, suc, zero, ◌+◌, ◌*◌, ◌<◌, ◌≤◌, ◌^◌, ◌≡◌, min, nat_lt, List, [], ◌∷◌, ◌++◌, length, map, take, Option, Some, None, IfSome, if◌then◌else◌}
use Rattle.std.specs.Option.{option_map}
use Rattle.pv_types.specs.declared.terms.Member.{Member}
use Rattle.pv_types.specs.declared.terms.TypeId.{TypeId}
use Rattle.pv_types.specs.Ty.{Ty}
use Rattle.pv_types.specs.Known.{Known, tree}
use Rattle.pv_types.specs.Layouts.{Placed}
use Rattle.pv_typed.specs.Known.{Each}
use Rattle.pv_typed.specs.TypedUnits.{WholeUnit}
use Rattle.pv_values.specs.declared.shapes.Part.{Part}
use Rattle.pv_values.specs.declared.shapes.Shape as declared
use Rattle.pv_values.specs.TypeTexts.{separator}
use Rattle.pv_values.specs.Values.{Shown, Shape, most_elements, most_members, shape_in, label_text}

-- 6.2.5p20: a part, with the tree of its type
abbrev pub shown_part : Known → Part → Shown
shown_part k p = record { name = p.name; offset = p.offset; t = tree k p.t.0 }

-- 6.2.5p20: the parts that are shown, with the trees of their types
abbrev pub seen_shape : Known → declared.Shape → Shape
seen_shape k s = record { opens = s.opens; closes = s.closes; parts = map (shown_part k) s.parts.items; more = s.more }

-- 6.2.5p20: these are the parts of a type without qualifiers, or it has none
abbrev pub AreShown : WholeUnit → Known → Ty → Option declared.Shape → Type 0
AreShown u k t s = option_map (seen_shape k) s ≡ shape_in u t

-- 6.2.5p20: a part's type is one of the first n of the table, and it begins where an object may have a byte (5.2.4.1)
abbrev pub IsPart : (n : ℕ) → Part → Type 0
IsPart n p = (p.t.0 < n) × (p.offset ≤ 2 ^ 32)

-- 6.2.5p20: so it is with each
abbrev pub AreParts : (n : ℕ) → Option declared.Shape → Type 0
AreParts n s = IfSome s (λ s. Each (IsPart n) s.parts.items)

-- 6.2.5p20: so many elements of this size, from number i on
abbrev pub elements_of : TypeId → (size i count : ℕ) → List Part
elements_of t size i zero = []
elements_of t size i (suc count) = record { name = None; offset = i * size; t = t } ∷ elements_of t size (i + 1) count

-- docs/FORMATS.md, Where a run stands (6.2.5p20): how many elements are shown
abbrev pub shown_of : (n : ℕ) → ℕ
shown_of n = min n most_elements

-- 6.7.2.1p15, p16: a member where it stands
abbrev pub part_of : Placed Member → Part
part_of p = record { name = Some p.member.name; offset = p.offset; t = p.member.t }

-- docs/FORMATS.md, Where a run stands (6.7.2.1): a member more, unless as many as are shown are there
abbrev pub with_part : List Part → Part → List Part
with_part ps p = if nat_lt (length ps) most_members then ps ++ p ∷ [] else ps

-- docs/FORMATS.md, Where a run stands (6.7.2.1): the members that are shown
abbrev pub first_parts : List (Placed Member) → List Part
first_parts ps = take most_members (map part_of ps)

-- 6.2.5p20: what stands before the value of part number i
abbrev pub label_before : WholeUnit → (i : ℕ) → Option ℕ → List ℕ
label_before u i name = separator i ++ label_text u name
