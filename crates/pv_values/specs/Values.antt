-- The value of an object, by its type down to scalars (6.2.5p21), from its bytes as they stand (6.2.6.1p4). Nothing is used, exposed or settled by
-- looking: no instance, pair or byte changes (the memory model).
use Rattle.std.specs.Prelude.{ℕ, zero, suc, ◌+◌, ◌-◌, ◌*◌, ◌/◌, min, pos, Bool, ◌==◌, ◌&&◌, not, nat_lt, nat_le, List, [], ◌∷◌, ◌++◌, length, map, take, codes, Option, Some, None, is_some, if◌then◌else◌}
use Rattle.std.specs.Option.{option_map, option_and_then, option_map_or}
use Rattle.std.specs.Fmt.{decimal, signed_decimal}
use Rattle.pv_num.specs.declared.kinds.IntKind.{IntKind}
use Rattle.pv_num.specs.Kinds.{convert_of, width}
use Rattle.pv_prov.specs.declared.names.Prov.{Prov}
use Rattle.pv_prov.specs.declared.names.Prov.TheVariants.{Empty, Inst, Pair}
use Rattle.pv_prov.specs.declared.names.Stands.{Stands}
use Rattle.pv_prov.specs.Names.{nobody, stands}
use Rattle.pv_inst.specs.declared.values.Instance.{Instance}
use Rattle.pv_inst.specs.Table.{Table, instance_at}
use Rattle.pv_inst.specs.Use.{is_function}
use Rattle.pv_inst.specs.Finding.{found_at}
use Rattle.pv_shadow.specs.declared.byte.Byte.{Byte}
use Rattle.pv_shadow.specs.Bytes.{bytes_from}
use Rattle.pv_shadow.specs.Whole.{whole_name, number_in}
use Rattle.pv_object.specs.Memory.{Mem}
use Rattle.pv_object.specs.Loading.{is_trap}
use Rattle.pv_print.specs.Texts.{address_text}
use Rattle.pv_types.specs.Ty.{Ty, IntTy, PointerTo, ArrayOf, StructTag, UnionTag}
use Rattle.pv_types.specs.Sorts.{bare_type}
use Rattle.pv_types.specs.Layouts.{Entry, Named, Placed, layout_in, look, is_complete_in, up_to}
use Rattle.pv_types.specs.Members.{placed_in}
use Rattle.pv_typed.specs.TypedUnits.{WholeUnit, layouts, name_at}
use Rattle.pv_describe.specs.Describing.{source_name}
use Rattle.pv_values.specs.TypeTexts.{separator}

-- ---- bytes

-- 6.2.6.1p4: n bytes of an instance that lives (6.2.4p2), from an offset on, where it has them
abbrev pub bytes_in : Mem → Option Instance → (offset n : ℕ) → Option (List Byte)
bytes_in M None o n = None
bytes_in M (Some x) o n = if x.live && nat_le (o + n) x.size then Some (bytes_from M.bytes (x.base + o) n) else None

-- 6.2.6.1p4: the number that they are, where each of them has a value
abbrev pub number_of_bytes : Mem → Option Instance → (offset n : ℕ) → Option ℕ
number_of_bytes M x o n = option_and_then number_in (bytes_in M x o n)

-- the memory model: the number of the bytes of a pointer, and its name, where it was stored as one
abbrev pub pointer_in : List Byte → Option (ℕ × Option Prov)
pointer_in bytes = option_map (λ a. (a, whole_name bytes)) (number_in bytes)

-- ---- integers

-- 3.19.2, 6.2.6.1p5: the text of an integer of this kind whose bytes are this number
abbrev pub integer_text : IntKind → Option ℕ → List ℕ
integer_text k None = codes "unset"
integer_text k (Some n) = if is_trap k n then codes "trap" else signed_decimal (convert_of k (pos n))

-- ---- pointers

-- docs/FORMATS.md, Where a run stands: an instance by its name, and which of this name it is (the memory model)
abbrev pub id_text : WholeUnit → Instance → List ℕ
id_text u x = name_at u x.name ++ codes "#" ++ decimal x.k

-- 6.5.6p8: how far an address lies from the first byte of an instance
abbrev pub distance_text : (base a : ℕ) → List ℕ
distance_text base a = if nat_le base a then codes " + " ++ decimal (a - base) else codes " - " ++ decimal (base - a)

-- 6.2.4p2, 6.5.6p8: that the instance has ended, or that the address is one past its last byte, or none of its own
abbrev pub remark_text : Instance → (a : ℕ) → List ℕ
remark_text x a =
    if not x.live then codes ", ended"
    else if a == x.base + x.size then codes ", one past the end"
    else if nat_le x.base a && nat_lt a (x.base + x.size) then [] else codes ", outside"

-- docs/FORMATS.md, Where a run stands (6.5.6p8): an address by the instance that it is of; the first byte of a function is the function itself
-- (6.3.2.1p4)
abbrev pub place_in : WholeUnit → Instance → (a : ℕ) → List ℕ
place_in u x a =
    if is_function x.kind && x.base == a then name_at u x.name
    else codes "{" ++ id_text u x ++ distance_text x.base a ++ remark_text x a ++ codes "}"

-- the memory model: the same, by the number of the instance
abbrev pub place_text : WholeUnit → Table → (i a : ℕ) → List ℕ
place_text u T i a = option_map_or (λ (x : Instance). place_in u x a) (instance_at T.instances i) (codes "{?}")

-- the memory model: an address by two candidates
abbrev pub two_text : WholeUnit → Table → (low high a : ℕ) → List ℕ
two_text u T i j a = place_text u T i a ++ codes " or " ++ place_text u T j a

-- the memory model: an address by its candidates, the low one first
abbrev pub both_text : WholeUnit → Table → (low high : Option ℕ) → (a : ℕ) → List ℕ
both_text u T None None a = codes "{?}"
both_text u T None (Some j) a = place_text u T j a
both_text u T (Some i) None a = place_text u T i a
both_text u T (Some i) (Some j) a = two_text u T i j a

-- 6.3.2.3p3, p5: an address that is of no instance: the null pointer, or a number
abbrev pub bare_address : (a : ℕ) → List ℕ
bare_address a = if a == 0 then codes "null" else address_text a ++ codes " of no object"

-- the memory model: the candidates that a pair keeps; pairs are counted from 1
abbrev pub kept_by : Table → (k : ℕ) → Stands
kept_by T k = if k == 0 then nobody else stands T.pairs (Pair k)

-- the memory model: a pair, and the candidates that it keeps
abbrev pub pair_text : WholeUnit → Table → (a k : ℕ) → List ℕ
pair_text u T a k = codes "pair " ++ decimal k ++ codes " " ++ both_text u T (kept_by T k).low (kept_by T k).high a

-- the memory model: a pointer that was stored as one, by its name
abbrev pub named_text : WholeUnit → Table → (a : ℕ) → Prov → List ℕ
named_text u T a Empty = bare_address a
named_text u T a (Inst i) = place_text u T i a
named_text u T a (Pair k) = pair_text u T a k

-- 6.3.2.3p5: a pointer whose bytes are a number: by the instance that the number finds; where it finds two, a pair would be made when it is loaded
-- (the memory model), so that the number and both are shown
abbrev pub found_text : WholeUnit → Table → (a : ℕ) → (low high : Option ℕ) → List ℕ
found_text u T a None None = bare_address a
found_text u T a None (Some j) = place_text u T j a
found_text u T a (Some i) None = place_text u T i a
found_text u T a (Some i) (Some j) = address_text a ++ codes " " ++ two_text u T i j a

-- the memory model: a pointer, by its number, and by its name where it was stored as one
abbrev pub pointer_by : WholeUnit → Table → (a : ℕ) → Option Prov → List ℕ
pointer_by u T a (Some p) = named_text u T a p
pointer_by u T a None = found_text u T a (found_at T a).low (found_at T a).high

-- 3.19.2: the text of a pointer
abbrev pub pointer_text : WholeUnit → Table → Option (ℕ × Option Prov) → List ℕ
pointer_text u T p = option_map_or (λ p. pointer_by u T p.0 p.1) p (codes "unset")

-- ---- scalars, and what is made of them

-- 6.2.5p21: the text of a scalar at an offset of an instance, by its type without qualifiers; of anything else `..`
abbrev pub scalar_in : WholeUnit → Mem → Option Instance → (offset : ℕ) → Ty → List ℕ
scalar_in u M x o (IntTy k) = integer_text k (number_of_bytes M x o (width k / 8))
scalar_in u M x o (PointerTo t) = pointer_text u M.table (option_and_then pointer_in (bytes_in M x o 8))
scalar_in u M x o _ = codes ".."

-- 6.2.5p21, p26: the same by its type
abbrev pub scalar_text : WholeUnit → Mem → Option Instance → (offset : ℕ) → Ty → List ℕ
scalar_text u M x o t = scalar_in u M x o (bare_type t)

-- docs/FORMATS.md, Where a run stands: the most elements of an array that are shown (6.2.5p20)
abbrev pub most_elements : ℕ
most_elements = 16

-- docs/FORMATS.md, Where a run stands: the most members of a structure or union that are shown (6.2.5p20)
abbrev pub most_members : ℕ
most_members = 64

-- docs/FORMATS.md, Where a run stands: as many arrays, structures and unions are shown within one another (6.2.5p20)
abbrev pub value_levels : ℕ
value_levels = 3

-- 6.2.5p20: a part of an array, structure or union that is shown: the name of a member, the byte where it begins, and its type
pub record Shown : Type 0 where
  pub name : Option ℕ
  pub offset : ℕ
  pub t : Ty

-- docs/FORMATS.md, Where a run stands (6.2.5p20): the parts that are shown, in their order, between these bytes, and whether there are more
pub record Shape : Type 0 where
  pub opens : ℕ
  pub closes : ℕ
  pub parts : List Shown
  pub more : Bool

-- 6.2.5p20: so many elements of this size each, from number i on
abbrev pub element_parts : (size : ℕ) → Ty → (i count : ℕ) → List Shown
element_parts size t i zero = []
element_parts size t i (suc count) = record { name = None; offset = i * size; t = t } ∷ element_parts size t (i + 1) count

-- 6.2.5p20: an array of n elements, in brackets
abbrev pub array_shape : WholeUnit → Ty → (n : ℕ) → Shape
array_shape u t n = record {
  opens = 91;
  closes = 93;
  parts = element_parts (layout_in (layouts u) t).size t 0 (min n most_elements);
  more = nat_lt most_elements n;
}

-- 6.7.2.1p15, p16: a member where it stands
abbrev pub member_part : Placed Named → Shown
member_part p = record { name = Some p.member.name; offset = p.offset; t = p.member.t }

-- 6.7.2.1: a structure or union with these members, in braces
abbrev pub tag_shape : List (Placed Named) → Shape
tag_shape ps = record { opens = 123; closes = 125; parts = map member_part (take most_members ps); more = nat_lt most_members (length ps) }

-- 6.2.5p1, 5.2.4.1: a complete type whose objects are not too large
abbrev pub is_measured : List Entry → Ty → Bool
is_measured env t = is_complete_in env t && is_some (up_to (layout_in env t).size)

-- 6.2.5p20: the parts of an array, structure or union, by its type without qualifiers; what is not complete (6.2.5p1), and any other type, has none
abbrev pub shape_in : WholeUnit → Ty → Option Shape
shape_in u (ArrayOf t (Some n)) = if is_measured (layouts u) (ArrayOf t (Some n)) then Some (array_shape u t n) else None
shape_in u (StructTag n) = if is_some (look (layouts u) n) then Some (tag_shape (placed_in u.completed (StructTag n))) else None
shape_in u (UnionTag n) = if is_some (look (layouts u) n) then Some (tag_shape (placed_in u.completed (UnionTag n))) else None
shape_in u _ = None

-- 6.2.5p20, p26: the same by its type
abbrev pub shape_of : WholeUnit → Ty → Option Shape
shape_of u t = shape_in u (bare_type t)

-- 6.7.2.1: what stands before the value of a member
abbrev pub label_text : WholeUnit → Option ℕ → List ℕ
label_text u None = []
label_text u (Some name) = codes "." ++ source_name u name ++ codes " = "

-- 6.2.5p20: parts from number i on, of what begins at an offset, by what shows the value of each
abbrev pub parts_text : WholeUnit → (value : (offset : ℕ) → Ty → List ℕ) → (offset i : ℕ) → List Shown → List ℕ
parts_text u value o i [] = []
parts_text u value o i (p ∷ ps) = separator i ++ label_text u p.name ++ value (o + p.offset) p.t ++ parts_text u value o (i + 1) ps

-- docs/FORMATS.md, Where a run stands (6.2.5p20): `..` behind the parts, where there are more
abbrev pub more_text : (more : Bool) → List ℕ
more_text more = if more then codes ", .." else []

-- 6.2.5p20: all that is shown of it
abbrev pub shape_text : WholeUnit → (value : (offset : ℕ) → Ty → List ℕ) → (offset : ℕ) → Shape → List ℕ
shape_text u value o s = s.opens ∷ [] ++ parts_text u value o 0 s.parts ++ more_text s.more ++ s.closes ∷ []

-- 6.2.5p20, p21: the value at an offset of an instance, with so many levels of parts within parts
abbrev pub value_at : WholeUnit → Mem → Option Instance → (levels offset : ℕ) → Ty → List ℕ
value_at u M x zero o t = scalar_text u M x o t
value_at u M x (suc l) o t = option_map_or (shape_text u (value_at u M x l) o) (shape_of u t) (scalar_text u M x o t)

-- 6.2.4p2: the value of an object of this type, which has this instance
-- worked: integers, traps, pointers, pairs, aggregates, bounds
abbrev pub value_text : WholeUnit → Mem → Instance → Ty → List ℕ
value_text u M x t = value_at u M (Some x) value_levels 0 t
