-- The parts of an object that the initializers of a list in braces are for (6.7.9p17 to p20).
use Rattle.std.specs.Prelude.{ℕ, zero, suc, ◌+◌, ◌*◌, ◌^◌, Bool, true, false, nat_lt, nat_le, if◌then◌else◌, List, [], ◌∷◌, length, Option, Some, None, option_map, option_and_then}
use Rattle.std.specs.declared.option.Option.TheVariants.{Some as Size, None as Unknown}
use Rattle.pv_types.specs.Ty.{Ty, ArrayOf, StructTag, UnionTag}
use Rattle.pv_types.specs.Layouts.{Part, Entry, Named, Placed, Completed, layout_in, layouts_of, is_complete_in}
use Rattle.pv_types.specs.Members.{placed_in, member_part}
use Rattle.pv_types.specs.Sorts.{bare_type, is_scalar, is_character}

-- 6.7.9p17: of these members the part of this number, from 0
abbrev pub part_number : ℕ → List (Placed Named) → Option Part
part_number n [] = None
part_number zero (p ∷ ps) = Some (member_part p)
part_number (suc n) (p ∷ ps) = part_number n ps

-- 6.7.9p17: of a union's members the first alone
abbrev pub first_member : List (Placed Named) → List (Placed Named)
first_member [] = []
first_member (p ∷ ps) = p ∷ []

-- 6.7.9p2, p22: an array has this element; one of unknown size has as many as the largest object has room for (5.2.4.1p1)
abbrev pub has_element : Option ℕ → (size i : ℕ) → Bool
has_element (Size n) size i = nat_lt i n
has_element Unknown size i = nat_le ((i + 1) * size) (2 ^ 32)

-- 6.7.9p17: the part that initializer number i of a list is for, within a type without qualifiers; an element begins behind those before it (6.2.5p20)
abbrev pub part_in : List Completed → Ty → ℕ → Option Part
part_in done (ArrayOf t n) i =
    if has_element n (layout_in (layouts_of done) t).size i then Some (record { offset = i * (layout_in (layouts_of done) t).size; t = t }) else None
part_in done (StructTag n) i = part_number i (placed_in done (StructTag n))
part_in done (UnionTag n) i = part_number i (first_member (placed_in done (UnionTag n)))
part_in done _ i = None

-- 6.7.9p17: the part that initializer number i of a list is for, within a part of an object, qualifiers aside
abbrev pub part_at : List Completed → Part → ℕ → Option Part
part_at done whole i = option_map (λ (p : Part). record { offset = whole.offset + p.offset; t = p.t }) (part_in done (bare_type whole.t) i)

-- ---- kinds of types, qualifiers aside

-- 6.2.5p21, 6.7.9p17: an array, a structure or a union, of a type without qualifiers
abbrev pub aggregate_layer : Ty → Bool
aggregate_layer (ArrayOf t n) = true
aggregate_layer (StructTag n) = true
aggregate_layer (UnionTag n) = true
aggregate_layer _ = false

-- 6.7.9p14: a type without qualifiers is an array of characters
abbrev pub text_layer : Ty → Bool
text_layer (ArrayOf t n) = is_character t
text_layer _ = false

-- 6.7.9p14: an array of characters
abbrev pub is_text : Ty → Bool
is_text t = text_layer (bare_type t)

-- 6.7.9p22: an array of unknown size with so many elements; it has no qualifier itself (6.7.3p9)
abbrev pub with_size : Ty → ℕ → Ty
with_size (ArrayOf t Unknown) n = ArrayOf t (Size n)
with_size t n = t

-- 6.7.9p3: complete, or an array of unknown size
abbrev pub can_be_initialized : List Entry → Ty → Bool
can_be_initialized env (ArrayOf t Unknown) = is_complete_in env t
can_be_initialized env t = is_complete_in env t

-- 6.7.9p20: the first scalar of a part of an object, in at most so many steps, each to the first part of a part
abbrev pub leaf_within : (depth : ℕ) → List Completed → Part → Option Part
leaf_within zero done p = None
leaf_within (suc n) done p = if is_scalar p.t then Some p else option_and_then (leaf_within n done) (part_at done p 0)

-- 6.7.9p20: the first scalar: the first part of the first part, and so on
abbrev pub first_leaf : List Completed → Part → Option Part
first_leaf done p = leaf_within (length (layout_in (layouts_of done) p.t).parts + 1) done p
