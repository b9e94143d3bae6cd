-- The members of a tag, as the table has them and as trees; the lines of those that are left.
use Rattle.std.proofs.Common.{◌≡◌, ℕ, suc, max, ◌+◌, ◌<◌, ◌≤◌, ◌^◌, true, IsTrue, List, ◌∷◌, ◌++◌, length, drop, drop-cons, get_or, add-one, sym, ◌∙◌, ap, subst, arith, is_some, map, append_assoc}
use Rattle.std.specs.Int.{next_multiple_of}
use Rattle.pv_types.specs.declared.terms.Member.{Member}
use Rattle.pv_types.specs.declared.terms.TypeId.{TypeId}
use Rattle.pv_types.specs.Ty.{StructTag, UnionTag}
use Rattle.pv_types.specs.Layouts.{look, layout_in, layout_of, greatest_align, is_complete_in}
use Rattle.pv_types.specs.LayoutParts.{union_end, or_none}
use Rattle.pv_types.specs.Formed.{AreComplete, named_members, members_in, is_union_in, MembersBelow, IsBuilt}
use Rattle.pv_types.specs.Known.{Known, tree, trees, env, named_in}
use Rattle.pv_types.specs.Members.{placed_in}
use Rattle.pv_types.specs.Places.{struct_places, union_places}
use Rattle.pv_types.proofs.Fills.{union_end-ge}
use Rattle.pv_types.proofs.Made.{made}
use Rattle.pv_types.proofs.Placed.{named_place, struct_placed_in, union_placed_in}
use Rattle.pv_layout.proofs.Ahead.{nobody}
use Rattle.pv_typed.specs.Tables.{Stored, whole_unit}
use Rattle.pv_describe.specs.Describing.{member_lines, source_name}
use Rattle.pv_describe.specs.DescribingParts.{member_line, tag_texts}

-- the text so far, and the lines of the members that are left
abbrev pub struct_left : Stored → (text : List ℕ) (behind : ℕ) → List Member → List ℕ
struct_left s text behind ms = text ++ member_lines (whole_unit s) (map (named_place s.known) (struct_places s.known behind ms))

abbrev pub union_left : Stored → (text : List ℕ) → List Member → List ℕ
union_left s text ms = text ++ member_lines (whole_unit s) (map (named_place s.known) (union_places s.known ms))

pub struct_starts : (s : Stored) (tag : ℕ) (text : List ℕ) (items : List Member) → items ≡ members_in s.known.done tag
    → struct_left s text 0 items ≡ text ++ member_lines (whole_unit s) (placed_in (whole_unit s).completed (StructTag tag))
struct_starts s tag text items e = ap (struct_left s text 0) e ∙ ap (λ ps. text ++ member_lines (whole_unit s) ps) (sym (struct_placed_in s.known tag))

pub union_starts : (s : Stored) (tag : ℕ) (text : List ℕ) (items : List Member) → items ≡ members_in s.known.done tag
    → union_left s text items ≡ text ++ member_lines (whole_unit s) (placed_in (whole_unit s).completed (UnionTag tag))
union_starts s tag text items e = ap (union_left s text) e ∙ ap (λ ps. text ++ member_lines (whole_unit s) ps) (sym (union_placed_in s.known tag))

-- one line more
struct_first : (s : Stored) (text line name : List ℕ) (o p start size : ℕ) (x : Member) (ms : List Member) → line ≡ member_line name start size → name ≡ source_name (whole_unit s) x.name
    → start ≡ next_multiple_of o (layout_in (env s.known) (tree s.known x.t.0)).align → size ≡ (layout_in (env s.known) (tree s.known x.t.0)).size → p ≡ start + size
    → struct_left s (text ++ line) p ms ≡ struct_left s text o (x ∷ ms)
struct_first s text line name o p start size x ms l n b z e =
    let offset = next_multiple_of o (layout_in (env s.known) (tree s.known x.t.0)).align in
    let bytes = (layout_in (env s.known) (tree s.known x.t.0)).size in
    rw (e, l, n, b, z) (append_assoc text (member_line (source_name (whole_unit s) x.name) offset bytes) (member_lines (whole_unit s) (map (named_place s.known) (struct_places s.known (offset + bytes) ms))))

pub struct_next : (s : Stored) (text line name : List ℕ) (o p start size i : ℕ) (items : List Member) → i < length items → line ≡ member_line name start size → name ≡ source_name (whole_unit s) (get_or items i nobody).name
    → start ≡ next_multiple_of o (layout_in (env s.known) (tree s.known (get_or items i nobody).t.0)).align → size ≡ (layout_in (env s.known) (tree s.known (get_or items i nobody).t.0)).size → p ≡ start + size
    → struct_left s (text ++ line) p (drop (i + 1) items) ≡ struct_left s text o (drop i items)
struct_next s text line name o p start size i items lt l n b z e =
    rw add-one (struct_first s text line name o p start size (get_or items i nobody) (drop (suc i) items) l n b z e ∙ sym (ap (struct_left s text o) (drop-cons items i nobody lt)))

-- the members of a union that are left, each of which is complete and small enough
pub record Left (m : Known) (ms : List Member) : Type 0 where
  pub before : ℕ
  pub known : MembersBelow (length m.terms) ms
  pub complete : AreComplete (env m) (named_in (trees m) ms)
  pub small : union_end (env m) before (named_in (trees m) ms) ≤ 2 ^ 32

pub left_start : (m : Known) (tag : ℕ) (items : List Member) → items ≡ members_in m.done tag → IsBuilt m → IsTrue (is_some (look (env m) tag)) → is_union_in m.done tag ≡ true → (or_none (look (env m) tag)).size ≤ 2 ^ 32 → Left m items
left_start m tag items e built there flag size =
    let h = made m tag built there in
    let whole_is : or_none (look (env m) tag) ≡ layout_of (env m) tag true (named_members m tag) = ap or_none h.laid ∙ ap (λ u. layout_of (env m) tag u (named_members m tag)) flag in
    let small : next_multiple_of (union_end (env m) 0 (named_members m tag)) (greatest_align (env m) 1 (named_members m tag)) ≤ 2 ^ 32 = rw whole_is at size in
    rw e (record { before = 0; known = h.known; complete = h.complete; small = omega (arith, small) })

pub record One (m : Known) (x : Member) : Type 0 where
  pub known : x.t.0 < length m.terms
  pub complete : IsTrue (is_complete_in (env m) (tree m x.t.0))
  pub small : (layout_in (env m) (tree m x.t.0)).size ≤ 2 ^ 32

one_of : (m : Known) (x : Member) (ms : List Member) → Left m (x ∷ ms) → One m x
one_of m x ms h =
    let more = union_end-ge (env m) (named_in (trees m) ms) (max h.before (layout_in (env m) (tree m x.t.0)).size) in
    let small = h.small in
    record { known = h.known.0; complete = h.complete.0; small = omega (arith, more, small) }

front : (m : Known) (i : ℕ) (items : List Member) → i < length items → Left m (drop i items) → Left m (get_or items i nobody ∷ drop (suc i) items)
front m i items lt h = subst (Left m) (drop-cons items i nobody lt) h

pub one_at : (m : Known) (i : ℕ) (items : List Member) → i < length items → Left m (drop i items) → One m (get_or items i nobody)
one_at m i items lt h = one_of m (get_or items i nobody) (drop (suc i) items) (front m i items lt h)

-- ---- tags

abbrev pub tags_left : Stored → (text : List ℕ) → List TypeId → List ℕ
tags_left s text ts = text ++ tag_texts (whole_unit s) (map (λ (t : TypeId). tree s.known t.0) ts)
