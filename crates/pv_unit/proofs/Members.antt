-- Members of structures and unions, by their numbers.
use Rattle.std.proofs.Common.{◌≡◌, ℕ, zero, suc, max, ◌+◌, ◌<◌, ◌≤◌, ◌^◌, true, false, List, [], ◌∷◌, map, Option, Some, None, option_map, refl, sym, ◌∙◌, ap, arith, is_some, length, get_or}
use Rattle.pv_types.specs.declared.terms.Member.{Member}
use Rattle.pv_types.specs.declared.terms.TypeId.{TypeId}
use Rattle.pv_types.specs.Ty.{Ty, StructTag, UnionTag}
use Rattle.pv_types.specs.Layouts.{Entry, Layout, Part, Named, Placed, layout_in, layout_at, layout_of, struct_placed, union_placed, is_complete_in, look}
use Rattle.pv_types.specs.LayoutParts.{struct_end, union_end, or_none}
use Rattle.pv_types.specs.Formed.{AreComplete, completions, named_members, members_in, is_union_in, MembersBelow, IsBuilt}
use Rattle.pv_types.specs.Known.{Known, tree, trees, env, named_in}
use Rattle.pv_types.proofs.Fills.{struct_end-ge, union_end-ge}
use Rattle.pv_types.proofs.Made.{made}
use Rattle.pv_types.proofs.Placed.{members_named, named_place, struct_named, struct_placed_in}
use Rattle.pv_layout.specs.Places.{struct_places, place_number}
use Rattle.pv_unit.specs.declared.parts.Subobject.{Subobject}
use Rattle.pv_unit.specs.Parts.{part_number, first_member, part_in}
use Rattle.pv_unit.specs.PartParts.{within}
use Rattle.pv_unit.specs.Subobjects.{part_of, IsInner}

abbrev pub placed : Known → ℕ × TypeId → Part
placed m p = record { offset = p.0; t = tree m p.1.0 }

pub numbered : (m : Known) (ps : List (Placed Member)) (i : ℕ) → option_map (placed m) (place_number i ps) ≡ part_number i (map (named_place m) ps)
numbered m [] i = refl
numbered m (p ∷ ps) zero = refl
numbered m (p ∷ ps) (suc i) = numbered m ps i

abbrev part_or : Part → Option Part → Part
part_or d None = d
part_or d (Some p) = p

abbrev place_or : ℕ × TypeId → Option (ℕ × TypeId) → ℕ × TypeId
place_or d None = d
place_or d (Some p) = p

-- where a member ends
pub struct_inside : (env : List Entry) (ms : List Named) (o i : ℕ) (p : Part) → part_number i (struct_placed (layout_at env) o ms) ≡ Some p → p.offset + (layout_in env p.t).size ≤ struct_end env o ms
struct_inside env [] o i p e = cc
struct_inside env (m ∷ ms) o zero p e = let same = sym (ap (part_or p) e) in rw same (struct_end-ge env ms _)
struct_inside env (m ∷ ms) o (suc i) p e = struct_inside env ms _ i p e

pub struct_complete : (env : List Entry) (ms : List Named) (o i : ℕ) (p : Part) → AreComplete env ms → part_number i (struct_placed (layout_at env) o ms) ≡ Some p → is_complete_in env p.t ≡ true
struct_complete env [] o i p h e = cc
struct_complete env (m ∷ ms) o zero p h e = let same = sym (ap (part_or p) e) in rw same h.0
struct_complete env (m ∷ ms) o (suc i) p h e = struct_complete env ms _ i p h.1 e

pub struct_known : (m : Known) (n : ℕ) (ms : List Member) (o i : ℕ) (p : ℕ × TypeId) → MembersBelow n ms → place_number i (struct_places m o ms) ≡ Some p → p.1.0 < n
struct_known m n [] o i p h e = cc
struct_known m n (x ∷ ms) o zero p h e = let same = sym (ap (place_or p) e) in rw same h.0
struct_known m n (x ∷ ms) o (suc i) p h e = struct_known m n ms _ i p h.1 e

-- the size of a completed structure is at least where its last member ends
struct_size : (m : Known) (tag : ℕ) → IsBuilt m → is_some (look (env m) tag) ≡ true → is_union_in m.done tag ≡ false → struct_end (env m) 0 (named_members m tag) ≤ (or_none (look (env m) tag)).size
struct_size m tag built there flag =
    let whole : or_none (look (env m) tag) ≡ layout_of (env m) tag false (named_members m tag) = ap or_none (made m tag built there).laid ∙ ap (λ u. layout_of (env m) tag u (named_members m tag)) flag in
    let size = ap (λ (l : Layout). l.size) whole in
    rw size (omega arith)

-- a member of a structure, as the code goes to it
pub record Found (m : Known) (whole : Subobject) (t : Ty) (i : ℕ) (p : Subobject) : Type 0 where
  pub part : Some (part_of m p) ≡ option_map (within (part_of m whole)) (part_in (completions m) t i)
  pub is : IsInner m p
  pub small : p.offset ≤ 2 ^ 32

pub struct_part : (m : Known) (tag i : ℕ) → part_in (completions m) (StructTag tag) i ≡ option_map (placed m) (place_number i (struct_places m 0 (members_in m.done tag)))
struct_part m tag i = ap (part_number i) (struct_placed_in m tag) ∙ sym (numbered m (struct_places m 0 (members_in m.done tag)) i)

pub struct_found : (m : Known) (whole : Subobject) (tag i start : ℕ) (t : TypeId) → IsBuilt m → is_some (look (env m) tag) ≡ true → is_union_in m.done tag ≡ false
    → whole.offset + (or_none (look (env m) tag)).size ≤ 2 ^ 32 → Some (start, t) ≡ place_number i (struct_places m 0 (members_in m.done tag)) → Found m whole (StructTag tag) i (record { offset = whole.offset + start; t = t })
struct_found m whole tag i start t built there flag small e =
    let h = made m tag built there in
    let place = sym e in
    let numbers = ap (part_number i) (struct_named m 0 (members_in m.done tag)) ∙ sym (numbered m (struct_places m 0 (members_in m.done tag)) i) in
    let part : part_number i (struct_placed (layout_at (env m)) 0 (named_members m tag)) ≡ Some (placed m (start, t)) = numbers ∙ ap (option_map (placed m)) place in
    let end : start + (layout_in (env m) (tree m t.0)).size ≤ struct_end (env m) 0 (named_members m tag) = struct_inside (env m) (named_members m tag) 0 i (placed m (start, t)) part in
    let size = struct_size m tag built there flag in
    record {
      part = ap (λ o. option_map (within (part_of m whole)) (option_map (placed m) o)) e ∙ ap (option_map (within (part_of m whole))) (sym (struct_part m tag i));
      is = record {
        known = struct_known m (length m.terms) (members_in m.done tag) 0 i (start, t) h.known place;
        complete = struct_complete (env m) (named_members m tag) 0 i (placed m (start, t)) h.complete part;
        end = omega (arith, end, size, small);
      };
      small = omega (arith, end, size, small);
    }

pub struct_none : (m : Known) (whole : Subobject) (tag i : ℕ) → None ≡ place_number i (struct_places m 0 (members_in m.done tag)) → None ≡ option_map (within (part_of m whole)) (part_in (completions m) (StructTag tag) i)
struct_none m whole tag i e = ap (λ o. option_map (within (part_of m whole)) (option_map (placed m) o)) e ∙ ap (option_map (within (part_of m whole))) (sym (struct_part m tag i))

-- the first member of a union

union_first : (env : List Entry) (x : Named) (ms : List Named) (k : ℕ) → (layout_in env x.t).size ≤ union_end env k (x ∷ ms)
union_first env x ms k = let more = union_end-ge env ms (max k (layout_in env x.t).size) in omega (arith, more)

union_size : (m : Known) (tag : ℕ) (x : Named) (ms : List Named) → IsBuilt m → is_some (look (env m) tag) ≡ true → is_union_in m.done tag ≡ true → named_members m tag ≡ x ∷ ms → (layout_in (env m) x.t).size ≤ (or_none (look (env m) tag)).size
union_size m tag x ms built there flag e =
    let whole : or_none (look (env m) tag) ≡ layout_of (env m) tag true (x ∷ ms) = ap or_none (made m tag built there).laid ∙ ap (λ u. layout_of (env m) tag u (named_members m tag)) flag ∙ ap (layout_of (env m) tag true) e in
    let size = ap (λ (l : Layout). l.size) whole in
    let first = union_first (env m) x ms 0 in
    rw size (omega (arith, first))

union_part : (m : Known) (whole : Subobject) (tag : ℕ) (x : Member) (ms : List Member) → IsBuilt m → is_some (look (env m) tag) ≡ true → is_union_in m.done tag ≡ true
    → whole.offset + (or_none (look (env m) tag)).size ≤ 2 ^ 32 → members_in m.done tag ≡ x ∷ ms → Found m whole (UnionTag tag) 0 (record { offset = whole.offset; t = x.t })
union_part m whole tag x ms built there flag small e =
    let h = made m tag built there in
    let trees_e : named_members m tag ≡ named_in (trees m) (x ∷ ms) = ap (named_in (trees m)) e in
    let size = union_size m tag _ _ built there flag trees_e in
    let known : MembersBelow (length m.terms) (x ∷ ms) = rw e at h.known in
    let complete : AreComplete (env m) (named_in (trees m) (x ∷ ms)) = rw trees_e at h.complete in
    record {
      part = sym (ap (λ ns. option_map (within (part_of m whole)) (part_number 0 (first_member (union_placed (layout_at (env m)) ns)))) (members_named (trees m) m.done tag ∙ trees_e) ∙ ap (λ o. Some (record { offset = o; t = tree m x.t.0 })) (omega arith));
      is = record {
        known = known.0;
        complete = complete.0;
        end = omega (arith, size, small);
      };
      small = omega (arith, small);
    }

pub union_found : (m : Known) (whole : Subobject) (tag i : ℕ) (items : List Member) (d : Member) → IsBuilt m → is_some (look (env m) tag) ≡ true → is_union_in m.done tag ≡ true
    → whole.offset + (or_none (look (env m) tag)).size ≤ 2 ^ 32 → items ≡ members_in m.done tag → 0 < length items → i ≡ 0 → Found m whole (UnionTag tag) i (record { offset = whole.offset; t = (get_or items 0 d).t })
union_found m whole tag i [] d built there flag small e some z = absurd (omega arith)
union_found m whole tag i (x ∷ ms) d built there flag small e some z = rw z (union_part m whole tag x ms built there flag small (sym e))
