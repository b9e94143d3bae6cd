-- A member of a structure or union lies within it (C17 6.7.2.1p15, p16).
use Rattle.std.proofs.Common.{◌≡◌, ℕ, ◌+◌, ◌≤◌, ◌==◌, max, Bool, true, false, ◌&&◌, Some, None, List, [], ◌∷◌, refl, sym, ap, subst, ◌∙◌, arith, eqb-true, ◌⊎◌, inl, inr}
use Rattle.std.specs.Prelude.{if◌then◌else◌}
use Rattle.std.specs.Int.{next_multiple_of}
use Rattle.pv_types.specs.Known.{heading_at}
use Rattle.pv_types.specs.Layouts.{Entry, Named, Part, Completed, look, layout_in, layout_at, layout_of, layouts_of, is_complete_in, struct_placed, union_placed}
use Rattle.pv_types.specs.LayoutParts.{struct_end, union_end, or_none}
use Rattle.pv_types.specs.Members.{completed_members}
use Rattle.pv_types.specs.Ty.{Ty, VoidTy, IntTy, PointerTo, ArrayOf, StructTag, UnionTag, FunctionTy, ConstOf}
use Rattle.pv_types.proofs.Fills.{struct_end-ge, union_end-ge}
use Rattle.pv_typed.specs.Known.{Each}
use Rattle.pv_typed.specs.TypedUnits.{WholeUnit}
use Rattle.pv_check.specs.Members.{member_named}
use Rattle.pv_check.specs.MemberParts.{member_of}
use Rattle.pv_check.specs.Postfix.{complete_member}
use Rattle.pv_types.specs.Sorts.{is_composite}
use Rattle.pv_guards.specs.Typed.{IsTag}
use Rattle.pv_well_typed.specs.Proper.{IsValueOrVoid, IsProper}
use Rattle.pv_well_typed.specs.ProperStates.{IsMember, IsCompleted}
use Rattle.pv_well_typed.proofs.Operands.{some-same}
use Rattle.pv_well_typed.proofs.UnaryRows.{both-true}

-- a member that was found: its type is complete, and its bytes lie before the end
pub record IsFound (v : WholeUnit) (es : List Entry) (end : ℕ) (p : Part) : Type 0 where
  pub proper : IsProper v p.t
  pub complete : is_complete_in es p.t ≡ true
  pub within : p.offset + (layout_in es p.t).size ≤ end

pub found-before : (v : WholeUnit) (es : List Entry) (m n : ℕ) (p : Part) → m ≤ n → IsFound v es m p → IsFound v es n p
found-before v es m n p le h = let w = h.within in record { proper = h.proper; complete = h.complete; within = omega (arith, le, w) }

pub found-as : (v : WholeUnit) (es : List Entry) (n : ℕ) (q p : Part) → IsFound v es n q → Some q ≡ Some p → IsFound v es n p
found-as v es n q p h e = subst (IsFound v es n) (some-same q p e) h

struct-found : (v : WholeUnit) (es : List Entry) (name o : ℕ) (ms : List Named) → Each (IsMember v es) ms → (p : Part) → member_named name (struct_placed (layout_at es) o ms) ≡ Some p → IsFound v es (struct_end es o ms) p
struct-found v es name o [] h p e = absurd cc
struct-found v es name o (m ∷ ms) h p e = by (m.name == name) (struct-found v es name (next_multiple_of o (layout_in es m.t).align + (layout_in es m.t).size) ms h.1 p) e
  where
    by : (b : Bool) → (member_named name (struct_placed (layout_at es) (next_multiple_of o (layout_in es m.t).align + (layout_in es m.t).size) ms) ≡ Some p → IsFound v es (struct_end es (next_multiple_of o (layout_in es m.t).align + (layout_in es m.t).size) ms) p)
        → (if b then Some (record { offset = next_multiple_of o (layout_in es m.t).align; t = m.t }) else member_named name (struct_placed (layout_at es) (next_multiple_of o (layout_in es m.t).align + (layout_in es m.t).size) ms)) ≡ Some p
        → IsFound v es (struct_end es (next_multiple_of o (layout_in es m.t).align + (layout_in es m.t).size) ms) p
    by true rest e =
        let more = struct_end-ge es ms (next_multiple_of o (layout_in es m.t).align + (layout_in es m.t).size) in
        found-as v es _ (record { offset = next_multiple_of o (layout_in es m.t).align; t = m.t }) p (record { proper = h.0.0; complete = h.0.1; within = more }) e
    by false rest e = rest e

union-found : (v : WholeUnit) (es : List Entry) (name o : ℕ) (ms : List Named) → Each (IsMember v es) ms → (p : Part) → member_named name (union_placed (layout_at es) ms) ≡ Some p → IsFound v es (union_end es o ms) p
union-found v es name o [] h p e = absurd cc
union-found v es name o (m ∷ ms) h p e = by (m.name == name) (union-found v es name (max o (layout_in es m.t).size) ms h.1 p) e
  where
    by : (b : Bool) → (member_named name (union_placed (layout_at es) ms) ≡ Some p → IsFound v es (union_end es (max o (layout_in es m.t).size) ms) p)
        → (if b then Some (record { offset = 0; t = m.t }) else member_named name (union_placed (layout_at es) ms)) ≡ Some p → IsFound v es (union_end es (max o (layout_in es m.t).size) ms) p
    by true rest e =
        let more = union_end-ge es ms (max o (layout_in es m.t).size) in
        found-as v es _ (record { offset = 0; t = m.t }) p (record { proper = h.0.0; complete = h.0.1; within = omega (arith, more) }) e
    by false rest e = rest e

-- the members of a tag: those that it was completed with, or none
pub record HasMembers (v : WholeUnit) (es : List Entry) (n : ℕ) (ms : List Named) : Type 0 where
  pub union : Bool
  pub word : (heading_at v.headings n).union ≡ union
  pub laid : look es n ≡ Some (layout_of es n union ms)
  pub members : Each (IsMember v es) ms

pub members-of : (v : WholeUnit) (es : List Entry) (ds : List Completed) (n : ℕ) → Each (IsCompleted v es) ds → (completed_members ds n ≡ []) ⊎ HasMembers v es n (completed_members ds n)
members-of v es [] n h = inl refl
members-of v es (d ∷ ds) n h = by (d.tag == n) refl (members-of v es ds n h.1)
  where
    by : (b : Bool) → (d.tag == n) ≡ b → (completed_members ds n ≡ []) ⊎ HasMembers v es n (completed_members ds n)
        → ((if b then d.members else completed_members ds n) ≡ []) ⊎ HasMembers v es n (if b then d.members else completed_members ds n)
    by true e rest =
        let same : d.tag ≡ n = eqb-true d.tag n e in
        inr (record {
          union = d.union;
          word = subst (λ k. (heading_at v.headings k).union ≡ d.union) same h.0.word;
          laid = subst (λ k. look es k ≡ Some (layout_of es k d.union d.members)) same h.0.laid;
          members = h.0.members;
        })
    by false e rest = rest

pub none-found : (p : Part) → None ≡ Some p → ⊥
none-found p e = absurd cc

pub struct-size : (es : List Entry) (n : ℕ) (u : Bool) (ms : List Named) → look es n ≡ Some (layout_of es n u ms) → u ≡ false → struct_end es 0 ms ≤ (or_none (look es n)).size
struct-size es n u ms e f =
    let size : (or_none (look es n)).size ≡ (layout_of es n false ms).size = ap (λ o. (or_none o).size) e ∙ ap (λ b. (layout_of es n b ms).size) f in
    omega (arith, size)

pub union-size : (es : List Entry) (n : ℕ) (u : Bool) (ms : List Named) → look es n ≡ Some (layout_of es n u ms) → u ≡ true → union_end es 0 ms ≤ (or_none (look es n)).size
union-size es n u ms e f =
    let size : (or_none (look es n)).size ≡ (layout_of es n true ms).size = ap (λ o. (or_none o).size) e ∙ ap (λ b. (layout_of es n b ms).size) f in
    omega (arith, size)

module _ (v : WholeUnit) (ds : List Completed) (all : Each (IsCompleted v (layouts_of ds)) ds) (name : ℕ) where
  struct-member : (n : ℕ) → IsProper v (StructTag n) → (p : Part) → member_of ds name (StructTag n) ≡ Some p → IsFound v (layouts_of ds) (layout_in (layouts_of ds) (StructTag n)).size p
  struct-member n q p e = by (members-of v (layouts_of ds) ds n all)
    where
      by : (completed_members ds n ≡ []) ⊎ HasMembers v (layouts_of ds) n (completed_members ds n) → IsFound v (layouts_of ds) (layout_in (layouts_of ds) (StructTag n)).size p
      by (inl none) = absurd (none-found p (subst (λ ms. member_named name (struct_placed (layout_at (layouts_of ds)) 0 ms) ≡ Some p) none e))
      by (inr h) = found-before v (layouts_of ds) _ _ p
          (struct-size (layouts_of ds) n h.union (completed_members ds n) h.laid (sym h.word ∙ q))
          (struct-found v (layouts_of ds) name 0 (completed_members ds n) h.members p e)

  union-member : (n : ℕ) → IsProper v (UnionTag n) → (p : Part) → member_of ds name (UnionTag n) ≡ Some p → IsFound v (layouts_of ds) (layout_in (layouts_of ds) (UnionTag n)).size p
  union-member n q p e = by (members-of v (layouts_of ds) ds n all)
    where
      by : (completed_members ds n ≡ []) ⊎ HasMembers v (layouts_of ds) n (completed_members ds n) → IsFound v (layouts_of ds) (layout_in (layouts_of ds) (UnionTag n)).size p
      by (inl none) = absurd (none-found p (subst (λ ms. member_named name (union_placed (layout_at (layouts_of ds)) ms) ≡ Some p) none e))
      by (inr h) = found-before v (layouts_of ds) _ _ p
          (union-size (layouts_of ds) n h.union (completed_members ds n) h.laid (sym h.word ∙ q))
          (union-found v (layouts_of ds) name 0 (completed_members ds n) h.members p e)

  member-within : (t : Ty) → IsProper v t → (p : Part) → member_of ds name t ≡ Some p → IsFound v (layouts_of ds) (layout_in (layouts_of ds) t).size p
  member-within (StructTag n) q p e = struct-member n q p e
  member-within (UnionTag n) q p e = union-member n q p e
  member-within (ConstOf t) q p e = member-within t q.1 p e
  member-within VoidTy q p e = absurd cc
  member-within (IntTy k) q p e = absurd cc
  member-within (PointerTo t) q p e = absurd cc
  member-within (ArrayOf t n) q p e = absurd cc
  member-within (FunctionTy t ts c) q p e = absurd cc

  -- 6.5.2.3p1: a member of a complete structure or union
  pub record IsMemberOf (t : Ty) (p : Part) : Type 0 where
    pub composite : is_composite t ≡ true
    pub whole : is_complete_in (layouts_of ds) t ≡ true
    pub proper : IsProper v p.t
    pub complete : is_complete_in (layouts_of ds) p.t ≡ true
    pub within : p.offset + (layout_in (layouts_of ds) p.t).size ≤ (layout_in (layouts_of ds) t).size

  pub member-found : (t : Ty) → IsProper v t → (p : Part) → complete_member ds name t ≡ Some p → IsMemberOf t p
  member-found t q p e = by (is_composite t && is_complete_in (layouts_of ds) t) refl e
    where
      by : (b : Bool) → (is_composite t && is_complete_in (layouts_of ds) t) ≡ b → (if b then member_of ds name t else None) ≡ Some p → IsMemberOf t p
      by true c e =
          let both = both-true (is_composite t) (is_complete_in (layouts_of ds) t) c in
          let h = member-within t q p e in
          record { composite = both.0; whole = both.1; proper = h.proper; complete = h.complete; within = h.within }
      by false c e = absurd (none-found p e)

-- 6.2.5p20: a structure or a union, without qualifiers
pub composite-tag : (t : Ty) → IsValueOrVoid t → is_composite t ≡ true → IsTag t
composite-tag VoidTy p e = absurd cc
composite-tag (IntTy k) p e = absurd cc
composite-tag (PointerTo t) p e = absurd cc
composite-tag (ArrayOf t n) p e = absurd p
composite-tag (StructTag n) p e = inl (n, refl)
composite-tag (UnionTag n) p e = inr (n, refl)
composite-tag (FunctionTy t ts c) p e = absurd p
composite-tag (ConstOf t) p e = absurd p
