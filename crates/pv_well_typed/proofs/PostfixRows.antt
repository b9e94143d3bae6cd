-- Postfix operators but calls, and prefix `++` and `--` (C17 6.5.2, 6.5.3.1): each row of typing gives what is well typed, of parts that are so.
use Rattle.std.proofs.Common.{◌≡◌, ℕ, ◌+◌, ◌≤◌, Bool, true, false, ◌&&◌, ◌||◌, not, Option, Some, None, List, is_some, refl, ap, subst, inl, inr, arith}
use Rattle.std.specs.Prelude.{if◌then◌else◌}
use Rattle.pv_types.specs.Layouts.{Completed, Entry, Part, layouts_of, layout_in, is_complete_in}
use Rattle.pv_types.specs.Qualifiers.{has_const, is_const}
use Rattle.pv_types.specs.Ty.{Ty, VoidTy, IntTy, PointerTo, ArrayOf, StructTag, UnionTag, FunctionTy, ConstOf}
use Rattle.pv_typed.specs.Known.{Each}
use Rattle.pv_typed.specs.declared.nodes.IncrementOperator.{IncrementOperator}
use Rattle.pv_typed.specs.TypedTree.{TypedTree, Subscript, Member, MemberOfValue, Arrow, Increment, type_of, is_lvalue}
use Rattle.pv_typed.specs.TypedUnits.{WholeUnit, layouts}
use Rattle.pv_check.specs.Qualified.{qualified_if}
use Rattle.pv_check.specs.Sorts.{complete_pointed_by, is_array}
use Rattle.pv_types.specs.Sorts.{kind_of, pointed_by, bare_type}
use Rattle.pv_check.specs.Values.{source_node, is_modifiable}
use Rattle.pv_check.specs.Postfix.{element_of, subscript_of, complete_member, member_at, member_from, arrow_from, may_step, increment_of}
use Rattle.pv_check.specs.PostfixParts.{subscript_to, arrow_at, arrow_to}
use Rattle.pv_guards.specs.Typed.{IsSized, IsValueType, MayStep}
use Rattle.pv_well_typed.specs.Proper.{IsValueOrVoid, IsProper}
use Rattle.pv_well_typed.specs.Later.{IsFinished, Extends}
use Rattle.pv_well_typed.specs.ProperStates.{IsCompleted}
use Rattle.pv_well_typed.proofs.Types.{integer-type, pointed-type, held-value, value-or-void, sized-later, layout-later, no-function, proper-bare, proper-qualified-if, ToComplete}
use Rattle.pv_well_typed.proofs.Operands.{IsExpression, IsOperand, has-value, has-value-as, as-made}
use Rattle.pv_well_typed.proofs.UnaryRows.{both-true}
use Rattle.pv_well_typed.proofs.BinaryRows.{complete-at}
use Rattle.pv_well_typed.proofs.MemberRows.{IsMemberOf, member-found, composite-tag}

-- 6.3.2.1p1: what may be changed is an lvalue of a complete type that is no array
pub record IsModified (es : List Entry) (a : TypedTree) : Type 0 where
  pub place : is_lvalue a ≡ true
  pub single : is_array (type_of a) ≡ false
  pub complete : is_complete_in es (type_of a) ≡ true

not-true : (b : Bool) → not b ≡ true → b ≡ false
not-true true e = absurd cc
not-true false e = refl

pub modified : (es : List Entry) (a : TypedTree) → is_modifiable es a ≡ true → IsModified es a
modified es a e =
    let h = both-true (is_lvalue a) (not (is_array (type_of a)) && (is_complete_in es (type_of a) && not (has_const es (type_of a)))) e in
    let g = both-true (not (is_array (type_of a))) (is_complete_in es (type_of a) && not (has_const es (type_of a))) h.1 in
    let k = both-true (is_complete_in es (type_of a)) (not (has_const es (type_of a))) g.1 in
    record { place = h.0; single = not-true (is_array (type_of a)) g.0; complete = k.0 }

module _ (E : Type 0) (v : WholeUnit) (os : List ℕ) (done : IsFinished v) (es : List Entry) (more : Extends es v) where
  -- ---- 6.5.2.1

  to-pointer : (t : Ty) (e : Ty) → ToComplete v t e → IsValueOrVoid t → IsProper v e
  to-pointer t e h p = h.proper

  left-element : (line : ℕ) (a b : TypedTree) → IsOperand E v os a → IsOperand E v os b → (t : Ty) → complete_pointed_by es (type_of a) ≡ Some t → is_some (kind_of (type_of b)) ≡ true
      → (x : TypedTree) → Some (source_node line t (Subscript a b)) ≡ Some x → IsExpression E v os x
  left-element line a b h g t p q x e =
      let c = complete-at E v os done es more (type_of a) t h.plain h.proper p in
      as-made (IsExpression E v os) (source_node line t (Subscript a b)) x (record {
        typed = λ i. (h.typed i, has-value E v os a h, g.typed i, has-value E v os b g, inl (c.is, c.sized, integer-type (type_of b) g.plain q));
        proper = c.proper;
        valued = λ n. absurd cc;
      }) e

  right-element : (line : ℕ) (a b : TypedTree) → IsOperand E v os a → IsOperand E v os b → (t : Ty) → complete_pointed_by es (type_of b) ≡ Some t → is_some (kind_of (type_of a)) ≡ true
      → (x : TypedTree) → Some (source_node line t (Subscript a b)) ≡ Some x → IsExpression E v os x
  right-element line a b h g t p q x e =
      let c = complete-at E v os done es more (type_of b) t g.plain g.proper p in
      as-made (IsExpression E v os) (source_node line t (Subscript a b)) x (record {
        typed = λ i. (h.typed i, has-value E v os a h, g.typed i, has-value E v os b g, inr (c.is, c.sized, integer-type (type_of a) h.plain q));
        proper = c.proper;
        valued = λ n. absurd cc;
      }) e

  element-row : (line : ℕ) (a b : TypedTree) → IsOperand E v os a → IsOperand E v os b → (o p : Option Ty) (c d : Bool)
      → complete_pointed_by es (type_of a) ≡ o → complete_pointed_by es (type_of b) ≡ p → is_some (kind_of (type_of a)) ≡ c → is_some (kind_of (type_of b)) ≡ d
      → (x : TypedTree) → subscript_to line a b (element_of o p c d) ≡ Some x → IsExpression E v os x
  element-row line a b h g (Some t) p c true q r m n x e = left-element line a b h g t q n x e
  element-row line a b h g (Some t) (Some u) true false q r m n x e = right-element line a b h g u r m x e
  element-row line a b h g (Some t) (Some u) false false q r m n x e = absurd cc
  element-row line a b h g (Some t) None true false q r m n x e = absurd cc
  element-row line a b h g (Some t) None false false q r m n x e = absurd cc
  element-row line a b h g None (Some u) true true q r m n x e = right-element line a b h g u r m x e
  element-row line a b h g None (Some u) true false q r m n x e = right-element line a b h g u r m x e
  element-row line a b h g None (Some u) false true q r m n x e = absurd cc
  element-row line a b h g None (Some u) false false q r m n x e = absurd cc
  element-row line a b h g None None true true q r m n x e = absurd cc
  element-row line a b h g None None true false q r m n x e = absurd cc
  element-row line a b h g None None false true q r m n x e = absurd cc
  element-row line a b h g None None false false q r m n x e = absurd cc

  pub subscript-row : (line : ℕ) (a b : TypedTree) → IsOperand E v os a → IsOperand E v os b → (x : TypedTree) → subscript_of es line a b ≡ Some x → IsExpression E v os x
  subscript-row line a b h g x e =
      element-row line a b h g (complete_pointed_by es (type_of a)) (complete_pointed_by es (type_of b)) (is_some (kind_of (type_of a))) (is_some (kind_of (type_of b))) refl refl refl refl x e

  -- ---- 6.5.2.4, 6.5.3.1

  step-kind : (t : Ty) → IsProper v t → (is_some (kind_of t) || is_some (complete_pointed_by es t)) ≡ true → MayStep (layouts v) (bare_type t)
  step-kind VoidTy p e = absurd cc
  step-kind (IntTy k) p e = tt
  step-kind (PointerTo t) p e = by (is_complete_in es t) refl e
    where
      by : (b : Bool) → is_complete_in es t ≡ b → is_some (if b then Some t else None) ≡ true → IsSized (layouts v) t
      by true c e = sized-later v done es more t p c
      by false c e = absurd cc
  step-kind (ArrayOf t n) p e = absurd cc
  step-kind (StructTag n) p e = absurd cc
  step-kind (UnionTag n) p e = absurd cc
  step-kind (FunctionTy t ts c) p e = absurd cc
  step-kind (ConstOf t) p e = step-kind t p.1 e

  pub increment-row : (line : ℕ) (op : IncrementOperator) (a : TypedTree) → IsExpression E v os a → (x : TypedTree) → increment_of es line op a ≡ Some x → IsExpression E v os x
  increment-row line op a h x e = by (is_modifiable es a && may_step es (type_of a)) refl e
    where
      by : (b : Bool) → (is_modifiable es a && may_step es (type_of a)) ≡ b → (if b then Some (source_node line (bare_type (type_of a)) (Increment op a)) else None) ≡ Some x → IsExpression E v os x
      by true q e =
          let both = both-true (is_modifiable es a) (may_step es (type_of a)) q in
          let m = modified es a both.0 in
          as-made (IsExpression E v os) (source_node line (bare_type (type_of a)) (Increment op a)) x (record {
            typed = λ i. (h.typed i, m.place, refl, step-kind (type_of a) h.proper both.1, sized-later v done es more (type_of a) h.proper m.complete);
            proper = proper-bare v (type_of a) h.proper;
            valued = λ n. (refl, value-or-void (bare_type (type_of a)) (held-value v es (type_of a) h.proper m.complete m.single));
          }) e
      by false q e = absurd cc

module _ (E : Type 0) (v : WholeUnit) (os : List ℕ) (done : IsFinished v) (ds : List Completed) (more : Extends (layouts_of ds) v) (all : Each (IsCompleted v (layouts_of ds)) ds) where
  -- ---- 6.5.2.3

  lvalue-member : (line name : ℕ) (a : TypedTree) → IsExpression E v os a → is_lvalue a ≡ true → (p : Part) → IsMemberOf v ds all name (type_of a) p
      → (x : TypedTree) → Some (source_node line (qualified_if (is_const (type_of a)) p.t) (Member a p.offset)) ≡ Some x → IsExpression E v os x
  lvalue-member line name a h place p m x e = as-made (IsExpression E v os) (source_node line (qualified_if (is_const (type_of a)) p.t) (Member a p.offset)) x (record {
    typed = λ i. (h.typed i, place);
    proper = proper-qualified-if v (is_const (type_of a)) p.t m.proper (no-function (layouts_of ds) p.t m.complete);
    valued = λ n. absurd cc;
  }) e

  later-within : (t u : Ty) (offset : ℕ) → is_complete_in (layouts_of ds) t ≡ true → is_complete_in (layouts_of ds) u ≡ true
      → offset + (layout_in (layouts_of ds) u).size ≤ (layout_in (layouts_of ds) t).size → offset + (layout_in (layouts v) (bare_type u)).size ≤ (layout_in (layouts v) t).size
  later-within t u offset p q h =
      let whole : (layout_in (layouts v) t).size ≡ (layout_in (layouts_of ds) t).size = ap (λ l. l.size) (layout-later (layouts_of ds) v more t p) in
      let part : (layout_in (layouts v) u).size ≡ (layout_in (layouts_of ds) u).size = ap (λ l. l.size) (layout-later (layouts_of ds) v more u q) in
      let plain = unqualified-size u in
      omega (arith, whole, part, plain, h)
    where
      unqualified-size : (u : Ty) → (layout_in (layouts v) (bare_type u)).size ≡ (layout_in (layouts v) u).size
      unqualified-size VoidTy = refl
      unqualified-size (IntTy k) = refl
      unqualified-size (PointerTo t) = refl
      unqualified-size (ArrayOf t n) = refl
      unqualified-size (StructTag n) = refl
      unqualified-size (UnionTag n) = refl
      unqualified-size (FunctionTy t ts c) = refl
      unqualified-size (ConstOf t) = unqualified-size t

  complete-unqualified : (u : Ty) → is_complete_in (layouts_of ds) u ≡ true → is_complete_in (layouts_of ds) (bare_type u) ≡ true
  complete-unqualified VoidTy e = e
  complete-unqualified (IntTy k) e = e
  complete-unqualified (PointerTo t) e = e
  complete-unqualified (ArrayOf t n) e = e
  complete-unqualified (StructTag n) e = e
  complete-unqualified (UnionTag n) e = e
  complete-unqualified (FunctionTy t ts c) e = e
  complete-unqualified (ConstOf t) e = complete-unqualified t e

  value-member : (line name : ℕ) (a : TypedTree) → IsExpression E v os a → is_lvalue a ≡ false → (p : Part) → IsMemberOf v ds all name (type_of a) p
      → (x : TypedTree) → (if is_array p.t then None else Some (source_node line (bare_type p.t) (MemberOfValue a p.offset))) ≡ Some x → IsExpression E v os x
  value-member line name a h no-place p m x e = by (is_array p.t) refl e
    where
      by : (b : Bool) → is_array p.t ≡ b → (if b then None else Some (source_node line (bare_type p.t) (MemberOfValue a p.offset))) ≡ Some x → IsExpression E v os x
      by true q e = absurd cc
      by false q e =
          let value : IsValueType (bare_type p.t) = held-value v (layouts_of ds) p.t m.proper m.complete q in
          let proper = proper-bare v p.t m.proper in
          as-made (IsExpression E v os) (source_node line (bare_type p.t) (MemberOfValue a p.offset)) x (record {
            typed = λ i. (
              h.typed i,
              ((no-place, refl), (h.valued no-place).0),
              sized-later v done (layouts_of ds) more (bare_type p.t) proper (complete-unqualified p.t m.complete),
              value,
              composite-tag (type_of a) (h.valued no-place).1 m.composite,
              later-within (type_of a) p.t p.offset m.whole m.complete m.within,
            );
            proper = proper;
            valued = λ n. (refl, value-or-void (bare_type p.t) value);
          }) e

  pub member-row : (line name : ℕ) (a : TypedTree) → IsExpression E v os a → (x : TypedTree) → member_from ds line name a ≡ Some x → IsExpression E v os x
  member-row line name a h x e = by (is_lvalue a) (complete_member ds name (type_of a)) refl refl e
    where
      by : (b : Bool) (o : Option Part) → is_lvalue a ≡ b → complete_member ds name (type_of a) ≡ o → member_at line a b o ≡ Some x → IsExpression E v os x
      by true None p q e = absurd cc
      by false None p q e = absurd cc
      by true (Some m) p q e = lvalue-member line name a h p m (member-found v ds all name (type_of a) h.proper m q) x e
      by false (Some m) p q e = value-member line name a h p m (member-found v ds all name (type_of a) h.proper m q) x e

  pub arrow-row : (line name : ℕ) (a : TypedTree) → IsOperand E v os a → (x : TypedTree) → arrow_from ds line name a ≡ Some x → IsExpression E v os x
  arrow-row line name a h x e = by (pointed_by (type_of a)) refl e
    where
      found : (t : Ty) → type_of a ≡ PointerTo t → (o : Option Part) → complete_member ds name t ≡ o → arrow_at line a t o ≡ Some x → IsExpression E v os x
      found t is None q e = absurd cc
      found t is (Some p) q e =
          let m = member-found v ds all name t (subst (IsProper v) is h.proper) p q in
          as-made (IsExpression E v os) (source_node line (qualified_if (is_const t) p.t) (Arrow a p.offset)) x (record {
            typed = λ i. (t, h.typed i, has-value-as E v os a (PointerTo t) h is);
            proper = proper-qualified-if v (is_const t) p.t m.proper (no-function (layouts_of ds) p.t m.complete);
            valued = λ n. absurd cc;
          }) e

      by : (o : Option Ty) → pointed_by (type_of a) ≡ o → arrow_to ds line name a o ≡ Some x → IsExpression E v os x
      by None p e = absurd cc
      by (Some t) p e = found t (pointed-type (type_of a) t h.plain p) (complete_member ds name t) refl e
