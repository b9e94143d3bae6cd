-- Expressions, the values of operands, and conversions (C17 6.3): each row of typing gives what is well typed, of parts that are so.
use Rattle.std.proofs.Common.{◌≡◌, ℕ, Bool, true, false, Some, None, List, refl, sym, ap, subst, ◌∙◌}
use Rattle.std.specs.Prelude.{if◌then◌else◌}
use Rattle.pv_num.specs.declared.kinds.IntKind.{IntKind}
use Rattle.pv_types.specs.Ty.{Ty, VoidTy, IntTy, PointerTo, ArrayOf, StructTag, UnionTag, FunctionTy, ConstOf}
use Rattle.pv_types.specs.Layouts.{Entry, is_complete_in}
use Rattle.pv_types.specs.Sorts.{bare_type}
use Rattle.pv_typed.specs.TypedTree.{TypedTree, Read, ArrayPointer, Convert, type_of, line_of, is_lvalue}
use Rattle.pv_typed.specs.TypedUnits.{WholeUnit}
use Rattle.pv_num.specs.Kinds.{promotion_of}
use Rattle.pv_types.specs.SameTypes.{same_type as same}
use Rattle.pv_check.specs.Sorts.{is_array}
use Rattle.pv_check.specs.Values.{implied_node, read_at, value_of, conversion_to, promotion, promoted_value}
use Rattle.pv_check.proofs.Same.{same_equal}
use Rattle.pv_guards.specs.Typed.{IsTyped, IsValueType, MayConvert, HasType, HasValue, given_type}
use Rattle.pv_well_typed.specs.Proper.{IsValueOrVoid, IsProper}
use Rattle.pv_well_typed.specs.Later.{IsFinished, Extends}
use Rattle.pv_well_typed.proofs.Types.{held-value, sized-later, value-or-void, proper-bare}

-- what typing gives: where E is so (nothing of it stands in the operand of sizeof, and its names are in scope) it is well typed; its
-- type is one that declarations make, and where it is no lvalue it has a value of it, or none
pub record IsExpression (E : Type 0) (v : WholeUnit) (os : List ℕ) (a : TypedTree) : Type 0 where
  pub typed : E → IsTyped v os a
  pub proper : IsProper v (type_of a)
  pub valued : is_lvalue a ≡ false → (given_type a ≡ type_of a) × IsValueOrVoid (type_of a)

-- 6.3.2.1p2: the same of an operand whose value was taken
pub record IsOperand (E : Type 0) (v : WholeUnit) (os : List ℕ) (a : TypedTree) : Type 0 where
  pub typed : E → IsTyped v os a
  pub proper : IsProper v (type_of a)
  pub value : is_lvalue a ≡ false
  pub given : given_type a ≡ type_of a
  pub plain : IsValueOrVoid (type_of a)

-- 6.3: the same of one that was converted to a type
pub record IsConverted (E : Type 0) (v : WholeUnit) (os : List ℕ) (t : Ty) (a : TypedTree) : Type 0 where
  pub typed : E → IsTyped v os a
  pub value : is_lvalue a ≡ false
  pub is : type_of a ≡ t

pub some-same : {A : Type 0} (x y : A) → Some x ≡ Some y → x ≡ y
some-same x y e = cc

-- what holds of what is made holds of the answer
pub as-made : {A : Type 0} (P : A → Type 0) (y x : A) → P y → Some y ≡ Some x → P x
as-made P y x h e = subst P (some-same y x e) h

module _ (E : Type 0) (v : WholeUnit) (os : List ℕ) where
  pub has-value : (a : TypedTree) → IsOperand E v os a → HasValue a (type_of a)
  has-value a h = ((h.value, refl), h.given)

  pub has-value-as : (a : TypedTree) (t : Ty) → IsOperand E v os a → type_of a ≡ t → HasValue a t
  has-value-as a t h e = ((h.value, e), h.given ∙ e)

  pub has-type : (t : Ty) (a : TypedTree) → IsConverted E v os t a → HasType a t
  has-type t a h = (h.value, h.is)

  -- an operand is an expression
  pub operand-expression : (a : TypedTree) → IsOperand E v os a → IsExpression E v os a
  operand-expression a h = record { typed = h.typed; proper = h.proper; valued = λ n. (h.given, h.plain) }

  -- ---- 6.3: conversions

  pub converted-row : (t : Ty) (a : TypedTree) → IsOperand E v os a → (same (type_of a) t ≡ false → MayConvert (type_of a) t) → IsConverted E v os t (conversion_to t a)
  converted-row t a h may = by (same (type_of a) t) refl
    where
      by : (b : Bool) → same (type_of a) t ≡ b → IsConverted E v os t (if b then a else implied_node (line_of a) t (Convert a))
      by true e = record { typed = h.typed; value = h.value; is = same_equal (type_of a) t e }
      by false e = record { typed = λ x. (h.typed x, has-value a h, may e); value = refl; is = refl }

  -- 6.3.1.3, 6.3.1.2: an integer
  pub integer-converted : (k l : IntKind) (a : TypedTree) → IsOperand E v os a → type_of a ≡ IntTy k → IsConverted E v os (IntTy l) (conversion_to (IntTy l) a)
  integer-converted k l a h e = converted-row (IntTy l) a h (λ n. subst (λ u. MayConvert u (IntTy l)) (sym e) tt)

  -- 6.3.1.1p2: an argument that is promoted is a value of its own type
  pub promoted-row : (a : TypedTree) → IsOperand E v os a → IsValueType (type_of a) → IsConverted E v os (type_of (promoted_value a)) (promoted_value a) × IsValueType (type_of (promoted_value a))
  promoted-row a h value = by (type_of a) refl value
    where
      same-type : IsConverted E v os (type_of a) a
      same-type = record { typed = h.typed; value = h.value; is = refl }

      by : (t : Ty) → type_of a ≡ t → IsValueType t → IsConverted E v os (type_of (promotion a t)) (promotion a t) × IsValueType (type_of (promotion a t))
      by (IntTy k) e p =
          let c = integer-converted k (promotion_of k) a h e in
          (subst (λ u. IsConverted E v os u (conversion_to (IntTy (promotion_of k)) a)) (sym c.is) c, subst IsValueType (sym c.is) tt)
      by (PointerTo t) e p = (same-type, value)
      by (StructTag n) e p = (same-type, value)
      by (UnionTag n) e p = (same-type, value)
      by VoidTy e p = absurd p
      by (ArrayOf t n) e p = absurd p
      by (FunctionTy t ts c) e p = absurd p
      by (ConstOf t) e p = absurd p

  -- ---- 6.3.2.1: the value that is taken of an operand

  module _ (done : IsFinished v) (es : List Entry) (more : Extends es v) where
    read-plain : (a : TypedTree) (t : Ty) → IsExpression E v os a → is_lvalue a ≡ true → type_of a ≡ t → is_array t ≡ false
        → (x : TypedTree) → (if is_complete_in es t then Some (implied_node (line_of a) (bare_type t) (Read a)) else None) ≡ Some x → IsOperand E v os x
    read-plain a t h place is plain x e = by (is_complete_in es t) refl e
      where
        proper : IsProper v t
        proper = subst (IsProper v) is h.proper

        by : (b : Bool) → is_complete_in es t ≡ b → (if b then Some (implied_node (line_of a) (bare_type t) (Read a)) else None) ≡ Some x → IsOperand E v os x
        by true c e =
            let value : IsValueType (bare_type t) = held-value v es t proper c plain in
            as-made (IsOperand E v os) (implied_node (line_of a) (bare_type t) (Read a)) x (record {
              typed = λ i. (h.typed i, place, ap bare_type (sym is), sized-later v done es more (type_of a) h.proper (ap (is_complete_in es) is ∙ c), value);
              proper = proper-bare v t proper;
              value = refl;
              given = refl;
              plain = value-or-void (bare_type t) value;
            }) e
        by false c e = absurd cc

    read-row : (a : TypedTree) (t : Ty) → IsExpression E v os a → is_lvalue a ≡ true → type_of a ≡ t → (x : TypedTree) → read_at es a t ≡ Some x → IsOperand E v os x
    read-row a (ArrayOf t n) h place is x e = as-made (IsOperand E v os) (implied_node (line_of a) (PointerTo t) (ArrayPointer a)) x (record {
      typed = λ i. (h.typed i, place, (t, refl));
      proper = (subst (IsProper v) is h.proper).0;
      value = refl;
      given = refl;
      plain = tt;
    }) e
    read-row a (FunctionTy t ts c) h place is x e = as-made (IsOperand E v os) (implied_node (line_of a) (PointerTo (FunctionTy t ts c)) (ArrayPointer a)) x (record {
      typed = λ i. (h.typed i, place, (FunctionTy t ts c, refl));
      proper = subst (IsProper v) is h.proper;
      value = refl;
      given = refl;
      plain = tt;
    }) e
    read-row a VoidTy h place is x e = read-plain a VoidTy h place is refl x e
    read-row a (IntTy k) h place is x e = read-plain a (IntTy k) h place is refl x e
    read-row a (PointerTo t) h place is x e = read-plain a (PointerTo t) h place is refl x e
    read-row a (StructTag n) h place is x e = read-plain a (StructTag n) h place is refl x e
    read-row a (UnionTag n) h place is x e = read-plain a (UnionTag n) h place is refl x e
    read-row a (ConstOf t) h place is x e = read-plain a (ConstOf t) h place is refl x e

    -- the value of an operand
    pub value-row : (a : TypedTree) → IsExpression E v os a → (x : TypedTree) → value_of es a ≡ Some x → IsOperand E v os x
    value-row a h x e = by (is_lvalue a) refl e
      where
        by : (b : Bool) → is_lvalue a ≡ b → (if b then read_at es a (type_of a) else Some a) ≡ Some x → IsOperand E v os x
        by true p e = read-row a (type_of a) h p refl x e
        by false p e = as-made (IsOperand E v os) a x (record { typed = h.typed; proper = h.proper; value = p; given = (h.valued p).0; plain = (h.valued p).1 }) e
