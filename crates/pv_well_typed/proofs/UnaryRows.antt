-- Unary operators, sizeof and casts (C17 6.5.3, 6.5.4): each row of typing gives what is well typed, of an operand that is so.
use Rattle.std.proofs.Common.{◌≡◌, ℕ, ◌≤◌, pos, Bool, true, false, ◌&&◌, ◌||◌, not, Option, Some, None, List, refl, sym, ap, subst, ◌∙◌, arith}
use Rattle.std.specs.Prelude.{if◌then◌else◌, ◌^◌}
use Rattle.std.proofs.lemmas.Int.{ints}
use Rattle.pv_num.specs.declared.kinds.IntKind.{IntKind}
use Rattle.pv_num.specs.declared.kinds.IntKind.TheVariants.{Int, ULong}
use Rattle.pv_num.specs.declared.operators.UnOp.{UnOp}
use Rattle.pv_num.specs.declared.operators.UnOp.TheVariants.{Plus, Minus, Flip}
use Rattle.pv_num.specs.Kinds.{Fits, promotion_of}
use Rattle.pv_tree.specs.declared.operators.UnaryOperator.{UnaryOperator}
use Rattle.pv_tree.specs.declared.operators.UnaryOperator.TheVariants as unary
use Rattle.pv_types.specs.Layouts.{Entry, layout_in, is_complete_in}
use Rattle.pv_types.specs.Ty.{Ty, VoidTy, IntTy, PointerTo, ArrayOf, StructTag, UnionTag, FunctionTy, ConstOf}
use Rattle.pv_typed.specs.Addresses.{is_null_constant}
use Rattle.pv_typed.specs.TypedTree.{TypedTree, Node, Subscript, Indirection, Address, Unary, Not, Sizeof, Cast, type_of, is_lvalue, is_function}
use Rattle.pv_typed.specs.TypedUnits.{WholeUnit, layouts}
use Rattle.pv_check.specs.Sorts.{points_to_function, is_truth_kind}
use Rattle.pv_types.specs.Sorts.{kind_in, kind_of, pointed_in, pointed_by, is_scalar_in, is_scalar, is_void_in, is_void, bare_type}
use Rattle.pv_check.specs.SortParts.{is_function_if, is_truth}
use Rattle.pv_check.specs.Values.{source_node, conversion_to, value_of}
use Rattle.pv_typed.specs.Constants.{and_then}
use Rattle.pv_check.specs.Unary.{under_address, value_row, unary_of, sizeof_type, may_cast, cast_of}
use Rattle.pv_check.specs.UnaryParts.{arithmetic_at, address_of, indirection_to, not_of, may_recast}
use Rattle.pv_guards.specs.Typed.{IsTyped, IsScalarType, MayCast}
use Rattle.pv_well_typed.specs.Proper.{IsValueOrVoid, IsProper}
use Rattle.pv_well_typed.specs.Later.{IsFinished, Extends}
use Rattle.pv_well_typed.proofs.Types.{kind-type, pointed-type, scalar-type, small, complete-later, layout-later, no-function, proper-bare}
use Rattle.pv_well_typed.proofs.Operands.{IsExpression, IsOperand, has-value, has-value-as, has-type, integer-converted, value-row as taken, as-made}
use Rattle.pv_well_typed.proofs.Conversions.{null-scalar}
use Rattle.pv_well_typed.proofs.Promotions.{promoted-wide}

-- 6.5.3.2p3: what takes no turn under `&` is what it was
record Under (v : WholeUnit) (os : List ℕ) (a b : TypedTree) : Type 0 where
  typed : IsTyped v os a → IsTyped v os b
  place : is_lvalue b ≡ is_lvalue a
  is : type_of b ≡ type_of a

under : (v : WholeUnit) (os : List ℕ) (a : TypedTree) → Under v os a (under_address a)
under v os (Node t line turn (Indirection a)) = record { typed = λ h. h; place = refl; is = refl }
under v os (Node t line turn (Subscript a b)) = record { typed = λ h. h; place = refl; is = refl }
under v os _ = record { typed = λ h. h; place = refl; is = refl }

-- ---- 6.5.4: what a cast may make

pointer-scalar : (t : Ty) → is_function_if (pointed_in t) ≡ true → is_scalar_in t ≡ true
pointer-scalar (PointerTo t) e = refl
pointer-scalar (IntTy k) e = refl
pointer-scalar VoidTy e = absurd cc
pointer-scalar (ArrayOf t n) e = absurd cc
pointer-scalar (StructTag n) e = absurd cc
pointer-scalar (UnionTag n) e = absurd cc
pointer-scalar (FunctionTy t ts c) e = absurd cc
pointer-scalar (ConstOf t) e = absurd cc

truth-scalar : (t : Ty) → is_truth_kind (kind_in t) ≡ true → is_scalar_in t ≡ true
truth-scalar (IntTy k) e = refl
truth-scalar (PointerTo t) e = refl
truth-scalar VoidTy e = absurd cc
truth-scalar (ArrayOf t n) e = absurd cc
truth-scalar (StructTag n) e = absurd cc
truth-scalar (UnionTag n) e = absurd cc
truth-scalar (FunctionTy t ts c) e = absurd cc
truth-scalar (ConstOf t) e = absurd cc

either-scalar : (t : Ty) → (is_function_if (pointed_in t) || is_truth_kind (kind_in t)) ≡ true → is_scalar_in t ≡ true
either-scalar t e = by (is_function_if (pointed_in t)) refl e
  where
    by : (b : Bool) → is_function_if (pointed_in t) ≡ b → (b || is_truth_kind (kind_in t)) ≡ true → is_scalar_in t ≡ true
    by true p e = pointer-scalar t p
    by false p e = truth-scalar t e

pub both-true : (a b : Bool) → (a && b) ≡ true → (a ≡ true) × (b ≡ true)
both-true true b e = (refl, e)
both-true false b e = absurd cc

-- a cast between scalars, where a null pointer constant is one (6.3.2.3p3)
recast : (t u : Ty) (null : Bool) → IsValueOrVoid u → (null ≡ true → IsScalarType u) → may_recast t u null ≡ true → (is_scalar t ≡ true) × IsScalarType u
recast t u null p scalar e = by (points_to_function u) (points_to_function t) refl refl e
  where
    by : (b c : Bool) → points_to_function u ≡ b → points_to_function t ≡ c
        → (if b then points_to_function t || is_truth t else (if c then null else is_scalar t && is_scalar u)) ≡ true → (is_scalar t ≡ true) × IsScalarType u
    by true c q r e = (either-scalar (bare_type t) e, scalar-type u p (pointer-scalar (bare_type u) q))
    by false true q r e = (pointer-scalar (bare_type t) r, scalar e)
    by false false q r e = let h = both-true (is_scalar t) (is_scalar u) e in (h.0, scalar-type u p h.1)

-- what has a value, or none, is no function
plain-no-function : (t : Ty) → IsValueOrVoid (bare_type t) → is_function t ≡ false
plain-no-function VoidTy h = refl
plain-no-function (IntTy k) h = refl
plain-no-function (PointerTo t) h = refl
plain-no-function (ArrayOf t n) h = refl
plain-no-function (StructTag n) h = refl
plain-no-function (UnionTag n) h = refl
plain-no-function (FunctionTy t ts c) h = absurd h
plain-no-function (ConstOf t) h = refl

abbrev Casts : (from to : Ty) → Type 0
Casts u t = MayCast u t × IsValueOrVoid t

scalar-cast : (u t : Ty) → is_scalar_in t ≡ true → IsScalarType u → Casts u t
scalar-cast u (IntTy k) e s = ((s, tt), tt)
scalar-cast u (PointerTo t) e s = ((s, tt), tt)
scalar-cast u VoidTy e s = absurd cc
scalar-cast u (ArrayOf t n) e s = absurd cc
scalar-cast u (StructTag n) e s = absurd cc
scalar-cast u (UnionTag n) e s = absurd cc
scalar-cast u (FunctionTy t ts c) e s = absurd cc
scalar-cast u (ConstOf t) e s = absurd cc

void-cast : (u t : Ty) → is_void_in t ≡ true → Casts u t
void-cast u VoidTy e = (tt, tt)
void-cast u (IntTy k) e = absurd cc
void-cast u (PointerTo t) e = absurd cc
void-cast u (ArrayOf t n) e = absurd cc
void-cast u (StructTag n) e = absurd cc
void-cast u (UnionTag n) e = absurd cc
void-cast u (FunctionTy t ts c) e = absurd cc
void-cast u (ConstOf t) e = absurd cc

may-cast : (t u : Ty) (null : Bool) → IsValueOrVoid u → (null ≡ true → IsScalarType u) → may_cast t u null ≡ true → Casts u (bare_type t)
may-cast t u null p scalar e = by (is_void t) refl e
  where
    by : (b : Bool) → is_void t ≡ b → (if b then true else may_recast t u null) ≡ true → Casts u (bare_type t)
    by true q e = void-cast u (bare_type t) q
    by false q e = let h = recast t u null p scalar e in scalar-cast u (bare_type t) h.0 h.1

module _ (E : Type 0) (v : WholeUnit) (os : List ℕ) (done : IsFinished v) (es : List Entry) (more : Extends es v) where
  -- 6.5.3.2p1, p3
  pub address-row : (line : ℕ) (a : TypedTree) → IsExpression E v os a → (x : TypedTree) → address_of line a ≡ Some x → IsExpression E v os x
  address-row line a h x e = by (is_lvalue a) refl e
    where
      u : Under v os a (under_address a)
      u = under v os a

      by : (b : Bool) → is_lvalue a ≡ b → (if b then Some (source_node line (PointerTo (type_of a)) (Address (under_address a))) else None) ≡ Some x → IsExpression E v os x
      by true p e = as-made (IsExpression E v os) (source_node line (PointerTo (type_of a)) (Address (under_address a))) x (record {
        typed = λ i. (u.typed (h.typed i), u.place ∙ p, ap PointerTo (sym u.is));
        proper = h.proper;
        valued = λ n. (refl, tt);
      }) e
      by false p e = absurd cc

  -- 6.5.3.2p2, p4
  indirection-row : (line : ℕ) (a : TypedTree) → IsOperand E v os a → (o : Option Ty) → pointed_by (type_of a) ≡ o → (x : TypedTree) → indirection_to line a o ≡ Some x → IsExpression E v os x
  indirection-row line a h None p x e = absurd cc
  indirection-row line a h (Some t) p x e = by (is_void t) refl e
    where
      is : type_of a ≡ PointerTo t
      is = pointed-type (type_of a) t h.plain p

      proper : IsProper v t
      proper = subst (IsProper v) is h.proper

      typed : E → (b : Bool) → is_void t ≡ b → IsTyped v os (source_node line (if b then VoidTy else t) (Indirection a))
      typed i b q = (t, h.typed i, has-value-as E v os a (PointerTo t) h is, ap (λ c. if c then VoidTy else t) (sym q))

      no-value : is_void t ≡ false → not (is_void t) ≡ false → ⊥
      no-value q n =
          let place : true ≡ false = sym (ap not q) ∙ n in
          absurd cc

      by : (b : Bool) → is_void t ≡ b → Some (source_node line (if b then VoidTy else t) (Indirection a)) ≡ Some x → IsExpression E v os x
      by true q e = as-made (IsExpression E v os) (source_node line VoidTy (Indirection a)) x (record { typed = λ i. typed i true q; proper = tt; valued = λ n. (refl, tt) }) e
      by false q e = as-made (IsExpression E v os) (source_node line t (Indirection a)) x (record { typed = λ i. typed i false q; proper = proper; valued = λ n. absurd (no-value q n) }) e

  -- 6.5.3.3p1 to p4
  sign-row : (line : ℕ) (op : UnOp) (a : TypedTree) → IsOperand E v os a → (o : Option IntKind) → kind_of (type_of a) ≡ o → (x : TypedTree) → arithmetic_at line op a o ≡ Some x → IsExpression E v os x
  sign-row line op a h None p x e = absurd cc
  sign-row line op a h (Some k) p x e =
      let c = integer-converted E v os k (promotion_of k) a h (kind-type (type_of a) k h.plain p) in
      as-made (IsExpression E v os) (source_node line (IntTy (promotion_of k)) (Unary op (conversion_to (IntTy (promotion_of k)) a))) x (record {
        typed = λ i. (promotion_of k, c.typed i, has-type E v os (IntTy (promotion_of k)) (conversion_to (IntTy (promotion_of k)) a) c, promoted-wide k, refl);
        proper = tt;
        valued = λ n. (refl, tt);
      }) e

  -- 6.5.3.3p1, p5
  not-row : (line : ℕ) (a : TypedTree) → IsOperand E v os a → (x : TypedTree) → not_of line a ≡ Some x → IsExpression E v os x
  not-row line a h x e = by (is_scalar (type_of a)) refl e
    where
      by : (b : Bool) → is_scalar (type_of a) ≡ b → (if b then Some (source_node line (IntTy Int) (Not a)) else None) ≡ Some x → IsExpression E v os x
      by true p e = as-made (IsExpression E v os) (source_node line (IntTy Int) (Not a)) x (record {
        typed = λ i. (h.typed i, has-value E v os a h, scalar-type (type_of a) h.plain p, refl);
        proper = tt;
        valued = λ n. (refl, tt);
      }) e
      by false p e = absurd cc

  value-of-row : (line : ℕ) (op : UnaryOperator) (a : TypedTree) → IsOperand E v os a → (x : TypedTree) → value_row line op a ≡ Some x → IsExpression E v os x
  value-of-row line unary.Indirection a h x e = indirection-row line a h (pointed_by (type_of a)) refl x e
  value-of-row line unary.Plus a h x e = sign-row line Plus a h (kind_of (type_of a)) refl x e
  value-of-row line unary.Minus a h x e = sign-row line Minus a h (kind_of (type_of a)) refl x e
  value-of-row line unary.Complement a h x e = sign-row line Flip a h (kind_of (type_of a)) refl x e
  value-of-row line unary.Not a h x e = not-row line a h x e
  value-of-row line unary.Address a h x e = absurd cc

  of-value : (line : ℕ) (op : UnaryOperator) (a : TypedTree) → IsExpression E v os a → (x : TypedTree) → and_then (value_of es a) (value_row line op) ≡ Some x → IsExpression E v os x
  of-value line op a h x e = by (value_of es a) refl e
    where
      by : (o : Option TypedTree) → value_of es a ≡ o → and_then o (value_row line op) ≡ Some x → IsExpression E v os x
      by None p e = absurd cc
      by (Some b) p e = value-of-row line op b (taken E v os done es more a h b p) x e

  -- 6.5.3: `&` takes the lvalue, the others its value
  pub unary-row : (line : ℕ) (op : UnaryOperator) (a : TypedTree) → IsExpression E v os a → (x : TypedTree) → unary_of es line op a ≡ Some x → IsExpression E v os x
  unary-row line unary.Address a h x e = address-row line a h x e
  unary-row line unary.Indirection a h x e = of-value line unary.Indirection a h x e
  unary-row line unary.Plus a h x e = of-value line unary.Plus a h x e
  unary-row line unary.Minus a h x e = of-value line unary.Minus a h x e
  unary-row line unary.Complement a h x e = of-value line unary.Complement a h x e
  unary-row line unary.Not a h x e = of-value line unary.Not a h x e

  size-fits : (n : ℕ) → n ≤ 2 ^ 32 → Fits ULong (pos n)
  size-fits n h = (grind (arith, ints, h), grind (arith, ints, h))

  -- 6.5.3.4
  pub sizeof-row : (line : ℕ) (t : Ty) → (is_function t ≡ false → IsProper v t) → (x : TypedTree) → sizeof_type es line t ≡ Some x → IsExpression E v os x
  sizeof-row line t h x e = by (is_complete_in es t) refl e
    where
      by : (b : Bool) → is_complete_in es t ≡ b → (if b then Some (source_node line (IntTy ULong) (Sizeof (layout_in es t).size)) else None) ≡ Some x → IsExpression E v os x
      by true p e =
          let fits = small v done t (h (no-function es t p)) (complete-later es v more t p) in
          let same : (layout_in (layouts v) t).size ≡ (layout_in es t).size = ap (λ l. l.size) (layout-later es v more t p) in
          as-made (IsExpression E v os) (source_node line (IntTy ULong) (Sizeof (layout_in es t).size)) x (record {
            typed = λ i. (ULong, refl, size-fits (layout_in es t).size (subst (λ n. n ≤ 2 ^ 32) same fits));
            proper = tt;
            valued = λ n. (refl, tt);
          }) e
      by false p e = absurd cc

  -- 6.5.4p2, p5
  pub cast-row : (line : ℕ) (t : Ty) → (is_function t ≡ false → IsProper v t) → (a : TypedTree) → IsOperand E v os a → (x : TypedTree) → cast_of line t a ≡ Some x → IsExpression E v os x
  cast-row line t q a h x e = by (may_cast t (type_of a) (is_null_constant a)) refl e
    where
      by : (b : Bool) → may_cast t (type_of a) (is_null_constant a) ≡ b → (if b then Some (source_node line (bare_type t) (Cast a)) else None) ≡ Some x → IsExpression E v os x
      by true p e =
          let may = may-cast t (type_of a) (is_null_constant a) h.plain (null-scalar a h.plain) p in
          as-made (IsExpression E v os) (source_node line (bare_type t) (Cast a)) x (record {
            typed = λ i. (h.typed i, has-value E v os a h, may.0);
            proper = proper-bare v t (q (plain-no-function t may.1));
            valued = λ n. (refl, may.1);
          }) e
      by false p e = absurd cc
