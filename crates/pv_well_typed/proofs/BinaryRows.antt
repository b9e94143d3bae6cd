-- Operators between two values (C17 6.5.5 to 6.5.14): each row of typing gives what is well typed, of operands that are so.
use Rattle.std.proofs.Common.{◌≡◌, ℕ, Bool, true, false, ◌&&◌, not, Option, Some, None, List, is_some, refl, sym, ap, subst, ◌⊎◌, inl, inr}
use Rattle.std.specs.Prelude.{if◌then◌else◌}
use Rattle.pv_num.specs.declared.kinds.IntKind.{IntKind}
use Rattle.pv_num.specs.declared.kinds.IntKind.TheVariants.{Int, Long}
use Rattle.pv_num.specs.declared.operators.BinOp.{BinOp}
use Rattle.pv_num.specs.declared.operators.BinOp.TheVariants.{Add, Sub, Mul, Div, Rem, Shl, Shr, And, Or, Xor, Lt, Gt, Le, Ge, Eq, Ne}
use Rattle.pv_num.specs.Arithmetic.{yielded_kind}
use Rattle.pv_tree.specs.declared.operators.BinaryOperator.{BinaryOperator}
use Rattle.pv_tree.specs.declared.operators.BinaryOperator.TheVariants as binary
use Rattle.pv_types.specs.Layouts.{Entry}
use Rattle.pv_types.specs.Ty.{Ty, VoidTy, IntTy, PointerTo, ArrayOf, StructTag, UnionTag, FunctionTy, ConstOf}
use Rattle.pv_typed.specs.Addresses.{is_null_constant}
use Rattle.pv_typed.specs.declared.nodes.Sign.{Sign}
use Rattle.pv_typed.specs.declared.nodes.Sign.TheVariants.{Plus, Minus}
use Rattle.pv_typed.specs.TypedTree.{TypedTree, Arithmetic, PointerSum, PointerDifference, PointerOrder, LogicalAnd, LogicalOr, type_of, is_function}
use Rattle.pv_typed.specs.TypedUnits.{WholeUnit, layouts}
use Rattle.pv_check.specs.Kinds.{common_kind}
use Rattle.pv_num.specs.Kinds.{promotion_of}
use Rattle.pv_check.specs.Sorts.{complete_pointed_by, are_alike, is_void_beside}
use Rattle.pv_types.specs.Sorts.{kind_of, pointed_by, is_scalar}
use Rattle.std.specs.Option.{option_or}
use Rattle.pv_check.specs.Values.{source_node, conversion_to}
use Rattle.pv_check.specs.Equality.{equality, right_converted, left_converted, equal_at, pointers_equal}
use Rattle.pv_check.specs.EqualityParts.{equal_pointers}
use Rattle.pv_check.specs.Binary.{arithmetic_of, shift_of, sum_at, pointer_sum_of, difference_at, pointer_difference_of, order_of, equality_of, are_scalar, binary_of}
use Rattle.pv_check.specs.BinaryParts.{arithmetic_at, shift_at, order_at, pointer_order_of, and_of, or_of}
use Rattle.pv_world.specs.Pointers.{is_order}
use Rattle.pv_guards.specs.Typed.{IsElementPointer, IsScalarType, MayBeRight, MayConvert}
use Rattle.pv_well_typed.specs.Proper.{IsValueOrVoid, IsProper}
use Rattle.pv_well_typed.specs.Later.{IsFinished, Extends}
use Rattle.pv_well_typed.proofs.Types.{kind-type, integer-type, pointed-type, scalar-type, ToComplete, to-complete}
use Rattle.pv_well_typed.proofs.Operands.{IsExpression, IsOperand, IsConverted, has-value, has-value-as, has-type, integer-converted, converted-row, as-made}
use Rattle.pv_well_typed.proofs.Conversions.{null-scalar}
use Rattle.pv_well_typed.proofs.Promotions.{promoted-wide, common-wide}
use Rattle.pv_well_typed.proofs.UnaryRows.{both-true}

-- the first of two answers that there is
pub either-answer : (o p : Option TypedTree) (x : TypedTree) → option_or o p ≡ Some x → (o ≡ Some x) ⊎ (p ≡ Some x)
either-answer None p x e = inr e
either-answer (Some a) p x e = inl e

-- 6.3.2.3: what becomes a pointer
scalar-pointer : (t u : Ty) → IsScalarType t → MayConvert t (PointerTo u)
scalar-pointer (IntTy k) u h = tt
scalar-pointer (PointerTo t) u h = tt
scalar-pointer VoidTy u h = absurd h
scalar-pointer (ArrayOf t n) u h = absurd h
scalar-pointer (StructTag n) u h = absurd h
scalar-pointer (UnionTag n) u h = absurd h
scalar-pointer (FunctionTy t ts c) u h = absurd h
scalar-pointer (ConstOf t) u h = absurd h

module _ (E : Type 0) (v : WholeUnit) (os : List ℕ) (done : IsFinished v) (es : List Entry) (more : Extends es v) where
  -- 6.5.5 to 6.5.12 on integers
  arithmetic-at-row : (line : ℕ) (op : BinOp) → ((k : IntKind) → MayBeRight op k k) → (a b : TypedTree) → IsOperand E v os a → IsOperand E v os b
      → (o p : Option IntKind) → kind_of (type_of a) ≡ o → kind_of (type_of b) ≡ p → (x : TypedTree) → arithmetic_at line op a b o p ≡ Some x → IsExpression E v os x
  arithmetic-at-row line op right a b h g None p q r x e = absurd cc
  arithmetic-at-row line op right a b h g (Some k) None q r x e = absurd cc
  arithmetic-at-row line op right a b h g (Some k) (Some l) q r x e =
      let c = common_kind k l in
      let m = integer-converted E v os k c a h (kind-type (type_of a) k h.plain q) in
      let n = integer-converted E v os l c b g (kind-type (type_of b) l g.plain r) in
      as-made (IsExpression E v os) (source_node line (IntTy (yielded_kind op c)) (Arithmetic op (conversion_to (IntTy c) a) (conversion_to (IntTy c) b))) x (record {
        typed = λ i. (c, c, m.typed i, has-type E v os (IntTy c) (conversion_to (IntTy c) a) m, n.typed i, has-type E v os (IntTy c) (conversion_to (IntTy c) b) n, common-wide k l, right c, refl);
        proper = tt;
        valued = λ z. (refl, tt);
      }) e

  arithmetic-row : (line : ℕ) (op : BinOp) → ((k : IntKind) → MayBeRight op k k) → (a b : TypedTree) → IsOperand E v os a → IsOperand E v os b
      → (x : TypedTree) → arithmetic_of line op a b ≡ Some x → IsExpression E v os x
  arithmetic-row line op right a b h g x e = arithmetic-at-row line op right a b h g (kind_of (type_of a)) (kind_of (type_of b)) refl refl x e

  -- 6.5.7p2, p3
  shift-at-row : (line : ℕ) (op : BinOp) → ((k : IntKind) → yielded_kind op k ≡ k) → ((k l : IntKind) → MayBeRight op (promotion_of k) (promotion_of l)) → (a b : TypedTree) → IsOperand E v os a → IsOperand E v os b
      → (o p : Option IntKind) → kind_of (type_of a) ≡ o → kind_of (type_of b) ≡ p → (x : TypedTree) → shift_at line op a b o p ≡ Some x → IsExpression E v os x
  shift-at-row line op yields right a b h g None p q r x e = absurd cc
  shift-at-row line op yields right a b h g (Some k) None q r x e = absurd cc
  shift-at-row line op yields right a b h g (Some k) (Some l) q r x e =
      let m = integer-converted E v os k (promotion_of k) a h (kind-type (type_of a) k h.plain q) in
      let n = integer-converted E v os l (promotion_of l) b g (kind-type (type_of b) l g.plain r) in
      as-made (IsExpression E v os) (source_node line (IntTy (promotion_of k)) (Arithmetic op (conversion_to (IntTy (promotion_of k)) a) (conversion_to (IntTy (promotion_of l)) b))) x (record {
        typed = λ i. (
          promotion_of k,
          promotion_of l,
          m.typed i,
          has-type E v os (IntTy (promotion_of k)) (conversion_to (IntTy (promotion_of k)) a) m,
          n.typed i,
          has-type E v os (IntTy (promotion_of l)) (conversion_to (IntTy (promotion_of l)) b) n,
          promoted-wide k,
          right k l,
          ap IntTy (sym (yields (promotion_of k))),
        );
        proper = tt;
        valued = λ z. (refl, tt);
      }) e

  shift-row : (line : ℕ) (op : BinOp) → ((k : IntKind) → yielded_kind op k ≡ k) → ((k l : IntKind) → MayBeRight op (promotion_of k) (promotion_of l)) → (a b : TypedTree) → IsOperand E v os a → IsOperand E v os b
      → (x : TypedTree) → shift_of line op a b ≡ Some x → IsExpression E v os x
  shift-row line op yields right a b h g x e = shift-at-row line op yields right a b h g (kind_of (type_of a)) (kind_of (type_of b)) refl refl x e

  -- 6.5.6p8: a pointer and an integer, either way round
  pub element-pointer : (t e : Ty) → ToComplete v t e → IsElementPointer (layouts v) t
  element-pointer t e c = subst (IsElementPointer (layouts v)) (sym c.is) c.sized

  pub complete-at : (t e : Ty) → IsValueOrVoid t → IsProper v t → complete_pointed_by es t ≡ Some e → ToComplete v t e
  complete-at t e p q h = to-complete v done es more t e p q h

  left-sum : (line : ℕ) (sign : Sign) (a b : TypedTree) → IsOperand E v os a → IsOperand E v os b → (t : Ty) → complete_pointed_by es (type_of a) ≡ Some t → is_some (kind_of (type_of b)) ≡ true
      → (x : TypedTree) → Some (source_node line (type_of a) (PointerSum sign a b)) ≡ Some x → IsExpression E v os x
  left-sum line sign a b h g t p q x e = as-made (IsExpression E v os) (source_node line (type_of a) (PointerSum sign a b)) x (record {
    typed = λ i. (h.typed i, has-value E v os a h, g.typed i, has-value E v os b g, inl (refl, element-pointer (type_of a) t (complete-at (type_of a) t h.plain h.proper p), integer-type (type_of b) g.plain q));
    proper = h.proper;
    valued = λ n. (refl, h.plain);
  }) e

  right-sum : (line : ℕ) (sign : Sign) (a b : TypedTree) → IsOperand E v os a → IsOperand E v os b → (t : Ty) → complete_pointed_by es (type_of b) ≡ Some t → is_some (kind_of (type_of a)) ≡ true
      → (x : TypedTree) → Some (source_node line (type_of b) (PointerSum sign a b)) ≡ Some x → IsExpression E v os x
  right-sum line sign a b h g t p q x e = as-made (IsExpression E v os) (source_node line (type_of b) (PointerSum sign a b)) x (record {
    typed = λ i. (h.typed i, has-value E v os a h, g.typed i, has-value E v os b g, inr (refl, element-pointer (type_of b) t (complete-at (type_of b) t g.plain g.proper p), integer-type (type_of a) h.plain q));
    proper = g.proper;
    valued = λ n. (refl, g.plain);
  }) e

  sum-row : (line : ℕ) (a b : TypedTree) → IsOperand E v os a → IsOperand E v os b → (o p : Option Ty) (c d : Bool)
      → complete_pointed_by es (type_of a) ≡ o → complete_pointed_by es (type_of b) ≡ p → is_some (kind_of (type_of a)) ≡ c → is_some (kind_of (type_of b)) ≡ d
      → (x : TypedTree) → sum_at line a b o p c d ≡ Some x → IsExpression E v os x
  sum-row line a b h g (Some t) p c true q r m n x e = left-sum line Plus a b h g t q n x e
  sum-row line a b h g (Some t) (Some u) true false q r m n x e = right-sum line Plus a b h g u r m x e
  sum-row line a b h g (Some t) (Some u) false false q r m n x e = absurd cc
  sum-row line a b h g (Some t) None true false q r m n x e = absurd cc
  sum-row line a b h g (Some t) None false false q r m n x e = absurd cc
  sum-row line a b h g None (Some u) true true q r m n x e = right-sum line Plus a b h g u r m x e
  sum-row line a b h g None (Some u) true false q r m n x e = right-sum line Plus a b h g u r m x e
  sum-row line a b h g None (Some u) false true q r m n x e = absurd cc
  sum-row line a b h g None (Some u) false false q r m n x e = absurd cc
  sum-row line a b h g None None true true q r m n x e = absurd cc
  sum-row line a b h g None None true false q r m n x e = absurd cc
  sum-row line a b h g None None false true q r m n x e = absurd cc
  sum-row line a b h g None None false false q r m n x e = absurd cc

  pointer-sum-row : (line : ℕ) (a b : TypedTree) → IsOperand E v os a → IsOperand E v os b → (x : TypedTree) → pointer_sum_of es line a b ≡ Some x → IsExpression E v os x
  pointer-sum-row line a b h g x e =
      sum-row line a b h g (complete_pointed_by es (type_of a)) (complete_pointed_by es (type_of b)) (is_some (kind_of (type_of a))) (is_some (kind_of (type_of b))) refl refl refl refl x e

  -- 6.5.6p3, p9
  difference-row : (line : ℕ) (a b : TypedTree) → IsOperand E v os a → IsOperand E v os b → (o p : Option Ty) (d : Bool)
      → complete_pointed_by es (type_of a) ≡ o → complete_pointed_by es (type_of b) ≡ p → is_some (kind_of (type_of b)) ≡ d
      → (x : TypedTree) → difference_at line a b o p d ≡ Some x → IsExpression E v os x
  difference-row line a b h g (Some t) (Some u) d q r n x e = by (are_alike t u) e
    where
      s : ToComplete v (type_of a) t
      s = complete-at (type_of a) t h.plain h.proper q

      z : ToComplete v (type_of b) u
      z = complete-at (type_of b) u g.plain g.proper r

      by : (c : Bool) → (if c then Some (source_node line (IntTy Long) (PointerDifference a b)) else None) ≡ Some x → IsExpression E v os x
      by true e = as-made (IsExpression E v os) (source_node line (IntTy Long) (PointerDifference a b)) x (record {
        typed = λ i. (t, u, h.typed i, has-value-as E v os a (PointerTo t) h s.is, g.typed i, has-value-as E v os b (PointerTo u) g z.is, s.sized, refl);
        proper = tt;
        valued = λ n. (refl, tt);
      }) e
      by false e = absurd cc
  difference-row line a b h g (Some t) None true q r n x e = left-sum line Minus a b h g t q n x e
  difference-row line a b h g (Some t) None false q r n x e = absurd cc
  difference-row line a b h g None (Some u) true q r n x e = absurd cc
  difference-row line a b h g None (Some u) false q r n x e = absurd cc
  difference-row line a b h g None None true q r n x e = absurd cc
  difference-row line a b h g None None false q r n x e = absurd cc

  pointer-difference-row : (line : ℕ) (a b : TypedTree) → IsOperand E v os a → IsOperand E v os b → (x : TypedTree) → pointer_difference_of es line a b ≡ Some x → IsExpression E v os x
  pointer-difference-row line a b h g x e =
      difference-row line a b h g (complete_pointed_by es (type_of a)) (complete_pointed_by es (type_of b)) (is_some (kind_of (type_of b))) refl refl refl x e

  -- 6.5.8p2
  order-at-row : (line : ℕ) (op : BinOp) → is_order op ≡ true → (a b : TypedTree) → IsOperand E v os a → IsOperand E v os b → (o p : Option Ty)
      → pointed_by (type_of a) ≡ o → pointed_by (type_of b) ≡ p → (x : TypedTree) → order_at line op a b o p ≡ Some x → IsExpression E v os x
  order-at-row line op w a b h g None p q r x e = absurd cc
  order-at-row line op w a b h g (Some t) None q r x e = absurd cc
  order-at-row line op w a b h g (Some t) (Some u) q r x e = by (not (is_function t) && are_alike t u) e
    where
      by : (c : Bool) → (if c then Some (source_node line (IntTy Int) (PointerOrder op a b)) else None) ≡ Some x → IsExpression E v os x
      by true e = as-made (IsExpression E v os) (source_node line (IntTy Int) (PointerOrder op a b)) x (record {
        typed = λ i. (t, u, h.typed i, has-value-as E v os a (PointerTo t) h (pointed-type (type_of a) t h.plain q), g.typed i, has-value-as E v os b (PointerTo u) g (pointed-type (type_of b) u g.plain r), w, refl);
        proper = tt;
        valued = λ n. (refl, tt);
      }) e
      by false e = absurd cc

  order-row : (line : ℕ) (op : BinOp) → ((k : IntKind) → MayBeRight op k k) → is_order op ≡ true → (a b : TypedTree) → IsOperand E v os a → IsOperand E v os b
      → (x : TypedTree) → order_of line op a b ≡ Some x → IsExpression E v os x
  order-row line op right w a b h g x e = by (either-answer (arithmetic_of line op a b) (pointer_order_of line op a b) x e)
    where
      by : (arithmetic_of line op a b ≡ Some x) ⊎ (pointer_order_of line op a b ≡ Some x) → IsExpression E v os x
      by (inl e) = arithmetic-row line op right a b h g x e
      by (inr e) = order-at-row line op w a b h g (pointed_by (type_of a)) (pointed_by (type_of b)) refl refl x e

  -- ---- 6.5.9: equality of pointers

  equality-made : (line : ℕ) (op : BinOp) (a b : TypedTree) (t u : Ty) → IsConverted E v os (PointerTo t) a → IsConverted E v os (PointerTo u) b
      → (x : TypedTree) → Some (equality line op a b) ≡ Some x → IsExpression E v os x
  equality-made line op a b t u h g x e = as-made (IsExpression E v os) (equality line op a b) x (record {
    typed = λ i. (t, u, h.typed i, has-type E v os (PointerTo t) a h, g.typed i, has-type E v os (PointerTo u) b g, refl);
    proper = tt;
    valued = λ n. (refl, tt);
  }) e

  as-it-is : (a : TypedTree) (t : Ty) → IsOperand E v os a → type_of a ≡ t → IsConverted E v os t a
  as-it-is a t h e = record { typed = h.typed; value = h.value; is = e }

  -- a scalar as a pointer
  pointer-converted : (a : TypedTree) (t u : Ty) → IsOperand E v os a → IsScalarType (type_of a) → t ≡ PointerTo u → IsConverted E v os (PointerTo u) (conversion_to t a)
  pointer-converted a t u h s e =
      subst (λ w. IsConverted E v os w (conversion_to t a)) e
      (converted-row E v os t a h (λ n. subst (MayConvert (type_of a)) (sym e) (scalar-pointer (type_of a) u s)))

  right-row : (line : ℕ) (op : BinOp) (a b : TypedTree) → IsOperand E v os a → IsOperand E v os b → (t : Ty) → type_of a ≡ PointerTo t → IsScalarType (type_of b)
      → (x : TypedTree) → Some (right_converted line op a b) ≡ Some x → IsExpression E v os x
  right-row line op a b h g t is s x e =
      equality-made line op a (conversion_to (type_of a) b) t t (as-it-is a (PointerTo t) h is) (pointer-converted b (type_of a) t g s is) x e

  left-row : (line : ℕ) (op : BinOp) (a b : TypedTree) → IsOperand E v os a → IsOperand E v os b → (t : Ty) → type_of b ≡ PointerTo t → IsScalarType (type_of a)
      → (x : TypedTree) → Some (left_converted line op a b) ≡ Some x → IsExpression E v os x
  left-row line op a b h g t is s x e =
      equality-made line op (conversion_to (type_of b) a) b t t (pointer-converted a (type_of b) t h s is) (as-it-is b (PointerTo t) g is) x e

  scalar-at : (a : TypedTree) (t : Ty) → type_of a ≡ PointerTo t → IsScalarType (type_of a)
  scalar-at a t e = subst IsScalarType (sym e) tt

  pointers-row : (line : ℕ) (op : BinOp) (a b : TypedTree) → IsOperand E v os a → IsOperand E v os b → (t u : Ty) → type_of a ≡ PointerTo t → type_of b ≡ PointerTo u
      → (x : TypedTree) → equal_pointers line op a b t u ≡ Some x → IsExpression E v os x
  pointers-row line op a b h g t u p q x e = by (are_alike t u) (is_void_beside t u) (is_void_beside u t) e
    where
      by : (c d f : Bool)
          → (if c then Some (equality line op a b) else (if d then Some (right_converted line op a b) else (if f then Some (left_converted line op a b) else None))) ≡ Some x → IsExpression E v os x
      by true d f e = equality-made line op a b t u (as-it-is a (PointerTo t) h p) (as-it-is b (PointerTo u) g q) x e
      by false true f e = right-row line op a b h g t p (scalar-at b u q) x e
      by false false true e = left-row line op a b h g u q (scalar-at a t p) x e
      by false false false e = absurd cc

  equal-row : (line : ℕ) (op : BinOp) (a b : TypedTree) → IsOperand E v os a → IsOperand E v os b → (o p : Option Ty) (c d : Bool)
      → pointed_by (type_of a) ≡ o → pointed_by (type_of b) ≡ p → is_null_constant a ≡ c → is_null_constant b ≡ d
      → (x : TypedTree) → equal_at line op a b o p c d ≡ Some x → IsExpression E v os x
  equal-row line op a b h g (Some t) (Some u) false true q r m n x e = right-row line op a b h g t (pointed-type (type_of a) t h.plain q) (null-scalar b g.plain n) x e
  equal-row line op a b h g (Some t) (Some u) true false q r m n x e = left-row line op a b h g u (pointed-type (type_of b) u g.plain r) (null-scalar a h.plain m) x e
  equal-row line op a b h g (Some t) (Some u) true true q r m n x e =
      pointers-row line op a b h g t u (pointed-type (type_of a) t h.plain q) (pointed-type (type_of b) u g.plain r) x e
  equal-row line op a b h g (Some t) (Some u) false false q r m n x e =
      pointers-row line op a b h g t u (pointed-type (type_of a) t h.plain q) (pointed-type (type_of b) u g.plain r) x e
  equal-row line op a b h g (Some t) None true true q r m n x e = right-row line op a b h g t (pointed-type (type_of a) t h.plain q) (null-scalar b g.plain n) x e
  equal-row line op a b h g (Some t) None false true q r m n x e = right-row line op a b h g t (pointed-type (type_of a) t h.plain q) (null-scalar b g.plain n) x e
  equal-row line op a b h g (Some t) None true false q r m n x e = absurd cc
  equal-row line op a b h g (Some t) None false false q r m n x e = absurd cc
  equal-row line op a b h g None (Some u) true true q r m n x e = left-row line op a b h g u (pointed-type (type_of b) u g.plain r) (null-scalar a h.plain m) x e
  equal-row line op a b h g None (Some u) true false q r m n x e = left-row line op a b h g u (pointed-type (type_of b) u g.plain r) (null-scalar a h.plain m) x e
  equal-row line op a b h g None (Some u) false true q r m n x e = absurd cc
  equal-row line op a b h g None (Some u) false false q r m n x e = absurd cc
  equal-row line op a b h g None None true true q r m n x e = absurd cc
  equal-row line op a b h g None None true false q r m n x e = absurd cc
  equal-row line op a b h g None None false true q r m n x e = absurd cc
  equal-row line op a b h g None None false false q r m n x e = absurd cc

  equality-row : (line : ℕ) (op : BinOp) → ((k : IntKind) → MayBeRight op k k) → (a b : TypedTree) → IsOperand E v os a → IsOperand E v os b
      → (x : TypedTree) → equality_of line op a b ≡ Some x → IsExpression E v os x
  equality-row line op right a b h g x e = by (either-answer (arithmetic_of line op a b) (pointers_equal line op a b) x e)
    where
      by : (arithmetic_of line op a b ≡ Some x) ⊎ (pointers_equal line op a b ≡ Some x) → IsExpression E v os x
      by (inl e) = arithmetic-row line op right a b h g x e
      by (inr e) = equal-row line op a b h g (pointed_by (type_of a)) (pointed_by (type_of b)) (is_null_constant a) (is_null_constant b) refl refl refl refl x e

  -- ---- 6.5.13, 6.5.14

  and-row : (line : ℕ) (a b : TypedTree) → IsOperand E v os a → IsOperand E v os b → (x : TypedTree) → and_of line a b ≡ Some x → IsExpression E v os x
  and-row line a b h g x e = by (are_scalar a b) refl e
    where
      by : (c : Bool) → are_scalar a b ≡ c → (if c then Some (source_node line (IntTy Int) (LogicalAnd a b)) else None) ≡ Some x → IsExpression E v os x
      by true p e =
          let s = both-true (is_scalar (type_of a)) (is_scalar (type_of b)) p in
          as-made (IsExpression E v os) (source_node line (IntTy Int) (LogicalAnd a b)) x (record {
            typed = λ i. (h.typed i, has-value E v os a h, g.typed i, has-value E v os b g, scalar-type (type_of a) h.plain s.0, scalar-type (type_of b) g.plain s.1, refl);
            proper = tt;
            valued = λ n. (refl, tt);
          }) e
      by false p e = absurd cc

  or-row : (line : ℕ) (a b : TypedTree) → IsOperand E v os a → IsOperand E v os b → (x : TypedTree) → or_of line a b ≡ Some x → IsExpression E v os x
  or-row line a b h g x e = by (are_scalar a b) refl e
    where
      by : (c : Bool) → are_scalar a b ≡ c → (if c then Some (source_node line (IntTy Int) (LogicalOr a b)) else None) ≡ Some x → IsExpression E v os x
      by true p e =
          let s = both-true (is_scalar (type_of a)) (is_scalar (type_of b)) p in
          as-made (IsExpression E v os) (source_node line (IntTy Int) (LogicalOr a b)) x (record {
            typed = λ i. (h.typed i, has-value E v os a h, g.typed i, has-value E v os b g, scalar-type (type_of a) h.plain s.0, scalar-type (type_of b) g.plain s.1, refl);
            proper = tt;
            valued = λ n. (refl, tt);
          }) e
      by false p e = absurd cc

  -- 6.5.5 to 6.5.14: an operator between two values
  pub binary-row : (line : ℕ) (op : BinaryOperator) (a b : TypedTree) → IsOperand E v os a → IsOperand E v os b → (x : TypedTree) → binary_of es line op a b ≡ Some x → IsExpression E v os x
  binary-row line binary.Multiply a b h g x e = arithmetic-row line Mul (λ k. refl) a b h g x e
  binary-row line binary.Divide a b h g x e = arithmetic-row line Div (λ k. refl) a b h g x e
  binary-row line binary.Remainder a b h g x e = arithmetic-row line Rem (λ k. refl) a b h g x e
  binary-row line binary.Add a b h g x e = by (either-answer (arithmetic_of line Add a b) (pointer_sum_of es line a b) x e)
    where
      by : (arithmetic_of line Add a b ≡ Some x) ⊎ (pointer_sum_of es line a b ≡ Some x) → IsExpression E v os x
      by (inl e) = arithmetic-row line Add (λ k. refl) a b h g x e
      by (inr e) = pointer-sum-row line a b h g x e
  binary-row line binary.Subtract a b h g x e = by (either-answer (arithmetic_of line Sub a b) (pointer_difference_of es line a b) x e)
    where
      by : (arithmetic_of line Sub a b ≡ Some x) ⊎ (pointer_difference_of es line a b ≡ Some x) → IsExpression E v os x
      by (inl e) = arithmetic-row line Sub (λ k. refl) a b h g x e
      by (inr e) = pointer-difference-row line a b h g x e
  binary-row line binary.ShiftLeft a b h g x e = shift-row line Shl (λ k. refl) (λ k l. promoted-wide l) a b h g x e
  binary-row line binary.ShiftRight a b h g x e = shift-row line Shr (λ k. refl) (λ k l. promoted-wide l) a b h g x e
  binary-row line binary.Less a b h g x e = order-row line Lt (λ k. refl) refl a b h g x e
  binary-row line binary.Greater a b h g x e = order-row line Gt (λ k. refl) refl a b h g x e
  binary-row line binary.LessEqual a b h g x e = order-row line Le (λ k. refl) refl a b h g x e
  binary-row line binary.GreaterEqual a b h g x e = order-row line Ge (λ k. refl) refl a b h g x e
  binary-row line binary.Equal a b h g x e = equality-row line Eq (λ k. refl) a b h g x e
  binary-row line binary.NotEqual a b h g x e = equality-row line Ne (λ k. refl) a b h g x e
  binary-row line binary.And a b h g x e = arithmetic-row line And (λ k. refl) a b h g x e
  binary-row line binary.ExclusiveOr a b h g x e = arithmetic-row line Xor (λ k. refl) a b h g x e
  binary-row line binary.Or a b h g x e = arithmetic-row line Or (λ k. refl) a b h g x e
  binary-row line binary.LogicalAnd a b h g x e = and-row line a b h g x e
  binary-row line binary.LogicalOr a b h g x e = or-row line a b h g x e
