-- Assignments and the comma (C17 6.5.16, 6.5.17): each row of typing gives what is well typed, of parts that are so.
use Rattle.std.proofs.Common.{◌≡◌, ℕ, Bool, true, false, Option, Some, None, List, refl, sym, subst, ◌⊎◌, inl, inr, is_some}
use Rattle.std.specs.Prelude.{if◌then◌else◌}
use Rattle.pv_num.specs.declared.kinds.IntKind.{IntKind}
use Rattle.pv_num.specs.declared.operators.BinOp.{BinOp}
use Rattle.pv_num.specs.declared.operators.BinOp.TheVariants.{Add, Sub, Mul, Div, Rem, Shl, Shr, And, Or, Xor}
use Rattle.pv_num.specs.Arithmetic.{IsPromoted}
use Rattle.pv_tree.specs.declared.operators.AssignOperator.{AssignOperator}
use Rattle.pv_tree.specs.declared.operators.AssignOperator.TheVariants as assign_word
use Rattle.pv_types.specs.Layouts.{Entry}
use Rattle.pv_types.specs.Ty.{Ty, VoidTy, IntTy, PointerTo, ArrayOf, StructTag, UnionTag, FunctionTy, ConstOf}
use Rattle.pv_typed.specs.declared.nodes.Sign.{Sign}
use Rattle.pv_typed.specs.declared.nodes.Sign.TheVariants.{Plus, Minus}
use Rattle.pv_typed.specs.TypedTree.{TypedTree, Assign, CompoundAssign, PointerAssign, type_of}
use Rattle.pv_typed.specs.TypedUnits.{WholeUnit}
use Rattle.pv_check.specs.Kinds.{common_kind}
use Rattle.pv_num.specs.Kinds.{promotion_of}
use Rattle.pv_check.specs.Sorts.{complete_pointed_by}
use Rattle.pv_types.specs.Sorts.{kind_in, kind_of, pointed_in, pointed_by, bare_type}
use Rattle.pv_check.specs.Values.{source_node, conversion_to, as_if_assigned, is_modifiable}
use Rattle.pv_check.specs.Assignment.{compound_at, arithmetic_assign, shift_assign, sum_assign, assign_by, assign_of, comma_of}
use Rattle.pv_check.specs.AssignmentParts.{assigned_to, simple_of, arithmetic_kinds, shift_kinds, step_to, pointer_assign}
use Rattle.pv_guards.specs.Typed.{MayBeRight}
use Rattle.pv_well_typed.specs.Proper.{IsValueOrVoid, IsProper}
use Rattle.pv_well_typed.specs.Later.{IsFinished, Extends}
use Rattle.pv_well_typed.proofs.Types.{kind-type, integer-type, value-or-void, sized-later, proper-bare, some-complete}
use Rattle.pv_well_typed.proofs.Operands.{IsExpression, IsOperand, has-value, has-type, integer-converted, as-made}
use Rattle.pv_well_typed.proofs.Conversions.{assigned-row}
use Rattle.pv_well_typed.proofs.Promotions.{promoted-wide, common-wide}
use Rattle.pv_well_typed.proofs.BinaryRows.{either-answer}
use Rattle.pv_well_typed.proofs.PostfixRows.{IsModified, modified}

kind-inside : (t : Ty) (k : IntKind) → kind_in t ≡ Some k → t ≡ IntTy k
kind-inside (IntTy j) k e = cc
kind-inside VoidTy k e = absurd cc
kind-inside (PointerTo t) k e = absurd cc
kind-inside (ArrayOf t n) k e = absurd cc
kind-inside (StructTag n) k e = absurd cc
kind-inside (UnionTag n) k e = absurd cc
kind-inside (FunctionTy t ts c) k e = absurd cc
kind-inside (ConstOf t) k e = absurd cc

pointed-inside : (t u : Ty) → pointed_in t ≡ Some u → t ≡ PointerTo u
pointed-inside (PointerTo t) u e = cc
pointed-inside VoidTy u e = absurd cc
pointed-inside (IntTy k) u e = absurd cc
pointed-inside (ArrayOf t n) u e = absurd cc
pointed-inside (StructTag n) u e = absurd cc
pointed-inside (UnionTag n) u e = absurd cc
pointed-inside (FunctionTy t ts c) u e = absurd cc
pointed-inside (ConstOf t) u e = absurd cc

some-kind : (o : Option IntKind) (k : IntKind) → o ≡ Some k → is_some o ≡ true
some-kind None k e = absurd cc
some-kind (Some j) k e = refl

module _ (E : Type 0) (v : WholeUnit) (os : List ℕ) (done : IsFinished v) (es : List Entry) (more : Extends es v) where
  -- 6.5.16.1
  simple-row : (line : ℕ) (a b : TypedTree) → IsExpression E v os a → IsModified es a → IsOperand E v os b → (x : TypedTree) → simple_of line a b ≡ Some x → IsExpression E v os x
  simple-row line a b h m g x e = by (as_if_assigned (type_of a) b) refl e
    where
      by : (o : Option TypedTree) → as_if_assigned (type_of a) b ≡ o → assigned_to line a o ≡ Some x → IsExpression E v os x
      by None p e = absurd cc
      by (Some c) p e =
          let q = assigned-row E v os (type_of a) b g c p in
          as-made (IsExpression E v os) (source_node line (bare_type (type_of a)) (Assign a c)) x (record {
            typed = λ i. (h.typed i, m.place, q.converted.typed i, has-type E v os (bare_type (type_of a)) c q.converted, refl, sized-later v done es more (type_of a) h.proper m.complete, q.value);
            proper = proper-bare v (type_of a) h.proper;
            valued = λ n. (refl, value-or-void (bare_type (type_of a)) q.value);
          }) e

  -- 6.5.16.2p3: of integers
  compound-row : (line : ℕ) (op : BinOp) (a b : TypedTree) → IsExpression E v os a → IsModified es a → IsOperand E v os b → (j l k r : IntKind) → kind_of (type_of a) ≡ Some j → kind_of (type_of b) ≡ Some l
      → IsPromoted k → MayBeRight op k r → (x : TypedTree) → compound_at line op a b k r ≡ Some x → IsExpression E v os x
  compound-row line op a b h m g j l k r p q w z x e =
      let c = integer-converted E v os l r b g (kind-type (type_of b) l g.plain q) in
      let is : bare_type (type_of a) ≡ IntTy j = kind-inside (bare_type (type_of a)) j p in
      as-made (IsExpression E v os) (source_node line (bare_type (type_of a)) (CompoundAssign op k a (conversion_to (IntTy r) b))) x (record {
        typed = λ i. (j, r, h.typed i, m.place, c.typed i, has-type E v os (IntTy r) (conversion_to (IntTy r) b) c, is, refl, w, z, sized-later v done es more (type_of a) h.proper m.complete);
        proper = proper-bare v (type_of a) h.proper;
        valued = λ n. (refl, subst IsValueOrVoid (sym is) tt);
      }) e

  arithmetic-kinds-row : (line : ℕ) (op : BinOp) → ((k : IntKind) → MayBeRight op k k) → (a b : TypedTree) → IsExpression E v os a → IsModified es a → IsOperand E v os b
      → (o p : Option IntKind) → kind_of (type_of a) ≡ o → kind_of (type_of b) ≡ p → (x : TypedTree) → arithmetic_kinds line op a b o p ≡ Some x → IsExpression E v os x
  arithmetic-kinds-row line op right a b h m g None p q r x e = absurd cc
  arithmetic-kinds-row line op right a b h m g (Some k) None q r x e = absurd cc
  arithmetic-kinds-row line op right a b h m g (Some k) (Some l) q r x e = compound-row line op a b h m g k l (common_kind k l) (common_kind k l) q r (common-wide k l) (right (common_kind k l)) x e

  arithmetic-row : (line : ℕ) (op : BinOp) → ((k : IntKind) → MayBeRight op k k) → (a b : TypedTree) → IsExpression E v os a → IsModified es a → IsOperand E v os b
      → (x : TypedTree) → arithmetic_assign line op a b ≡ Some x → IsExpression E v os x
  arithmetic-row line op right a b h m g x e = arithmetic-kinds-row line op right a b h m g (kind_of (type_of a)) (kind_of (type_of b)) refl refl x e

  shift-kinds-row : (line : ℕ) (op : BinOp) → ((k l : IntKind) → MayBeRight op (promotion_of k) (promotion_of l)) → (a b : TypedTree) → IsExpression E v os a → IsModified es a → IsOperand E v os b
      → (o p : Option IntKind) → kind_of (type_of a) ≡ o → kind_of (type_of b) ≡ p → (x : TypedTree) → shift_kinds line op a b o p ≡ Some x → IsExpression E v os x
  shift-kinds-row line op right a b h m g None p q r x e = absurd cc
  shift-kinds-row line op right a b h m g (Some k) None q r x e = absurd cc
  shift-kinds-row line op right a b h m g (Some k) (Some l) q r x e = compound-row line op a b h m g k l (promotion_of k) (promotion_of l) q r (promoted-wide k) (right k l) x e

  shift-row : (line : ℕ) (op : BinOp) → ((k l : IntKind) → MayBeRight op (promotion_of k) (promotion_of l)) → (a b : TypedTree) → IsExpression E v os a → IsModified es a → IsOperand E v os b
      → (x : TypedTree) → shift_assign line op a b ≡ Some x → IsExpression E v os x
  shift-row line op right a b h m g x e = shift-kinds-row line op right a b h m g (kind_of (type_of a)) (kind_of (type_of b)) refl refl x e

  -- 6.5.16.2p1: of a pointer
  step-row : (line : ℕ) (sign : Sign) (a b : TypedTree) → IsExpression E v os a → IsModified es a → IsOperand E v os b
      → (o : Option Ty) (p : Option IntKind) → complete_pointed_by es (type_of a) ≡ o → kind_of (type_of b) ≡ p → (x : TypedTree) → step_to line sign a b o p ≡ Some x → IsExpression E v os x
  step-row line sign a b h m g None p q r x e = absurd cc
  step-row line sign a b h m g (Some t) None q r x e = absurd cc
  step-row line sign a b h m g (Some t) (Some k) q r x e =
      let found = some-complete es (pointed_by (type_of a)) t q in
      let is : bare_type (type_of a) ≡ PointerTo t = pointed-inside (bare_type (type_of a)) t found.0 in
      let plain = proper-bare v (type_of a) h.proper in
      let proper : IsProper v t = subst (IsProper v) is plain in
      as-made (IsExpression E v os) (source_node line (bare_type (type_of a)) (PointerAssign sign a b)) x (record {
        typed = λ i. (
          t,
          h.typed i,
          m.place,
          g.typed i,
          has-value E v os b g,
          integer-type (type_of b) g.plain (some-kind (kind_of (type_of b)) k r),
          is,
          refl,
          sized-later v done es more t proper found.1,
          sized-later v done es more (type_of a) h.proper m.complete,
        );
        proper = plain;
        valued = λ n. (refl, subst IsValueOrVoid (sym is) tt);
      }) e

  sum-row : (line : ℕ) (op : BinOp) → ((k : IntKind) → MayBeRight op k k) → (sign : Sign) (a b : TypedTree) → IsExpression E v os a → IsModified es a → IsOperand E v os b
      → (x : TypedTree) → sum_assign es line op sign a b ≡ Some x → IsExpression E v os x
  sum-row line op right sign a b h m g x e = by (either-answer (arithmetic_assign line op a b) (pointer_assign es line sign a b) x e)
    where
      by : (arithmetic_assign line op a b ≡ Some x) ⊎ (pointer_assign es line sign a b ≡ Some x) → IsExpression E v os x
      by (inl e) = arithmetic-row line op right a b h m g x e
      by (inr e) = step-row line sign a b h m g (complete_pointed_by es (type_of a)) (kind_of (type_of b)) refl refl x e

  assign-by-row : (line : ℕ) (op : AssignOperator) (a b : TypedTree) → IsExpression E v os a → IsModified es a → IsOperand E v os b → (x : TypedTree) → assign_by es line op a b ≡ Some x → IsExpression E v os x
  assign-by-row line assign_word.Assign a b h m g x e = simple-row line a b h m g x e
  assign-by-row line assign_word.Multiply a b h m g x e = arithmetic-row line Mul (λ k. refl) a b h m g x e
  assign-by-row line assign_word.Divide a b h m g x e = arithmetic-row line Div (λ k. refl) a b h m g x e
  assign-by-row line assign_word.Remainder a b h m g x e = arithmetic-row line Rem (λ k. refl) a b h m g x e
  assign-by-row line assign_word.Add a b h m g x e = sum-row line Add (λ k. refl) Plus a b h m g x e
  assign-by-row line assign_word.Subtract a b h m g x e = sum-row line Sub (λ k. refl) Minus a b h m g x e
  assign-by-row line assign_word.ShiftLeft a b h m g x e = shift-row line Shl (λ k l. promoted-wide l) a b h m g x e
  assign-by-row line assign_word.ShiftRight a b h m g x e = shift-row line Shr (λ k l. promoted-wide l) a b h m g x e
  assign-by-row line assign_word.And a b h m g x e = arithmetic-row line And (λ k. refl) a b h m g x e
  assign-by-row line assign_word.ExclusiveOr a b h m g x e = arithmetic-row line Xor (λ k. refl) a b h m g x e
  assign-by-row line assign_word.Or a b h m g x e = arithmetic-row line Or (λ k. refl) a b h m g x e

  -- 6.5.16p2
  pub assign-row : (line : ℕ) (op : AssignOperator) (a b : TypedTree) → IsExpression E v os a → IsOperand E v os b → (x : TypedTree) → assign_of es line op a b ≡ Some x → IsExpression E v os x
  assign-row line op a b h g x e = by (is_modifiable es a) refl e
    where
      by : (c : Bool) → is_modifiable es a ≡ c → (if c then assign_by es line op a b else None) ≡ Some x → IsExpression E v os x
      by true p e = assign-by-row line op a b h (modified es a p) g x e
      by false p e = absurd cc

  -- 6.5.17p2
  pub comma-row : (line : ℕ) (a b : TypedTree) → IsOperand E v os a → IsOperand E v os b → IsExpression E v os (comma_of line a b)
  comma-row line a b h g = record {
    typed = λ i. (h.typed i, has-value E v os a h, g.typed i, has-value E v os b g);
    proper = g.proper;
    valued = λ n. (refl, g.plain);
  }
