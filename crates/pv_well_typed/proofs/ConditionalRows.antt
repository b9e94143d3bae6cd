-- The conditional operator (C17 6.5.15): the row of typing gives what is well typed, of operands that are so.
use Rattle.std.proofs.Common.{◌≡◌, ℕ, Bool, true, false, ◌||◌, Option, Some, None, List, refl, sym, subst}
use Rattle.std.specs.Prelude.{if◌then◌else◌}
use Rattle.pv_num.specs.declared.kinds.IntKind.{IntKind}
use Rattle.pv_types.specs.Ty.{Ty, VoidTy, IntTy, PointerTo, ArrayOf, StructTag, UnionTag, FunctionTy, ConstOf}
use Rattle.pv_types.proofs.Matched.{matching}
use Rattle.pv_typed.specs.Addresses.{is_null_constant}
use Rattle.pv_typed.specs.TypedTree.{TypedTree, Conditional, type_of, is_function}
use Rattle.pv_typed.specs.TypedUnits.{WholeUnit}
use Rattle.pv_check.specs.Kinds.{common_kind}
use Rattle.pv_types.specs.Qualifiers.{is_const}
use Rattle.pv_check.specs.Qualified.{qualified_if}
use Rattle.pv_types.specs.SameTypes.{same_type as same}
use Rattle.pv_check.specs.Sorts.{are_alike, has_void}
use Rattle.pv_types.specs.Sorts.{is_scalar, bare_type}
use Rattle.pv_check.specs.Composite.{composite_of}
use Rattle.pv_check.specs.Values.{source_node, conversion_to}
use Rattle.pv_check.specs.Conditional.{pointer_type, result_type, conditional_of}
use Rattle.pv_check.specs.ConditionalParts.{pointer_to, pointer_of_both, type_of_chosen, chosen_node}
use Rattle.pv_check.proofs.Same.{same_equal, same_itself}
use Rattle.pv_guards.specs.Typed.{IsScalarType, MayConvert}
use Rattle.pv_well_typed.specs.Proper.{IsValueOrVoid, IsProper}
use Rattle.pv_well_typed.proofs.Types.{plain-bare, scalar-type, proper-bare, proper-qualified-if}
use Rattle.pv_well_typed.proofs.Operands.{IsExpression, IsOperand, has-value, has-type, converted-row, as-made, some-same}
use Rattle.pv_well_typed.proofs.Conversions.{null-scalar, one-type}
use Rattle.pv_well_typed.proofs.Composites.{proper-composite, composite-no-function, both-functions}

-- 6.5.15p5, p6: the type of the result, to which both may be converted
record IsChosen (v : WholeUnit) (t u r : Ty) : Type 0 where
  left : same t r ≡ false → MayConvert t r
  right : same u r ≡ false → MayConvert u r
  proper : IsProper v r
  plain : IsValueOrVoid r

chosen-as : (v : WholeUnit) (t u q r : Ty) → IsChosen v t u q → Some q ≡ Some r → IsChosen v t u r
chosen-as v t u q r h e = subst (IsChosen v t u) (some-same q r e) h

-- ---- 6.5.15p6: what two pointers give

is-constant : (t : Ty) → is_const t ≡ true → (v : WholeUnit) → IsProper v t → IsValueOrVoid (bare_type t)
is-constant (ConstOf t) e v h = subst IsValueOrVoid (sym (plain-bare t h.0)) h.0
is-constant VoidTy e v h = absurd cc
is-constant (IntTy k) e v h = absurd cc
is-constant (PointerTo t) e v h = absurd cc
is-constant (ArrayOf t n) e v h = absurd cc
is-constant (StructTag n) e v h = absurd cc
is-constant (UnionTag n) e v h = absurd cc
is-constant (FunctionTy t ts c) e v h = absurd cc

plain-no-function : (t : Ty) → IsValueOrVoid t → is_function t ≡ false
plain-no-function VoidTy h = refl
plain-no-function (IntTy k) h = refl
plain-no-function (PointerTo t) h = refl
plain-no-function (ArrayOf t n) h = refl
plain-no-function (StructTag n) h = refl
plain-no-function (UnionTag n) h = refl
plain-no-function (FunctionTy t ts c) h = absurd h
plain-no-function (ConstOf t) h = refl

module _ (v : WholeUnit) where
  -- with `const` where one of the two has it, and so no function
  proper-merged : (t u : Ty) → IsProper v t → IsProper v u → are_alike t u ≡ true → IsProper v (qualified_if (is_const t || is_const u) (composite_of (bare_type t) (bare_type u)))
  proper-merged t u h g e = by (is_const t) (is_const u) refl refl
    where
      c : Ty
      c = composite_of (bare_type t) (bare_type u)

      proper : IsProper v (composite_of (bare_type t) (bare_type u))
      proper = proper-composite v (bare_type t) (bare_type u) (matching (bare_type t) (bare_type u) e) (proper-bare v t h) (proper-bare v u g)

      by : (a b : Bool) → is_const t ≡ a → is_const u ≡ b → IsProper v (qualified_if (a || b) (composite_of (bare_type t) (bare_type u)))
      by true b p q =
          proper-qualified-if v true (composite_of (bare_type t) (bare_type u)) proper
          (composite-no-function (bare_type t) (bare_type u) (plain-no-function (bare_type t) (is-constant t p v h)))
      by false true p q =
          proper-qualified-if v true (composite_of (bare_type t) (bare_type u)) proper
          (composite-no-function (bare_type t) (bare_type u) (both-functions (bare_type t) (bare_type u) (is-constant u q v g) e))
      by false false p q = proper

  pointers-made : (t u w r : Ty) → IsProper v w → Some (PointerTo w) ≡ Some r → IsChosen v (PointerTo t) (PointerTo u) r
  pointers-made t u w r p e = chosen-as v (PointerTo t) (PointerTo u) (PointerTo w) r (record { left = λ n. tt; right = λ n. tt; proper = p; plain = tt }) e

  merged-row : (t u : Ty) → IsProper v t → IsProper v u → (r : Ty) → pointer_of_both t u ≡ Some r → IsChosen v (PointerTo t) (PointerTo u) r
  merged-row t u h g r e = by (are_alike t u) (has_void t u) refl e
    where
      by : (a b : Bool) → are_alike t u ≡ a
          → (if a then Some (pointer_to (is_const t || is_const u) (composite_of (bare_type t) (bare_type u))) else (if b then Some (pointer_to (is_const t || is_const u) VoidTy) else None)) ≡ Some r
          → IsChosen v (PointerTo t) (PointerTo u) r
      by true b p e = pointers-made t u (qualified_if (is_const t || is_const u) (composite_of (bare_type t) (bare_type u))) r (proper-merged t u h g p) e
      by false true p e = pointers-made t u (qualified_if (is_const t || is_const u) VoidTy) r (proper-qualified-if v (is_const t || is_const u) VoidTy tt refl) e
      by false false p e = absurd cc

  pointer-type-row : (t u : Ty) → IsProper v t → IsProper v u → (a b : Bool) (r : Ty) → pointer_type t u a b ≡ Some r → IsChosen v (PointerTo t) (PointerTo u) r
  pointer-type-row t u h g false true r e = pointers-made t u t r h e
  pointer-type-row t u h g true false r e = pointers-made t u u r g e
  pointer-type-row t u h g true true r e = merged-row t u h g r e
  pointer-type-row t u h g false false r e = merged-row t u h g r e

  -- ---- 6.5.15p3: by the sorts of the two

  pointer-with : (t u : Ty) (a b : Bool) → IsProper v t → IsProper v u → IsValueOrVoid u → (b ≡ true → IsScalarType u) → (r : Ty) → result_type (PointerTo t) u a b ≡ Some r → IsChosen v (PointerTo t) u r
  pointer-with t (PointerTo u) a b h g p null r e = pointer-type-row t u h g a b r e
  pointer-with t (IntTy k) a true h g p null r e = chosen-as v (PointerTo t) (IntTy k) (PointerTo t) r (record { left = λ n. tt; right = λ n. tt; proper = h; plain = tt }) e
  pointer-with t (IntTy k) a false h g p null r e = absurd cc
  pointer-with t VoidTy a true h g p null r e = absurd (null refl)
  pointer-with t VoidTy a false h g p null r e = absurd cc
  pointer-with t (StructTag n) a true h g p null r e = absurd (null refl)
  pointer-with t (StructTag n) a false h g p null r e = absurd cc
  pointer-with t (UnionTag n) a true h g p null r e = absurd (null refl)
  pointer-with t (UnionTag n) a false h g p null r e = absurd cc
  pointer-with t (ArrayOf u n) a b h g p null r e = absurd p
  pointer-with t (FunctionTy u us c) a b h g p null r e = absurd p
  pointer-with t (ConstOf u) a b h g p null r e = absurd p

  integer-with : (k : IntKind) (u : Ty) (a b : Bool) → IsProper v u → IsValueOrVoid u → (r : Ty) → result_type (IntTy k) u a b ≡ Some r → IsChosen v (IntTy k) u r
  integer-with k (PointerTo u) true b g p r e = chosen-as v (IntTy k) (PointerTo u) (PointerTo u) r (record { left = λ n. tt; right = λ n. tt; proper = g; plain = tt }) e
  integer-with k (PointerTo u) false b g p r e = absurd cc
  integer-with k (IntTy l) a b g p r e = chosen-as v (IntTy k) (IntTy l) (IntTy (common_kind k l)) r (record { left = λ n. tt; right = λ n. tt; proper = tt; plain = tt }) e
  integer-with k VoidTy a b g p r e = absurd cc
  integer-with k (StructTag n) a b g p r e = absurd cc
  integer-with k (UnionTag n) a b g p r e = absurd cc
  integer-with k (ArrayOf u n) a b g p r e = absurd p
  integer-with k (FunctionTy u us c) a b g p r e = absurd p
  integer-with k (ConstOf u) a b g p r e = absurd p

  void-with : (u : Ty) (a b : Bool) → (a ≡ true → IsScalarType VoidTy) → IsValueOrVoid u → (r : Ty) → result_type VoidTy u a b ≡ Some r → IsChosen v VoidTy u r
  void-with VoidTy a b null p r e = chosen-as v VoidTy VoidTy VoidTy r (record { left = λ n. absurd cc; right = λ n. absurd cc; proper = tt; plain = tt }) e
  void-with (PointerTo u) true b null p r e = absurd (null refl)
  void-with (PointerTo u) false b null p r e = absurd cc
  void-with (IntTy k) a b null p r e = absurd cc
  void-with (StructTag n) a b null p r e = absurd cc
  void-with (UnionTag n) a b null p r e = absurd cc
  void-with (ArrayOf u n) a b null p r e = absurd p
  void-with (FunctionTy u us c) a b null p r e = absurd p
  void-with (ConstOf u) a b null p r e = absurd p

  -- two of one structure or union
  same-row : (t u : Ty) → IsProper v u → IsValueOrVoid u → (r : Ty) → (if same t u then Some u else None) ≡ Some r → IsChosen v t u r
  same-row t u g p r e = by (same t u) refl e
    where
      differ : (w : Ty) → same w w ≡ false → ⊥
      differ w n = one-type w w (same_itself w) n

      by : (b : Bool) → same t u ≡ b → (if b then Some u else None) ≡ Some r → IsChosen v t u r
      by true q e = chosen-as v t u u r (record { left = λ n. absurd (one-type u u (same_itself u) (subst (λ w. same w u ≡ false) (same_equal t u q) n)); right = λ n. absurd (differ u n); proper = g; plain = p }) e
      by false q e = absurd cc

  structure-with : (m : ℕ) (u : Ty) (a b : Bool) → (a ≡ true → IsScalarType (StructTag m)) → IsProper v u → IsValueOrVoid u → (r : Ty) → result_type (StructTag m) u a b ≡ Some r → IsChosen v (StructTag m) u r
  structure-with m (PointerTo u) true b null g p r e = absurd (null refl)
  structure-with m (PointerTo u) false b null g p r e = absurd cc
  structure-with m VoidTy a b null g p r e = same-row (StructTag m) VoidTy g p r e
  structure-with m (IntTy k) a b null g p r e = same-row (StructTag m) (IntTy k) g p r e
  structure-with m (StructTag n) a b null g p r e = same-row (StructTag m) (StructTag n) g p r e
  structure-with m (UnionTag n) a b null g p r e = same-row (StructTag m) (UnionTag n) g p r e
  structure-with m (ArrayOf u n) a b null g p r e = absurd p
  structure-with m (FunctionTy u us c) a b null g p r e = absurd p
  structure-with m (ConstOf u) a b null g p r e = absurd p

  union-with : (m : ℕ) (u : Ty) (a b : Bool) → (a ≡ true → IsScalarType (UnionTag m)) → IsProper v u → IsValueOrVoid u → (r : Ty) → result_type (UnionTag m) u a b ≡ Some r → IsChosen v (UnionTag m) u r
  union-with m (PointerTo u) true b null g p r e = absurd (null refl)
  union-with m (PointerTo u) false b null g p r e = absurd cc
  union-with m VoidTy a b null g p r e = same-row (UnionTag m) VoidTy g p r e
  union-with m (IntTy k) a b null g p r e = same-row (UnionTag m) (IntTy k) g p r e
  union-with m (StructTag n) a b null g p r e = same-row (UnionTag m) (StructTag n) g p r e
  union-with m (UnionTag n) a b null g p r e = same-row (UnionTag m) (UnionTag n) g p r e
  union-with m (ArrayOf u n) a b null g p r e = absurd p
  union-with m (FunctionTy u us c) a b null g p r e = absurd p
  union-with m (ConstOf u) a b null g p r e = absurd p

  result-row : (t u : Ty) (a b : Bool) → IsProper v t → IsProper v u → IsValueOrVoid t → IsValueOrVoid u → (a ≡ true → IsScalarType t) → (b ≡ true → IsScalarType u) → (r : Ty) → result_type t u a b ≡ Some r → IsChosen v t u r
  result-row VoidTy u a b h g p q m n r e = void-with u a b m q r e
  result-row (IntTy k) u a b h g p q m n r e = integer-with k u a b g q r e
  result-row (PointerTo t) u a b h g p q m n r e = pointer-with t u a b h g q n r e
  result-row (StructTag i) u a b h g p q m n r e = structure-with i u a b m g q r e
  result-row (UnionTag i) u a b h g p q m n r e = union-with i u a b m g q r e
  result-row (ArrayOf t i) u a b h g p q m n r e = absurd p
  result-row (FunctionTy t ts c) u a b h g p q m n r e = absurd p
  result-row (ConstOf t) u a b h g p q m n r e = absurd p

module _ (E : Type 0) (v : WholeUnit) (os : List ℕ) where
  -- 6.5.15
  pub conditional-row : (line : ℕ) (a b c : TypedTree) → IsOperand E v os a → IsOperand E v os b → IsOperand E v os c → (x : TypedTree) → conditional_of line a b c ≡ Some x → IsExpression E v os x
  conditional-row line a b c h g k x e = by (is_scalar (type_of a)) refl e
    where
      with-type : IsScalarType (type_of a) → (o : Option Ty) → type_of_chosen b c ≡ o → chosen_node line a b c o ≡ Some x → IsExpression E v os x
      with-type s None p e = absurd cc
      with-type s (Some t) p e =
          let r = result-row v (type_of b) (type_of c) (is_null_constant b) (is_null_constant c) g.proper k.proper g.plain k.plain (null-scalar b g.plain) (null-scalar c k.plain) t p in
          let m = converted-row E v os t b g r.left in
          let n = converted-row E v os t c k r.right in
          as-made (IsExpression E v os) (source_node line t (Conditional a (conversion_to t b) (conversion_to t c))) x (record {
            typed = λ i. (h.typed i, has-value E v os a h, s, m.typed i, has-type E v os t (conversion_to t b) m, n.typed i, has-type E v os t (conversion_to t c) n);
            proper = r.proper;
            valued = λ z. (refl, r.plain);
          }) e

      by : (d : Bool) → is_scalar (type_of a) ≡ d → (if d then chosen_node line a b c (type_of_chosen b c) else None) ≡ Some x → IsExpression E v os x
      by true q e = with-type (scalar-type (type_of a) h.plain q) (type_of_chosen b c) refl e
      by false q e = absurd cc
