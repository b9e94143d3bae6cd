-- What a value of a type is in the eyes of the questions that operations ask.
use Rattle.std.proofs.Common.{inl, inr, ◌≡◌, ℕ, ◌+◌, ◌≤◌, refl, sym, subst, ℤ, pos, neg_ℤ, arith, true, ◌&&◌, int_le, List, length}
use Rattle.pv_types.specs.Sorts.{bare_type}
use Rattle.std.specs.Prelude.{◌⊎◌, ◌≤ℤ◌, ◌^◌, ◌-◌}
use Rattle.std.proofs.lemmas.Int.{ints}
use Rattle.std.proofs.lemmas.Bool.{le-leb, lt-ltb}
use Rattle.std.proofs.lemmas.Bool.Decides.{Decides-eqb}
use Rattle.pv_num.specs.declared.kinds.IntKind.{IntKind}
use Rattle.pv_num.specs.declared.operators.BinOp.{BinOp}
use Rattle.pv_num.specs.declared.operators.BinOp.TheVariants as op
use Rattle.pv_num.specs.Kinds.{Fits, fits_of}
use Rattle.pv_num.specs.Arithmetic.{IsPromoted}
use Rattle.pv_types.specs.Ty.{Ty, VoidTy, IntTy, PointerTo, ArrayOf, StructTag, UnionTag, FunctionTy, ConstOf}
use Rattle.pv_types.specs.Layouts.{Entry, layout_in}
use Rattle.pv_object.specs.declared.values.Scalar.{Scalar as ScalarType}
use Rattle.pv_object.specs.declared.values.Scalar.TheVariants as scalar
use Rattle.pv_object.specs.declared.values.Value.{Value}
use Rattle.pv_object.specs.declared.values.Value.TheVariants.{Int as IntValue, Unset, Pointer as PointerValue}
use Rattle.pv_object.specs.Values.{IsOf}
use Rattle.pv_world.specs.Worlds.{Worth, Nothing, Missing, Scalar, Whole}
use Rattle.pv_world.specs.Worths.{int_of}
use Rattle.pv_eval.specs.TypeForms.{shape_of}
use Rattle.pv_world.specs.Suiting.{is_small, is_integer, is_promoted, is_operand, is_count, is_of, is_stored, has_part}
use Rattle.pv_guards.specs.Worths.{IsScalar, IsWhole, IsNothing, IsOfType, IsThere}
use Rattle.pv_guards.specs.Typed.{IsValueType, MayBeRight}
use Rattle.pv_guards.proofs.Numbers.{both, le_tested, fits_tested, within_all, zero_fits}

-- 6.2.5p17: the number in a value of an integer type
pub number-fits : (k : IntKind) (v : Worth) → IsScalar (scalar.Int k) v → Fits k (int_of v)
number-fits k (Scalar (IntValue n)) h = h
number-fits k (Scalar Unset) h = zero_fits k
number-fits k (Scalar (PointerValue p)) h = absurd h
number-fits k Missing h = zero_fits k
number-fits k Nothing h = absurd h
number-fits k (Whole bs a) h = absurd h

-- 6.2.5p20: there is none in a pointer
pointer-none : (v : Worth) → IsScalar scalar.Pointer v → int_of v ≡ pos 0
pointer-none (Scalar (PointerValue p)) h = refl
pointer-none (Scalar (IntValue n)) h = absurd h
pointer-none (Scalar Unset) h = absurd h
pointer-none Missing h = refl
pointer-none Nothing h = absurd h
pointer-none (Whole bs a) h = absurd h

whole-none : (n : ℕ) (v : Worth) → IsWhole n v → int_of v ≡ pos 0
whole-none n (Whole bs a) h = refl
whole-none n Missing h = refl
whole-none n (Scalar v) h = absurd h
whole-none n Nothing h = absurd h

nothing-none : (v : Worth) → IsNothing v → int_of v ≡ pos 0
nothing-none Nothing h = refl
nothing-none Missing h = absurd h
nothing-none (Scalar v) h = absurd h
nothing-none (Whole bs a) h = absurd h

small-from : (n : ℤ) → (neg_ℤ (pos (2 ^ 63)) ≤ℤ n) × (n ≤ℤ pos (2 ^ 64 - 1)) → (int_le (neg_ℤ (pos (2 ^ 64))) n && int_le n (pos (2 ^ 64))) ≡ true
small-from n h =
    let low : neg_ℤ (pos (2 ^ 64)) ≤ℤ n = lower n h.0 in
    let high : n ≤ℤ pos (2 ^ 64) = upper n h.1 in
    both (int_le (neg_ℤ (pos (2 ^ 64))) n) (int_le n (pos (2 ^ 64))) (le_tested (neg_ℤ (pos (2 ^ 64))) n low) (le_tested n (pos (2 ^ 64)) high)
  where
    lower : (n : ℤ) → neg_ℤ (pos (2 ^ 63)) ≤ℤ n → neg_ℤ (pos (2 ^ 64)) ≤ℤ n
    lower n h = grind (arith, ints)

    upper : (n : ℤ) → n ≤ℤ pos (2 ^ 64 - 1) → n ≤ℤ pos (2 ^ 64)
    upper n h = grind (arith, ints)

small-none : (v : Worth) → int_of v ≡ pos 0 → is_small v ≡ true
small-none v e = subst (λ n. (int_le (neg_ℤ (pos (2 ^ 64))) n && int_le n (pos (2 ^ 64))) ≡ true) (sym e) refl

-- every value of a type is small (6.2.5p17)
pub small-of : (env : List Entry) (t : Ty) (v : Worth) → IsOfType env t v → is_small v ≡ true
small-of env (IntTy k) v h = small-from (int_of v) (within_all k (int_of v) (number-fits k v h))
small-of env (PointerTo t) v h = small-none v (pointer-none v h)
small-of env (StructTag n) v h = small-none v (whole-none _ v h)
small-of env (UnionTag n) v h = small-none v (whole-none _ v h)
small-of env VoidTy v h = small-none v (nothing-none v h)
small-of env (ConstOf t) v h = small-of env t v h
small-of env (ArrayOf t n) v h = absurd h
small-of env (FunctionTy t ts c) v h = absurd h

-- 6.8.4.2p1
pub integer-of : (k : IntKind) (v : Worth) → IsScalar (scalar.Int k) v → is_integer v ≡ true
integer-of k (Scalar (IntValue n)) h = refl
integer-of k (Scalar Unset) h = refl
integer-of k (Scalar (PointerValue p)) h = absurd h
integer-of k Missing h = refl
integer-of k Nothing h = absurd h
integer-of k (Whole bs a) h = absurd h

pub promoted-of : (k : IntKind) → IsPromoted k → is_promoted k ≡ true
promoted-of k h = le-leb 32 _ h

count-of : (k : IntKind) (n : ℤ) → Fits k n → is_count n ≡ true
count-of k n h =
    let r = within_all k n h in
    both (int_le (neg_ℤ (pos (2 ^ 63))) n) (int_le n (pos (2 ^ 64 - 1))) (le_tested (neg_ℤ (pos (2 ^ 63))) n r.0) (le_tested n (pos (2 ^ 64 - 1)) r.1)

same-fits : (k l : IntKind) (n : ℤ) → l ≡ k → Fits l n → fits_of k n ≡ true
same-fits k l n e h = fits_tested k n (subst (λ j. Fits j n) e h)

-- 6.5.5 to 6.5.12: the right operand
pub operand-of : (o : BinOp) (k l : IntKind) (n : ℤ) → MayBeRight o k l → Fits l n → is_operand o k n ≡ true
operand-of op.Shl k l n m h = count-of l n h
operand-of op.Shr k l n m h = count-of l n h
operand-of op.Add k l n m h = same-fits k l n m h
operand-of op.Sub k l n m h = same-fits k l n m h
operand-of op.Mul k l n m h = same-fits k l n m h
operand-of op.Div k l n m h = same-fits k l n m h
operand-of op.Rem k l n m h = same-fits k l n m h
operand-of op.And k l n m h = same-fits k l n m h
operand-of op.Or k l n m h = same-fits k l n m h
operand-of op.Xor k l n m h = same-fits k l n m h
operand-of op.Lt k l n m h = same-fits k l n m h
operand-of op.Gt k l n m h = same-fits k l n m h
operand-of op.Le k l n m h = same-fits k l n m h
operand-of op.Ge k l n m h = same-fits k l n m h
operand-of op.Eq k l n m h = same-fits k l n m h
operand-of op.Ne k l n m h = same-fits k l n m h

-- 6.2.6.1: a scalar of the type
of-tested : (s : ScalarType) (v : Value) → IsOf s v → is_of s v ≡ true
of-tested (scalar.Int k) (IntValue n) h = fits_tested k n h
of-tested (scalar.Int k) Unset h = h
of-tested (scalar.Int k) (PointerValue p) h = absurd h
of-tested scalar.Pointer (PointerValue p) h = lt-ltb p.address (2 ^ 64) h
of-tested scalar.Pointer (IntValue n) h = absurd h
of-tested scalar.Pointer Unset h = absurd h

int-stored : (k : IntKind) (n : ℕ) (v : Worth) → IsScalar (scalar.Int k) v → IsThere v → is_stored (shape_of (IntTy k)) n v ≡ true
int-stored k n (Scalar v) h there = of-tested (scalar.Int k) v h
int-stored k n Missing h there = absurd there
int-stored k n Nothing h there = absurd h
int-stored k n (Whole bs a) h there = absurd h

pointer-stored : (t : Ty) (n : ℕ) (v : Worth) → IsScalar scalar.Pointer v → IsThere v → is_stored (shape_of (PointerTo t)) n v ≡ true
pointer-stored t n (Scalar v) h there = of-tested scalar.Pointer v h
pointer-stored t n Missing h there = absurd there
pointer-stored t n Nothing h there = absurd h
pointer-stored t n (Whole bs a) h there = absurd h

whole-stored : (i n : ℕ) (v : Worth) → IsWhole n v → IsThere v → is_stored (shape_of (StructTag i)) n v ≡ true
whole-stored i n (Whole bs a) h there = (Decides-eqb n (length bs)).1 h
whole-stored i n Missing h there = absurd there
whole-stored i n Nothing h there = absurd h
whole-stored i n (Scalar v) h there = absurd h

-- 6.5.16.1p2, 6.7.9p11: a value of the type, qualifiers aside, is stored in the type's bytes, if it is there
pub stored-of : (env : List Entry) (t : Ty) (v : Worth) → IsValueType (bare_type t) → IsOfType env (bare_type t) v → IsThere v → is_stored (shape_of t) (layout_in env t).size v ≡ true
stored-of env (IntTy k) v s h there = int-stored k (layout_in env (IntTy k)).size v h there
stored-of env (PointerTo t) v s h there = pointer-stored t (layout_in env (PointerTo t)).size v h there
stored-of env (StructTag n) v s h there = whole-stored n (layout_in env (StructTag n)).size v h there
stored-of env (UnionTag n) v s h there = whole-stored n (layout_in env (StructTag n)).size v h there
stored-of env (ConstOf t) v s h there = stored-of env t v s h there
stored-of env VoidTy v s h there = absurd s
stored-of env (ArrayOf t n) v s h there = absurd s
stored-of env (FunctionTy t ts c) v s h there = absurd s

-- 6.5.2.3p3
whole-part : (n offset size : ℕ) (v : Worth) → offset + size ≤ n → IsWhole n v → has_part v offset size ≡ true
whole-part n offset size (Whole bs a) le h = le-leb (offset + size) (length bs) (subst (λ k. offset + size ≤ k) h le)
whole-part n offset size Missing le h = refl
whole-part n offset size (Scalar v) le h = absurd h
whole-part n offset size Nothing le h = absurd h

-- 6.5.2.3p3: a structure or union has the bytes of its member
pub part-of : (env : List Entry) (t : Ty) (offset size : ℕ) (v : Worth) → ((n : ℕ) × (t ≡ StructTag n)) ⊎ ((n : ℕ) × (t ≡ UnionTag n)) → offset + size ≤ (layout_in env t).size → IsOfType env t v → has_part v offset size ≡ true
part-of env t offset size v (inl (n, e)) le h = whole-part (layout_in env t).size offset size v le (subst (λ u. IsOfType env u v → IsWhole (layout_in env u).size v) (sym e) (λ x. x) h)
part-of env t offset size v (inr (n, e)) le h = whole-part (layout_in env t).size offset size v le (subst (λ u. IsOfType env u v → IsWhole (layout_in env u).size v) (sym e) (λ x. x) h)

-- 6.5.16.1p2: values of types, qualifiers aside
pub from-bare : (env : List Entry) (t : Ty) (v : Worth) → IsOfType env (bare_type t) v → IsOfType env t v
from-bare env (ConstOf t) v h = from-bare env t v h
from-bare env VoidTy v h = h
from-bare env (IntTy k) v h = h
from-bare env (PointerTo t) v h = h
from-bare env (ArrayOf t n) v h = h
from-bare env (StructTag n) v h = h
from-bare env (UnionTag n) v h = h
from-bare env (FunctionTy t ts c) v h = h

pub to-bare : (env : List Entry) (t : Ty) (v : Worth) → IsOfType env t v → IsOfType env (bare_type t) v
to-bare env (ConstOf t) v h = to-bare env t v h
to-bare env VoidTy v h = h
to-bare env (IntTy k) v h = h
to-bare env (PointerTo t) v h = h
to-bare env (ArrayOf t n) v h = h
to-bare env (StructTag n) v h = h
to-bare env (UnionTag n) v h = h
to-bare env (FunctionTy t ts c) v h = h
