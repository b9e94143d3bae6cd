-- What an operator gives is a member of the kind that it yields.
use Rattle.std.proofs.Common.{◌≡◌, refl, subst, sym, ℕ, ◌-◌, ◌<◌, ◌≤◌, suc, ℤ, pos, negsuc, neg_ℤ, arith, Bool, true, false, if◌then◌else◌, ◌&&◌, not, Ok, Err, IfOk, int_div, int_rem, int_le, bit_and, bit_or, bit_xor}
use Rattle.std.specs.Int.{int_div_euclid}
use Rattle.std.proofs.lemmas.Int.{ints}
use Rattle.std.proofs.lemmas.Nat.{pow_pos}
use Rattle.std.proofs.lemmas.Bool.Decides.{nat_tests}
use Rattle.pv_num.specs.declared.kinds.IntKind.{IntKind}
use Rattle.pv_num.specs.declared.kinds.IntKind.TheVariants.{Bool as BoolKind, Char, Int, UInt, Long, ULong, LLong, ULLong}
use Rattle.pv_num.specs.declared.operators.ArithmeticFault.{ArithmeticFault}
use Rattle.pv_num.specs.declared.operators.ArithmeticFault.TheVariants.{Overflow, Shift}
use Rattle.pv_num.specs.Kinds.{Fits, fits_of, is_signed, bits_of, from_bits_of, modulus_of, width}
use Rattle.std.specs.declared.result.Result.{Result}
use Rattle.pv_num.specs.declared.operators.BinOp.{BinOp}
use Rattle.pv_num.specs.declared.operators.BinOp.TheVariants.{Add, Sub, Mul, Div, Rem, Shl, Shr, And, Or, Xor, Lt, Gt, Le, Ge, Eq, Ne}
use Rattle.pv_num.specs.declared.operators.UnOp.{UnOp}
use Rattle.pv_num.specs.declared.operators.UnOp.TheVariants.{Plus, Minus, Flip}
use Rattle.pv_num.proofs.Bitwise.{and_fits, or_fits, xor_fits}
use Rattle.pv_num.specs.Arithmetic.{IsPromoted, is_zero, is_count, times_power, one_if, yielded_kind, exact_of, quotient_of, remainder_of, bitwise_of, shift_left_of, shift_right_of, binary_of, unary_of}

fits_tested : (k : IntKind) (n : ℤ) → fits_of k n ≡ true → Fits k n
fits_tested k n e = grind (arith, ints)

tested : (k : IntKind) (n : ℤ) (f : ArithmeticFault) (b : Bool) → fits_of k n ≡ b → IfOk (if b then Ok n else Err f) (Fits k)
tested k n f true e = fits_tested k n e
tested k n f false e = tt

both_tested : (k : IntKind) (n : ℤ) (a b : Bool) → fits_of k n ≡ b → IfOk (if a && b then Ok n else Err Shift) (Fits k)
both_tested k n true true e = fits_tested k n e
both_tested k n true false e = tt
both_tested k n false b e = tt

from_bits_fits : (k : IntKind) (r : ℕ) → IsPromoted k → r < modulus_of k → Fits k (from_bits_of k r)
from_bits_fits Int r p h = grind (arith, ints, nat_tests)
from_bits_fits UInt r p h = grind (arith, ints, nat_tests)
from_bits_fits Long r p h = grind (arith, ints, nat_tests)
from_bits_fits ULong r p h = grind (arith, ints, nat_tests)
from_bits_fits LLong r p h = grind (arith, ints, nat_tests)
from_bits_fits ULLong r p h = grind (arith, ints, nat_tests)
from_bits_fits _ r p h = grind arith

bits_fit : (k : IntKind) (n : ℤ) → IsPromoted k → is_signed k ≡ false → Fits k (pos (bits_of k n))
bits_fit UInt n p u = grind (arith, ints)
bits_fit ULong n p u = grind (arith, ints)
bits_fit ULLong n p u = grind (arith, ints)
bits_fit _ n p u = grind (arith, ints)

shifted_at : (k : IntKind) (a n : ℤ) → IsPromoted k → (b : Bool) → is_signed k ≡ b → IfOk (if b then (if int_le (pos 0) a && fits_of k n then Ok n else Err Shift) else Ok (pos (bits_of k n))) (Fits k)
shifted_at k a n p true e = both_tested k n (int_le (pos 0) a) (fits_of k n) refl
shifted_at k a n p false e = bits_fit k n p e

exact_at : (k : IntKind) (n : ℤ) → IsPromoted k → (b : Bool) → is_signed k ≡ b → IfOk (if b then (if fits_of k n then Ok n else Err Overflow) else Ok (pos (bits_of k n))) (Fits k)
exact_at k n p true e = tested k n Overflow (fits_of k n) refl
exact_at k n p false e = bits_fit k n p e

exact_fits : (k : IntKind) (n : ℤ) → IsPromoted k → IfOk (exact_of k n) (Fits k)
exact_fits k n p = exact_at k n p (is_signed k) refl

-- a test that refuses keeps the claim
unless : (k : IntKind) (b : Bool) (f : ArithmeticFault) (r : Result ℤ ArithmeticFault) → IfOk r (Fits k) → IfOk (if b then Err f else r) (Fits k)
unless k true f r h = tt
unless k false f r h = h

quotient_fits : (k : IntKind) (a b : ℤ) → IfOk (quotient_of k a b) (Fits k)
quotient_fits k a b = unless k (is_zero b) _ _ (tested k (int_div a b) _ (fits_of k (int_div a b)) refl)

-- between a member and zero or -1 there are only members
nearer_zero : (k : IntKind) (a r : ℕ) → r ≤ a → Fits k (pos a) → Fits k (pos r)
nearer_zero BoolKind a r l h = grind (arith, ints)
nearer_zero Char a r l h = grind (arith, ints)
nearer_zero _ a r l h = grind (arith, ints)

nearer_minus_one : (k : IntKind) (a r : ℕ) → r ≤ a → Fits k (negsuc a) → Fits k (negsuc r)
nearer_minus_one BoolKind a r l h = grind (arith, ints)
nearer_minus_one Char a r l h = grind (arith, ints)
nearer_minus_one _ a r l h = grind (arith, ints)

negative_nearer_zero : (k : IntKind) (a r : ℕ) → r ≤ suc a → Fits k (negsuc a) → Fits k (neg_ℤ (pos r))
negative_nearer_zero BoolKind a r l h = grind (arith, ints)
negative_nearer_zero Char a r l h = grind (arith, ints)
negative_nearer_zero _ a r l h = grind (arith, ints)

remainder_within : (k : IntKind) (a b : ℤ) → Fits k a → Fits k (int_rem a b)
remainder_within k (pos a) (pos b) h = nearer_zero k a _ (omega arith) h
remainder_within k (pos a) (negsuc b) h = nearer_zero k a _ (omega arith) h
remainder_within k (negsuc a) (pos b) h = negative_nearer_zero k a _ (omega arith) h
remainder_within k (negsuc a) (negsuc b) h = negative_nearer_zero k a _ (omega arith) h

remainder_tested : (k : IntKind) (a b : ℤ) (f : ArithmeticFault) (c : Bool) → Fits k a → IfOk (if c then Ok (int_rem a b) else Err f) (Fits k)
remainder_tested k a b f true h = remainder_within k a b h
remainder_tested k a b f false h = tt

remainder_fits : (k : IntKind) (a b : ℤ) → Fits k a → IfOk (remainder_of k a b) (Fits k)
remainder_fits k a b h = unless k (is_zero b) _ _ (remainder_tested k a b _ (fits_of k (int_div a b)) h)

shift_left_fits : (k : IntKind) (a b : ℤ) → IsPromoted k → IfOk (shift_left_of k a b) (Fits k)
shift_left_fits k a b p = unless k (not (is_count k b)) _ _ (shifted_at k a (times_power a b) p (is_signed k) refl)

lowered_within : (k : IntKind) (a : ℤ) (m : ℕ) → Fits k a → Fits k (int_div_euclid a (pos m))
lowered_within k (pos a) m h = nearer_zero k a _ (omega arith) h
lowered_within k (negsuc a) m h = nearer_minus_one k a _ (omega arith) h

shift_right_fits : (k : IntKind) (a b : ℤ) → Fits k a → IfOk (shift_right_of k a b) (Fits k)
shift_right_fits k a b h = unless k (not (is_count k b)) _ _ (lowered_within k a _ h)

one_if_fits : (b : Bool) → Fits Int (one_if b)
one_if_fits true = grind (arith, ints)
one_if_fits false = grind (arith, ints)

below_modulus : (m r : ℕ) → 0 < m → m - 1 - r < m
below_modulus m r h = omega arith

complement_lt : (k : IntKind) (r : ℕ) → modulus_of k - 1 - r < modulus_of k
complement_lt k r = below_modulus (modulus_of k) r (pow_pos (width k))

and_member : (k : IntKind) (a b : ℤ) → IsPromoted k → Fits k (bitwise_of bit_and k a b)
and_member k a b p = from_bits_fits k _ p (and_fits k a b)

or_member : (k : IntKind) (a b : ℤ) → IsPromoted k → Fits k (bitwise_of bit_or k a b)
or_member k a b p = from_bits_fits k _ p (or_fits k a b)

xor_member : (k : IntKind) (a b : ℤ) → IsPromoted k → Fits k (bitwise_of bit_xor k a b)
xor_member k a b p = from_bits_fits k _ p (xor_fits k a b)

pub binary_fits : (op : BinOp) (k : IntKind) (a b : ℤ) → IsPromoted k → Fits k a → IfOk (binary_of op k a b) (Fits (yielded_kind op k))
binary_fits Add k a b p h = exact_fits k _ p
binary_fits Sub k a b p h = exact_fits k _ p
binary_fits Mul k a b p h = exact_fits k _ p
binary_fits Div k a b p h = quotient_fits k a b
binary_fits Rem k a b p h = remainder_fits k a b h
binary_fits Shl k a b p h = shift_left_fits k a b p
binary_fits Shr k a b p h = shift_right_fits k a b h
binary_fits And k a b p h = and_member k a b p
binary_fits Or k a b p h = or_member k a b p
binary_fits Xor k a b p h = xor_member k a b p
binary_fits Lt k a b p h = one_if_fits _
binary_fits Gt k a b p h = one_if_fits _
binary_fits Le k a b p h = one_if_fits _
binary_fits Ge k a b p h = one_if_fits _
binary_fits Eq k a b p h = one_if_fits _
binary_fits Ne k a b p h = one_if_fits _

-- the same of an answer, as the code names the operand
pub binary_yields : (op : BinOp) (k : IntKind) (r : Result ℤ ArithmeticFault) (a a' b : ℤ) → a' ≡ a → IsPromoted k → Fits k a → r ≡ binary_of op k a' b → IfOk r (λ n. Fits (yielded_kind op k) n)
binary_yields op k r a a' b same p h e =
    subst (λ x. IfOk x (λ n. Fits (yielded_kind op k) n)) (sym e) (binary_fits op k a' b p (subst (Fits k) (sym same) h))

pub unary_fits : (op : UnOp) (k : IntKind) (a : ℤ) → IsPromoted k → Fits k a → IfOk (unary_of op k a) (Fits k)
unary_fits Plus k a p h = h
unary_fits Minus k a p h = exact_fits k _ p
unary_fits Flip k a p h = from_bits_fits k _ p (complement_lt k _)
