-- The operators of 6.5.3.3 and 6.5.5 to 6.5.12 on whole numbers: a number, or the fault.
use Rattle.std.specs.Prelude.{ℕ, ◌-◌, ◌^◌, ◌≤◌, Bool, true, false, not, ◌&&◌, if◌then◌else◌, ℤ, pos, neg_ℤ, ◌-ℤ◌, ◌+ℤ◌, ◌*ℤ◌, unsigned_abs, int_le, int_lt, int_div, int_rem, bit_and, bit_or, bit_xor, Ok, Err}
use Rattle.std.specs.Int.{int_div_euclid}
use Rattle.std.specs.Ordering.{int_eq}
use Rattle.std.specs.declared.result.Result.{Result}
use Rattle.pv_num.specs.declared.kinds.IntKind.{IntKind}
use Rattle.pv_num.specs.declared.kinds.IntKind.TheVariants.{Int}
use Rattle.pv_num.specs.declared.operators.BinOp.{BinOp}
use Rattle.pv_num.specs.declared.operators.BinOp.TheVariants.{Add, Sub, Mul, Div, Rem, Shl, Shr, And, Or, Xor, Lt, Gt, Le, Ge, Eq, Ne}
use Rattle.pv_num.specs.declared.operators.UnOp.{UnOp}
use Rattle.pv_num.specs.declared.operators.UnOp.TheVariants.{Plus, Minus, Flip}
use Rattle.pv_num.specs.declared.operators.ArithmeticFault.{ArithmeticFault}
use Rattle.pv_num.specs.declared.operators.ArithmeticFault.TheVariants.{Overflow, ZeroDivisor, Quotient, Count, Shift}
use Rattle.pv_num.specs.Kinds.{width, is_signed, modulus_of, fits_of, bits_of, from_bits_of}

-- 6.3.1.1p2: the kinds that the integer promotions leave as they are
abbrev pub IsPromoted : IntKind → Type 0
IsPromoted k = 32 ≤ width k

-- a test of 6.5.5p5
abbrev pub is_zero : ℤ → Bool
is_zero n = int_eq n (pos 0)

-- 6.2.5p9 and 6.5p5: the exact number at the kind: modulo 2 ^ width at an unsigned kind, and at a signed kind the
-- number itself, or the overflow where it does not fit
abbrev pub exact_of : IntKind → ℤ → Result ℤ ArithmeticFault
exact_of k n =
    if is_signed k
    then (if fits_of k n then Ok n else Err Overflow)
    else Ok (pos (bits_of k n))

-- 6.5.5p5 and p6: the quotient toward zero
abbrev pub quotient_of : IntKind → ℤ → ℤ → Result ℤ ArithmeticFault
quotient_of k a b =
    if is_zero b then Err ZeroDivisor
    else (if fits_of k (int_div a b) then Ok (int_div a b) else Err Quotient)

-- 6.5.5p5 and p6: what that quotient leaves, with the sign of the dividend; undefined too where the quotient is
abbrev pub remainder_of : IntKind → ℤ → ℤ → Result ℤ ArithmeticFault
remainder_of k a b =
    if is_zero b then Err ZeroDivisor
    else (if fits_of k (int_div a b) then Ok (int_rem a b) else Err Quotient)

-- 6.5.7p3: a shift's count is neither negative nor the width or more
abbrev pub is_count : IntKind → ℤ → Bool
is_count k b = int_le (pos 0) b && int_lt b (pos (width k))

-- 6.5.7p4: a times 2 ^ b
abbrev pub times_power : ℤ → ℤ → ℤ
times_power a b = a *ℤ pos (2 ^ unsigned_abs b)

-- 6.5.7p3, and after it p4
abbrev pub shift_left_of : IntKind → ℤ → ℤ → Result ℤ ArithmeticFault
shift_left_of k a b =
    if not (is_count k b) then Err Count
    else (if is_signed k
    then (if int_le (pos 0) a && fits_of k (times_power a b) then Ok (times_power a b) else Err Shift)
    else Ok (pos (bits_of k (times_power a b))))

-- 6.5.7p3, and after it p5: divided by 2 ^ b and rounded down; for a negative number this target's choice
abbrev pub shift_right_of : IntKind → ℤ → ℤ → Result ℤ ArithmeticFault
shift_right_of k a b =
    if not (is_count k b) then Err Count
    else Ok (int_div_euclid a (pos (2 ^ unsigned_abs b)))

-- 6.5.10 to 6.5.12: an operation on bits, at the kind
abbrev pub bitwise_of : (ℕ → ℕ → ℕ) → IntKind → ℤ → ℤ → ℤ
bitwise_of join k a b = from_bits_of k (join (bits_of k a) (bits_of k b))

-- 6.5.3.3p4: each bit inverted
abbrev pub complement_of : IntKind → ℤ → ℤ
complement_of k a = from_bits_of k (modulus_of k - 1 - bits_of k a)

-- 6.5.8p6 and 6.5.9p3: what a comparison yields
abbrev pub one_if : Bool → ℤ
one_if true = pos 1
one_if false = pos 0

-- 6.5.5 to 6.5.12: a binary operator; the operands have the promoted kind k; of a shift, the left one has
abbrev pub binary_of : BinOp → IntKind → ℤ → ℤ → Result ℤ ArithmeticFault
binary_of Add k a b = exact_of k (a +ℤ b)
binary_of Sub k a b = exact_of k (a -ℤ b)
binary_of Mul k a b = exact_of k (a *ℤ b)
binary_of Div k a b = quotient_of k a b
binary_of Rem k a b = remainder_of k a b
binary_of Shl k a b = shift_left_of k a b
binary_of Shr k a b = shift_right_of k a b
binary_of And k a b = Ok (bitwise_of bit_and k a b)
binary_of Or k a b = Ok (bitwise_of bit_or k a b)
binary_of Xor k a b = Ok (bitwise_of bit_xor k a b)
binary_of Lt k a b = Ok (one_if (int_lt a b))
binary_of Gt k a b = Ok (one_if (int_lt b a))
binary_of Le k a b = Ok (one_if (int_le a b))
binary_of Ge k a b = Ok (one_if (int_le b a))
binary_of Eq k a b = Ok (one_if (int_eq a b))
binary_of Ne k a b = Ok (one_if (not (int_eq a b)))

-- 6.5.3.3p2 to p4: a unary operator on an operand of the promoted kind k
abbrev pub unary_of : UnOp → IntKind → ℤ → Result ℤ ArithmeticFault
unary_of Plus k a = Ok a
unary_of Minus k a = exact_of k (neg_ℤ a)
unary_of Flip k a = Ok (complement_of k a)

-- 6.5.8p6 and 6.5.9p3: a comparison yields an `int`, and every other operator a number of the kind k
abbrev pub yielded_kind : BinOp → IntKind → IntKind
yielded_kind Lt k = Int
yielded_kind Gt k = Int
yielded_kind Le k = Int
yielded_kind Ge k = Int
yielded_kind Eq k = Int
yielded_kind Ne k = Int
yielded_kind _ k = k
