-- Quotients and remainders by absolute values.
use Rattle.std.proofs.Common.{◌≡◌, ℕ, suc, ◌/◌, ◌%◌, ◌<◌, ◌^◌, ℤ, pos, negsuc, neg_ℤ, unsigned_abs, int_div, int_rem, int_le, int_lt, Bool, true, false, if◌then◌else◌, refl, ap, ◌∙◌, arith}
use Rattle.std.specs.Int.{int_div_euclid, int_shr}
use Rattle.std.proofs.lemmas.Bool.Decides.{nat_tests}
use Rattle.std.proofs.lemmas.Int.{ints}
use Rattle.pv_num.specs.declared.kinds.IntKind.{IntKind}
use Rattle.pv_num.specs.declared.kinds.IntKind.TheVariants.{Bool as BoolKind, Char}
use Rattle.pv_num.specs.Kinds.{Fits}
use Rattle.pv_num.specs.Arithmetic.{is_zero}

-- an absolute value fits into 64 bits
pub member_short : (k : IntKind) (n : ℤ) → Fits k n → unsigned_abs n < 2 ^ 64
member_short BoolKind n h = grind (arith, ints)
member_short Char n h = grind (arith, ints)
member_short _ n h = grind (arith, ints)

pub some_magnitude : (b : ℤ) → is_zero b ≡ false → 0 < unsigned_abs b
some_magnitude b h = grind (arith, ints)

never_below : (a : ℕ) → int_lt (pos a) (pos 0) ≡ false
never_below a = grind (arith, ints, nat_tests)

never_above : (a : ℕ) → int_le (pos 0) (pos a) ≡ true
never_above a = grind (arith, ints, nat_tests)

-- the number of an absolute value
abbrev signed : ℕ → Bool → ℤ
signed n s = if s then neg_ℤ (pos n) else pos n

pub quotient_by : (a b : ℤ) → (if (if int_lt a (pos 0) then int_le (pos 0) b else int_lt b (pos 0)) then neg_ℤ (pos (unsigned_abs a / unsigned_abs b)) else pos (unsigned_abs a / unsigned_abs b)) ≡ int_div a b
quotient_by (pos a) (pos b) =
    ap (λ (s : Bool). signed (a / b) (if s then int_le (pos 0) (pos b) else int_lt (pos b) (pos 0))) (never_below a) ∙ ap (signed (a / b)) (never_below b)
quotient_by (pos a) (negsuc b) = ap (λ (s : Bool). signed (a / suc b) (if s then int_le (pos 0) (negsuc b) else int_lt (negsuc b) (pos 0))) (never_below a)
quotient_by (negsuc a) (pos b) = ap (signed (suc a / b)) (never_above b)
quotient_by (negsuc a) (negsuc b) = refl

pub remainder_by : (a b : ℤ) → (if int_lt a (pos 0) then neg_ℤ (pos (unsigned_abs a % unsigned_abs b)) else pos (unsigned_abs a % unsigned_abs b)) ≡ int_rem a b
remainder_by (pos a) b = ap (signed (a % unsigned_abs b)) (never_below a)
remainder_by (negsuc a) b = refl

pub halved_by : (a : ℤ) (k : ℕ) → int_shr a k ≡ int_div_euclid a (pos (2 ^ k))
halved_by (pos a) k = refl
halved_by (negsuc a) k = refl
