-- Numbers of integer types pass the tests of operations.
use Rattle.std.proofs.Common.{◌≡◌, ℤ, pos, neg_ℤ, arith, Bool, true, false, ◌&&◌, int_le}
use Rattle.std.specs.Prelude.{◌≤ℤ◌, ◌^◌, ◌-◌}
use Rattle.std.proofs.lemmas.Int.{ints}
use Rattle.std.proofs.lemmas.Bool.Decides.{nat_tests}
use Rattle.pv_num.specs.declared.kinds.IntKind.{IntKind}
use Rattle.pv_num.specs.declared.kinds.IntKind.TheVariants.{Bool as BoolKind, Char, SChar, UChar, Short, UShort, Int, UInt, Long, ULong, LLong, ULLong}
use Rattle.pv_num.specs.Arithmetic.{IsPromoted}
use Rattle.pv_num.specs.Kinds.{Fits, fits_of, least_member, greatest_member, promotion_of}

pub both : (a b : Bool) → a ≡ true → b ≡ true → (a && b) ≡ true
both true b e f = f
both false b e f = absurd cc

pub le_tested : (a b : ℤ) → a ≤ℤ b → int_le a b ≡ true
le_tested a b h = grind (arith, ints, nat_tests)

pub fits_tested : (k : IntKind) (n : ℤ) → Fits k n → fits_of k n ≡ true
fits_tested k n h = both (int_le (least_member k) n) (int_le n (greatest_member k)) (le_tested (least_member k) n h.0) (le_tested n (greatest_member k) h.1)

-- 6.2.5: every kind lies within these
pub within_all : (k : IntKind) (n : ℤ) → Fits k n → (neg_ℤ (pos (2 ^ 63)) ≤ℤ n) × (n ≤ℤ pos (2 ^ 64 - 1))
within_all BoolKind n h = (grind (arith, ints), grind (arith, ints))
within_all Char n h = (grind (arith, ints), grind (arith, ints))
within_all SChar n h = (grind (arith, ints), grind (arith, ints))
within_all UChar n h = (grind (arith, ints), grind (arith, ints))
within_all Short n h = (grind (arith, ints), grind (arith, ints))
within_all UShort n h = (grind (arith, ints), grind (arith, ints))
within_all Int n h = (grind (arith, ints), grind (arith, ints))
within_all UInt n h = (grind (arith, ints), grind (arith, ints))
within_all Long n h = (grind (arith, ints), grind (arith, ints))
within_all ULong n h = (grind (arith, ints), grind (arith, ints))
within_all LLong n h = (grind (arith, ints), grind (arith, ints))
within_all ULLong n h = (grind (arith, ints), grind (arith, ints))

-- 0 is one of every kind
pub zero_fits : (k : IntKind) → Fits k (pos 0)
zero_fits BoolKind = (grind (arith, ints), grind (arith, ints))
zero_fits Char = (grind (arith, ints), grind (arith, ints))
zero_fits SChar = (grind (arith, ints), grind (arith, ints))
zero_fits UChar = (grind (arith, ints), grind (arith, ints))
zero_fits Short = (grind (arith, ints), grind (arith, ints))
zero_fits UShort = (grind (arith, ints), grind (arith, ints))
zero_fits Int = (grind (arith, ints), grind (arith, ints))
zero_fits UInt = (grind (arith, ints), grind (arith, ints))
zero_fits Long = (grind (arith, ints), grind (arith, ints))
zero_fits ULong = (grind (arith, ints), grind (arith, ints))
zero_fits LLong = (grind (arith, ints), grind (arith, ints))
zero_fits ULLong = (grind (arith, ints), grind (arith, ints))

-- 6.3.1.1p2: `int` has the numbers of the lesser kinds
pub promoted_widens : (k : IntKind) (n : ℤ) → Fits k n → Fits (promotion_of k) n
promoted_widens BoolKind n h = (grind (arith, ints), grind (arith, ints))
promoted_widens Char n h = (grind (arith, ints), grind (arith, ints))
promoted_widens SChar n h = (grind (arith, ints), grind (arith, ints))
promoted_widens UChar n h = (grind (arith, ints), grind (arith, ints))
promoted_widens Short n h = (grind (arith, ints), grind (arith, ints))
promoted_widens UShort n h = (grind (arith, ints), grind (arith, ints))
promoted_widens Int n h = h
promoted_widens UInt n h = h
promoted_widens Long n h = h
promoted_widens ULong n h = h
promoted_widens LLong n h = h
promoted_widens ULLong n h = h

pub promoted_is : (k : IntKind) → IsPromoted (promotion_of k)
promoted_is BoolKind = omega arith
promoted_is Char = omega arith
promoted_is SChar = omega arith
promoted_is UChar = omega arith
promoted_is Short = omega arith
promoted_is UShort = omega arith
promoted_is Int = omega arith
promoted_is UInt = omega arith
promoted_is Long = omega arith
promoted_is ULong = omega arith
promoted_is LLong = omega arith
promoted_is ULLong = omega arith

pub one_fits : (k : IntKind) → Fits (promotion_of k) (pos 1)
one_fits BoolKind = (grind (arith, ints), grind (arith, ints))
one_fits Char = (grind (arith, ints), grind (arith, ints))
one_fits SChar = (grind (arith, ints), grind (arith, ints))
one_fits UChar = (grind (arith, ints), grind (arith, ints))
one_fits Short = (grind (arith, ints), grind (arith, ints))
one_fits UShort = (grind (arith, ints), grind (arith, ints))
one_fits Int = (grind (arith, ints), grind (arith, ints))
one_fits UInt = (grind (arith, ints), grind (arith, ints))
one_fits Long = (grind (arith, ints), grind (arith, ints))
one_fits ULong = (grind (arith, ints), grind (arith, ints))
one_fits LLong = (grind (arith, ints), grind (arith, ints))
one_fits ULLong = (grind (arith, ints), grind (arith, ints))

-- and so is 1
pub one_in : (k : IntKind) → Fits k (pos 1)
one_in BoolKind = (grind (arith, ints), grind (arith, ints))
one_in Char = (grind (arith, ints), grind (arith, ints))
one_in SChar = (grind (arith, ints), grind (arith, ints))
one_in UChar = (grind (arith, ints), grind (arith, ints))
one_in Short = (grind (arith, ints), grind (arith, ints))
one_in UShort = (grind (arith, ints), grind (arith, ints))
one_in Int = (grind (arith, ints), grind (arith, ints))
one_in UInt = (grind (arith, ints), grind (arith, ints))
one_in Long = (grind (arith, ints), grind (arith, ints))
one_in ULong = (grind (arith, ints), grind (arith, ints))
one_in LLong = (grind (arith, ints), grind (arith, ints))
one_in ULLong = (grind (arith, ints), grind (arith, ints))
