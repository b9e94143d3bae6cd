-- Conversion gives the member of the kind that is congruent to the number.
use Rattle.std.proofs.Common.{◌≡◌, ◌↔◌, subst, sym, ℕ, zero, suc, ◌/◌, ◌<◌, ℤ, pos, negsuc, ◌+ℤ◌, ◌*ℤ◌, ◌-ℤ◌, arith, unsigned_abs, Bool, true, false, if◌then◌else◌, ◌&&◌, nat_le}
use Rattle.std.specs.Int.{int_rem_euclid}
use Rattle.std.proofs.lemmas.Int.{ints}
use Rattle.std.proofs.lemmas.Bool.Decides.{nat_tests}
use Rattle.pv_num.specs.declared.kinds.IntKind.{IntKind}
use Rattle.pv_num.specs.declared.kinds.IntKind.TheVariants.{Bool as BoolKind, Char, SChar, UChar, Short, UShort, Int, UInt, Long, ULong, LLong, ULLong}
use Rattle.std.proofs.Math.IntN.{suc_ℤ, suc_ℤ-*ℤ}
use Rattle.std.proofs.lemmas.Nat.{pow_pos}
use Rattle.pv_num.specs.Kinds.{Fits, width, is_signed, convert_of, truth_of, bits_of, modulus_of, from_bits_of}
use Rattle.pv_num.specs.Operands.{IsCongruent, IsConversion}

convert_fits : (k : IntKind) (n : ℤ) → Fits k (convert_of k n)
convert_fits BoolKind (pos zero) = grind (arith, ints)
convert_fits BoolKind (pos (suc n)) = grind (arith, ints)
convert_fits BoolKind (negsuc n) = grind (arith, ints)
convert_fits Char n = grind (arith, ints, nat_tests)
convert_fits _ n = grind (arith, ints, nat_tests)

-- a number and its bits differ by a multiple of the modulus
bits_congruent : (n : ℤ) (m : ℕ) → 0 < m → IsCongruent m n (pos (unsigned_abs (int_rem_euclid n (pos m))))
bits_congruent (pos a) m h = (pos (a / m), omega (arith, ints))
bits_congruent (negsuc a) m h = (negsuc (a / m), omega (arith, ints))

-- and so they do once the modulus is taken off
wrapped_congruent : (upper : Bool) (m r : ℕ) (n : ℤ) → IsCongruent m n (pos r) → IsCongruent m n (if upper then pos r -ℤ pos m else pos r)
wrapped_congruent true m r n (q, e) =
    let step : suc_ℤ q *ℤ pos m ≡ q *ℤ pos m +ℤ pos m = suc_ℤ-*ℤ q (pos m) in
    (suc_ℤ q, omega (arith, ints))
wrapped_congruent false m r n c = c

truth_kept : (n : ℤ) → (truth_of n ≡ pos 0) ↔ (n ≡ pos 0)
truth_kept (pos zero) = grind (arith, ints)
truth_kept (pos (suc n)) = grind (arith, ints)
truth_kept (negsuc n) = grind (arith, ints)

from_bits_congruent : (k : IntKind) (r : ℕ) (n : ℤ) → IsCongruent (modulus_of k) n (pos r) → IsCongruent (modulus_of k) n (from_bits_of k r)
from_bits_congruent k r n c = wrapped_congruent (is_signed k && nat_le (modulus_of k / 2) r) (modulus_of k) r n c

converted_congruent : (k : IntKind) (n : ℤ) → IsCongruent (modulus_of k) n (from_bits_of k (bits_of k n))
converted_congruent k n = from_bits_congruent k (bits_of k n) n (bits_congruent n (modulus_of k) (pow_pos (width k)))

pub convert_congruent : (k : IntKind) (n : ℤ) → IsConversion k n (convert_of k n)
convert_congruent BoolKind n = truth_kept n
convert_congruent Char n = converted_congruent Char n
convert_congruent SChar n = converted_congruent SChar n
convert_congruent UChar n = converted_congruent UChar n
convert_congruent Short n = converted_congruent Short n
convert_congruent UShort n = converted_congruent UShort n
convert_congruent Int n = converted_congruent Int n
convert_congruent UInt n = converted_congruent UInt n
convert_congruent Long n = converted_congruent Long n
convert_congruent ULong n = converted_congruent ULong n
convert_congruent LLong n = converted_congruent LLong n
convert_congruent ULLong n = converted_congruent ULLong n

-- what is computed of a number is the conversion of it, under any name of the number
pub equal_value : (k : IntKind) (n m : ℤ) {n' : ℤ} → n' ≡ n → m ≡ convert_of k n' → m ≡ convert_of k n
equal_value k n m same e = subst (λ x. m ≡ convert_of k x) same e

pub equal_fits : (k : IntKind) (n m : ℤ) {n' : ℤ} → n' ≡ n → m ≡ convert_of k n' → Fits k m
equal_fits k n m same e = subst (Fits k) (sym (equal_value k n m same e)) (convert_fits k n)

pub equal_congruent : (k : IntKind) (n m : ℤ) {n' : ℤ} → n' ≡ n → m ≡ convert_of k n' → IsConversion k n m
equal_congruent k n m same e = subst (IsConversion k n) (sym (equal_value k n m same e)) (convert_congruent k n)
