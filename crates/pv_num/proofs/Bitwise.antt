-- The joined bits of two members are those of a member.
use Rattle.std.proofs.Common.{◌<◌, ◌^◌, ℤ, arith, bit_and, bit_or, bit_xor}
use Rattle.std.specs.Int.Bits.{and_lt, or_lt, xor_lt}
use Rattle.pv_num.specs.declared.kinds.IntKind.{IntKind}
use Rattle.pv_num.specs.declared.kinds.IntKind.TheVariants.{Bool as BoolKind, Char}
use Rattle.pv_num.specs.Kinds.{width, modulus_of, bits_of}

bits_lt : (k : IntKind) (n : ℤ) → bits_of k n < 2 ^ width k
bits_lt BoolKind n = grind arith
bits_lt Char n = grind arith
bits_lt _ n = grind arith

pub and_fits : (k : IntKind) (m n : ℤ) → bit_and (bits_of k m) (bits_of k n) < modulus_of k
and_fits k m n = and_lt (width k) _ _ (bits_lt k m) (bits_lt k n)

pub or_fits : (k : IntKind) (m n : ℤ) → bit_or (bits_of k m) (bits_of k n) < modulus_of k
or_fits k m n = or_lt (width k) _ _ (bits_lt k m) (bits_lt k n)

pub xor_fits : (k : IntKind) (m n : ℤ) → bit_xor (bits_of k m) (bits_of k n) < modulus_of k
xor_fits k m n = xor_lt (width k) _ _ (bits_lt k m) (bits_lt k n)
