-- Integer kinds: their widths, their order and the promotions, their members, and conversion to them.
use Rattle.std.specs.Prelude.{ℕ, zero, ◌-◌, ◌/◌, ◌^◌, Bool, true, false, ◌&&◌, if◌then◌else◌, nat_le, ℤ, pos, neg_ℤ, ◌-ℤ◌, ◌≤ℤ◌, unsigned_abs, int_le}
use Rattle.std.specs.Int.{int_rem_euclid}
use Rattle.pv_num.specs.declared.kinds.IntKind.{IntKind}
use Rattle.pv_num.specs.declared.kinds.IntKind.TheVariants.{Bool as BoolKind, Char, SChar, UChar, Short, UShort, Int, UInt, Long, ULong, LLong, ULLong}

-- 5.2.4.2.1, 6.2.6.2p6: the number of bits, the sign's included; of `_Bool` those of its byte; this target's choice
abbrev pub width : IntKind → ℕ
width Short = 16
width UShort = 16
width Int = 32
width UInt = 32
width Long = 64
width ULong = 64
width LLong = 64
width ULLong = 64
width _ = 8

-- 6.2.5p4 and p6: the signed and the unsigned kinds; 6.2.5p15: `char` is signed on this target
abbrev pub is_signed : IntKind → Bool
is_signed Char = true
is_signed SChar = true
is_signed Short = true
is_signed Int = true
is_signed Long = true
is_signed LLong = true
is_signed _ = false

-- 6.2.5p6: the unsigned kind of a signed one and the signed kind of an unsigned one; `char` and `_Bool` have no other
abbrev pub counterpart : IntKind → IntKind
counterpart SChar = UChar
counterpart UChar = SChar
counterpart Short = UShort
counterpart UShort = Short
counterpart Int = UInt
counterpart UInt = Int
counterpart Long = ULong
counterpart ULong = Long
counterpart LLong = ULLong
counterpart ULLong = LLong
counterpart k = k

-- 6.2.5p15: the character types: `char`, `signed char` and `unsigned char`
abbrev pub is_character_kind : IntKind → Bool
is_character_kind Char = true
is_character_kind SChar = true
is_character_kind UChar = true
is_character_kind _ = false

-- 6.3.1.1p1: the order of the kinds in conversions
abbrev pub rank : IntKind → ℕ
rank BoolKind = 0
rank Short = 2
rank UShort = 2
rank Int = 3
rank UInt = 3
rank Long = 4
rank ULong = 4
rank LLong = 5
rank ULLong = 5
rank _ = 1

-- 6.3.1.1p2: the integer promotions: on this target `int` has all values of the kinds of lesser rank
abbrev pub promotion_of : IntKind → IntKind
promotion_of BoolKind = Int
promotion_of Char = Int
promotion_of SChar = Int
promotion_of UChar = Int
promotion_of Short = Int
promotion_of UShort = Int
promotion_of k = k

-- 6.2.5p9: 2 to the width
abbrev pub modulus_of : IntKind → ℕ
modulus_of k = 2 ^ width k

-- 6.2.6.2p2: two's complement; the least member of a kind
abbrev pub least_member : IntKind → ℤ
least_member k = if is_signed k then neg_ℤ (pos (modulus_of k / 2)) else pos 0

-- its greatest member; 6.2.5p2: the members of `_Bool` are 0 and 1
abbrev pub greatest_member : IntKind → ℤ
greatest_member BoolKind = pos 1
greatest_member k = if is_signed k then pos (modulus_of k / 2 - 1) else pos (modulus_of k - 1)

-- 6.2.5: n is a member of the kind
abbrev pub Fits : IntKind → ℤ → Type 0
Fits k n = (least_member k ≤ℤ n) × (n ≤ℤ greatest_member k)

-- 6.2.5: whether n is a member of the kind
abbrev pub fits_of : IntKind → ℤ → Bool
fits_of k n = int_le (least_member k) n && int_le n (greatest_member k)

-- 6.2.6.2p2: n modulo 2 ^ width, which is the two's complement bits of n as a number
abbrev pub bits_of : IntKind → ℤ → ℕ
bits_of k n = unsigned_abs (int_rem_euclid n (pos (modulus_of k)))

-- 6.2.6.2p2: the member of the kind with these bits; at a signed kind the upper half is negative
abbrev pub from_bits_of : IntKind → ℕ → ℤ
from_bits_of k r = if is_signed k && nat_le (modulus_of k / 2) r then pos r -ℤ pos (modulus_of k) else pos r

-- 6.3.1.2: 0 of 0, and 1 of every other number
abbrev pub truth_of : ℤ → ℤ
truth_of (pos zero) = pos 0
truth_of _ = pos 1

-- 6.3.1.2 and 6.3.1.3: conversion, computed; 6.3.1.3p3: at a signed kind it wraps on this target
abbrev pub convert_of : IntKind → ℤ → ℤ
convert_of BoolKind n = truth_of n
convert_of k n = from_bits_of k (bits_of k n)
