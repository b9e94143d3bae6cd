-- A bridge: which operands the operators take (6.5.5 to 6.5.12), and what a conversion answers (6.3.1).
use Rattle.std.specs.Prelude.{◌-◌, ◌^◌, ℤ, pos, neg_ℤ, ◌≤ℤ◌, ◌≡◌, ℕ, ◌+ℤ◌, ◌*ℤ◌, ◌↔◌}
use Rattle.pv_num.specs.declared.kinds.IntKind.{IntKind}
use Rattle.pv_num.specs.declared.operators.BinOp.{BinOp}
use Rattle.pv_num.specs.declared.operators.BinOp.TheVariants.{Shl, Shr}
use Rattle.pv_num.specs.Kinds.{Fits, modulus_of}
use Rattle.pv_num.specs.declared.kinds.IntKind.TheVariants.{Bool as BoolKind}

-- 6.5.5 to 6.5.12: what the right operand may be: a member of the kind, and for a shift (6.5.7p3) a member of any promoted kind
abbrev pub IsOperand : BinOp → IntKind → ℤ → Type 0
IsOperand Shl k b = (neg_ℤ (pos (2 ^ 63)) ≤ℤ b) × (b ≤ℤ pos (2 ^ 64 - 1))
IsOperand Shr k b = (neg_ℤ (pos (2 ^ 63)) ≤ℤ b) × (b ≤ℤ pos (2 ^ 64 - 1))
IsOperand _ k b = Fits k b

-- 6.3.1.3p2: m and n differ by a multiple of d
abbrev pub IsCongruent : ℕ → ℤ → ℤ → Type 0
IsCongruent d m n = (q : ℤ) × (m ≡ n +ℤ q *ℤ pos d)

-- 6.3.1.2 and 6.3.1.3: what a member of the kind has to be in order to be n converted: at `_Bool` zero exactly
-- for zero, else congruent to n modulo 2 ^ width
abbrev pub IsConversion : IntKind → ℤ → ℤ → Type 0
IsConversion BoolKind n m = (m ≡ pos 0) ↔ (n ≡ pos 0)
IsConversion k n m = IsCongruent (modulus_of k) n m

-- 6.3.1.3p1: the numbers that may be converted, which every operand and every difference of two addresses is among
abbrev pub IsConvertible : ℤ → Type 0
IsConvertible n = (neg_ℤ (pos (2 ^ 64)) ≤ℤ n) × (n ≤ℤ pos (2 ^ 64))
