-- The kind of an integer constant (C17 6.4.4.1): the first of its list that has its value.
use Rattle.std.specs.Prelude.{ℕ, ℤ, ◌+◌, Bool, true, false, not, ◌&&◌, if◌then◌else◌, nat_le, Option, Some, None, List, [], ◌∷◌}
use Rattle.pv_num.specs.declared.kinds.IntKind.{IntKind}
use Rattle.pv_num.specs.declared.kinds.IntKind.TheVariants.{Int, UInt, Long, ULong, LLong, ULLong}
use Rattle.pv_num.specs.Kinds.{is_signed, rank, fits_of}

-- 6.4.4.1p5: with a suffix `u` the unsigned ones alone; in base 10 without it the signed ones alone
abbrev pub suits_suffix : (decimal unsigned signed : Bool) → Bool
suits_suffix decimal true signed = not signed
suits_suffix true false signed = signed
suits_suffix false false signed = true

-- 6.4.4.1p5: and of a suffix that has `l` so often, none of lesser rank
abbrev pub may_have : (decimal unsigned : Bool) → (longs : ℕ) → IntKind → Bool
may_have decimal unsigned longs k = suits_suffix decimal unsigned (is_signed k) && nat_le (rank Int + longs) (rank k)

-- 6.4.4.1p5: the first of the kinds that the constant may have and that has the value
abbrev pub first_kind : (decimal unsigned : Bool) → (longs : ℕ) → ℤ → List IntKind → Option IntKind
first_kind decimal unsigned longs n [] = None
first_kind decimal unsigned longs n (k ∷ ks) = if may_have decimal unsigned longs k && fits_of k n then Some k else first_kind decimal unsigned longs n ks

-- 6.4.4.1p5: the kind of a constant, by its base, its suffix and its value: the first of these that it may have
-- worked: kind_of_constant_rows (proofs/ConstantExamples)
abbrev pub kind_of_constant : (decimal unsigned : Bool) → (longs : ℕ) → ℤ → Option IntKind
kind_of_constant decimal unsigned longs n = first_kind decimal unsigned longs n (Int ∷ UInt ∷ Long ∷ ULong ∷ LLong ∷ ULLong ∷ [])
