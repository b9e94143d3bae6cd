-- Bytes that are filled with one value.
use Rattle.std.proofs.Common.{◌≡◌, ℕ, zero, suc, [], ◌∷◌, replicate, refl, ap}
use Rattle.std.specs.List.{repeat}
use Rattle.pv_shadow.specs.declared.byte.Byte.{Byte}
use Rattle.pv_object.specs.Memory.{Mem}
use Rattle.pv_object.specs.Copying.{with_bytes}
use Rattle.pv_libc.specs.Blocks.{after_filling, plain_byte}

repeated : (n : ℕ) (b : Byte) → replicate n b ≡ repeat n (b ∷ [])
repeated zero b = refl
repeated (suc n) b = ap (λ bs. b ∷ bs) (repeated n b)

pub all_filled : (M : Mem) (a n v : ℕ) → with_bytes M a (replicate n (plain_byte v)) ≡ after_filling M a n v
all_filled M a n v = ap (with_bytes M a) (repeated n (plain_byte v))
