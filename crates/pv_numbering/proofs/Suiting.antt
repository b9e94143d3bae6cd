-- What typing promises of operands looks at the table, at sizes and at values alone (C17 6.3, 6.5, 6.7.9): it is the same of values that are alike.
use Rattle.std.proofs.Common.{◌≡◌, ℕ, ◌+◌, ◌^◌, pos, neg_ℤ, int_le, ◌&&◌, ◌==◌, nat_le, List, [], ◌∷◌, refl, ap}
use Rattle.pv_types.specs.Known.{Known}
use Rattle.pv_inst.specs.Table.{Table}
use Rattle.pv_shadow.specs.declared.byte.Byte.{Byte}
use Rattle.pv_world.specs.declared.got.Shape.{Shape}
use Rattle.pv_world.specs.declared.got.Shape.TheVariants as shape
use Rattle.pv_world.specs.Worlds.{Worth}
use Rattle.pv_world.specs.Suiting.{knows, knows_worth, is_small, is_integer, is_stored, has_part}
use Rattle.pv_world.specs.SuitingParts.{knows_bytes}
use Rattle.pv_numbering.proofs.Marks.{AlikeBytes}
use Rattle.pv_numbering.proofs.Alike.{AlikeWorth}
use Rattle.pv_numbering.proofs.Bytes.{length-same}
use Rattle.pv_numbering.proofs.Worths.{by_worths, int-same}

module _ (m m' : Known) where
  bytes-same : (T : Table) (xs xs' : List Byte) → AlikeBytes m m' xs xs' → knows_bytes T xs' ≡ knows_bytes T xs
  bytes-same T [] [] h = refl
  bytes-same T (x ∷ xs) (x' ∷ xs') h = λ i. knows T (h.0.prov i) && bytes-same T xs xs' h.1 i
  bytes-same T [] (x' ∷ xs') h = absurd h
  bytes-same T (x ∷ xs) [] h = absurd h

  pub knows-same : (T : Table) (v v' : Worth) → AlikeWorth m m' v v' → knows_worth T v' ≡ knows_worth T v
  knows-same T = by_worths m m' (λ v v'. knows_worth T v' ≡ knows_worth T v) refl refl (λ v. refl) (λ xs xs' a h. bytes-same T xs xs' h)

  pub is_small-same : (v v' : Worth) → AlikeWorth m m' v v' → is_small v' ≡ is_small v
  is_small-same v v' h = ap (λ n. int_le (neg_ℤ (pos (2 ^ 64))) n && int_le n (pos (2 ^ 64))) (int-same m m' v v' h)

  pub is_integer-same : (v v' : Worth) → AlikeWorth m m' v v' → is_integer v' ≡ is_integer v
  is_integer-same = by_worths m m' (λ v v'. is_integer v' ≡ is_integer v) refl refl (λ v. refl) (λ xs xs' a h. refl)

  pub has_part-same : (offset size : ℕ) (v v' : Worth) → AlikeWorth m m' v v' → has_part v' offset size ≡ has_part v offset size
  has_part-same offset size =
      by_worths m m' (λ v v'. has_part v' offset size ≡ has_part v offset size) refl refl (λ v. refl) (λ xs xs' a h. ap (nat_le (offset + size)) (length-same m m' xs xs' h))

  pub is_stored-same : (s : Shape) (n : ℕ) (v v' : Worth) → AlikeWorth m m' v v' → is_stored s n v' ≡ is_stored s n v
  is_stored-same (shape.Int k) n = by_worths m m' (λ v v'. is_stored (shape.Int k) n v' ≡ is_stored (shape.Int k) n v) refl refl (λ v. refl) (λ xs xs' a h. refl)
  is_stored-same shape.Pointer n = by_worths m m' (λ v v'. is_stored shape.Pointer n v' ≡ is_stored shape.Pointer n v) refl refl (λ v. refl) (λ xs xs' a h. refl)
  is_stored-same shape.Whole n =
      by_worths m m' (λ v v'. is_stored shape.Whole n v' ≡ is_stored shape.Whole n v) refl refl (λ v. refl) (λ xs xs' a h. ap (λ k. n == k) (length-same m m' xs xs' h))
