-- Values of expressions that are alike (C17 6.5p1): operations look at what is the same in both.
use Rattle.std.proofs.Common.{◌≡◌, ℕ, List, Option, refl, sym, subst}
use Rattle.pv_types.specs.Known.{Known}
use Rattle.pv_shadow.specs.declared.byte.Byte.{Byte}
use Rattle.pv_object.specs.declared.values.Value.{Value}
use Rattle.pv_world.specs.Worlds.{Worth, Nothing, Missing, Scalar, Whole}
use Rattle.pv_world.specs.Worths.{int_of, pointer_of, value_of, bytes_of, why_not_set, why_missing}
use Rattle.pv_numbering.proofs.Marks.{AlikeBytes}
use Rattle.pv_numbering.proofs.Alike.{AlikeWorth}

module _ (m m' : Known) where
  -- what holds of each two values that are alike
  module _ (P : Worth → Worth → Type 0) where
    pub by_worths : P Nothing Nothing → P Missing Missing → ((v : Value) → P (Scalar v) (Scalar v))
        → ((xs xs' : List Byte) (a : Option ℕ) → AlikeBytes m m' xs xs' → P (Whole xs a) (Whole xs' a)) → (v v' : Worth) → AlikeWorth m m' v v' → P v v'
    by_worths n k f g Nothing Nothing h = n
    by_worths n k f g Missing Missing h = k
    by_worths n k f g (Scalar v) (Scalar v') h = subst (λ x. P (Scalar v) (Scalar x)) (sym h) (f v)
    by_worths n k f g (Whole xs a) (Whole xs' a') h = subst (λ x. P (Whole xs a) (Whole xs' x)) (sym h.1) (g xs xs' a h.0)
    by_worths n k f g Nothing Missing h = absurd h
    by_worths n k f g Nothing (Scalar v') h = absurd h
    by_worths n k f g Nothing (Whole xs' a') h = absurd h
    by_worths n k f g Missing Nothing h = absurd h
    by_worths n k f g Missing (Scalar v') h = absurd h
    by_worths n k f g Missing (Whole xs' a') h = absurd h
    by_worths n k f g (Scalar v) Nothing h = absurd h
    by_worths n k f g (Scalar v) Missing h = absurd h
    by_worths n k f g (Scalar v) (Whole xs' a') h = absurd h
    by_worths n k f g (Whole xs a) Nothing h = absurd h
    by_worths n k f g (Whole xs a) Missing h = absurd h
    by_worths n k f g (Whole xs a) (Scalar v') h = absurd h

  -- what looks at no bytes is the same
  same_on : {A : Type 0} (f : Worth → A) → ((xs xs' : List Byte) (a : Option ℕ) → f (Whole xs' a) ≡ f (Whole xs a)) → (v v' : Worth) → AlikeWorth m m' v v' → f v' ≡ f v
  same_on f g = by_worths (λ v v'. f v' ≡ f v) refl refl (λ v. refl) (λ xs xs' a h. g xs xs' a)

  pub int-same : (v v' : Worth) → AlikeWorth m m' v v' → int_of v' ≡ int_of v
  int-same = same_on int_of (λ xs xs' a. refl)

  pub pointer-same : (v v' : Worth) → AlikeWorth m m' v v' → pointer_of v' ≡ pointer_of v
  pointer-same = same_on pointer_of (λ xs xs' a. refl)

  pub value-same : (v v' : Worth) → AlikeWorth m m' v v' → value_of v' ≡ value_of v
  value-same = same_on value_of (λ xs xs' a. refl)

  pub unplain-same : (v v' : Worth) → AlikeWorth m m' v v' → why_not_set v' ≡ why_not_set v
  unplain-same = same_on why_not_set (λ xs xs' a. refl)

  pub unpresent-same : (v v' : Worth) → AlikeWorth m m' v v' → why_missing v' ≡ why_missing v
  unpresent-same = same_on why_missing (λ xs xs' a. refl)

  pub bytes-alike : (v v' : Worth) → AlikeWorth m m' v v' → AlikeBytes m m' (bytes_of v) (bytes_of v')
  bytes-alike = by_worths (λ v v'. AlikeBytes m m' (bytes_of v) (bytes_of v')) tt tt (λ v. tt) (λ xs xs' a h. h)
