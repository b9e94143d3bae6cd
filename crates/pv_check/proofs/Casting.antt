-- Casts between integer types.
use Rattle.std.proofs.Common.{◌≡◌, Bool, true, ◌&&◌, ◌||◌, refl}
use Rattle.std.specs.Prelude.{if◌then◌else◌, is_some}
use Rattle.pv_types.specs.Ty.{Ty, IntTy}
use Rattle.pv_check.specs.Sorts.{is_truth_kind}
use Rattle.pv_types.specs.Sorts.{kind_in, kind_of, pointed_in, is_scalar_in, is_void_in, bare_type}
use Rattle.pv_check.specs.SortParts.{is_function_if}
use Rattle.pv_check.specs.Unary.{may_cast}

-- whether a cast is permitted, by the types without qualifiers
abbrev permitted : Ty → Ty → Bool → Bool
permitted t u null =
    if is_void_in t then true
    else (if is_function_if (pointed_in u) then is_function_if (pointed_in t) || is_truth_kind (kind_in t)
    else (if is_function_if (pointed_in t) then null else is_scalar_in t && is_scalar_in u))

integers_permitted : (t u : Ty) → is_some (kind_in t) ≡ true → is_some (kind_in u) ≡ true → (null : Bool) → permitted t u null ≡ true
integers_permitted (IntTy k) (IntTy l) h j null = refl
integers_permitted (IntTy k) _ h j null = absurd cc
integers_permitted _ _ h j null = absurd cc

pub integers_cast : (t u : Ty) → is_some (kind_of t) ≡ true → is_some (kind_of u) ≡ true → (null : Bool) → may_cast t u null ≡ true
integers_cast t u h j null = integers_permitted (bare_type t) (bare_type u) h j null
