-- Types that parameters may have (6.7.6.3).
use Rattle.std.specs.Prelude.{Bool, true, false}
use Rattle.pv_types.specs.Ty.{Ty, ArrayOf, FunctionTy, ConstOf}

-- 6.7.6.3p7, p8: no parameter's type is an array or function type, qualifiers aside: one that is declared so is a pointer
abbrev pub is_adjusted : Ty → Bool
is_adjusted (ArrayOf t n) = false
is_adjusted (FunctionTy t ts v) = false
is_adjusted (ConstOf t) = is_adjusted t
is_adjusted _ = true
