-- The type of `main` (C17 5.1.2.2.1).
use Rattle.std.specs.Prelude.{false}
use Rattle.pv_num.specs.declared.kinds.IntKind.TheVariants as kind
use Rattle.pv_types.specs.Ty.{Ty, IntTy, FunctionTy, NoTys}

-- 5.1.2.2.1p1: the type of `main`, without parameters
abbrev pub main_type : Ty
main_type = FunctionTy (IntTy kind.Int) NoTys false
