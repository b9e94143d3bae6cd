-- A bridge: what functions answer that do a part of what Derivations says.
use Rattle.std.specs.declared.option.Option.{Option}
use Rattle.std.specs.Prelude.{Bool, None, if◌then◌else◌, Some}
use Rattle.pv_types.specs.Ty.{PointerTo, Ty, Tys, FunctionTy}
use Rattle.pv_check.specs.Qualified.{with_const}
use Rattle.pv_types.specs.Sorts.{bare_type}
use Rattle.pv_check.specs.Sorts.{is_array}
use Rattle.pv_typed.specs.TypedTree.{is_function}

-- 6.7.6.1p1: a pointer to the type, `const` or not
abbrev pub pointer_to : Bool → Ty → Option Ty
pointer_to constant t = with_const constant (PointerTo t)

-- 6.7.6.3p1: the result is no function and no array; p5: it is bare
abbrev pub function_of : Tys → Bool → Ty → Option Ty
function_of ts variadic t = if is_function t then None else (if is_array t then None else Some (FunctionTy (bare_type t) ts variadic))
