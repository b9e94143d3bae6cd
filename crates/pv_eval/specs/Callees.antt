-- Which function may be called by a pointer (C17 6.3.2.3p8, 6.5.2.2p9), and which one an operation found.
use Rattle.std.specs.Prelude.{ℕ, Bool, false, ◌&&◌, nat_lt, Option, Some, None, length}
use Rattle.pv_types.specs.Ty.{Ty}
use Rattle.pv_types.specs.Compatible.{are_compatible}
use Rattle.pv_typed.specs.TypedTree.{is_function}
use Rattle.pv_typed.specs.TypedUnits.{function_at}
use Rattle.pv_eval.specs.States.{Setting}

-- 6.3.2.3p8: a function whose type is compatible with the one that is called; an instance that was made for none is none
abbrev pub may_call : Setting → Ty → Option ℕ → Bool
may_call b t (Some f) = is_function t && (nat_lt f (length b.unit.functions) && are_compatible (function_at b.unit f).t t)
may_call b t None = false
