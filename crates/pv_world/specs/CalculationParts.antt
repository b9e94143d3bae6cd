-- A bridge: what functions answer that do a part of what Calculations says.
use Rattle.pv_world.specs.Doing.{Answers, Done}
use Rattle.pv_world.specs.Worlds.{World, Worth}
use Rattle.pv_world.specs.Worths.{on_present_value, on_set_value, arithmetic_result, int_of}
use Rattle.pv_world.specs.Telling.{no_telling}
use Rattle.pv_num.specs.declared.operators.BinOp.{BinOp}
use Rattle.pv_num.specs.declared.kinds.IntKind.{IntKind}
use Rattle.pv_num.specs.Arithmetic.{binary_of, unary_of}
use Rattle.pv_num.specs.declared.operators.UnOp.{UnOp}

-- a value that is passed on
abbrev pub accepts : Worth → World → Done
accepts v w = on_present_value v w (λ v. Answers v w no_telling)

-- a value that is looked at
abbrev pub needs : Worth → World → Done
needs v w = on_set_value v w (λ v. Answers v w no_telling)

-- the left operand is looked at first
abbrev pub calculates : BinOp → IntKind → Worth → Worth → World → Done
calculates op k v x w = on_set_value v w (λ v. on_set_value x w (λ x. arithmetic_result w (binary_of op k (int_of v) (int_of x))))

-- 6.5.3.3
abbrev pub calculates_one : UnOp → IntKind → Worth → World → Done
calculates_one op k v w = on_set_value v w (λ v. arithmetic_result w (unary_of op k (int_of v)))
