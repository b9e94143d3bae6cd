-- What the rules of expressions say.
use Rattle.std.proofs.Common.{◌≡◌, ℕ, refl}
use Rattle.pv_tree.specs.Syntax.{ExpressionTree}
use Rattle.pv_types.specs.Ty.{Ty}
use Rattle.pv_typed.specs.TypedTree.{TypedTree}
use Rattle.pv_check.specs.StringLiterals.{bytes_of_text}
use Rattle.pv_check.specs.Rows.{operand}
use Rattle.pv_check.specs.State.{State}
use Rattle.pv_check.specs.Typing.{types}
use Rattle.pv_check.specs.Values.{as_if_assigned}
use Rattle.pv_unit.specs.ValueRules.{filling_text, to_initializers, values}

pub values_operand : (a : ExpressionTree) (s : State) → values.operand a s ≡ to_initializers (operand (types a s))
unfolding values
values_operand a s = refl

pub values_assigned : (s : State) (t : Ty) (e : TypedTree) → values.assigned s t e ≡ as_if_assigned t e
unfolding values
values_assigned s t e = refl

pub values_string : (line first more : ℕ) (s : State) → values.string line first more s ≡ filling_text line (bytes_of_text s.texts first more) s
unfolding values
values_string line first more s = refl

pub values_completed : (s : State) → values.completed s ≡ s.unit.completed
unfolding values
values_completed s = refl
