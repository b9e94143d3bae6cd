-- What the typing of initializers asks of that of expressions and types. S is the state that typing threads from the left to the right.
use Rattle.std.specs.Prelude.{ℕ, Bool, Option, List}
use Rattle.pv_tree.specs.Syntax.{ExpressionTree}
use Rattle.pv_types.specs.Ty.{Ty}
use Rattle.pv_types.specs.Layouts.{Completed}
use Rattle.pv_typed.specs.TypedTree.{TypedTree}

-- a typed thing (6.5, 6.7.9), and the state behind it
pub record After (S A : Type 0) : Type 0 where
  pub value : A
  pub state : S

-- 6.4.5p6: a string literal: its number, and its characters with the zero behind them
pub record StringLiteral : Type 0 where
  pub number : ℕ
  pub characters : List ℕ

-- 6.7.9: what an initializer asks of expressions and types
pub record Rules (S : Type 0) : Type 0 where
  -- an expression, and its value taken (6.5, 6.3.2.1)
  pub operand : ExpressionTree → S → Option (After S TypedTree)
  -- the value as one of this type, converted as if by assignment (6.5.16.1p1), where the type is a scalar, a structure or a union
  pub assigned : S → Ty → TypedTree → Option TypedTree
  -- whether an expression is a constant of an initializer (6.6p7 to p9)
  pub constant : S → TypedTree → Bool
  -- string literals in a row (6.4.5p5), of which no object is made
  pub string : (line first more : ℕ) → S → After S StringLiteral
  -- the structures and unions that are complete, in the order of their completion
  pub completed : S → List Completed
