-- A bridge: the operators by their tokens: the level of the whole and the loosest levels of its operands (6.5.2 to 6.5.17).
use Rattle.std.specs.Prelude.{ℕ, suc, Option, Some, None, option_map}
use Rattle.pv_token.specs.declared.token_table.TokenKind.{TokenKind}
use Rattle.pv_token.specs.declared.token_table.TokenKind.TheVariants as kind
use Rattle.pv_token.specs.declared.words.Word.TheVariants as word
use Rattle.pv_token.specs.declared.marks.Mark.{Mark}
use Rattle.pv_token.specs.declared.marks.Mark.TheVariants as mark
use Rattle.pv_tree.specs.declared.operators.UnaryOperator.TheVariants as unary
use Rattle.pv_tree.specs.declared.operators.BinaryOperator.{BinaryOperator}
use Rattle.pv_tree.specs.declared.operators.BinaryOperator.TheVariants as binary
use Rattle.pv_tree.specs.declared.operators.AssignOperator.{AssignOperator}
use Rattle.pv_tree.specs.declared.operators.AssignOperator.TheVariants as assign
use Rattle.pv_tree.specs.Syntax.{ExpressionTree, PreIncrement, PreDecrement, SizeofExpr, Unary, Binary, Assign, Comma}
use Rattle.pv_tree.specs.Levels.{unary_mark, binary_mark, assign_mark, binary_rank}
use Rattle.pv_tree.specs.Lines.{expression_line}
use Rattle.pv_expr_forms.specs.declared.follows.Prefix.{Prefix}
use Rattle.pv_expr_forms.specs.declared.follows.Prefix.TheVariants as prefix
use Rattle.pv_expr_forms.specs.declared.follows.Join.{Join}
use Rattle.pv_expr_forms.specs.declared.follows.Join.TheVariants as join
use Rattle.pv_expr_forms.specs.declared.follows.Follow.{Follow}
use Rattle.pv_expr_forms.specs.declared.follows.Follow.TheVariants as follow

-- ---- before an operand (6.5.3p1)

-- 6.5.3p1: how an operator before its operand is written
abbrev pub prefix_token : Prefix → TokenKind
prefix_token prefix.Increment = kind.Mark mark.Increment
prefix_token prefix.Decrement = kind.Mark mark.Decrement
prefix_token prefix.Sizeof = kind.Word word.Sizeof
prefix_token (prefix.Unary op) = kind.Mark (unary_mark op)

-- 6.5.3p1: the operator that a token is before an operand
abbrev pub prefix_of : TokenKind → Option Prefix
prefix_of (kind.Word word.Sizeof) = Some prefix.Sizeof
prefix_of (kind.Mark mark.Increment) = Some prefix.Increment
prefix_of (kind.Mark mark.Decrement) = Some prefix.Decrement
prefix_of (kind.Mark mark.And) = Some (prefix.Unary unary.Address)
prefix_of (kind.Mark mark.Star) = Some (prefix.Unary unary.Indirection)
prefix_of (kind.Mark mark.Plus) = Some (prefix.Unary unary.Plus)
prefix_of (kind.Mark mark.Minus) = Some (prefix.Unary unary.Minus)
prefix_of (kind.Mark mark.Tilde) = Some (prefix.Unary unary.Complement)
prefix_of (kind.Mark mark.Not) = Some (prefix.Unary unary.Not)
prefix_of _ = None

-- 6.5.3p1: the loosest level of the operand
abbrev pub prefix_operand : Prefix → ℕ
prefix_operand prefix.Increment = 15
prefix_operand prefix.Decrement = 15
prefix_operand prefix.Sizeof = 15
prefix_operand (prefix.Unary op) = 14

-- 6.5.3p1: the operator with its operand
abbrev pub prefix_tree : (line : ℕ) → Prefix → ExpressionTree → ExpressionTree
prefix_tree line prefix.Increment a = PreIncrement line a
prefix_tree line prefix.Decrement a = PreDecrement line a
prefix_tree line prefix.Sizeof a = SizeofExpr line a
prefix_tree line (prefix.Unary op) a = Unary line op a

-- ---- between two operands (6.5.5 to 6.5.14, 6.5.16, 6.5.17)

-- 6.5.5p1 to 6.5.14p1: the operator that a mark is between two operands
abbrev pub binary_of : Mark → Option BinaryOperator
binary_of mark.Star = Some binary.Multiply
binary_of mark.Slash = Some binary.Divide
binary_of mark.Percent = Some binary.Remainder
binary_of mark.Plus = Some binary.Add
binary_of mark.Minus = Some binary.Subtract
binary_of mark.Shl = Some binary.ShiftLeft
binary_of mark.Shr = Some binary.ShiftRight
binary_of mark.Less = Some binary.Less
binary_of mark.Greater = Some binary.Greater
binary_of mark.LessEqual = Some binary.LessEqual
binary_of mark.GreaterEqual = Some binary.GreaterEqual
binary_of mark.Equal = Some binary.Equal
binary_of mark.NotEqual = Some binary.NotEqual
binary_of mark.And = Some binary.And
binary_of mark.Caret = Some binary.ExclusiveOr
binary_of mark.Or = Some binary.Or
binary_of mark.AndAnd = Some binary.LogicalAnd
binary_of mark.OrOr = Some binary.LogicalOr
binary_of _ = None

-- 6.5.16p1: the assignment that a mark is
abbrev pub assign_of : Mark → Option AssignOperator
assign_of mark.Assign = Some assign.Assign
assign_of mark.MulAssign = Some assign.Multiply
assign_of mark.DivAssign = Some assign.Divide
assign_of mark.RemAssign = Some assign.Remainder
assign_of mark.AddAssign = Some assign.Add
assign_of mark.SubAssign = Some assign.Subtract
assign_of mark.ShlAssign = Some assign.ShiftLeft
assign_of mark.ShrAssign = Some assign.ShiftRight
assign_of mark.AndAssign = Some assign.And
assign_of mark.XorAssign = Some assign.ExclusiveOr
assign_of mark.OrAssign = Some assign.Or
assign_of _ = None

-- 6.5.5p1 to 6.5.17p1: how an operator between two operands is written
abbrev pub join_mark : Join → Mark
join_mark (join.Binary op) = binary_mark op
join_mark (join.Assign op) = assign_mark op
join_mark join.Comma = mark.Comma

-- 6.5.5p1 to 6.5.17p1: the level of the whole
abbrev pub join_rank : Join → ℕ
join_rank (join.Binary op) = binary_rank op
join_rank (join.Assign op) = 2
join_rank join.Comma = 1

-- 6.5.5p1 to 6.5.17p1: the loosest level of the left operand
abbrev pub join_left : Join → ℕ
join_left (join.Binary op) = binary_rank op
join_left (join.Assign op) = 15
join_left join.Comma = 1

-- 6.5.5p1 to 6.5.17p1: the loosest level of the right operand
abbrev pub join_right : Join → ℕ
join_right (join.Binary op) = suc (binary_rank op)
join_right (join.Assign op) = 2
join_right join.Comma = 2

-- 6.5.5 to 6.5.17: the whole, whose first token is that of its left operand
abbrev pub join_tree : Join → (a b : ExpressionTree) → ExpressionTree
join_tree (join.Binary op) a b = Binary (expression_line a) op a b
join_tree (join.Assign op) a b = Assign (expression_line a) op a b
join_tree join.Comma a b = Comma (expression_line a) a b

-- ---- behind an operand

-- 6.5.2p1, 6.5.15p1, 6.5.17p1: what else a mark may be behind an operand
abbrev pub other_of : Mark → Option Follow
other_of mark.Comma = Some (follow.Join join.Comma)
other_of mark.Question = Some follow.Ask
other_of mark.OpenBracket = Some follow.Index
other_of mark.OpenParen = Some follow.Call
other_of mark.Dot = Some follow.Dot
other_of mark.Arrow = Some follow.Arrow
other_of mark.Increment = Some follow.Increment
other_of mark.Decrement = Some follow.Decrement
other_of _ = None

-- the first of two answers that there is
abbrev pub or_else : {A : Type 0} → Option A → Option A → Option A
or_else None o = o
or_else (Some x) o = Some x

-- 6.5.2p1, 6.5.5p1 to 6.5.17p1: how an expression goes on with a mark
abbrev pub follow_of_mark : Mark → Option Follow
follow_of_mark m = or_else (option_map (λ op. follow.Join (join.Binary op)) (binary_of m)) (or_else (option_map (λ op. follow.Join (join.Assign op)) (assign_of m)) (other_of m))

-- the same with a token: it goes on with a mark alone
abbrev pub follow_of : TokenKind → Option Follow
follow_of (kind.Mark m) = follow_of_mark m
follow_of _ = None

-- the mark with which it goes on so
abbrev pub follow_mark : Follow → Mark
follow_mark (follow.Join op) = join_mark op
follow_mark follow.Ask = mark.Question
follow_mark follow.Index = mark.OpenBracket
follow_mark follow.Call = mark.OpenParen
follow_mark follow.Dot = mark.Dot
follow_mark follow.Arrow = mark.Arrow
follow_mark follow.Increment = mark.Increment
follow_mark follow.Decrement = mark.Decrement

-- 6.5.2p1, 6.5.5p1 to 6.5.17p1: the level of the whole
abbrev pub follow_rank : Follow → ℕ
follow_rank (follow.Join op) = join_rank op
follow_rank follow.Ask = 3
follow_rank follow.Index = 16
follow_rank follow.Call = 16
follow_rank follow.Dot = 16
follow_rank follow.Arrow = 16
follow_rank follow.Increment = 16
follow_rank follow.Decrement = 16

-- 6.5.2p1, 6.5.5p1 to 6.5.17p1: the loosest level of what goes on
abbrev pub follow_left : Follow → ℕ
follow_left (follow.Join op) = join_left op
follow_left follow.Ask = 4
follow_left follow.Index = 16
follow_left follow.Call = 16
follow_left follow.Dot = 16
follow_left follow.Arrow = 16
follow_left follow.Increment = 16
follow_left follow.Decrement = 16
