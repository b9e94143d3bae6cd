-- The tables of operators, read in both directions, and their levels.
use Rattle.std.proofs.Common.{◌≡◌, ◌≤◌, ◌<◌, ◌⊎◌, Option, Some, None, option_map, refl, ap, ◌∙◌, arith, inl, inr}
use Rattle.pv_token.specs.declared.token_table.TokenKind.{TokenKind}
use Rattle.pv_token.specs.declared.token_table.TokenKind.TheVariants as kind
use Rattle.pv_token.specs.declared.words.Word.TheVariants as word
use Rattle.pv_token.specs.declared.marks.Mark.{Mark}
use Rattle.pv_token.specs.declared.marks.Mark.TheVariants as mark
use Rattle.pv_tree.specs.declared.operators.UnaryOperator.TheVariants as unary
use Rattle.pv_tree.specs.declared.operators.BinaryOperator.{BinaryOperator}
use Rattle.pv_tree.specs.declared.operators.BinaryOperator.TheVariants as binary
use Rattle.pv_tree.specs.declared.operators.AssignOperator.{AssignOperator}
use Rattle.pv_tree.specs.declared.operators.AssignOperator.TheVariants as assign
use Rattle.pv_tree.specs.Levels.{binary_mark, assign_mark, binary_rank}
use Rattle.pv_expr_forms.specs.declared.follows.Prefix.{Prefix}
use Rattle.pv_expr_forms.specs.declared.follows.Prefix.TheVariants as prefix
use Rattle.pv_expr_forms.specs.declared.follows.Join.TheVariants as join
use Rattle.pv_expr_forms.specs.declared.follows.Follow.{Follow}
use Rattle.pv_expr_forms.specs.declared.follows.Follow.TheVariants as follow
use Rattle.pv_expr_forms.specs.Follows.{prefix_token, prefix_of, prefix_operand, binary_of, assign_of, other_of, or_else, follow_of_mark, follow_of, follow_mark, follow_rank, follow_left}

-- ---- from a token to its operator, and back

pub prefix_of_is : (k : TokenKind) (op : Prefix) → prefix_of k ≡ Some op → k ≡ prefix_token op
prefix_of_is (kind.Word word.Sizeof) op e = let p : prefix.Sizeof ≡ op = cc in ap prefix_token p
prefix_of_is (kind.Mark mark.Increment) op e = let p : prefix.Increment ≡ op = cc in ap prefix_token p
prefix_of_is (kind.Mark mark.Decrement) op e = let p : prefix.Decrement ≡ op = cc in ap prefix_token p
prefix_of_is (kind.Mark mark.And) op e = let p : prefix.Unary unary.Address ≡ op = cc in ap prefix_token p
prefix_of_is (kind.Mark mark.Star) op e = let p : prefix.Unary unary.Indirection ≡ op = cc in ap prefix_token p
prefix_of_is (kind.Mark mark.Plus) op e = let p : prefix.Unary unary.Plus ≡ op = cc in ap prefix_token p
prefix_of_is (kind.Mark mark.Minus) op e = let p : prefix.Unary unary.Minus ≡ op = cc in ap prefix_token p
prefix_of_is (kind.Mark mark.Tilde) op e = let p : prefix.Unary unary.Complement ≡ op = cc in ap prefix_token p
prefix_of_is (kind.Mark mark.Not) op e = let p : prefix.Unary unary.Not ≡ op = cc in ap prefix_token p
prefix_of_is _ op e = absurd cc

binary_of_is : (m : Mark) (op : BinaryOperator) → binary_of m ≡ Some op → m ≡ binary_mark op
binary_of_is mark.Star op e = let p : binary.Multiply ≡ op = cc in ap binary_mark p
binary_of_is mark.Slash op e = let p : binary.Divide ≡ op = cc in ap binary_mark p
binary_of_is mark.Percent op e = let p : binary.Remainder ≡ op = cc in ap binary_mark p
binary_of_is mark.Plus op e = let p : binary.Add ≡ op = cc in ap binary_mark p
binary_of_is mark.Minus op e = let p : binary.Subtract ≡ op = cc in ap binary_mark p
binary_of_is mark.Shl op e = let p : binary.ShiftLeft ≡ op = cc in ap binary_mark p
binary_of_is mark.Shr op e = let p : binary.ShiftRight ≡ op = cc in ap binary_mark p
binary_of_is mark.Less op e = let p : binary.Less ≡ op = cc in ap binary_mark p
binary_of_is mark.Greater op e = let p : binary.Greater ≡ op = cc in ap binary_mark p
binary_of_is mark.LessEqual op e = let p : binary.LessEqual ≡ op = cc in ap binary_mark p
binary_of_is mark.GreaterEqual op e = let p : binary.GreaterEqual ≡ op = cc in ap binary_mark p
binary_of_is mark.Equal op e = let p : binary.Equal ≡ op = cc in ap binary_mark p
binary_of_is mark.NotEqual op e = let p : binary.NotEqual ≡ op = cc in ap binary_mark p
binary_of_is mark.And op e = let p : binary.And ≡ op = cc in ap binary_mark p
binary_of_is mark.Caret op e = let p : binary.ExclusiveOr ≡ op = cc in ap binary_mark p
binary_of_is mark.Or op e = let p : binary.Or ≡ op = cc in ap binary_mark p
binary_of_is mark.AndAnd op e = let p : binary.LogicalAnd ≡ op = cc in ap binary_mark p
binary_of_is mark.OrOr op e = let p : binary.LogicalOr ≡ op = cc in ap binary_mark p
binary_of_is _ op e = absurd cc

assign_of_is : (m : Mark) (op : AssignOperator) → assign_of m ≡ Some op → m ≡ assign_mark op
assign_of_is mark.Assign op e = let p : assign.Assign ≡ op = cc in ap assign_mark p
assign_of_is mark.MulAssign op e = let p : assign.Multiply ≡ op = cc in ap assign_mark p
assign_of_is mark.DivAssign op e = let p : assign.Divide ≡ op = cc in ap assign_mark p
assign_of_is mark.RemAssign op e = let p : assign.Remainder ≡ op = cc in ap assign_mark p
assign_of_is mark.AddAssign op e = let p : assign.Add ≡ op = cc in ap assign_mark p
assign_of_is mark.SubAssign op e = let p : assign.Subtract ≡ op = cc in ap assign_mark p
assign_of_is mark.ShlAssign op e = let p : assign.ShiftLeft ≡ op = cc in ap assign_mark p
assign_of_is mark.ShrAssign op e = let p : assign.ShiftRight ≡ op = cc in ap assign_mark p
assign_of_is mark.AndAssign op e = let p : assign.And ≡ op = cc in ap assign_mark p
assign_of_is mark.XorAssign op e = let p : assign.ExclusiveOr ≡ op = cc in ap assign_mark p
assign_of_is mark.OrAssign op e = let p : assign.Or ≡ op = cc in ap assign_mark p
assign_of_is _ op e = absurd cc

other_of_is : (m : Mark) (f : Follow) → other_of m ≡ Some f → m ≡ follow_mark f
other_of_is mark.Comma f e = let p : follow.Join join.Comma ≡ f = cc in ap follow_mark p
other_of_is mark.Question f e = let p : follow.Ask ≡ f = cc in ap follow_mark p
other_of_is mark.OpenBracket f e = let p : follow.Index ≡ f = cc in ap follow_mark p
other_of_is mark.OpenParen f e = let p : follow.Call ≡ f = cc in ap follow_mark p
other_of_is mark.Dot f e = let p : follow.Dot ≡ f = cc in ap follow_mark p
other_of_is mark.Arrow f e = let p : follow.Arrow ≡ f = cc in ap follow_mark p
other_of_is mark.Increment f e = let p : follow.Increment ≡ f = cc in ap follow_mark p
other_of_is mark.Decrement f e = let p : follow.Decrement ≡ f = cc in ap follow_mark p
other_of_is _ f e = absurd cc

-- the operator that one of the three tables has
one_of : (m : Mark) (f : Follow) (a : Option BinaryOperator) (b : Option AssignOperator) (c : Option Follow) → binary_of m ≡ a → assign_of m ≡ b → other_of m ≡ c
    → or_else (option_map (λ op. follow.Join (join.Binary op)) a) (or_else (option_map (λ op. follow.Join (join.Assign op)) b) c) ≡ Some f → m ≡ follow_mark f
one_of m f (Some op) b c p q r e = let s : follow.Join (join.Binary op) ≡ f = cc in binary_of_is m op p ∙ ap follow_mark s
one_of m f None (Some op) c p q r e = let s : follow.Join (join.Assign op) ≡ f = cc in assign_of_is m op q ∙ ap follow_mark s
one_of m f None None c p q r e = other_of_is m f (r ∙ e)

pub follow_of_is : (k : TokenKind) (f : Follow) → follow_of k ≡ Some f → k ≡ kind.Mark (follow_mark f)
follow_of_is (kind.Mark m) f e = ap (λ (x : Mark). kind.Mark x) (one_of m f (binary_of m) (assign_of m) (other_of m) refl refl refl e)
follow_of_is _ f e = absurd cc

binary_follows : (op : BinaryOperator) → follow_of_mark (binary_mark op) ≡ Some (follow.Join (join.Binary op))
binary_follows binary.Multiply = refl
binary_follows binary.Divide = refl
binary_follows binary.Remainder = refl
binary_follows binary.Add = refl
binary_follows binary.Subtract = refl
binary_follows binary.ShiftLeft = refl
binary_follows binary.ShiftRight = refl
binary_follows binary.Less = refl
binary_follows binary.Greater = refl
binary_follows binary.LessEqual = refl
binary_follows binary.GreaterEqual = refl
binary_follows binary.Equal = refl
binary_follows binary.NotEqual = refl
binary_follows binary.And = refl
binary_follows binary.ExclusiveOr = refl
binary_follows binary.Or = refl
binary_follows binary.LogicalAnd = refl
binary_follows binary.LogicalOr = refl

assign_follows : (op : AssignOperator) → follow_of_mark (assign_mark op) ≡ Some (follow.Join (join.Assign op))
assign_follows assign.Assign = refl
assign_follows assign.Multiply = refl
assign_follows assign.Divide = refl
assign_follows assign.Remainder = refl
assign_follows assign.Add = refl
assign_follows assign.Subtract = refl
assign_follows assign.ShiftLeft = refl
assign_follows assign.ShiftRight = refl
assign_follows assign.And = refl
assign_follows assign.ExclusiveOr = refl
assign_follows assign.Or = refl

pub follow_of_mark_is : (f : Follow) → follow_of_mark (follow_mark f) ≡ Some f
follow_of_mark_is (follow.Join (join.Binary op)) = binary_follows op
follow_of_mark_is (follow.Join (join.Assign op)) = assign_follows op
follow_of_mark_is (follow.Join join.Comma) = refl
follow_of_mark_is follow.Ask = refl
follow_of_mark_is follow.Index = refl
follow_of_mark_is follow.Call = refl
follow_of_mark_is follow.Dot = refl
follow_of_mark_is follow.Arrow = refl
follow_of_mark_is follow.Increment = refl
follow_of_mark_is follow.Decrement = refl

-- ---- levels

pub binary_rank_in : (op : BinaryOperator) → (4 ≤ binary_rank op) × (binary_rank op ≤ 13)
binary_rank_in binary.Multiply = (omega arith, omega arith)
binary_rank_in binary.Divide = (omega arith, omega arith)
binary_rank_in binary.Remainder = (omega arith, omega arith)
binary_rank_in binary.Add = (omega arith, omega arith)
binary_rank_in binary.Subtract = (omega arith, omega arith)
binary_rank_in binary.ShiftLeft = (omega arith, omega arith)
binary_rank_in binary.ShiftRight = (omega arith, omega arith)
binary_rank_in binary.Less = (omega arith, omega arith)
binary_rank_in binary.Greater = (omega arith, omega arith)
binary_rank_in binary.LessEqual = (omega arith, omega arith)
binary_rank_in binary.GreaterEqual = (omega arith, omega arith)
binary_rank_in binary.Equal = (omega arith, omega arith)
binary_rank_in binary.NotEqual = (omega arith, omega arith)
binary_rank_in binary.And = (omega arith, omega arith)
binary_rank_in binary.ExclusiveOr = (omega arith, omega arith)
binary_rank_in binary.Or = (omega arith, omega arith)
binary_rank_in binary.LogicalAnd = (omega arith, omega arith)
binary_rank_in binary.LogicalOr = (omega arith, omega arith)

-- what goes on asks for no looser a left side than it is, for a tighter one where its own level groups to the right, and has no level between
-- products and postfix
pub record FollowLaw (f : Follow) : Type 0 where
  pub le : follow_rank f ≤ follow_left f
  pub two : follow_rank f ≡ 2 → 2 < follow_left f
  pub three : follow_rank f ≡ 3 → 3 < follow_left f
  pub low : (follow_rank f < 14) ⊎ ((follow_rank f ≡ 16) × (follow_left f ≡ 16))

pub follow_law : (f : Follow) → FollowLaw f
follow_law (follow.Join (join.Binary op)) =
    let r = binary_rank_in op in
    record { le = omega arith; two = λ e. absurd (omega (arith, r.0)); three = λ e. absurd (omega (arith, r.0)); low = inl (omega (arith, r.1)) }
follow_law (follow.Join (join.Assign op)) = record { le = omega arith; two = λ e. omega arith; three = λ e. absurd (omega arith); low = inl (omega arith) }
follow_law (follow.Join join.Comma) = record { le = omega arith; two = λ e. absurd (omega arith); three = λ e. absurd (omega arith); low = inl (omega arith) }
follow_law follow.Ask = record { le = omega arith; two = λ e. absurd (omega arith); three = λ e. omega arith; low = inl (omega arith) }
follow_law follow.Index = record { le = omega arith; two = λ e. absurd (omega arith); three = λ e. absurd (omega arith); low = inr (refl, refl) }
follow_law follow.Call = record { le = omega arith; two = λ e. absurd (omega arith); three = λ e. absurd (omega arith); low = inr (refl, refl) }
follow_law follow.Dot = record { le = omega arith; two = λ e. absurd (omega arith); three = λ e. absurd (omega arith); low = inr (refl, refl) }
follow_law follow.Arrow = record { le = omega arith; two = λ e. absurd (omega arith); three = λ e. absurd (omega arith); low = inr (refl, refl) }
follow_law follow.Increment = record { le = omega arith; two = λ e. absurd (omega arith); three = λ e. absurd (omega arith); low = inr (refl, refl) }
follow_law follow.Decrement = record { le = omega arith; two = λ e. absurd (omega arith); three = λ e. absurd (omega arith); low = inr (refl, refl) }

pub operand_cases : (op : Prefix) → (prefix_operand op ≡ 14) ⊎ (prefix_operand op ≡ 15)
operand_cases prefix.Increment = inr refl
operand_cases prefix.Decrement = inr refl
operand_cases prefix.Sizeof = inr refl
operand_cases (prefix.Unary op) = inl refl
