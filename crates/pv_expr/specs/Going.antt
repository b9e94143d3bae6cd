-- A bridge: what goes on from a tree, by whether an operand is read for it.
use Rattle.std.specs.Prelude.{◌≡◌, ◌<◌, ◌+◌, ◌^◌, ℕ, Bool, List, length, drop, Option, Some, None, MatchOption}
use Rattle.pv_token.specs.declared.token_table.Token.{Token}
use Rattle.pv_tree.specs.Spells.{Names}
use Rattle.pv_tree.specs.Syntax.{ExpressionTree, ArgumentTrees, Call, Member, Arrow, PostIncrement, PostDecrement}
use Rattle.pv_tree.specs.Lines.{expression_line}
use Rattle.pv_expr_forms.specs.declared.follows.Follow.{Follow}
use Rattle.pv_expr_forms.specs.declared.follows.Follow.TheVariants as follow
use Rattle.pv_expr_forms.specs.Follows.{join_right, join_tree}
use Rattle.pv_expr_forms.specs.Reader.{Read, Reads, index_end, longer_tree, goes_on}
use Rattle.pv_expr_forms.specs.Parts.{made_with_name}

-- 6.5.2p1, 6.5.5p1 to 6.5.17p1: the level of the operand that is read, if one is
abbrev pub operand_level : Follow → Option ℕ
operand_level (follow.Join op) = Some (join_right op)
operand_level follow.Ask = Some 1
operand_level follow.Index = Some 1
operand_level _ = None

-- 6.5.2p1: what goes on without any further tree
unfoldable pub with_suffix : (ℕ → Bool) → (left : ExpressionTree) → Follow → List Token → Read
with_suffix is_type left follow.Dot ts = made_with_name is_type (Member (expression_line left) left) ts
with_suffix is_type left follow.Arrow ts = made_with_name is_type (Arrow (expression_line left) left) ts
with_suffix is_type left follow.Increment ts = Some (PostIncrement (expression_line left) left, ts)
with_suffix is_type left follow.Decrement ts = Some (PostDecrement (expression_line left) left, ts)
with_suffix is_type left _ ts = None

-- 6.5.2p1, 6.5.5p1 to 6.5.17p1: what goes on with one operand, once that is read
unfoldable pub with_right : (left right : ExpressionTree) → Follow → List Token → Read
with_right left right (follow.Join op) ts = Some (join_tree op left right, ts)
with_right left right follow.Index ts = index_end left right ts
with_right left right _ ts = None

-- 6.5.2.2p1: the call of a function with arguments
abbrev pub called_with : (callee : ExpressionTree) → ArgumentTrees → ExpressionTree
called_with callee list = Call (expression_line callee) callee list

-- 6.5.2p1, 6.5.5p1 to 6.5.17p1: so a tree goes on at a place, behind the token there, or not at all, whatever reads what stands within
abbrev pub GoesOnAt : List Token → (at level below : ℕ) → (left : ExpressionTree) → Option Follow → Type 0
GoesOnAt tokens at level below left answer = MatchOption answer
    ((names : Names) (read : Reads) → None ≡ longer_tree names read level below left (drop at tokens))
    (λ f. ((names : Names) (read : Reads) → goes_on names read left f (drop (at + 1) tokens) ≡ longer_tree names read level below left (drop at tokens)) × (at < length tokens) × (at + 1 < 2 ^ 32))
