-- Facts on trees: their lines, what they spell, and the levels at their right ends.
use Rattle.std.proofs.Common.{◌≡◌, ◌≤◌, ◌<◌, ℕ, suc, List, ◌∷◌, ◌++◌, length, drop, refl, arith}
use Rattle.std.proofs.lemmas.List.{length-append}
use Rattle.pv_token.specs.declared.token_table.Token.{Token}
use Rattle.pv_token.specs.declared.token_table.TokenKind.{TokenKind}
use Rattle.pv_token.specs.declared.token_table.TokenKind.TheVariants as kind
use Rattle.pv_tree.specs.Syntax.{ExpressionTree, Name, Number, Character, Text, Paren, Index, Call, Member, Arrow, PostIncrement, PostDecrement, PreIncrement, PreDecrement, Unary, SizeofExpr, SizeofType, Cast, Binary, Conditional, Assign, Comma}
use Rattle.pv_tree.specs.Depths.{expression_depth}
use Rattle.pv_tree.specs.Lines.{expression_line}
use Rattle.pv_tree.specs.Levels.{rank}
use Rattle.pv_tree.specs.Spelling.{expression_tokens}
use Rattle.pv_tree.specs.Grammar.{line_here, behind}
use Rattle.pv_tree.specs.Spells.{Names, Fits}
use Rattle.pv_expr_forms.specs.declared.follows.Prefix.{Prefix}
use Rattle.pv_expr_forms.specs.declared.follows.Prefix.TheVariants as prefix
use Rattle.pv_expr_forms.specs.declared.follows.Join.{Join}
use Rattle.pv_expr_forms.specs.declared.follows.Join.TheVariants as join
use Rattle.pv_expr_forms.specs.Follows.{prefix_token, prefix_operand, prefix_tree, join_mark, join_rank, join_left, join_right, join_tree}

-- ---- lines

pub line_is : (names : Names) (a : ExpressionTree) (here : List Token) → Fits names a here → expression_line a ≡ line_here here
line_is names (Name line n) here f = f.0
line_is names (Number line value decimal unsigned longs) here f = f
line_is names (Character line value) here f = f
line_is names (Text line first more) here f = f
line_is names (Paren line a) here f = f.0
line_is names (Index line a i) here f = f.0
line_is names (Call line callee args) here f = f.0
line_is names (Member line a n) here f = f.0
line_is names (Arrow line a n) here f = f.0
line_is names (PostIncrement line a) here f = f.0
line_is names (PostDecrement line a) here f = f.0
line_is names (PreIncrement line a) here f = f.0
line_is names (PreDecrement line a) here f = f.0
line_is names (Unary line op a) here f = f.0
line_is names (SizeofExpr line a) here f = f.0
line_is names (SizeofType line type) here f = f.0
line_is names (Cast line type a) here f = f.0
line_is names (Binary line op a b) here f = f.0
line_is names (Conditional line a b c) here f = f.0
line_is names (Assign line op a b) here f = f.0
line_is names (Comma line a b) here f = f.0

-- ---- what each operator before an operand, and each between two, makes

pub tokens_prefixed : (line : ℕ) (op : Prefix) (a : ExpressionTree) → expression_tokens (prefix_tree line op a) ≡ prefix_token op ∷ expression_tokens a
tokens_prefixed line prefix.Increment a = refl
tokens_prefixed line prefix.Decrement a = refl
tokens_prefixed line prefix.Sizeof a = refl
tokens_prefixed line (prefix.Unary op) a = refl

pub depth_prefixed : (line : ℕ) (op : Prefix) (a : ExpressionTree) → expression_depth (prefix_tree line op a) ≡ suc (expression_depth a)
depth_prefixed line prefix.Increment a = refl
depth_prefixed line prefix.Decrement a = refl
depth_prefixed line prefix.Sizeof a = refl
depth_prefixed line (prefix.Unary op) a = refl

pub rank_prefixed : (line : ℕ) (op : Prefix) (a : ExpressionTree) → rank (prefix_tree line op a) ≡ 15
rank_prefixed line prefix.Increment a = refl
rank_prefixed line prefix.Decrement a = refl
rank_prefixed line prefix.Sizeof a = refl
rank_prefixed line (prefix.Unary op) a = refl

pub fits_prefixed : (names : Names) (line : ℕ) (op : Prefix) (a : ExpressionTree) (here : List Token) → line ≡ line_here here → prefix_operand op ≤ rank a
    → Fits names a (drop 1 here) → Fits names (prefix_tree line op a) here
fits_prefixed names line prefix.Increment a here e l f = (e, l, f)
fits_prefixed names line prefix.Decrement a here e l f = (e, l, f)
fits_prefixed names line prefix.Sizeof a here e l f = (e, l, f)
fits_prefixed names line (prefix.Unary op) a here e l f = (e, l, f)

pub tokens_joined : (op : Join) (a b : ExpressionTree) → expression_tokens (join_tree op a b) ≡ expression_tokens a ++ (kind.Mark (join_mark op) ∷ expression_tokens b)
tokens_joined (join.Binary op) a b = refl
tokens_joined (join.Assign op) a b = refl
tokens_joined join.Comma a b = refl

pub rank_joined : (op : Join) (a b : ExpressionTree) → rank (join_tree op a b) ≡ join_rank op
rank_joined (join.Binary op) a b = refl
rank_joined (join.Assign op) a b = refl
rank_joined join.Comma a b = refl

pub fits_joined : (names : Names) (op : Join) (a b : ExpressionTree) (here : List Token) → join_left op ≤ rank a → join_right op ≤ rank b → Fits names a here
    → Fits names b (behind a 1 here) → Fits names (join_tree op a b) here
fits_joined names (join.Binary op) a b here l r f g = (line_is names a here f, l, r, f, g)
fits_joined names (join.Assign op) a b here l r f g = (line_is names a here f, l, r, f, g)
fits_joined names join.Comma a b here l r f g = (line_is names a here f, l, r, f, g)

-- ---- depths

pub depth_pos : (a : ExpressionTree) → 0 < expression_depth a
depth_pos (Name line n) = omega arith
depth_pos (Number line value decimal unsigned longs) = omega arith
depth_pos (Character line value) = omega arith
depth_pos (Text line first more) = omega arith
depth_pos (Paren line a) = omega arith
depth_pos (Index line a i) = omega arith
depth_pos (Call line callee args) = omega arith
depth_pos (Member line a n) = omega arith
depth_pos (Arrow line a n) = omega arith
depth_pos (PostIncrement line a) = omega arith
depth_pos (PostDecrement line a) = omega arith
depth_pos (PreIncrement line a) = omega arith
depth_pos (PreDecrement line a) = omega arith
depth_pos (Unary line op a) = omega arith
depth_pos (SizeofExpr line a) = omega arith
depth_pos (SizeofType line type) = omega arith
depth_pos (Cast line type a) = omega arith
depth_pos (Binary line op a b) = omega arith
depth_pos (Conditional line a b c) = omega arith
depth_pos (Assign line op a b) = omega arith
depth_pos (Comma line a b) = omega arith

-- ---- no tree spells nothing

left_some : (ks ls : List TokenKind) → 0 < length ks → 0 < length (ks ++ ls)
left_some ks ls h = omega (arith, length-append ks ls, h)

pub some_tokens : (a : ExpressionTree) → 0 < length (expression_tokens a)
some_tokens (Name line n) = omega arith
some_tokens (Number line value decimal unsigned longs) = omega arith
some_tokens (Character line value) = omega arith
some_tokens (Text line first more) = omega arith
some_tokens (Paren line a) = omega arith
some_tokens (Index line a i) = left_some (expression_tokens a) _ (some_tokens a)
some_tokens (Call line callee args) = left_some (expression_tokens callee) _ (some_tokens callee)
some_tokens (Member line a n) = left_some (expression_tokens a) _ (some_tokens a)
some_tokens (Arrow line a n) = left_some (expression_tokens a) _ (some_tokens a)
some_tokens (PostIncrement line a) = left_some (expression_tokens a) _ (some_tokens a)
some_tokens (PostDecrement line a) = left_some (expression_tokens a) _ (some_tokens a)
some_tokens (PreIncrement line a) = omega arith
some_tokens (PreDecrement line a) = omega arith
some_tokens (Unary line op a) = omega arith
some_tokens (SizeofExpr line a) = omega arith
some_tokens (SizeofType line type) = omega arith
some_tokens (Cast line type a) = omega arith
some_tokens (Binary line op a b) = left_some (expression_tokens a) _ (some_tokens a)
some_tokens (Conditional line a b c) = left_some (expression_tokens a) _ (some_tokens a)
some_tokens (Assign line op a b) = left_some (expression_tokens a) _ (some_tokens a)
some_tokens (Comma line a b) = left_some (expression_tokens a) _ (some_tokens a)
