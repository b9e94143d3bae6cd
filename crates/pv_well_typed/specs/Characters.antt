-- Which character constants an expression has that is evaluated (C17 6.4.4.4, 6.5).
use Rattle.pv_num.specs.declared.kinds.IntKind.TheVariants.{Int}
use Rattle.pv_num.specs.Kinds.{Fits}
use Rattle.pv_tree.specs.Syntax.{ExpressionTree, Name, Number, Character, Text, Paren, Index, Call, Member, Arrow, PostIncrement, PostDecrement, PreIncrement, PreDecrement, Unary, SizeofExpr, SizeofType, Cast, Binary, Conditional, Assign, Comma, ArgumentTrees, NoArguments, Argument}

abbrev mutual
  -- 6.4.4.4p10: the value of each character constant is an `int`'s, as that of a token is; in the operand of sizeof (6.5.3.4p2) nothing is asked
  pub HasCharacters : ExpressionTree → Type 0
  HasCharacters (Name line n) = Unit {0}
  HasCharacters (Number line value decimal unsigned longs) = Unit {0}
  HasCharacters (Character line value) = Fits Int value
  HasCharacters (Text line first more) = Unit {0}
  HasCharacters (Paren line a) = HasCharacters a
  HasCharacters (Index line a b) = HasCharacters a × HasCharacters b
  HasCharacters (Call line f args) = HasCharacters f × HaveCharacters args
  HasCharacters (Member line a n) = HasCharacters a
  HasCharacters (Arrow line a n) = HasCharacters a
  HasCharacters (PostIncrement line a) = HasCharacters a
  HasCharacters (PostDecrement line a) = HasCharacters a
  HasCharacters (PreIncrement line a) = HasCharacters a
  HasCharacters (PreDecrement line a) = HasCharacters a
  HasCharacters (Unary line op a) = HasCharacters a
  HasCharacters (SizeofExpr line a) = Unit {0}
  HasCharacters (SizeofType line t) = Unit {0}
  HasCharacters (Cast line t a) = HasCharacters a
  HasCharacters (Binary line op a b) = HasCharacters a × HasCharacters b
  HasCharacters (Conditional line a b c) = HasCharacters a × HasCharacters b × HasCharacters c
  HasCharacters (Assign line op a b) = HasCharacters a × HasCharacters b
  HasCharacters (Comma line a b) = HasCharacters a × HasCharacters b

  -- 6.5.2.2: the same of arguments
  pub HaveCharacters : ArgumentTrees → Type 0
  HaveCharacters NoArguments = Unit {0}
  HaveCharacters (Argument before last) = HaveCharacters before × HasCharacters last
