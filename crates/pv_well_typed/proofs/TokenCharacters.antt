-- Character constants of a source's tokens (C17 6.4.4.4): those of a tree are tokens that it spells.
use Rattle.std.proofs.Common.{List, [], ◌∷◌, ◌++◌}
use Rattle.pv_token.specs.declared.token_table.TokenKind.{TokenKind}
use Rattle.pv_token.specs.declared.token_table.TokenKind.TheVariants as kind
use Rattle.pv_token.specs.declared.words.Word.TheVariants as word
use Rattle.pv_token.specs.declared.marks.Mark.TheVariants as mark
use Rattle.pv_num.specs.declared.kinds.IntKind.TheVariants.{Int}
use Rattle.pv_num.specs.Kinds.{Fits}
use Rattle.pv_tree.specs.Levels.{binary_mark, assign_mark}
use Rattle.pv_tree.specs.Spelling.{comma_tokens, in_parens, in_brackets, in_braces, with_semicolon, before_argument, before_member, expression_tokens, arguments_tokens, declaration_tokens, declarator_tokens, initializer_tokens, statement_tokens, tree_tokens, trees_tokens, listed_tokens, optional_tokens, value_tokens}
use Rattle.pv_tree.specs.Syntax.{ExpressionTree, Name, Number, Character, Text, Paren, Index, Call, Member, Arrow, PostIncrement, PostDecrement, PreIncrement, PreDecrement, Unary, SizeofExpr, SizeofType, Cast, Binary, Conditional, Assign, Comma, ArgumentTrees, NoArguments, Argument, DeclarationTree, Function, Declaration, InitDeclarator, MemberDeclaration, Enumerator, Parameter, TypeName, InitializerTree, Initial, Braces, StatementTree, Block, ExpressionStatement, If, IfElse, While, DoWhile, For, ForDeclaration, Switch, SwitchBlock, Labelled, Case, Default, Break, Continue, Return, Tree, OfExpression, OfDeclaration, OfDeclarator, OfSpecifier, OfInitializer, OfStatement, Trees, NoTrees, Then, OptionalTree, Absent, Present}
use Rattle.pv_typed.specs.Known.{Each}
use Rattle.pv_typed.proofs.Each.{each_left, each_right}
use Rattle.pv_well_typed.specs.Characters.{HasCharacters, HaveCharacters}
use Rattle.pv_well_typed.proofs.SourceCharacters.{TreeCharacters, TreesCharacters, OptionalCharacters, DeclarationCharacters, InitializerCharacters, StatementCharacters}

-- 6.4.4.4p10: a token that is a character constant has an `int`'s value
abbrev pub IsIntToken : TokenKind → Type 0
IsIntToken (kind.Word w) = Unit {0}
IsIntToken (kind.Name n) = Unit {0}
IsIntToken (kind.Number value decimal unsigned longs) = Unit {0}
IsIntToken (kind.Character value) = Fits Int value
IsIntToken (kind.Text n) = Unit {0}
IsIntToken (kind.Mark m) = Unit {0}

-- ---- parts of what is spelled

front : (xs ys : List TokenKind) → Each IsIntToken (xs ++ ys) → Each IsIntToken xs
front xs ys h = each_left IsIntToken xs ys h

back : (xs ys : List TokenKind) → Each IsIntToken (xs ++ ys) → Each IsIntToken ys
back xs ys h = each_right IsIntToken xs ys h

parens : (ts : List TokenKind) → Each IsIntToken (in_parens ts) → Each IsIntToken ts
parens ts h = front ts (kind.Mark mark.CloseParen ∷ []) h.1

brackets : (ts : List TokenKind) → Each IsIntToken (in_brackets ts) → Each IsIntToken ts
brackets ts h = front ts (kind.Mark mark.CloseBracket ∷ []) h.1

braces : (ts : List TokenKind) → Each IsIntToken (in_braces ts) → Each IsIntToken ts
braces ts h = front ts (kind.Mark mark.CloseBrace ∷ []) h.1

end : (ts : List TokenKind) → Each IsIntToken (with_semicolon ts) → Each IsIntToken ts
end ts h = front ts (kind.Mark mark.Semicolon ∷ []) h

arguments-before : (xs : ArgumentTrees) → Each IsIntToken (before_argument xs (arguments_tokens xs)) → Each IsIntToken (arguments_tokens xs)
arguments-before NoArguments h = tt
arguments-before (Argument before last) h = front (arguments_tokens (Argument before last)) (kind.Mark mark.Comma ∷ []) h

listed-before : (xs : Trees) → Each IsIntToken (before_member xs (listed_tokens xs)) → Each IsIntToken (listed_tokens xs)
listed-before NoTrees h = tt
listed-before (Then before last) h = front (listed_tokens (Then before last)) (kind.Mark mark.Comma ∷ []) h

-- ---- trees

mutual
  expression-ints : (a : ExpressionTree) → Each IsIntToken (expression_tokens a) → HasCharacters a
  expression-ints (Name line n) h = tt
  expression-ints (Number line value decimal unsigned longs) h = tt
  expression-ints (Character line value) h = h.0
  expression-ints (Text line first more) h = tt
  expression-ints (Paren line a) h = expression-ints a (parens (expression_tokens a) h)
  expression-ints (Index line a i) h = (expression-ints a (front (expression_tokens a) (in_brackets (expression_tokens i)) h), expression-ints i (brackets (expression_tokens i) (back (expression_tokens a) (in_brackets (expression_tokens i)) h)))
  expression-ints (Call line f xs) h = (expression-ints f (front (expression_tokens f) (in_parens (arguments_tokens xs)) h), arguments-ints xs (parens (arguments_tokens xs) (back (expression_tokens f) (in_parens (arguments_tokens xs)) h)))
  expression-ints (Member line a n) h = expression-ints a (front (expression_tokens a) (kind.Mark mark.Dot ∷ kind.Name n ∷ []) h)
  expression-ints (Arrow line a n) h = expression-ints a (front (expression_tokens a) (kind.Mark mark.Arrow ∷ kind.Name n ∷ []) h)
  expression-ints (PostIncrement line a) h = expression-ints a (front (expression_tokens a) (kind.Mark mark.Increment ∷ []) h)
  expression-ints (PostDecrement line a) h = expression-ints a (front (expression_tokens a) (kind.Mark mark.Decrement ∷ []) h)
  expression-ints (PreIncrement line a) h = expression-ints a h.1
  expression-ints (PreDecrement line a) h = expression-ints a h.1
  expression-ints (Unary line op a) h = expression-ints a h.1
  expression-ints (SizeofExpr line a) h = tt
  expression-ints (SizeofType line type) h = tt
  expression-ints (Cast line type a) h = expression-ints a (back (in_parens (declaration_tokens type)) (expression_tokens a) h)
  expression-ints (Binary line op a b) h =
      (expression-ints a (front (expression_tokens a) (kind.Mark (binary_mark op) ∷ expression_tokens b) h), expression-ints b (back (expression_tokens a) (kind.Mark (binary_mark op) ∷ expression_tokens b) h).1)
  expression-ints (Conditional line a b c) h =
      let rest = (back (expression_tokens a) (kind.Mark mark.Question ∷ (expression_tokens b ++ (kind.Mark mark.Colon ∷ expression_tokens c))) h).1 in (
        expression-ints a (front (expression_tokens a) (kind.Mark mark.Question ∷ (expression_tokens b ++ (kind.Mark mark.Colon ∷ expression_tokens c))) h),
        expression-ints b (front (expression_tokens b) (kind.Mark mark.Colon ∷ expression_tokens c) rest),
        expression-ints c (back (expression_tokens b) (kind.Mark mark.Colon ∷ expression_tokens c) rest).1,
      )
  expression-ints (Assign line op a b) h =
      (expression-ints a (front (expression_tokens a) (kind.Mark (assign_mark op) ∷ expression_tokens b) h), expression-ints b (back (expression_tokens a) (kind.Mark (assign_mark op) ∷ expression_tokens b) h).1)
  expression-ints (Comma line a b) h =
      (expression-ints a (front (expression_tokens a) (kind.Mark mark.Comma ∷ expression_tokens b) h), expression-ints b (back (expression_tokens a) (kind.Mark mark.Comma ∷ expression_tokens b) h).1)

  arguments-ints : (xs : ArgumentTrees) → Each IsIntToken (arguments_tokens xs) → HaveCharacters xs
  arguments-ints NoArguments h = tt
  arguments-ints (Argument before last) h =
      (arguments-ints before (arguments-before before (front (before_argument before (arguments_tokens before)) (expression_tokens last) h)), expression-ints last (back (before_argument before (arguments_tokens before)) (expression_tokens last) h))

mutual
  tree-ints : (x : Tree) → Each IsIntToken (tree_tokens x) → TreeCharacters x
  tree-ints (OfExpression a) h = expression-ints a h
  tree-ints (OfDeclaration d) h = declaration-ints d h
  tree-ints (OfDeclarator d) h = tt
  tree-ints (OfSpecifier x) h = tt
  tree-ints (OfInitializer i) h = initializer-ints i h
  tree-ints (OfStatement b) h = statement-ints b h

  trees-ints : (xs : Trees) → Each IsIntToken (trees_tokens xs) → TreesCharacters xs
  trees-ints NoTrees h = tt
  trees-ints (Then before x) h = (trees-ints before (front (trees_tokens before) (tree_tokens x) h), tree-ints x (back (trees_tokens before) (tree_tokens x) h))

  listed-ints : (xs : Trees) → Each IsIntToken (listed_tokens xs) → TreesCharacters xs
  listed-ints NoTrees h = tt
  listed-ints (Then before x) h = (listed-ints before (listed-before before (front (before_member before (listed_tokens before)) (tree_tokens x) h)), tree-ints x (back (before_member before (listed_tokens before)) (tree_tokens x) h))

  optional-ints : (o : OptionalTree) → Each IsIntToken (optional_tokens o) → OptionalCharacters o
  optional-ints Absent h = tt
  optional-ints (Present x) h = tree-ints x h

  value-ints : (o : OptionalTree) → Each IsIntToken (value_tokens o) → OptionalCharacters o
  value-ints Absent h = tt
  value-ints (Present x) h = tree-ints x h.1

  pub declaration-ints : (d : DeclarationTree) → Each IsIntToken (declaration_tokens d) → DeclarationCharacters d
  declaration-ints (Function line specs d b) h = statement-ints b (back (declarator_tokens d) (statement_tokens b) (back (trees_tokens specs) (declarator_tokens d ++ statement_tokens b) h))
  declaration-ints (Declaration line specs ds) h = listed-ints ds (back (trees_tokens specs) (listed_tokens ds) (end (trees_tokens specs ++ listed_tokens ds) h))
  declaration-ints (InitDeclarator line d i) h = value-ints i (back (declarator_tokens d) (value_tokens i) h)
  declaration-ints (MemberDeclaration line specs ds) h = tt
  declaration-ints (Enumerator line n x) h = tt
  declaration-ints (Parameter line specs d) h = tt
  declaration-ints (TypeName line specs d) h = tt

  initializer-ints : (i : InitializerTree) → Each IsIntToken (initializer_tokens i) → InitializerCharacters i
  initializer-ints (Initial line a) h = expression-ints a h
  initializer-ints (Braces line inits comma) h = listed-ints inits (front (listed_tokens inits) (comma_tokens comma) (braces (listed_tokens inits ++ comma_tokens comma) h))

  statement-ints : (b : StatementTree) → Each IsIntToken (statement_tokens b) → StatementCharacters b
  statement-ints (Block line items) h = trees-ints items (braces (trees_tokens items) h)
  statement-ints (ExpressionStatement line a) h = optional-ints a (end (optional_tokens a) h)
  statement-ints (If line a b) h = (expression-ints a (parens (expression_tokens a) (front (in_parens (expression_tokens a)) (statement_tokens b) h.1)), statement-ints b (back (in_parens (expression_tokens a)) (statement_tokens b) h.1))
  statement-ints (IfElse line a b c) h =
      let rest = back (in_parens (expression_tokens a)) (statement_tokens b ++ (kind.Word word.Else ∷ statement_tokens c)) h.1 in (
        expression-ints a (parens (expression_tokens a) (front (in_parens (expression_tokens a)) (statement_tokens b ++ (kind.Word word.Else ∷ statement_tokens c)) h.1)),
        statement-ints b (front (statement_tokens b) (kind.Word word.Else ∷ statement_tokens c) rest),
        statement-ints c (back (statement_tokens b) (kind.Word word.Else ∷ statement_tokens c) rest).1,
      )
  statement-ints (While line a b) h = (expression-ints a (parens (expression_tokens a) (front (in_parens (expression_tokens a)) (statement_tokens b) h.1)), statement-ints b (back (in_parens (expression_tokens a)) (statement_tokens b) h.1))
  statement-ints (DoWhile line b a) h = (
    statement-ints b (front (statement_tokens b) (kind.Word word.While ∷ with_semicolon (in_parens (expression_tokens a))) h.1),
    expression-ints a (parens (expression_tokens a) (end (in_parens (expression_tokens a)) (back (statement_tokens b) (kind.Word word.While ∷ with_semicolon (in_parens (expression_tokens a))) h.1).1)),
  )
  statement-ints (For line first a step b) h =
      let inner = parens (with_semicolon (optional_tokens first) ++ (with_semicolon (optional_tokens a) ++ optional_tokens step)) (front (in_parens (with_semicolon (optional_tokens first) ++ (with_semicolon (optional_tokens a) ++ optional_tokens step))) (statement_tokens b) h.1) in
      let rest = back (with_semicolon (optional_tokens first)) (with_semicolon (optional_tokens a) ++ optional_tokens step) inner in (
        optional-ints first (end (optional_tokens first) (front (with_semicolon (optional_tokens first)) (with_semicolon (optional_tokens a) ++ optional_tokens step) inner)),
        optional-ints a (end (optional_tokens a) (front (with_semicolon (optional_tokens a)) (optional_tokens step) rest)),
        optional-ints step (back (with_semicolon (optional_tokens a)) (optional_tokens step) rest),
        statement-ints b (back (in_parens (with_semicolon (optional_tokens first) ++ (with_semicolon (optional_tokens a) ++ optional_tokens step))) (statement_tokens b) h.1),
      )
  statement-ints (ForDeclaration line d a step b) h =
      let inner = parens (declaration_tokens d ++ (with_semicolon (optional_tokens a) ++ optional_tokens step)) (front (in_parens (declaration_tokens d ++ (with_semicolon (optional_tokens a) ++ optional_tokens step))) (statement_tokens b) h.1) in
      let rest = back (declaration_tokens d) (with_semicolon (optional_tokens a) ++ optional_tokens step) inner in (
        declaration-ints d (front (declaration_tokens d) (with_semicolon (optional_tokens a) ++ optional_tokens step) inner),
        optional-ints a (end (optional_tokens a) (front (with_semicolon (optional_tokens a)) (optional_tokens step) rest)),
        optional-ints step (back (with_semicolon (optional_tokens a)) (optional_tokens step) rest),
        statement-ints b (back (in_parens (declaration_tokens d ++ (with_semicolon (optional_tokens a) ++ optional_tokens step))) (statement_tokens b) h.1),
      )
  statement-ints (Switch line a b) h = (expression-ints a (parens (expression_tokens a) (front (in_parens (expression_tokens a)) (statement_tokens b) h.1)), statement-ints b (back (in_parens (expression_tokens a)) (statement_tokens b) h.1))
  statement-ints (SwitchBlock line items) h = trees-ints items (braces (trees_tokens items) h)
  statement-ints (Labelled line labels b) h = (trees-ints labels (front (trees_tokens labels) (statement_tokens b) h), statement-ints b (back (trees_tokens labels) (statement_tokens b) h))
  statement-ints (Case line a) h = expression-ints a (front (expression_tokens a) (kind.Mark mark.Colon ∷ []) h.1)
  statement-ints (Default line) h = tt
  statement-ints (Break line) h = tt
  statement-ints (Continue line) h = tt
  statement-ints (Return line a) h = optional-ints a (end (optional_tokens a) h.1)
