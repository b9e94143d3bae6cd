-- A bridge: the code of a tree: steps, each of which makes a tree of those that were made before it. By it a proof tells trees apart.
use Rattle.std.specs.Prelude.{ℕ, ℤ, Bool, Option, List, [], ◌∷◌}
use Rattle.pv_token.specs.declared.words.Word.{Word}
use Rattle.pv_tree.specs.declared.operators.UnaryOperator.{UnaryOperator}
use Rattle.pv_tree.specs.declared.operators.BinaryOperator.{BinaryOperator}
use Rattle.pv_tree.specs.declared.operators.AssignOperator.{AssignOperator}
use Rattle.pv_tree.specs.Syntax.{ExpressionTree, Name, Number, Character, Text, Paren, Index, Call, Member, Arrow, PostIncrement, PostDecrement, PreIncrement, PreDecrement, Unary, SizeofExpr, SizeofType, Cast, Binary, Conditional, Assign, Comma, ArgumentTrees, NoArguments, Argument, DeclarationTree, Function, Declaration, InitDeclarator, MemberDeclaration, Enumerator, Parameter, TypeName, DeclaratorTree, DeclaredName, ParenDeclarator, Pointer, Array, FunctionDeclarator, AbstractParen, AbstractPointer, AbstractArray, AbstractFunction, SpecifierTree, Keyword, Composite, Enumeration, Tag, TypedefName, InitializerTree, Initial, Braces, StatementTree, Block, ExpressionStatement, If, IfElse, While, DoWhile, For, ForDeclaration, Switch, SwitchBlock, Labelled, Case, Default, Break, Continue, Return, Tree, OfExpression, OfDeclaration, OfDeclarator, OfSpecifier, OfInitializer, OfStatement, Trees, NoTrees, Then, OptionalTree, Absent, Present}

-- what makes a tree: its production, and what it has beside trees
pub data Step : Type 0 where
  MakeName : (line : ℕ) → (n : ℕ) → Step
  MakeNumber : (line : ℕ) → (value : ℕ) → (decimal : Bool) → (unsigned : Bool) → (longs : ℕ) → Step
  MakeCharacter : (line : ℕ) → (value : ℤ) → Step
  MakeText : (line : ℕ) → (first : ℕ) → (more : ℕ) → Step
  MakeParen : (line : ℕ) → Step
  MakeIndex : (line : ℕ) → Step
  MakeCall : (line : ℕ) → Step
  MakeMember : (line : ℕ) → (n : ℕ) → Step
  MakeArrow : (line : ℕ) → (n : ℕ) → Step
  MakePostIncrement : (line : ℕ) → Step
  MakePostDecrement : (line : ℕ) → Step
  MakePreIncrement : (line : ℕ) → Step
  MakePreDecrement : (line : ℕ) → Step
  MakeUnary : (line : ℕ) → (op : UnaryOperator) → Step
  MakeSizeofExpr : (line : ℕ) → Step
  MakeSizeofType : (line : ℕ) → Step
  MakeCast : (line : ℕ) → Step
  MakeBinary : (line : ℕ) → (op : BinaryOperator) → Step
  MakeConditional : (line : ℕ) → Step
  MakeAssign : (line : ℕ) → (op : AssignOperator) → Step
  MakeComma : (line : ℕ) → Step
  MakeNoArguments : Step
  MakeArgument : Step
  MakeFunction : (line : ℕ) → Step
  MakeDeclaration : (line : ℕ) → Step
  MakeInitDeclarator : (line : ℕ) → Step
  MakeMemberDeclaration : (line : ℕ) → Step
  MakeEnumerator : (line : ℕ) → (n : ℕ) → Step
  MakeParameter : (line : ℕ) → Step
  MakeTypeName : (line : ℕ) → Step
  MakeDeclaredName : (line : ℕ) → (n : ℕ) → Step
  MakeParenDeclarator : (line : ℕ) → Step
  MakePointer : (line : ℕ) → (consts : ℕ) → Step
  MakeArray : (line : ℕ) → Step
  MakeFunctionDeclarator : (line : ℕ) → (variadic : Bool) → Step
  MakeAbstractParen : (line : ℕ) → Step
  MakeAbstractPointer : (line : ℕ) → (consts : ℕ) → Step
  MakeAbstractArray : (line : ℕ) → Step
  MakeAbstractFunction : (line : ℕ) → (variadic : Bool) → Step
  MakeKeyword : (line : ℕ) → (word : Word) → Step
  MakeComposite : (line : ℕ) → (word : Word) → (tag : Option ℕ) → Step
  MakeEnumeration : (line : ℕ) → (tag : Option ℕ) → (comma : Bool) → Step
  MakeTag : (line : ℕ) → (word : Word) → (n : ℕ) → Step
  MakeTypedefName : (line : ℕ) → (n : ℕ) → Step
  MakeInitial : (line : ℕ) → Step
  MakeBraces : (line : ℕ) → (comma : Bool) → Step
  MakeBlock : (line : ℕ) → Step
  MakeExpressionStatement : (line : ℕ) → Step
  MakeIf : (line : ℕ) → Step
  MakeIfElse : (line : ℕ) → Step
  MakeWhile : (line : ℕ) → Step
  MakeDoWhile : (line : ℕ) → Step
  MakeFor : (line : ℕ) → Step
  MakeForDeclaration : (line : ℕ) → Step
  MakeSwitch : (line : ℕ) → Step
  MakeSwitchBlock : (line : ℕ) → Step
  MakeLabelled : (line : ℕ) → Step
  MakeCase : (line : ℕ) → Step
  MakeDefault : (line : ℕ) → Step
  MakeBreak : (line : ℕ) → Step
  MakeContinue : (line : ℕ) → Step
  MakeReturn : (line : ℕ) → Step
  MakeOfExpression : Step
  MakeOfDeclaration : Step
  MakeOfDeclarator : Step
  MakeOfSpecifier : Step
  MakeOfInitializer : Step
  MakeOfStatement : Step
  MakeNoTrees : Step
  MakeThen : Step
  MakeAbsent : Step
  MakePresent : Step

-- a tree that was made
pub data Made : Type 0 where
  MadeExpression : ExpressionTree → Made
  MadeArguments : ArgumentTrees → Made
  MadeDeclaration : DeclarationTree → Made
  MadeDeclarator : DeclaratorTree → Made
  MadeSpecifier : SpecifierTree → Made
  MadeInitializer : InitializerTree → Made
  MadeStatement : StatementTree → Made
  MadeTree : Tree → Made
  MadeTrees : Trees → Made
  MadeOptional : OptionalTree → Made

-- those made before the last
abbrev pub below : List Made → List Made
below [] = []
below (x ∷ xs) = xs

abbrev pub expression_of : List Made → ExpressionTree
expression_of (MadeExpression x ∷ xs) = x
expression_of _ = Name 0 0

abbrev pub arguments_of : List Made → ArgumentTrees
arguments_of (MadeArguments x ∷ xs) = x
arguments_of _ = NoArguments

abbrev pub declaration_of : List Made → DeclarationTree
declaration_of (MadeDeclaration x ∷ xs) = x
declaration_of _ = TypeName 0 NoTrees Absent

abbrev pub declarator_of : List Made → DeclaratorTree
declarator_of (MadeDeclarator x ∷ xs) = x
declarator_of _ = DeclaredName 0 0

abbrev pub specifier_of : List Made → SpecifierTree
specifier_of (MadeSpecifier x ∷ xs) = x
specifier_of _ = TypedefName 0 0

abbrev pub initializer_of : List Made → InitializerTree
initializer_of (MadeInitializer x ∷ xs) = x
initializer_of _ = Initial 0 (Name 0 0)

abbrev pub statement_of : List Made → StatementTree
statement_of (MadeStatement x ∷ xs) = x
statement_of _ = Break 0

abbrev pub tree_of : List Made → Tree
tree_of (MadeTree x ∷ xs) = x
tree_of _ = OfExpression (Name 0 0)

abbrev pub trees_of : List Made → Trees
trees_of (MadeTrees x ∷ xs) = x
trees_of _ = NoTrees

abbrev pub optional_of : List Made → OptionalTree
optional_of (MadeOptional x ∷ xs) = x
optional_of _ = Absent

-- what is made after a step: its children were made last
abbrev pub after : Step → List Made → List Made
after (MakeName line n) xs = MadeExpression (Name line n) ∷ xs
after (MakeNumber line value decimal unsigned longs) xs = MadeExpression (Number line value decimal unsigned longs) ∷ xs
after (MakeCharacter line value) xs = MadeExpression (Character line value) ∷ xs
after (MakeText line first more) xs = MadeExpression (Text line first more) ∷ xs
after (MakeParen line) xs = MadeExpression (Paren line (expression_of xs)) ∷ (below xs)
after (MakeIndex line) xs = MadeExpression (Index line (expression_of (below xs)) (expression_of xs)) ∷ (below (below xs))
after (MakeCall line) xs = MadeExpression (Call line (expression_of (below xs)) (arguments_of xs)) ∷ (below (below xs))
after (MakeMember line n) xs = MadeExpression (Member line (expression_of xs) n) ∷ (below xs)
after (MakeArrow line n) xs = MadeExpression (Arrow line (expression_of xs) n) ∷ (below xs)
after (MakePostIncrement line) xs = MadeExpression (PostIncrement line (expression_of xs)) ∷ (below xs)
after (MakePostDecrement line) xs = MadeExpression (PostDecrement line (expression_of xs)) ∷ (below xs)
after (MakePreIncrement line) xs = MadeExpression (PreIncrement line (expression_of xs)) ∷ (below xs)
after (MakePreDecrement line) xs = MadeExpression (PreDecrement line (expression_of xs)) ∷ (below xs)
after (MakeUnary line op) xs = MadeExpression (Unary line op (expression_of xs)) ∷ (below xs)
after (MakeSizeofExpr line) xs = MadeExpression (SizeofExpr line (expression_of xs)) ∷ (below xs)
after (MakeSizeofType line) xs = MadeExpression (SizeofType line (declaration_of xs)) ∷ (below xs)
after (MakeCast line) xs = MadeExpression (Cast line (declaration_of (below xs)) (expression_of xs)) ∷ (below (below xs))
after (MakeBinary line op) xs = MadeExpression (Binary line op (expression_of (below xs)) (expression_of xs)) ∷ (below (below xs))
after (MakeConditional line) xs = MadeExpression (Conditional line (expression_of (below (below xs))) (expression_of (below xs)) (expression_of xs)) ∷ (below (below (below xs)))
after (MakeAssign line op) xs = MadeExpression (Assign line op (expression_of (below xs)) (expression_of xs)) ∷ (below (below xs))
after (MakeComma line) xs = MadeExpression (Comma line (expression_of (below xs)) (expression_of xs)) ∷ (below (below xs))
after MakeNoArguments xs = MadeArguments NoArguments ∷ xs
after MakeArgument xs = MadeArguments (Argument (arguments_of (below xs)) (expression_of xs)) ∷ (below (below xs))
after (MakeFunction line) xs = MadeDeclaration (Function line (trees_of (below (below xs))) (declarator_of (below xs)) (statement_of xs)) ∷ (below (below (below xs)))
after (MakeDeclaration line) xs = MadeDeclaration (Declaration line (trees_of (below xs)) (trees_of xs)) ∷ (below (below xs))
after (MakeInitDeclarator line) xs = MadeDeclaration (InitDeclarator line (declarator_of (below xs)) (optional_of xs)) ∷ (below (below xs))
after (MakeMemberDeclaration line) xs = MadeDeclaration (MemberDeclaration line (trees_of (below xs)) (trees_of xs)) ∷ (below (below xs))
after (MakeEnumerator line n) xs = MadeDeclaration (Enumerator line n (optional_of xs)) ∷ (below xs)
after (MakeParameter line) xs = MadeDeclaration (Parameter line (trees_of (below xs)) (optional_of xs)) ∷ (below (below xs))
after (MakeTypeName line) xs = MadeDeclaration (TypeName line (trees_of (below xs)) (optional_of xs)) ∷ (below (below xs))
after (MakeDeclaredName line n) xs = MadeDeclarator (DeclaredName line n) ∷ xs
after (MakeParenDeclarator line) xs = MadeDeclarator (ParenDeclarator line (declarator_of xs)) ∷ (below xs)
after (MakePointer line consts) xs = MadeDeclarator (Pointer line consts (declarator_of xs)) ∷ (below xs)
after (MakeArray line) xs = MadeDeclarator (Array line (declarator_of (below xs)) (optional_of xs)) ∷ (below (below xs))
after (MakeFunctionDeclarator line variadic) xs = MadeDeclarator (FunctionDeclarator line (declarator_of (below xs)) (trees_of xs) variadic) ∷ (below (below xs))
after (MakeAbstractParen line) xs = MadeDeclarator (AbstractParen line (declarator_of xs)) ∷ (below xs)
after (MakeAbstractPointer line consts) xs = MadeDeclarator (AbstractPointer line consts (optional_of xs)) ∷ (below xs)
after (MakeAbstractArray line) xs = MadeDeclarator (AbstractArray line (optional_of (below xs)) (optional_of xs)) ∷ (below (below xs))
after (MakeAbstractFunction line variadic) xs = MadeDeclarator (AbstractFunction line (optional_of (below xs)) (trees_of xs) variadic) ∷ (below (below xs))
after (MakeKeyword line word) xs = MadeSpecifier (Keyword line word) ∷ xs
after (MakeComposite line word tag) xs = MadeSpecifier (Composite line word tag (trees_of xs)) ∷ (below xs)
after (MakeEnumeration line tag comma) xs = MadeSpecifier (Enumeration line tag (trees_of xs) comma) ∷ (below xs)
after (MakeTag line word n) xs = MadeSpecifier (Tag line word n) ∷ xs
after (MakeTypedefName line n) xs = MadeSpecifier (TypedefName line n) ∷ xs
after (MakeInitial line) xs = MadeInitializer (Initial line (expression_of xs)) ∷ (below xs)
after (MakeBraces line comma) xs = MadeInitializer (Braces line (trees_of xs) comma) ∷ (below xs)
after (MakeBlock line) xs = MadeStatement (Block line (trees_of xs)) ∷ (below xs)
after (MakeExpressionStatement line) xs = MadeStatement (ExpressionStatement line (optional_of xs)) ∷ (below xs)
after (MakeIf line) xs = MadeStatement (If line (expression_of (below xs)) (statement_of xs)) ∷ (below (below xs))
after (MakeIfElse line) xs = MadeStatement (IfElse line (expression_of (below (below xs))) (statement_of (below xs)) (statement_of xs)) ∷ (below (below (below xs)))
after (MakeWhile line) xs = MadeStatement (While line (expression_of (below xs)) (statement_of xs)) ∷ (below (below xs))
after (MakeDoWhile line) xs = MadeStatement (DoWhile line (statement_of (below xs)) (expression_of xs)) ∷ (below (below xs))
after (MakeFor line) xs = MadeStatement (For line (optional_of (below (below (below xs)))) (optional_of (below (below xs))) (optional_of (below xs)) (statement_of xs)) ∷ (below (below (below (below xs))))
after (MakeForDeclaration line) xs = MadeStatement (ForDeclaration line (declaration_of (below (below (below xs)))) (optional_of (below (below xs))) (optional_of (below xs)) (statement_of xs)) ∷ (below (below (below (below xs))))
after (MakeSwitch line) xs = MadeStatement (Switch line (expression_of (below xs)) (statement_of xs)) ∷ (below (below xs))
after (MakeSwitchBlock line) xs = MadeStatement (SwitchBlock line (trees_of xs)) ∷ (below xs)
after (MakeLabelled line) xs = MadeStatement (Labelled line (trees_of (below xs)) (statement_of xs)) ∷ (below (below xs))
after (MakeCase line) xs = MadeStatement (Case line (expression_of xs)) ∷ (below xs)
after (MakeDefault line) xs = MadeStatement (Default line) ∷ xs
after (MakeBreak line) xs = MadeStatement (Break line) ∷ xs
after (MakeContinue line) xs = MadeStatement (Continue line) ∷ xs
after (MakeReturn line) xs = MadeStatement (Return line (optional_of xs)) ∷ (below xs)
after MakeOfExpression xs = MadeTree (OfExpression (expression_of xs)) ∷ (below xs)
after MakeOfDeclaration xs = MadeTree (OfDeclaration (declaration_of xs)) ∷ (below xs)
after MakeOfDeclarator xs = MadeTree (OfDeclarator (declarator_of xs)) ∷ (below xs)
after MakeOfSpecifier xs = MadeTree (OfSpecifier (specifier_of xs)) ∷ (below xs)
after MakeOfInitializer xs = MadeTree (OfInitializer (initializer_of xs)) ∷ (below xs)
after MakeOfStatement xs = MadeTree (OfStatement (statement_of xs)) ∷ (below xs)
after MakeNoTrees xs = MadeTrees NoTrees ∷ xs
after MakeThen xs = MadeTrees (Then (trees_of (below xs)) (tree_of xs)) ∷ (below (below xs))
after MakeAbsent xs = MadeOptional Absent ∷ xs
after MakePresent xs = MadeOptional (Present (tree_of xs)) ∷ (below xs)

-- what is made by steps in a row
abbrev pub run : List Step → List Made → List Made
run [] xs = xs
run (s ∷ ss) xs = run ss (after s xs)

-- the steps that make a tree, before others
abbrev mutual
  pub expression_steps : ExpressionTree → List Step → List Step
  expression_steps (Name line n) rest = MakeName line n ∷ rest
  expression_steps (Number line value decimal unsigned longs) rest = MakeNumber line value decimal unsigned longs ∷ rest
  expression_steps (Character line value) rest = MakeCharacter line value ∷ rest
  expression_steps (Text line first more) rest = MakeText line first more ∷ rest
  expression_steps (Paren line a) rest = expression_steps a (MakeParen line ∷ rest)
  expression_steps (Index line a i) rest = expression_steps a (expression_steps i (MakeIndex line ∷ rest))
  expression_steps (Call line callee arguments) rest = expression_steps callee (arguments_steps arguments (MakeCall line ∷ rest))
  expression_steps (Member line a n) rest = expression_steps a (MakeMember line n ∷ rest)
  expression_steps (Arrow line a n) rest = expression_steps a (MakeArrow line n ∷ rest)
  expression_steps (PostIncrement line a) rest = expression_steps a (MakePostIncrement line ∷ rest)
  expression_steps (PostDecrement line a) rest = expression_steps a (MakePostDecrement line ∷ rest)
  expression_steps (PreIncrement line a) rest = expression_steps a (MakePreIncrement line ∷ rest)
  expression_steps (PreDecrement line a) rest = expression_steps a (MakePreDecrement line ∷ rest)
  expression_steps (Unary line op a) rest = expression_steps a (MakeUnary line op ∷ rest)
  expression_steps (SizeofExpr line a) rest = expression_steps a (MakeSizeofExpr line ∷ rest)
  expression_steps (SizeofType line type) rest = declaration_steps type (MakeSizeofType line ∷ rest)
  expression_steps (Cast line type a) rest = declaration_steps type (expression_steps a (MakeCast line ∷ rest))
  expression_steps (Binary line op a b) rest = expression_steps a (expression_steps b (MakeBinary line op ∷ rest))
  expression_steps (Conditional line a b c) rest = expression_steps a (expression_steps b (expression_steps c (MakeConditional line ∷ rest)))
  expression_steps (Assign line op a b) rest = expression_steps a (expression_steps b (MakeAssign line op ∷ rest))
  expression_steps (Comma line a b) rest = expression_steps a (expression_steps b (MakeComma line ∷ rest))

  pub arguments_steps : ArgumentTrees → List Step → List Step
  arguments_steps NoArguments rest = MakeNoArguments ∷ rest
  arguments_steps (Argument before last) rest = arguments_steps before (expression_steps last (MakeArgument ∷ rest))

  pub declaration_steps : DeclarationTree → List Step → List Step
  declaration_steps (Function line specs declarator block) rest = trees_steps specs (declarator_steps declarator (statement_steps block (MakeFunction line ∷ rest)))
  declaration_steps (Declaration line specs declared) rest = trees_steps specs (trees_steps declared (MakeDeclaration line ∷ rest))
  declaration_steps (InitDeclarator line declarator init) rest = declarator_steps declarator (optional_steps init (MakeInitDeclarator line ∷ rest))
  declaration_steps (MemberDeclaration line specs declarators) rest = trees_steps specs (trees_steps declarators (MakeMemberDeclaration line ∷ rest))
  declaration_steps (Enumerator line n value) rest = optional_steps value (MakeEnumerator line n ∷ rest)
  declaration_steps (Parameter line specs declarator) rest = trees_steps specs (optional_steps declarator (MakeParameter line ∷ rest))
  declaration_steps (TypeName line specs declarator) rest = trees_steps specs (optional_steps declarator (MakeTypeName line ∷ rest))

  pub declarator_steps : DeclaratorTree → List Step → List Step
  declarator_steps (DeclaredName line n) rest = MakeDeclaredName line n ∷ rest
  declarator_steps (ParenDeclarator line d) rest = declarator_steps d (MakeParenDeclarator line ∷ rest)
  declarator_steps (Pointer line consts d) rest = declarator_steps d (MakePointer line consts ∷ rest)
  declarator_steps (Array line d size) rest = declarator_steps d (optional_steps size (MakeArray line ∷ rest))
  declarator_steps (FunctionDeclarator line d parameters variadic) rest = declarator_steps d (trees_steps parameters (MakeFunctionDeclarator line variadic ∷ rest))
  declarator_steps (AbstractParen line d) rest = declarator_steps d (MakeAbstractParen line ∷ rest)
  declarator_steps (AbstractPointer line consts d) rest = optional_steps d (MakeAbstractPointer line consts ∷ rest)
  declarator_steps (AbstractArray line d size) rest = optional_steps d (optional_steps size (MakeAbstractArray line ∷ rest))
  declarator_steps (AbstractFunction line d parameters variadic) rest = optional_steps d (trees_steps parameters (MakeAbstractFunction line variadic ∷ rest))

  pub specifier_steps : SpecifierTree → List Step → List Step
  specifier_steps (Keyword line word) rest = MakeKeyword line word ∷ rest
  specifier_steps (Composite line word tag members) rest = trees_steps members (MakeComposite line word tag ∷ rest)
  specifier_steps (Enumeration line tag enumerators comma) rest = trees_steps enumerators (MakeEnumeration line tag comma ∷ rest)
  specifier_steps (Tag line word n) rest = MakeTag line word n ∷ rest
  specifier_steps (TypedefName line n) rest = MakeTypedefName line n ∷ rest

  pub initializer_steps : InitializerTree → List Step → List Step
  initializer_steps (Initial line a) rest = expression_steps a (MakeInitial line ∷ rest)
  initializer_steps (Braces line inits comma) rest = trees_steps inits (MakeBraces line comma ∷ rest)

  pub statement_steps : StatementTree → List Step → List Step
  statement_steps (Block line items) rest = trees_steps items (MakeBlock line ∷ rest)
  statement_steps (ExpressionStatement line a) rest = optional_steps a (MakeExpressionStatement line ∷ rest)
  statement_steps (If line a body) rest = expression_steps a (statement_steps body (MakeIf line ∷ rest))
  statement_steps (IfElse line a body other) rest = expression_steps a (statement_steps body (statement_steps other (MakeIfElse line ∷ rest)))
  statement_steps (While line a body) rest = expression_steps a (statement_steps body (MakeWhile line ∷ rest))
  statement_steps (DoWhile line body a) rest = statement_steps body (expression_steps a (MakeDoWhile line ∷ rest))
  statement_steps (For line first condition step body) rest = optional_steps first (optional_steps condition (optional_steps step (statement_steps body (MakeFor line ∷ rest))))
  statement_steps (ForDeclaration line declaration condition step body) rest = declaration_steps declaration (optional_steps condition (optional_steps step (statement_steps body (MakeForDeclaration line ∷ rest))))
  statement_steps (Switch line a block) rest = expression_steps a (statement_steps block (MakeSwitch line ∷ rest))
  statement_steps (SwitchBlock line items) rest = trees_steps items (MakeSwitchBlock line ∷ rest)
  statement_steps (Labelled line labels statement) rest = trees_steps labels (statement_steps statement (MakeLabelled line ∷ rest))
  statement_steps (Case line a) rest = expression_steps a (MakeCase line ∷ rest)
  statement_steps (Default line) rest = MakeDefault line ∷ rest
  statement_steps (Break line) rest = MakeBreak line ∷ rest
  statement_steps (Continue line) rest = MakeContinue line ∷ rest
  statement_steps (Return line a) rest = optional_steps a (MakeReturn line ∷ rest)

  pub tree_steps : Tree → List Step → List Step
  tree_steps (OfExpression a) rest = expression_steps a (MakeOfExpression ∷ rest)
  tree_steps (OfDeclaration d) rest = declaration_steps d (MakeOfDeclaration ∷ rest)
  tree_steps (OfDeclarator d) rest = declarator_steps d (MakeOfDeclarator ∷ rest)
  tree_steps (OfSpecifier s) rest = specifier_steps s (MakeOfSpecifier ∷ rest)
  tree_steps (OfInitializer i) rest = initializer_steps i (MakeOfInitializer ∷ rest)
  tree_steps (OfStatement s) rest = statement_steps s (MakeOfStatement ∷ rest)

  pub trees_steps : Trees → List Step → List Step
  trees_steps NoTrees rest = MakeNoTrees ∷ rest
  trees_steps (Then before last) rest = trees_steps before (tree_steps last (MakeThen ∷ rest))

  pub optional_steps : OptionalTree → List Step → List Step
  optional_steps Absent rest = MakeAbsent ∷ rest
  optional_steps (Present t) rest = tree_steps t (MakePresent ∷ rest)
