-- A bridge: a tree is what its steps make, so it has a code; and so have a unit's tables.
use Rattle.std.proofs.Common.{◌∙◌, ap}
use Rattle.std.specs.Prelude.{◌≡◌, refl, ℕ, List, [], ◌∷◌}
use Rattle.std.specs.Coded.{Coded, code_by, coded_list, coded×}
use Rattle.pv_tree.specs.declared.nodes.NodeId.{NodeId}
use Rattle.pv_tree.specs.Syntax.{ExpressionTree, Name, Number, Character, Text, Paren, Index, Call, Member, Arrow, PostIncrement, PostDecrement, PreIncrement, PreDecrement, Unary, SizeofExpr, SizeofType, Cast, Binary, Conditional, Assign, Comma, ArgumentTrees, NoArguments, Argument, DeclarationTree, Function, Declaration, InitDeclarator, MemberDeclaration, Enumerator, Parameter, TypeName, DeclaratorTree, DeclaredName, ParenDeclarator, Pointer, Array, FunctionDeclarator, AbstractParen, AbstractPointer, AbstractArray, AbstractFunction, SpecifierTree, Keyword, Composite, Enumeration, Tag, TypedefName, InitializerTree, Initial, Braces, StatementTree, Block, ExpressionStatement, If, IfElse, While, DoWhile, For, ForDeclaration, Switch, SwitchBlock, Labelled, Case, Default, Break, Continue, Return, Tree, OfExpression, OfDeclaration, OfDeclarator, OfSpecifier, OfInitializer, OfStatement, Trees, NoTrees, Then, OptionalTree, Absent, Present}
use Rattle.pv_tree.specs.Tables.{Tables}
use Rattle.pv_tree.specs.Steps.{Step, MakeName, MakeNumber, MakeCharacter, MakeText, MakeParen, MakeIndex, MakeCall, MakeMember, MakeArrow, MakePostIncrement, MakePostDecrement, MakePreIncrement, MakePreDecrement, MakeUnary, MakeSizeofExpr, MakeSizeofType, MakeCast, MakeBinary, MakeConditional, MakeAssign, MakeComma, MakeNoArguments, MakeArgument, MakeFunction, MakeDeclaration, MakeInitDeclarator, MakeMemberDeclaration, MakeEnumerator, MakeParameter, MakeTypeName, MakeDeclaredName, MakeParenDeclarator, MakePointer, MakeArray, MakeFunctionDeclarator, MakeAbstractParen, MakeAbstractPointer, MakeAbstractArray, MakeAbstractFunction, MakeKeyword, MakeComposite, MakeEnumeration, MakeTag, MakeTypedefName, MakeInitial, MakeBraces, MakeBlock, MakeExpressionStatement, MakeIf, MakeIfElse, MakeWhile, MakeDoWhile, MakeFor, MakeForDeclaration, MakeSwitch, MakeSwitchBlock, MakeLabelled, MakeCase, MakeDefault, MakeBreak, MakeContinue, MakeReturn, MakeOfExpression, MakeOfDeclaration, MakeOfDeclarator, MakeOfSpecifier, MakeOfInitializer, MakeOfStatement, MakeNoTrees, MakeThen, MakeAbsent, MakePresent, Made, MadeExpression, MadeArguments, MadeDeclaration, MadeDeclarator, MadeSpecifier, MadeInitializer, MadeStatement, MadeTree, MadeTrees, MadeOptional, below, run, expression_steps, arguments_steps, declaration_steps, declarator_steps, specifier_steps, initializer_steps, statement_steps, tree_steps, trees_steps, optional_steps, tree_of}

mutual
  expression_made : (x : ExpressionTree) (rest : List Step) (xs : List Made) → run (expression_steps x rest) xs ≡ run rest (MadeExpression x ∷ xs)
  expression_made (Name line n) rest xs = refl
  expression_made (Number line value decimal unsigned longs) rest xs = refl
  expression_made (Character line value) rest xs = refl
  expression_made (Text line first more) rest xs = refl
  expression_made (Paren line a) rest xs = expression_made a (MakeParen line ∷ rest) xs
  expression_made (Index line a i) rest xs = expression_made a (expression_steps i (MakeIndex line ∷ rest)) xs ∙ expression_made i (MakeIndex line ∷ rest) (MadeExpression a ∷ xs)
  expression_made (Call line callee arguments) rest xs = expression_made callee (arguments_steps arguments (MakeCall line ∷ rest)) xs ∙ arguments_made arguments (MakeCall line ∷ rest) (MadeExpression callee ∷ xs)
  expression_made (Member line a n) rest xs = expression_made a (MakeMember line n ∷ rest) xs
  expression_made (Arrow line a n) rest xs = expression_made a (MakeArrow line n ∷ rest) xs
  expression_made (PostIncrement line a) rest xs = expression_made a (MakePostIncrement line ∷ rest) xs
  expression_made (PostDecrement line a) rest xs = expression_made a (MakePostDecrement line ∷ rest) xs
  expression_made (PreIncrement line a) rest xs = expression_made a (MakePreIncrement line ∷ rest) xs
  expression_made (PreDecrement line a) rest xs = expression_made a (MakePreDecrement line ∷ rest) xs
  expression_made (Unary line op a) rest xs = expression_made a (MakeUnary line op ∷ rest) xs
  expression_made (SizeofExpr line a) rest xs = expression_made a (MakeSizeofExpr line ∷ rest) xs
  expression_made (SizeofType line type) rest xs = declaration_made type (MakeSizeofType line ∷ rest) xs
  expression_made (Cast line type a) rest xs = declaration_made type (expression_steps a (MakeCast line ∷ rest)) xs ∙ expression_made a (MakeCast line ∷ rest) (MadeDeclaration type ∷ xs)
  expression_made (Binary line op a b) rest xs = expression_made a (expression_steps b (MakeBinary line op ∷ rest)) xs ∙ expression_made b (MakeBinary line op ∷ rest) (MadeExpression a ∷ xs)
  expression_made (Conditional line a b c) rest xs = expression_made a (expression_steps b (expression_steps c (MakeConditional line ∷ rest))) xs ∙ expression_made b (expression_steps c (MakeConditional line ∷ rest)) (MadeExpression a ∷ xs) ∙ expression_made c (MakeConditional line ∷ rest) (MadeExpression b ∷ MadeExpression a ∷ xs)
  expression_made (Assign line op a b) rest xs = expression_made a (expression_steps b (MakeAssign line op ∷ rest)) xs ∙ expression_made b (MakeAssign line op ∷ rest) (MadeExpression a ∷ xs)
  expression_made (Comma line a b) rest xs = expression_made a (expression_steps b (MakeComma line ∷ rest)) xs ∙ expression_made b (MakeComma line ∷ rest) (MadeExpression a ∷ xs)

  arguments_made : (x : ArgumentTrees) (rest : List Step) (xs : List Made) → run (arguments_steps x rest) xs ≡ run rest (MadeArguments x ∷ xs)
  arguments_made NoArguments rest xs = refl
  arguments_made (Argument before last) rest xs = arguments_made before (expression_steps last (MakeArgument ∷ rest)) xs ∙ expression_made last (MakeArgument ∷ rest) (MadeArguments before ∷ xs)

  declaration_made : (x : DeclarationTree) (rest : List Step) (xs : List Made) → run (declaration_steps x rest) xs ≡ run rest (MadeDeclaration x ∷ xs)
  declaration_made (Function line specs declarator block) rest xs = trees_made specs (declarator_steps declarator (statement_steps block (MakeFunction line ∷ rest))) xs ∙ declarator_made declarator (statement_steps block (MakeFunction line ∷ rest)) (MadeTrees specs ∷ xs) ∙ statement_made block (MakeFunction line ∷ rest) (MadeDeclarator declarator ∷ MadeTrees specs ∷ xs)
  declaration_made (Declaration line specs declared) rest xs = trees_made specs (trees_steps declared (MakeDeclaration line ∷ rest)) xs ∙ trees_made declared (MakeDeclaration line ∷ rest) (MadeTrees specs ∷ xs)
  declaration_made (InitDeclarator line declarator init) rest xs = declarator_made declarator (optional_steps init (MakeInitDeclarator line ∷ rest)) xs ∙ optional_made init (MakeInitDeclarator line ∷ rest) (MadeDeclarator declarator ∷ xs)
  declaration_made (MemberDeclaration line specs declarators) rest xs = trees_made specs (trees_steps declarators (MakeMemberDeclaration line ∷ rest)) xs ∙ trees_made declarators (MakeMemberDeclaration line ∷ rest) (MadeTrees specs ∷ xs)
  declaration_made (Enumerator line n value) rest xs = optional_made value (MakeEnumerator line n ∷ rest) xs
  declaration_made (Parameter line specs declarator) rest xs = trees_made specs (optional_steps declarator (MakeParameter line ∷ rest)) xs ∙ optional_made declarator (MakeParameter line ∷ rest) (MadeTrees specs ∷ xs)
  declaration_made (TypeName line specs declarator) rest xs = trees_made specs (optional_steps declarator (MakeTypeName line ∷ rest)) xs ∙ optional_made declarator (MakeTypeName line ∷ rest) (MadeTrees specs ∷ xs)

  declarator_made : (x : DeclaratorTree) (rest : List Step) (xs : List Made) → run (declarator_steps x rest) xs ≡ run rest (MadeDeclarator x ∷ xs)
  declarator_made (DeclaredName line n) rest xs = refl
  declarator_made (ParenDeclarator line d) rest xs = declarator_made d (MakeParenDeclarator line ∷ rest) xs
  declarator_made (Pointer line consts d) rest xs = declarator_made d (MakePointer line consts ∷ rest) xs
  declarator_made (Array line d size) rest xs = declarator_made d (optional_steps size (MakeArray line ∷ rest)) xs ∙ optional_made size (MakeArray line ∷ rest) (MadeDeclarator d ∷ xs)
  declarator_made (FunctionDeclarator line d parameters variadic) rest xs = declarator_made d (trees_steps parameters (MakeFunctionDeclarator line variadic ∷ rest)) xs ∙ trees_made parameters (MakeFunctionDeclarator line variadic ∷ rest) (MadeDeclarator d ∷ xs)
  declarator_made (AbstractParen line d) rest xs = declarator_made d (MakeAbstractParen line ∷ rest) xs
  declarator_made (AbstractPointer line consts d) rest xs = optional_made d (MakeAbstractPointer line consts ∷ rest) xs
  declarator_made (AbstractArray line d size) rest xs = optional_made d (optional_steps size (MakeAbstractArray line ∷ rest)) xs ∙ optional_made size (MakeAbstractArray line ∷ rest) (MadeOptional d ∷ xs)
  declarator_made (AbstractFunction line d parameters variadic) rest xs = optional_made d (trees_steps parameters (MakeAbstractFunction line variadic ∷ rest)) xs ∙ trees_made parameters (MakeAbstractFunction line variadic ∷ rest) (MadeOptional d ∷ xs)

  specifier_made : (x : SpecifierTree) (rest : List Step) (xs : List Made) → run (specifier_steps x rest) xs ≡ run rest (MadeSpecifier x ∷ xs)
  specifier_made (Keyword line word) rest xs = refl
  specifier_made (Composite line word tag members) rest xs = trees_made members (MakeComposite line word tag ∷ rest) xs
  specifier_made (Enumeration line tag enumerators comma) rest xs = trees_made enumerators (MakeEnumeration line tag comma ∷ rest) xs
  specifier_made (Tag line word n) rest xs = refl
  specifier_made (TypedefName line n) rest xs = refl

  initializer_made : (x : InitializerTree) (rest : List Step) (xs : List Made) → run (initializer_steps x rest) xs ≡ run rest (MadeInitializer x ∷ xs)
  initializer_made (Initial line a) rest xs = expression_made a (MakeInitial line ∷ rest) xs
  initializer_made (Braces line inits comma) rest xs = trees_made inits (MakeBraces line comma ∷ rest) xs

  statement_made : (x : StatementTree) (rest : List Step) (xs : List Made) → run (statement_steps x rest) xs ≡ run rest (MadeStatement x ∷ xs)
  statement_made (Block line items) rest xs = trees_made items (MakeBlock line ∷ rest) xs
  statement_made (ExpressionStatement line a) rest xs = optional_made a (MakeExpressionStatement line ∷ rest) xs
  statement_made (If line a body) rest xs = expression_made a (statement_steps body (MakeIf line ∷ rest)) xs ∙ statement_made body (MakeIf line ∷ rest) (MadeExpression a ∷ xs)
  statement_made (IfElse line a body other) rest xs = expression_made a (statement_steps body (statement_steps other (MakeIfElse line ∷ rest))) xs ∙ statement_made body (statement_steps other (MakeIfElse line ∷ rest)) (MadeExpression a ∷ xs) ∙ statement_made other (MakeIfElse line ∷ rest) (MadeStatement body ∷ MadeExpression a ∷ xs)
  statement_made (While line a body) rest xs = expression_made a (statement_steps body (MakeWhile line ∷ rest)) xs ∙ statement_made body (MakeWhile line ∷ rest) (MadeExpression a ∷ xs)
  statement_made (DoWhile line body a) rest xs = statement_made body (expression_steps a (MakeDoWhile line ∷ rest)) xs ∙ expression_made a (MakeDoWhile line ∷ rest) (MadeStatement body ∷ xs)
  statement_made (For line first condition step body) rest xs = optional_made first (optional_steps condition (optional_steps step (statement_steps body (MakeFor line ∷ rest)))) xs ∙ optional_made condition (optional_steps step (statement_steps body (MakeFor line ∷ rest))) (MadeOptional first ∷ xs) ∙ optional_made step (statement_steps body (MakeFor line ∷ rest)) (MadeOptional condition ∷ MadeOptional first ∷ xs) ∙ statement_made body (MakeFor line ∷ rest) (MadeOptional step ∷ MadeOptional condition ∷ MadeOptional first ∷ xs)
  statement_made (ForDeclaration line declaration condition step body) rest xs = declaration_made declaration (optional_steps condition (optional_steps step (statement_steps body (MakeForDeclaration line ∷ rest)))) xs ∙ optional_made condition (optional_steps step (statement_steps body (MakeForDeclaration line ∷ rest))) (MadeDeclaration declaration ∷ xs) ∙ optional_made step (statement_steps body (MakeForDeclaration line ∷ rest)) (MadeOptional condition ∷ MadeDeclaration declaration ∷ xs) ∙ statement_made body (MakeForDeclaration line ∷ rest) (MadeOptional step ∷ MadeOptional condition ∷ MadeDeclaration declaration ∷ xs)
  statement_made (Switch line a block) rest xs = expression_made a (statement_steps block (MakeSwitch line ∷ rest)) xs ∙ statement_made block (MakeSwitch line ∷ rest) (MadeExpression a ∷ xs)
  statement_made (SwitchBlock line items) rest xs = trees_made items (MakeSwitchBlock line ∷ rest) xs
  statement_made (Labelled line labels statement) rest xs = trees_made labels (statement_steps statement (MakeLabelled line ∷ rest)) xs ∙ statement_made statement (MakeLabelled line ∷ rest) (MadeTrees labels ∷ xs)
  statement_made (Case line a) rest xs = expression_made a (MakeCase line ∷ rest) xs
  statement_made (Default line) rest xs = refl
  statement_made (Break line) rest xs = refl
  statement_made (Continue line) rest xs = refl
  statement_made (Return line a) rest xs = optional_made a (MakeReturn line ∷ rest) xs

  tree_made : (x : Tree) (rest : List Step) (xs : List Made) → run (tree_steps x rest) xs ≡ run rest (MadeTree x ∷ xs)
  tree_made (OfExpression a) rest xs = expression_made a (MakeOfExpression ∷ rest) xs
  tree_made (OfDeclaration d) rest xs = declaration_made d (MakeOfDeclaration ∷ rest) xs
  tree_made (OfDeclarator d) rest xs = declarator_made d (MakeOfDeclarator ∷ rest) xs
  tree_made (OfSpecifier s) rest xs = specifier_made s (MakeOfSpecifier ∷ rest) xs
  tree_made (OfInitializer i) rest xs = initializer_made i (MakeOfInitializer ∷ rest) xs
  tree_made (OfStatement s) rest xs = statement_made s (MakeOfStatement ∷ rest) xs

  trees_made : (x : Trees) (rest : List Step) (xs : List Made) → run (trees_steps x rest) xs ≡ run rest (MadeTrees x ∷ xs)
  trees_made NoTrees rest xs = refl
  trees_made (Then before last) rest xs = trees_made before (tree_steps last (MakeThen ∷ rest)) xs ∙ tree_made last (MakeThen ∷ rest) (MadeTrees before ∷ xs)

  optional_made : (x : OptionalTree) (rest : List Step) (xs : List Made) → run (optional_steps x rest) xs ≡ run rest (MadeOptional x ∷ xs)
  optional_made Absent rest xs = refl
  optional_made (Present t) rest xs = tree_made t (MakePresent ∷ rest) xs

abbrev pub steps : Tree → List Step
steps t = tree_steps t []

abbrev pub tree_by_steps : List Step → Tree
tree_by_steps ss = tree_of (run ss [])

pub made_again : (t : Tree) → tree_by_steps (steps t) ≡ t
made_again t = ap tree_of (tree_made t [] [])

-- the code of a unit's tables, by that of a step and that of a node's number
abbrev pub tables_code : Coded Step → Coded NodeId → Coded Tables
tables_code step node =
    code_by (List Tree × (List (List NodeId) × List NodeId)) (coded× (coded_list (code_by (List Step) (coded_list step) steps tree_by_steps made_again)) (coded× (coded_list (coded_list node)) (coded_list node)))
    (λ u. (u.forest.trees, (u.forest.lists, u.externals))) (λ p. record { forest = record { trees = p.0; lists = p.1.0 }; externals = p.1.1 }) (λ _. refl)
