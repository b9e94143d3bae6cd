-- A bridge: the lines of trees that are no expressions.
use Rattle.std.specs.Prelude.{ℕ}
use Rattle.pv_tree.specs.Syntax.{DeclarationTree, Function, Declaration, InitDeclarator, MemberDeclaration, Enumerator, Parameter, TypeName, DeclaratorTree, DeclaredName, ParenDeclarator, Pointer, Array, FunctionDeclarator, AbstractParen, AbstractPointer, AbstractArray, AbstractFunction, SpecifierTree, Keyword, Composite, Enumeration, Tag, TypedefName, InitializerTree, Initial, Braces, StatementTree, Block, ExpressionStatement, If, IfElse, While, DoWhile, For, ForDeclaration, Switch, SwitchBlock, Labelled, Case, Default, Break, Continue, Return, Tree, OfExpression, OfDeclaration, OfDeclarator, OfSpecifier, OfInitializer, OfStatement}
use Rattle.pv_tree.specs.Lines.{expression_line}

-- a declaration's line (6.10.4p2)
abbrev pub declaration_line : DeclarationTree → ℕ
declaration_line (Function line specs declarator block) = line
declaration_line (Declaration line specs declared) = line
declaration_line (InitDeclarator line declarator init) = line
declaration_line (MemberDeclaration line specs declarators) = line
declaration_line (Enumerator line n value) = line
declaration_line (Parameter line specs declarator) = line
declaration_line (TypeName line specs declarator) = line

-- a declarator's line (6.10.4p2)
abbrev pub declarator_line : DeclaratorTree → ℕ
declarator_line (DeclaredName line n) = line
declarator_line (ParenDeclarator line d) = line
declarator_line (Pointer line consts d) = line
declarator_line (Array line d size) = line
declarator_line (FunctionDeclarator line d parameters variadic) = line
declarator_line (AbstractParen line d) = line
declarator_line (AbstractPointer line consts d) = line
declarator_line (AbstractArray line d size) = line
declarator_line (AbstractFunction line d parameters variadic) = line

-- a specifier's line (6.10.4p2)
abbrev pub specifier_line : SpecifierTree → ℕ
specifier_line (Keyword line word) = line
specifier_line (Composite line word tag members) = line
specifier_line (Enumeration line tag enumerators comma) = line
specifier_line (Tag line word n) = line
specifier_line (TypedefName line n) = line

-- an initializer's line (6.10.4p2)
abbrev pub initializer_line : InitializerTree → ℕ
initializer_line (Initial line a) = line
initializer_line (Braces line inits comma) = line

-- a statement's line (6.10.4p2)
abbrev pub statement_line : StatementTree → ℕ
statement_line (Block line items) = line
statement_line (ExpressionStatement line a) = line
statement_line (If line a body) = line
statement_line (IfElse line a body other) = line
statement_line (While line a body) = line
statement_line (DoWhile line body a) = line
statement_line (For line first condition step body) = line
statement_line (ForDeclaration line declaration condition step body) = line
statement_line (Switch line a block) = line
statement_line (SwitchBlock line items) = line
statement_line (Labelled line labels statement) = line
statement_line (Case line a) = line
statement_line (Default line) = line
statement_line (Break line) = line
statement_line (Continue line) = line
statement_line (Return line a) = line

-- the line of a tree of any kind (6.10.4p2)
abbrev pub tree_line : Tree → ℕ
tree_line (OfExpression a) = expression_line a
tree_line (OfDeclaration d) = declaration_line d
tree_line (OfDeclarator d) = declarator_line d
tree_line (OfSpecifier s) = specifier_line s
tree_line (OfInitializer i) = initializer_line i
tree_line (OfStatement s) = statement_line s
