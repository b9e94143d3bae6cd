-- Which character constants a source has that are evaluated (C17 6.4.4.4, 6.7, 6.8).
use Rattle.pv_tree.specs.Syntax.{DeclarationTree, Function, Declaration, InitDeclarator, MemberDeclaration, Enumerator, Parameter, TypeName, InitializerTree, Initial, Braces, StatementTree, Block, ExpressionStatement, If, IfElse, While, DoWhile, For, ForDeclaration, Switch, SwitchBlock, Labelled, Case, Default, Break, Continue, Return, Tree, OfExpression, OfDeclaration, OfDeclarator, OfSpecifier, OfInitializer, OfStatement, Trees, NoTrees, Then, OptionalTree, Absent, Present}
use Rattle.pv_well_typed.specs.Characters.{HasCharacters}

-- 6.4.4.4p10: the same of all evaluated expressions of statements (6.8), declarations (6.7) and initializers (6.7.9)
abbrev mutual
  pub TreeCharacters : Tree → Type 0
  TreeCharacters (OfExpression a) = HasCharacters a
  TreeCharacters (OfDeclaration d) = DeclarationCharacters d
  TreeCharacters (OfDeclarator d) = Unit {0}
  TreeCharacters (OfSpecifier x) = Unit {0}
  TreeCharacters (OfInitializer i) = InitializerCharacters i
  TreeCharacters (OfStatement b) = StatementCharacters b

  pub TreesCharacters : Trees → Type 0
  TreesCharacters NoTrees = Unit {0}
  TreesCharacters (Then before x) = TreesCharacters before × TreeCharacters x

  pub OptionalCharacters : OptionalTree → Type 0
  OptionalCharacters Absent = Unit {0}
  OptionalCharacters (Present x) = TreeCharacters x

  pub DeclarationCharacters : DeclarationTree → Type 0
  DeclarationCharacters (Function line specs d b) = StatementCharacters b
  DeclarationCharacters (Declaration line specs ds) = TreesCharacters ds
  DeclarationCharacters (InitDeclarator line d i) = OptionalCharacters i
  DeclarationCharacters (MemberDeclaration line specs ds) = Unit {0}
  DeclarationCharacters (Enumerator line n x) = Unit {0}
  DeclarationCharacters (Parameter line specs d) = Unit {0}
  DeclarationCharacters (TypeName line specs d) = Unit {0}

  pub InitializerCharacters : InitializerTree → Type 0
  InitializerCharacters (Initial line a) = HasCharacters a
  InitializerCharacters (Braces line inits comma) = TreesCharacters inits

  pub StatementCharacters : StatementTree → Type 0
  StatementCharacters (Block line items) = TreesCharacters items
  StatementCharacters (ExpressionStatement line a) = OptionalCharacters a
  StatementCharacters (If line a b) = HasCharacters a × StatementCharacters b
  StatementCharacters (IfElse line a b c) = HasCharacters a × StatementCharacters b × StatementCharacters c
  StatementCharacters (While line a b) = HasCharacters a × StatementCharacters b
  StatementCharacters (DoWhile line b a) = StatementCharacters b × HasCharacters a
  StatementCharacters (For line first a step b) = OptionalCharacters first × OptionalCharacters a × OptionalCharacters step × StatementCharacters b
  StatementCharacters (ForDeclaration line d a step b) = DeclarationCharacters d × OptionalCharacters a × OptionalCharacters step × StatementCharacters b
  StatementCharacters (Switch line a b) = HasCharacters a × StatementCharacters b
  StatementCharacters (SwitchBlock line items) = TreesCharacters items
  StatementCharacters (Labelled line labels b) = TreesCharacters labels × StatementCharacters b
  StatementCharacters (Case line a) = HasCharacters a
  StatementCharacters (Default line) = Unit {0}
  StatementCharacters (Break line) = Unit {0}
  StatementCharacters (Continue line) = Unit {0}
  StatementCharacters (Return line a) = OptionalCharacters a
