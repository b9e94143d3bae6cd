-- A property of all types that the nodes, objects and stores of a unit have (C17 6.5 to 6.9).
use Rattle.std.specs.Prelude.{Option, Some, None}
use Rattle.pv_types.specs.Ty.{Ty}
use Rattle.pv_typed.specs.Known.{Each}
use Rattle.pv_typed.specs.TypedTree.{TypedTree, Node, Form, Constant, Object, Function, String, Subscript, Call, CallPointer, LibraryCall, Member, MemberOfValue, Arrow, Increment, Address, Indirection, Unary, Not, Sizeof, Cast, Arithmetic, PointerSum, PointerDifference, PointerOrder, PointerEquality, LogicalAnd, LogicalOr, Conditional, Assign, CompoundAssign, PointerAssign, Comma, Read, ArrayPointer, Convert, Arguments, NoArguments, MoreArguments}
use Rattle.pv_typed.specs.TypedStatement.{TypedStatement, Block, Declare, Expression, Empty, If, IfElse, Switch, Case, Default, While, DoWhile, For, ForDeclaration, Continue, Break, Return, Statements, NoStatements, MoreStatements}
use Rattle.pv_typed.specs.TypedUnits.{WholeUnit, Store, StoredValue, ValueOf, TextOf, TypedObject, TypedFunction}

-- 6.5: of all nodes of an expression
abbrev mutual
  pub AllTypes : (Ty → Type 0) → TypedTree → Type 0
  AllTypes P (Node t line turn x) = P t × AllForm P x

  pub AllForm : (Ty → Type 0) → Form → Type 0
  AllForm P (Constant n) = Unit {0}
  AllForm P (Object o) = Unit {0}
  AllForm P (Function f) = Unit {0}
  AllForm P (String l) = Unit {0}
  AllForm P (Subscript x y) = AllTypes P x × AllTypes P y
  AllForm P (Call f xs) = AllArguments P xs
  AllForm P (CallPointer x xs) = AllTypes P x × AllArguments P xs
  AllForm P (LibraryCall f xs) = AllArguments P xs
  AllForm P (Member x k) = AllTypes P x
  AllForm P (MemberOfValue x k) = AllTypes P x
  AllForm P (Arrow x k) = AllTypes P x
  AllForm P (Increment o x) = AllTypes P x
  AllForm P (Address x) = AllTypes P x
  AllForm P (Indirection x) = AllTypes P x
  AllForm P (Unary o x) = AllTypes P x
  AllForm P (Not x) = AllTypes P x
  AllForm P (Sizeof n) = Unit {0}
  AllForm P (Cast x) = AllTypes P x
  AllForm P (Arithmetic o x y) = AllTypes P x × AllTypes P y
  AllForm P (PointerSum g x y) = AllTypes P x × AllTypes P y
  AllForm P (PointerDifference x y) = AllTypes P x × AllTypes P y
  AllForm P (PointerOrder o x y) = AllTypes P x × AllTypes P y
  AllForm P (PointerEquality o x y) = AllTypes P x × AllTypes P y
  AllForm P (LogicalAnd x y) = AllTypes P x × AllTypes P y
  AllForm P (LogicalOr x y) = AllTypes P x × AllTypes P y
  AllForm P (Conditional x y z) = AllTypes P x × AllTypes P y × AllTypes P z
  AllForm P (Assign x y) = AllTypes P x × AllTypes P y
  AllForm P (CompoundAssign o k x y) = AllTypes P x × AllTypes P y
  AllForm P (PointerAssign g x y) = AllTypes P x × AllTypes P y
  AllForm P (Comma x y) = AllTypes P x × AllTypes P y
  AllForm P (Read x) = AllTypes P x
  AllForm P (ArrayPointer x) = AllTypes P x
  AllForm P (Convert x) = AllTypes P x

  pub AllArguments : (Ty → Type 0) → Arguments → Type 0
  AllArguments P NoArguments = Unit {0}
  AllArguments P (MoreArguments x xs) = AllTypes P x × AllArguments P xs

-- 6.8: the same of an expression that a statement may have
abbrev pub AllOption : (Ty → Type 0) → Option TypedTree → Type 0
AllOption P None = Unit {0}
AllOption P (Some x) = AllTypes P x

-- 6.8: of all expressions of a statement
abbrev mutual
  pub AllStatement : (Ty → Type 0) → TypedStatement → Type 0
  AllStatement P (Block line os xs) = AllStatements P xs
  AllStatement P (Declare line o) = Unit {0}
  AllStatement P (Expression line x) = AllTypes P x
  AllStatement P (Empty line) = Unit {0}
  AllStatement P (If line c x) = AllTypes P c × AllStatement P x
  AllStatement P (IfElse line c x y) = AllTypes P c × AllStatement P x × AllStatement P y
  AllStatement P (Switch line c x) = AllTypes P c × AllStatement P x
  AllStatement P (Case line n x) = AllStatement P x
  AllStatement P (Default line x) = AllStatement P x
  AllStatement P (While line c x) = AllTypes P c × AllStatement P x
  AllStatement P (DoWhile line x c) = AllStatement P x × AllTypes P c
  AllStatement P (For line f c s x) = AllOption P f × AllOption P c × AllOption P s × AllStatement P x
  AllStatement P (ForDeclaration line os ds c s x) = AllStatements P ds × AllOption P c × AllOption P s × AllStatement P x
  AllStatement P (Continue line) = Unit {0}
  AllStatement P (Break line) = Unit {0}
  AllStatement P (Return line x) = AllOption P x

  pub AllStatements : (Ty → Type 0) → Statements → Type 0
  AllStatements P NoStatements = Unit {0}
  AllStatements P (MoreStatements x xs) = AllStatement P x × AllStatements P xs

-- 6.7.9: of what an initializer stores
abbrev pub AllValue : (Ty → Type 0) → StoredValue → Type 0
AllValue P (ValueOf x) = AllTypes P x
AllValue P (TextOf l) = Unit {0}

-- 6.7.9: of a store of an initializer
pub record AllStore (P : Ty → Type 0) (x : Store) : Type 0 where
  pub t : P x.t
  pub what : AllValue P x.what

-- 6.7, 6.7.9: of an object with its stores
pub record AllObject (P : Ty → Type 0) (x : TypedObject) : Type 0 where
  pub t : P x.t
  pub inits : Each (AllStore P) x.inits

-- 6.9.1: of a function's body, where it is defined
abbrev pub AllBody : (Ty → Type 0) → Option TypedStatement → Type 0
AllBody P None = Unit {0}
AllBody P (Some x) = AllStatement P x

-- 6.9: of all objects and functions of a unit
pub record AllUnit (P : Ty → Type 0) (u : WholeUnit) : Type 0 where
  pub objects : Each (AllObject P) u.objects
  pub functions : Each (λ (f : TypedFunction). AllBody P f.body) u.functions
