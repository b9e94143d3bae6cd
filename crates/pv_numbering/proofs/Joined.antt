-- Two facts of each type of a unit come to a third one of each (C17 6.5 to 6.9).
use Rattle.std.proofs.Common.{Some, None}
use Rattle.std.specs.Prelude.{Option}
use Rattle.pv_types.specs.Ty.{Ty}
use Rattle.pv_typed.specs.TypedTree.{TypedTree, Node, Form, Constant, Object, Function, String, Subscript, Call, CallPointer, LibraryCall, Member, MemberOfValue, Arrow, Increment, Address, Indirection, Unary, Not, Sizeof, Cast, Arithmetic, PointerSum, PointerDifference, PointerOrder, PointerEquality, LogicalAnd, LogicalOr, Conditional, Assign, CompoundAssign, PointerAssign, Comma, Read, ArrayPointer, Convert, Arguments, NoArguments, MoreArguments}
use Rattle.pv_typed.specs.TypedStatement.{TypedStatement, Block, Declare, Expression, Empty, If, IfElse, Switch, Case, Default, While, DoWhile, For, ForDeclaration, Continue, Break, Return, Statements, NoStatements, MoreStatements}
use Rattle.pv_typed.specs.TypedUnits.{WholeUnit, Store, StoredValue, ValueOf, TextOf, TypedObject, TypedFunction}
use Rattle.pv_numbering.proofs.Types.{AllTypes, AllForm, AllArguments, AllOption, AllStatement, AllStatements, AllValue, AllStore, AllObject, AllBody, AllUnit}
use Rattle.pv_numbering.proofs.Folds.{each_joined}

module _ (P Q R : Ty → Type 0) (join : (t : Ty) → P t → Q t → R t) where
  mutual
    joined_types : (x : TypedTree) → AllTypes P x → AllTypes Q x → AllTypes R x
    joined_types (Node t line turn x) h k = (join t h.0 k.0, joined_form x h.1 k.1)

    joined_form : (x : Form) → AllForm P x → AllForm Q x → AllForm R x
    joined_form (Constant n) h k = tt
    joined_form (Object o) h k = tt
    joined_form (Function f) h k = tt
    joined_form (String l) h k = tt
    joined_form (Subscript x y) h k = (joined_types x h.0 k.0, joined_types y h.1 k.1)
    joined_form (Call f xs) h k = joined_arguments xs h k
    joined_form (CallPointer x xs) h k = (joined_types x h.0 k.0, joined_arguments xs h.1 k.1)
    joined_form (LibraryCall f xs) h k = joined_arguments xs h k
    joined_form (Member x n) h k = joined_types x h k
    joined_form (MemberOfValue x n) h k = joined_types x h k
    joined_form (Arrow x n) h k = joined_types x h k
    joined_form (Increment o x) h k = joined_types x h k
    joined_form (Address x) h k = joined_types x h k
    joined_form (Indirection x) h k = joined_types x h k
    joined_form (Unary o x) h k = joined_types x h k
    joined_form (Not x) h k = joined_types x h k
    joined_form (Sizeof n) h k = tt
    joined_form (Cast x) h k = joined_types x h k
    joined_form (Arithmetic o x y) h k = (joined_types x h.0 k.0, joined_types y h.1 k.1)
    joined_form (PointerSum g x y) h k = (joined_types x h.0 k.0, joined_types y h.1 k.1)
    joined_form (PointerDifference x y) h k = (joined_types x h.0 k.0, joined_types y h.1 k.1)
    joined_form (PointerOrder o x y) h k = (joined_types x h.0 k.0, joined_types y h.1 k.1)
    joined_form (PointerEquality o x y) h k = (joined_types x h.0 k.0, joined_types y h.1 k.1)
    joined_form (LogicalAnd x y) h k = (joined_types x h.0 k.0, joined_types y h.1 k.1)
    joined_form (LogicalOr x y) h k = (joined_types x h.0 k.0, joined_types y h.1 k.1)
    joined_form (Conditional x y z) h k = (joined_types x h.0 k.0, joined_types y h.1 k.1, joined_types z h.2 k.2)
    joined_form (Assign x y) h k = (joined_types x h.0 k.0, joined_types y h.1 k.1)
    joined_form (CompoundAssign o i x y) h k = (joined_types x h.0 k.0, joined_types y h.1 k.1)
    joined_form (PointerAssign g x y) h k = (joined_types x h.0 k.0, joined_types y h.1 k.1)
    joined_form (Comma x y) h k = (joined_types x h.0 k.0, joined_types y h.1 k.1)
    joined_form (Read x) h k = joined_types x h k
    joined_form (ArrayPointer x) h k = joined_types x h k
    joined_form (Convert x) h k = joined_types x h k

    joined_arguments : (xs : Arguments) → AllArguments P xs → AllArguments Q xs → AllArguments R xs
    joined_arguments NoArguments h k = tt
    joined_arguments (MoreArguments x xs) h k = (joined_types x h.0 k.0, joined_arguments xs h.1 k.1)

  joined_option : (x : Option TypedTree) → AllOption P x → AllOption Q x → AllOption R x
  joined_option None h k = tt
  joined_option (Some x) h k = joined_types x h k

  mutual
    joined_statement : (x : TypedStatement) → AllStatement P x → AllStatement Q x → AllStatement R x
    joined_statement (Block line os xs) h k = joined_statements xs h k
    joined_statement (Declare line o) h k = tt
    joined_statement (Expression line x) h k = joined_types x h k
    joined_statement (Empty line) h k = tt
    joined_statement (If line c x) h k = (joined_types c h.0 k.0, joined_statement x h.1 k.1)
    joined_statement (IfElse line c x y) h k = (joined_types c h.0 k.0, joined_statement x h.1 k.1, joined_statement y h.2 k.2)
    joined_statement (Switch line c x) h k = (joined_types c h.0 k.0, joined_statement x h.1 k.1)
    joined_statement (Case line n x) h k = joined_statement x h k
    joined_statement (Default line x) h k = joined_statement x h k
    joined_statement (While line c x) h k = (joined_types c h.0 k.0, joined_statement x h.1 k.1)
    joined_statement (DoWhile line x c) h k = (joined_statement x h.0 k.0, joined_types c h.1 k.1)
    joined_statement (For line f c s x) h k = (joined_option f h.0 k.0, joined_option c h.1 k.1, joined_option s h.2 k.2, joined_statement x h.3 k.3)
    joined_statement (ForDeclaration line os ds c s x) h k = (joined_statements ds h.0 k.0, joined_option c h.1 k.1, joined_option s h.2 k.2, joined_statement x h.3 k.3)
    joined_statement (Continue line) h k = tt
    joined_statement (Break line) h k = tt
    joined_statement (Return line x) h k = joined_option x h k

    joined_statements : (xs : Statements) → AllStatements P xs → AllStatements Q xs → AllStatements R xs
    joined_statements NoStatements h k = tt
    joined_statements (MoreStatements x xs) h k = (joined_statement x h.0 k.0, joined_statements xs h.1 k.1)

  joined_value : (v : StoredValue) → AllValue P v → AllValue Q v → AllValue R v
  joined_value (ValueOf x) h k = joined_types x h k
  joined_value (TextOf l) h k = tt

  joined_store : (x : Store) → AllStore P x → AllStore Q x → AllStore R x
  joined_store x h k = record { t = join x.t h.t k.t; what = joined_value x.what h.what k.what }

  joined_object : (x : TypedObject) → AllObject P x → AllObject Q x → AllObject R x
  joined_object x h k = record { t = join x.t h.t k.t; inits = each_joined (AllStore P) (AllStore Q) (AllStore R) joined_store x.inits h.inits k.inits }

  joined_body : (x : Option TypedStatement) → AllBody P x → AllBody Q x → AllBody R x
  joined_body None h k = tt
  joined_body (Some x) h k = joined_statement x h k

  pub joined_unit : (u : WholeUnit) → AllUnit P u → AllUnit Q u → AllUnit R u
  joined_unit u h k = record {
    objects = each_joined (AllObject P) (AllObject Q) (AllObject R) joined_object u.objects h.objects k.objects;
    functions = each_joined (λ (f : TypedFunction). AllBody P f.body) (λ f. AllBody Q f.body) (λ f. AllBody R f.body) (λ f. joined_body f.body) u.functions h.functions k.functions;
  }
