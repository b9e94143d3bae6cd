-- What holds of every type that a unit's table numbers, holds of all types of the unit (C17 6.5 to 6.9).
use Rattle.std.proofs.Common.{ℕ, List, [], ◌∷◌, Some, None}
use Rattle.std.specs.Prelude.{Option, slice_index_or}
use Rattle.pv_tree.specs.declared.nodes.NodeId.{NodeId}
use Rattle.pv_types.specs.Ty.{Ty, VoidTy}
use Rattle.pv_types.specs.Known.{tree}
use Rattle.pv_typed.specs.declared.nodes.Typed.{Typed}
use Rattle.pv_typed.specs.declared.nodes.Typed.TheVariants as typed
use Rattle.pv_typed.specs.declared.nodes.TypedStmt.{TypedStmt}
use Rattle.pv_typed.specs.declared.nodes.TypedStmt.TheVariants as stmt
use Rattle.pv_typed.specs.declared.entries.Object.{Object}
use Rattle.pv_typed.specs.declared.entries.Function.{Function}
use Rattle.pv_typed.specs.declared.entries.Init.{Init}
use Rattle.pv_typed.specs.declared.entries.InitValue.{InitValue}
use Rattle.pv_typed.specs.declared.entries.InitValue.TheVariants as value
use Rattle.pv_typed.specs.declared.rows.What.{What}
use Rattle.pv_typed.specs.declared.rows.What.TheVariants as what
use Rattle.pv_typed.specs.declared.rows.Row.{Row}
use Rattle.pv_typed.specs.TypedUnits.{TypedFunction}
use Rattle.pv_typed.specs.Nodes.{Tree, OfExpression, OfStatement, as_expression, as_statement, expression_in, statement_in, optional_in, arguments_in, statements_in, list_in, form_in, statement_form, what_in, tree_in}
use Rattle.pv_typed.specs.NodeParts.{at}
use Rattle.pv_typed.specs.Built.{row_by_row}
use Rattle.pv_typed.specs.Known.{Each}
use Rattle.pv_typed.specs.Tables.{Stored, nodes, value_in, store_in, object_in, function_in, whole_unit, trees_of, base, body_in}
use Rattle.pv_typed.proofs.Each.{each_append}
use Rattle.pv_numbering.proofs.Types.{AllTypes, AllForm, AllArguments, AllOption, AllStatement, AllStatements, AllValue, AllStore, AllObject, AllBody, AllUnit}
use Rattle.pv_numbering.proofs.Folds.{fold_keeps, each_or, each_mapped, each_always}

-- of all nodes of a tree of either kind
abbrev pub AllTree : (Ty → Type 0) → Tree → Type 0
AllTree P (OfExpression a) = AllTypes P a
AllTree P (OfStatement s) = AllStatement P s

-- of what the trees before it have, a node is made
module _ (P : Ty → Type 0) (of_void : P VoidTy) where
  expression_of : (x : Tree) → AllTree P x → AllTypes P (as_expression x)
  expression_of (OfExpression a) h = h
  expression_of (OfStatement s) h = (of_void, tt)

  statement_of : (x : Tree) → AllTree P x → AllStatement P (as_statement x)
  statement_of (OfExpression a) h = tt
  statement_of (OfStatement s) h = h

  module _ (ts : List Tree) (h : Each (AllTree P) ts) where
    all_expression : (n : NodeId) → AllTypes P (expression_in ts n)
    all_expression n = expression_of (at ts n.0) (each_or (AllTree P) _ tt ts h n.0)

    all_statement : (n : NodeId) → AllStatement P (statement_in ts n)
    all_statement n = statement_of (at ts n.0) (each_or (AllTree P) _ tt ts h n.0)

    all_optional : (n : Option NodeId) → AllOption P (optional_in ts n)
    all_optional None = tt
    all_optional (Some n) = all_expression n

    all_arguments : (ns : List NodeId) → AllArguments P (arguments_in ts ns)
    all_arguments [] = tt
    all_arguments (n ∷ ns) = (all_expression n, all_arguments ns)

    all_statements : (ns : List NodeId) → AllStatements P (statements_in ts ns)
    all_statements [] = tt
    all_statements (n ∷ ns) = (all_statement n, all_statements ns)

    all_form : (lists : List (List NodeId)) (x : Typed) → AllForm P (form_in lists ts x)
    all_form lists (typed.Constant value) = tt
    all_form lists (typed.LargeConstant value) = tt
    all_form lists (typed.Object o) = tt
    all_form lists (typed.Function f) = tt
    all_form lists (typed.String l) = tt
    all_form lists (typed.Subscript a b) = (all_expression a, all_expression b)
    all_form lists (typed.Call f l) = all_arguments (list_in lists l)
    all_form lists (typed.CallPointer a l) = (all_expression a, all_arguments (list_in lists l))
    all_form lists (typed.LibraryCall f l) = all_arguments (list_in lists l)
    all_form lists (typed.Member a offset) = all_expression a
    all_form lists (typed.MemberOfValue a offset) = all_expression a
    all_form lists (typed.Arrow a offset) = all_expression a
    all_form lists (typed.Increment op a) = all_expression a
    all_form lists (typed.Address a) = all_expression a
    all_form lists (typed.Indirection a) = all_expression a
    all_form lists (typed.Unary op a) = all_expression a
    all_form lists (typed.Not a) = all_expression a
    all_form lists (typed.Sizeof size) = tt
    all_form lists (typed.Cast a) = all_expression a
    all_form lists (typed.Arithmetic op a b) = (all_expression a, all_expression b)
    all_form lists (typed.PointerSum sign a b) = (all_expression a, all_expression b)
    all_form lists (typed.PointerDifference a b) = (all_expression a, all_expression b)
    all_form lists (typed.PointerOrder op a b) = (all_expression a, all_expression b)
    all_form lists (typed.PointerEquality op a b) = (all_expression a, all_expression b)
    all_form lists (typed.LogicalAnd a b) = (all_expression a, all_expression b)
    all_form lists (typed.LogicalOr a b) = (all_expression a, all_expression b)
    all_form lists (typed.Conditional a b c) = (all_expression a, all_expression b, all_expression c)
    all_form lists (typed.Assign a b) = (all_expression a, all_expression b)
    all_form lists (typed.CompoundAssign op kind a b) = (all_expression a, all_expression b)
    all_form lists (typed.PointerAssign sign a b) = (all_expression a, all_expression b)
    all_form lists (typed.Comma a b) = (all_expression a, all_expression b)
    all_form lists (typed.Read a) = all_expression a
    all_form lists (typed.ArrayPointer a) = all_expression a
    all_form lists (typed.Convert a) = all_expression a

    all_statement_form : (lists : List (List NodeId)) (line : ℕ) (declared : List ℕ) (x : TypedStmt) → AllStatement P (statement_form lists ts line declared x)
    all_statement_form lists line declared (stmt.Block items) = all_statements (list_in lists items)
    all_statement_form lists line declared (stmt.Declare o) = tt
    all_statement_form lists line declared (stmt.Expression a) = all_expression a
    all_statement_form lists line declared stmt.Empty = tt
    all_statement_form lists line declared (stmt.If condition body) = (all_expression condition, all_statement body)
    all_statement_form lists line declared (stmt.IfElse condition body other) = (all_expression condition, all_statement body, all_statement other)
    all_statement_form lists line declared (stmt.Switch a body) = (all_expression a, all_statement body)
    all_statement_form lists line declared (stmt.Case value body) = all_statement body
    all_statement_form lists line declared (stmt.Default body) = all_statement body
    all_statement_form lists line declared (stmt.While condition body) = (all_expression condition, all_statement body)
    all_statement_form lists line declared (stmt.DoWhile body condition) = (all_statement body, all_expression condition)
    all_statement_form lists line declared (stmt.For first condition step body) = (all_optional first, all_optional condition, all_optional step, all_statement body)
    all_statement_form lists line declared (stmt.ForDeclaration declarations condition step body) =
        (all_statements (list_in lists declarations), all_optional condition, all_optional step, all_statement body)
    all_statement_form lists line declared stmt.Continue = tt
    all_statement_form lists line declared stmt.Break = tt
    all_statement_form lists line declared (stmt.Return value) = all_optional value

-- the table's rows, and then its objects and functions
module _ (P : Ty → Type 0) (of_void : P VoidTy) (s : Stored) (of_tree : (i : ℕ) → P (tree s.known i)) where
  all_what : (ts : List Tree) → Each (AllTree P) ts → (line : ℕ) (w : What) → AllTree P (what_in (base s) ts line w)
  all_what ts h line (what.Expression x t counts plain) = (of_tree t.0, all_form P of_void ts h s.lists x)
  all_what ts h line (what.Statement x declared) = all_statement_form P of_void ts h s.lists line (slice_index_or s.blocks declared []) x

  all_rows : (rows : List Row) → Each (AllTree P) (trees_of (base s) rows)
  unfolding row_by_row
  all_rows rows =
      fold_keeps (tree_in (base s)) (λ (r : Row). Unit {0}) (Each (AllTree P))
      (λ ts r q h. each_append (AllTree P) ts (tree_in (base s) ts r ∷ []) h (all_what ts h r.line r.what, tt))
      rows (each_always _ (λ r. tt) rows) [] tt

  all_nodes : Each (AllTree P) (nodes s)
  all_nodes = all_rows s.rows

  all_value : (v : InitValue) → AllValue P (value_in (nodes s) v)
  all_value (value.Node n) = all_expression P of_void (nodes s) all_nodes n
  all_value (value.Text l) = tt

  all_store : (i : Init) → AllStore P (store_in s.known (nodes s) i)
  all_store i = record { t = of_tree i.t.0; what = all_value i.what }

  all_object : (e : Object × List Init) → AllObject P (object_in s.known (nodes s) e)
  all_object e = record {
    t = of_tree e.0.t.0;
    inits = each_mapped (store_in s.known (nodes s)) (λ (i : Init). Unit {0}) (AllStore P) (λ i q. all_store i) e.1 (each_always _ (λ i. tt) e.1);
  }

  all_body : (n : Option NodeId) → AllBody P (body_in (nodes s) n)
  all_body None = tt
  all_body (Some n) = all_statement P of_void (nodes s) all_nodes n

  pub all_whole : AllUnit P (whole_unit s)
  all_whole = record {
    objects = each_mapped (object_in s.known (nodes s)) (λ (e : Object × List Init). Unit {0}) (AllObject P) (λ e q. all_object e) s.objects (each_always _ (λ e. tt) s.objects);
    functions = each_mapped (function_in s.known (nodes s)) (λ (e : Function × List ℕ). Unit {0}) (λ (f : TypedFunction). AllBody P f.body) (λ e q. all_body e.0.body) s.functions (each_always _ (λ e. tt) s.functions);
  }
