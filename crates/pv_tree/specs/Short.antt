-- A bridge: the nodes of a table (5.1.1.2p1, phase 7) as it has them: in their short forms, and those that have none in a list of their own.
use Rattle.std.specs.Prelude.{ℕ, ◌≤◌, ◌<◌, List, [], ◌∷◌, length, slice_index_or}
use Rattle.pv_tree.specs.declared.short.ShortExpr.{ShortExpr}
use Rattle.pv_tree.specs.declared.short.ShortExpr.TheVariants as short_expr
use Rattle.pv_tree.specs.declared.short.ShortDeclarator.{ShortDeclarator}
use Rattle.pv_tree.specs.declared.short.ShortDeclarator.TheVariants as short_declarator
use Rattle.pv_tree.specs.declared.short.ShortSpec.{ShortSpec}
use Rattle.pv_tree.specs.declared.short.ShortSpec.TheVariants as short_spec
use Rattle.pv_tree.specs.declared.short.ShortStmt.{ShortStmt}
use Rattle.pv_tree.specs.declared.short.ShortStmt.TheVariants as short_stmt
use Rattle.pv_tree.specs.declared.short.ShortNode.{ShortNode}
use Rattle.pv_tree.specs.declared.short.ShortNode.TheVariants as short
use Rattle.pv_tree.specs.declared.nodes.Expr.{Expr}
use Rattle.pv_tree.specs.declared.nodes.Expr.TheVariants as expr
use Rattle.pv_tree.specs.declared.nodes.Declarator.{Declarator}
use Rattle.pv_tree.specs.declared.nodes.Declarator.TheVariants as declarator_node
use Rattle.pv_tree.specs.declared.nodes.Spec.{Spec}
use Rattle.pv_tree.specs.declared.nodes.Spec.TheVariants as spec
use Rattle.pv_tree.specs.declared.nodes.Stmt.{Stmt}
use Rattle.pv_tree.specs.declared.nodes.Stmt.TheVariants as stmt
use Rattle.pv_tree.specs.declared.nodes.Node.{Node}
use Rattle.pv_tree.specs.declared.nodes.Node.TheVariants as node
use Rattle.pv_tree.specs.declared.rows.Row.{Row}
use Rattle.pv_tree.specs.declared.rows.ShortRow.{ShortRow}

-- an expression, by its short form
abbrev pub long_expr : ShortExpr → Expr
long_expr (short_expr.Name n) = expr.Name n
long_expr (short_expr.Number decimal unsigned longs value) = expr.Number value decimal unsigned longs
long_expr (short_expr.Character value) = expr.Character value
long_expr (short_expr.Text first more) = expr.Text first more
long_expr (short_expr.Paren a) = expr.Paren a
long_expr (short_expr.Index a i) = expr.Index a i
long_expr (short_expr.Call callee arguments) = expr.Call callee arguments
long_expr (short_expr.Member a n) = expr.Member a n
long_expr (short_expr.Arrow a n) = expr.Arrow a n
long_expr (short_expr.PostIncrement a) = expr.PostIncrement a
long_expr (short_expr.PostDecrement a) = expr.PostDecrement a
long_expr (short_expr.PreIncrement a) = expr.PreIncrement a
long_expr (short_expr.PreDecrement a) = expr.PreDecrement a
long_expr (short_expr.Unary op a) = expr.Unary op a
long_expr (short_expr.SizeofExpr a) = expr.SizeofExpr a
long_expr (short_expr.SizeofType t) = expr.SizeofType t
long_expr (short_expr.Cast t a) = expr.Cast t a
long_expr (short_expr.Binary op a b) = expr.Binary op a b
long_expr (short_expr.Conditional a b c) = expr.Conditional a b c
long_expr (short_expr.Assign op a b) = expr.Assign op a b
long_expr (short_expr.Comma a b) = expr.Comma a b

-- a declarator (6.7.6, 6.7.7), by its short form
abbrev pub long_declarator : ShortDeclarator → Declarator
long_declarator (short_declarator.Name n) = declarator_node.Name n
long_declarator (short_declarator.Paren d) = declarator_node.Paren d
long_declarator (short_declarator.Pointer consts declarator) = declarator_node.Pointer consts declarator
long_declarator (short_declarator.Array declarator size) = declarator_node.Array declarator size
long_declarator (short_declarator.Function variadic declarator parameters) = declarator_node.Function declarator parameters variadic
long_declarator (short_declarator.AbstractParen d) = declarator_node.AbstractParen d
long_declarator (short_declarator.AbstractPointer consts declarator) = declarator_node.AbstractPointer consts declarator
long_declarator (short_declarator.AbstractFunction variadic declarator parameters) = declarator_node.AbstractFunction declarator parameters variadic

-- a specifier (6.7p1), by its short form
abbrev pub long_spec : ShortSpec → Spec
long_spec short_spec.Typedef = spec.Typedef
long_spec short_spec.Extern = spec.Extern
long_spec short_spec.Static = spec.Static
long_spec short_spec.Const = spec.Const
long_spec short_spec.Void = spec.Void
long_spec short_spec.Char = spec.Char
long_spec short_spec.Short = spec.Short
long_spec short_spec.Int = spec.Int
long_spec short_spec.Long = spec.Long
long_spec short_spec.Signed = spec.Signed
long_spec short_spec.Unsigned = spec.Unsigned
long_spec short_spec.Bool = spec.Bool
long_spec (short_spec.Struct name members) = spec.Struct name members
long_spec (short_spec.StructTag n) = spec.StructTag n
long_spec (short_spec.Union name members) = spec.Union name members
long_spec (short_spec.UnionTag n) = spec.UnionTag n
long_spec (short_spec.Enum comma name enumerators) = spec.Enum name enumerators comma
long_spec (short_spec.EnumTag n) = spec.EnumTag n
long_spec (short_spec.TypedefName n) = spec.TypedefName n

-- a statement (6.8), by its short form
abbrev pub long_stmt : ShortStmt → Stmt
long_stmt (short_stmt.Block items) = stmt.Block items
long_stmt (short_stmt.Expr a) = stmt.Expr a
long_stmt (short_stmt.If a body) = stmt.If a body
long_stmt (short_stmt.IfElse a body other) = stmt.IfElse a body other
long_stmt (short_stmt.While a body) = stmt.While a body
long_stmt (short_stmt.DoWhile body a) = stmt.DoWhile body a
long_stmt (short_stmt.Switch a block) = stmt.Switch a block
long_stmt (short_stmt.SwitchBlock items) = stmt.SwitchBlock items
long_stmt (short_stmt.Labelled labels statement) = stmt.Labelled labels statement
long_stmt (short_stmt.Case a) = stmt.Case a
long_stmt short_stmt.Default = stmt.Default
long_stmt short_stmt.Break = stmt.Break
long_stmt short_stmt.Continue = stmt.Continue
long_stmt (short_stmt.Return a) = stmt.Return a

-- a node (6.5 to 6.9), by its short form, where the nodes that have none are given
abbrev pub long_node : (whole : List Node) → ShortNode → Node
long_node whole (short.Expr e) = node.Expr (long_expr e)
long_node whole (short.Decl d) = node.Decl d
long_node whole (short.Declarator d) = node.Declarator (long_declarator d)
long_node whole (short.Spec s) = node.Spec (long_spec s)
long_node whole (short.Init i) = node.Init i
long_node whole (short.Stmt s) = node.Stmt (long_stmt s)
long_node whole (short.Whole n) = slice_index_or whole n (node.Stmt stmt.Default)

-- a node without a short form (as a `for`, 6.8.5p1) is one of the first n
abbrev pub IsAmong : (n : ℕ) → ShortNode → Type 0
IsAmong n (short.Expr e) = Unit {0}
IsAmong n (short.Decl d) = Unit {0}
IsAmong n (short.Declarator d) = Unit {0}
IsAmong n (short.Spec s) = Unit {0}
IsAmong n (short.Init i) = Unit {0}
IsAmong n (short.Stmt s) = Unit {0}
IsAmong n (short.Whole i) = i < n

-- a row of the table of nodes (5.1.1.2p1, phase 7), by its short form
abbrev pub row_of : (whole : List Node) → ShortRow → Row
row_of whole r = record { node = long_node whole r.node; line = r.line; depth = r.depth }

-- the row (5.1.1.2p1, phase 7) of a number
abbrev pub row_at : List Row → ℕ → Row
row_at rows i = slice_index_or rows i (record { node = node.Stmt stmt.Default; line = 0; depth = 0 })

-- each node without a short form (as a `for`, 6.8.5p1) among these rows is one of the first n
abbrev pub AreAmong : (n : ℕ) → List ShortRow → Type 0
AreAmong n [] = Unit {0}
AreAmong n (r ∷ rs) = IsAmong n r.node × AreAmong n rs

-- what holds of the rows of every translation unit (6.9p1) and of its nodes that have no short form
pub record AreShort (whole : List Node) (rs : List ShortRow) : Type 0 where
  pub fewer : length whole ≤ length rs
  pub among : AreAmong (length whole) rs
