-- A bridge: the trees that numbers of nodes and lists stand for.
use Rattle.std.specs.Prelude.{List, true, length, false}
use Rattle.pv_tree.specs.declared.nodes.NodeId.{NodeId}
use Rattle.pv_tree.specs.declared.nodes.ListId.{ListId}
use Rattle.pv_typed.specs.TypedTree.{TypedTree}
use Rattle.pv_typed.specs.Nodes.{expression_in, statement_in, list_in}
use Rattle.pv_typed.specs.Tables.{Stored, nodes}
use Rattle.pv_typed.specs.TypedStatement.{TypedStatement}
use Rattle.pv_typed.specs.Children.{HasKind}

-- the expression that a number stands for
abbrev pub expression_at : Stored → NodeId → TypedTree
expression_at s n = expression_in (nodes s) n

-- the statement (6.8) that a number stands for
abbrev pub statement_at : Stored → NodeId → TypedStatement
statement_at s n = statement_in (nodes s) n

-- the list that a number stands for
abbrev pub list_at : Stored → ListId → List NodeId
list_at s l = list_in s.lists l

-- a number of an expression
abbrev pub IsExpression : Stored → NodeId → Type 0
IsExpression s n = HasKind s.rows (length s.rows) true n

-- a number of a statement (6.8)
abbrev pub IsStatement : Stored → NodeId → Type 0
IsStatement s n = HasKind s.rows (length s.rows) false n
