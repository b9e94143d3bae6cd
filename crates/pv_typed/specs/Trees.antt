-- A bridge: what is asked of typed trees.
use Rattle.std.specs.Prelude.{ℕ, List, [], Bool, true, false}
use Rattle.pv_typed.specs.TypedStatement.{Block, Break, Case, Continue, Declare, Default, DoWhile, Empty, Expression, For, ForDeclaration, If, IfElse, Return, Switch, TypedStatement, While}
use Rattle.pv_typed.specs.TypedTree.{Node, TypedTree}

-- the line of a statement's first token (6.10.4p2)
abbrev pub statement_line : TypedStatement → ℕ
statement_line (Block line declared items) = line
statement_line (Declare line o) = line
statement_line (Expression line a) = line
statement_line (Empty line) = line
statement_line (If line condition body) = line
statement_line (IfElse line condition body other) = line
statement_line (Switch line a body) = line
statement_line (Case line value body) = line
statement_line (Default line body) = line
statement_line (While line condition body) = line
statement_line (DoWhile line body condition) = line
statement_line (For line first condition step body) = line
statement_line (ForDeclaration line declared declarations condition step body) = line
statement_line (Continue line) = line
statement_line (Break line) = line
statement_line (Return line value) = line

-- 6.8.2, 6.8.5.3: the objects with automatic storage that a statement declares for what stands in it
abbrev pub declared_of : TypedStatement → List ℕ
declared_of (Block line declared items) = declared
declared_of (ForDeclaration line declared declarations condition step body) = declared
declared_of _ = []

-- 6.8.2, 6.8.5.3: a block, or a for with a declaration
abbrev pub is_scope_tree : TypedStatement → Bool
is_scope_tree (Block line declared items) = true
is_scope_tree (ForDeclaration line declared declarations condition step body) = true
is_scope_tree _ = false

-- whether a node takes a turn of the bound: no rule of C17
abbrev pub takes_turn : TypedTree → Bool
takes_turn (Node t line turn x) = turn

-- 6.5.3.2p3: the same node, where it takes no turn: a `*` or `[]` directly under `&`, neither of which is evaluated
abbrev pub without_turn : TypedTree → TypedTree
without_turn (Node t line turn x) = Node t line false x
