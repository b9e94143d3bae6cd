-- A bridge: the rows of the table of nodes, packed, and what each stands for.
use Rattle.std.specs.Prelude.{ℕ, ◌<◌, List}
use Rattle.pv_typed.specs.declared.packed.ShortStatement.{ShortStatement}
use Rattle.pv_typed.specs.declared.packed.ShortStatement.TheVariants as form
use Rattle.pv_typed.specs.declared.packed.Packed.{Packed}
use Rattle.pv_typed.specs.declared.packed.Packed.TheVariants as packed
use Rattle.pv_typed.specs.declared.nodes.TypedStmt.{TypedStmt}
use Rattle.pv_typed.specs.declared.nodes.TypedStmt.TheVariants as stmt
use Rattle.pv_typed.specs.declared.rows.What.TheVariants as what
use Rattle.pv_typed.specs.declared.rows.Row.{Row}
use Rattle.pv_typed.specs.Children.{row_at}

-- a statement's node (6.8) by its short form
abbrev pub statement_of : ShortStatement → TypedStmt
statement_of (form.Block items) = stmt.Block items
statement_of (form.Declare o) = stmt.Declare o
statement_of (form.Expression a) = stmt.Expression a
statement_of form.Empty = stmt.Empty
statement_of (form.If condition body) = stmt.If condition body
statement_of (form.IfElse condition body other) = stmt.IfElse condition body other
statement_of (form.Switch a body) = stmt.Switch a body
statement_of (form.Case body value) = stmt.Case value body
statement_of (form.Default body) = stmt.Default body
statement_of (form.While condition body) = stmt.While condition body
statement_of (form.DoWhile body condition) = stmt.DoWhile body condition
statement_of form.Continue = stmt.Continue
statement_of form.Break = stmt.Break
statement_of (form.Return value) = stmt.Return value

-- what a packed row stands for, where the whole ones are given
abbrev pub row_of : List Row → Packed → Row
row_of whole (packed.Expression counts plain t line x) = record { what = what.Expression x t counts plain; line = line }
row_of whole (packed.Statement declared line x) = record { what = what.Statement (statement_of x) declared; line = line }
row_of whole (packed.Whole i) = row_at whole i

-- the whole row that a packed row refers to is one of the first n
abbrev pub IsThere : ℕ → Packed → Type 0
IsThere n (packed.Expression counts plain t line x) = Unit {0}
IsThere n (packed.Statement declared line x) = Unit {0}
IsThere n (packed.Whole i) = i < n
