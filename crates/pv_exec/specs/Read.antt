-- Parts of statements as the code has them, by the numbers of their nodes: bridges to the typed statements (C17 6.8).
use Rattle.std.specs.Prelude.{◌≡◌, None, Some, List, Bool, true, false}
use Rattle.std.specs.declared.option.Option.{Option}
use Rattle.pv_tree.specs.declared.nodes.NodeId.{NodeId}
use Rattle.pv_tree.specs.declared.nodes.ListId.{ListId}
use Rattle.pv_typed.specs.TypedStatement.{TypedStatement, Statements}
use Rattle.pv_typed.specs.Trees.{declared_of}
use Rattle.pv_typed.specs.Nodes.{Tree, expression_in, statement_in, statements_in, list_in}
use Rattle.pv_typed.specs.Tables.{Stored}
use Rattle.pv_typed.specs.NodeTrees.{expression_at, statement_at, IsExpression, IsStatement}
use Rattle.pv_exec.specs.declared.parts.DoParts.{DoParts}
use Rattle.pv_exec.specs.declared.parts.ChoiceParts.{ChoiceParts}
use Rattle.pv_exec.specs.declared.parts.RoundParts.{RoundParts}
use Rattle.pv_exec.specs.declared.task.Doing.{Doing}
use Rattle.pv_exec.specs.declared.task.Doing.TheVariants as doing
use Rattle.pv_exec.specs.declared.task.Flow.TheVariants as flow
use Rattle.pv_exec.specs.Parts.{loop_of, DoLoop, Choice, Items}

-- 6.8.5.2: a `do` by the numbers of its parts
abbrev pub do_in : List Tree → DoParts → DoLoop
do_in ts p = record { condition = expression_in ts p.condition; body = statement_in ts p.body }

-- 6.8.5.2: the same, if it is one
abbrev pub do_read : List Tree → Option DoParts → Option DoLoop
do_read ts None = None
do_read ts (Some p) = Some (do_in ts p)

-- 6.8.4.1: an `else` by its number
abbrev pub other_read : List Tree → Option NodeId → Option TypedStatement
other_read ts None = None
other_read ts (Some n) = Some (statement_in ts n)

-- 6.8.4.1: an `if` by the numbers of its parts
abbrev pub choice_in : List Tree → ChoiceParts → Choice
choice_in ts p = record { condition = expression_in ts p.condition; body = statement_in ts p.body; other = other_read ts p.other }

-- 6.8.4.1: the same, if it is one
abbrev pub choice_read : List Tree → Option ChoiceParts → Option Choice
choice_read ts None = None
choice_read ts (Some p) = Some (choice_in ts p)

-- 6.8.4.1: an `else` is a statement of the unit
abbrev pub HasOther : Stored → Option NodeId → Type 0
HasOther u None = Unit {0}
HasOther u (Some n) = IsStatement u n

-- 6.8.4.1: the parts of an `if` are there
abbrev pub ChoiceFits : Stored → ChoiceParts → Type 0
ChoiceFits u p = IsExpression u p.condition × IsStatement u p.body × HasOther u p.other

-- 6.8.4.1p2: what is done where the condition does not hold
abbrev pub other_side_of : Option NodeId → Doing
other_side_of None = doing.Left flow.Falls
other_side_of (Some y) = doing.Enter y

-- 6.8.4.1p2: the side by the condition
abbrev pub side_of : ChoiceParts → Bool → Doing
side_of p true = doing.Enter p.body
side_of p false = other_side_of p.other

-- 6.8.5.1, 6.8.5.3: the condition and the body of a loop are those of its statement, and are there
pub record IsRound (u : Stored) (p : RoundParts) : Type 0 where
  pub there : IsStatement u p.statement
  pub condition : (loop_of (statement_at u p.statement)).condition ≡ Some (expression_at u p.condition)
  pub has_condition : IsExpression u p.condition
  pub body : (loop_of (statement_at u p.statement)).body ≡ statement_at u p.body
  pub has_body : IsStatement u p.body

-- 6.8.5.3p1: so is its last expression
pub record IsStep (u : Stored) (x : NodeId) (p : RoundParts) : Type 0 where
  pub round : IsRound u p
  pub step : (loop_of (statement_at u p.statement)).step ≡ Some (expression_at u x)
  pub has_step : IsExpression u x

-- 6.8.5p4: what is done once the condition of a loop compares so with 0
abbrev pub round_side : RoundParts → Bool → Doing
round_side p true = doing.Body p
round_side p false = doing.Left flow.Falls

-- 6.8.5.3p1: what is done behind the body of a loop that goes on
abbrev pub behind_body : Option NodeId → RoundParts → Doing
behind_body None p = doing.Round p
behind_body (Some x) p = doing.Again x p

-- 6.8.2p1: the statements of a list
abbrev pub list_read : List Tree → List (List NodeId) → Option ListId → Option Statements
list_read ts lists None = None
list_read ts lists (Some l) = Some (statements_in ts (list_in lists l))

-- 6.8.2p1: a block by its list
abbrev pub items_read : List Tree → List (List NodeId) → TypedStatement → Option ListId → Option Items
items_read ts lists x None = None
items_read ts lists x (Some l) = Some (record { objects = declared_of x; items = statements_in ts (list_in lists l) })
