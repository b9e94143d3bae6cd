-- A bridge: typing a statement that has a scope, within this scope (C17 6.8.2, 6.8.4p3, 6.8.5p5), part by part as the code does.
use Rattle.std.specs.Prelude.{ℕ, Bool, true, false, List, [], ◌∷◌, ◌++◌, Option, Some, None}
use Rattle.pv_num.specs.declared.kinds.IntKind.{IntKind}
use Rattle.pv_tree.specs.Syntax.{ExpressionTree, StatementTree, Block, If, IfElse, While, DoWhile, For, ForDeclaration, Switch, SwitchBlock, Labelled, OptionalTree}
use Rattle.pv_typed.specs.TypedTree.{TypedTree}
use Rattle.pv_typed.specs.TypedStatement.{TypedStatement}
use Rattle.pv_check.specs.State.{State, After, give}
use Rattle.pv_check.specs.Scopes.{in_new_scope}
use Rattle.pv_typed.specs.Constants.{and_then}
use Rattle.pv_unit.specs.Blocks.{block_declaration}
use Rattle.pv_unit.specs.Statements.{Around, in_loop, leaving, taken_value, condition, expression_if_any, Label, typed_labels, under, Switched, switch_value}
use Rattle.pv_unit.specs.StatementParts.{in_switch}
use Rattle.pv_unit.specs.TypedStatements.{Body, if_automatic, typed_statement, typed_items, switch_items, switch_block}
use Rattle.pv_unit.specs.Made.{if_made, else_made, while_made, do_made, for_made, round_made, switch_made, block_made, body_made}

-- 6.8.4p3, 6.8.5p5: a statement in a scope of its own
abbrev pub inner : Around → StatementTree → State → Option (After TypedStatement)
inner w b s = leaving (typed_statement w b (in_new_scope s))

-- what follows the parts of each statement

-- 6.8.4.1: what follows the condition of an `if`
abbrev pub if_behind : Around → (line : ℕ) → StatementTree → After TypedTree → Option (After TypedStatement)
if_behind w line body c = and_then (inner w body c.state) (if_made line c.value)

-- 6.8.4.1: what follows the first statement of an `if` with `else`
abbrev pub else_last : Around → (line : ℕ) → StatementTree → TypedTree → After TypedStatement → Option (After TypedStatement)
else_last w line other c b = and_then (inner w other b.state) (else_made line c b.value)

-- 6.8.4.1: what follows the condition of an `if` with `else`
abbrev pub else_behind : Around → (line : ℕ) → StatementTree → StatementTree → After TypedTree → Option (After TypedStatement)
else_behind w line body other c = and_then (inner w body c.state) (else_last w line other c.value)

-- 6.8.5.1: what follows the condition of a `while`
abbrev pub while_behind : Around → (line : ℕ) → StatementTree → After TypedTree → Option (After TypedStatement)
while_behind w line body c = and_then (inner (in_loop w) body c.state) (while_made line c.value)

-- 6.8.5.2: what follows the statement of a `do`
abbrev pub do_behind : (line : ℕ) → ExpressionTree → After TypedStatement → Option (After TypedStatement)
do_behind line a b = and_then (condition a b.state) (do_made line b.value)

-- 6.8.5.3: what follows the third expression of a `for`
abbrev pub for_last : Around → (line : ℕ) → StatementTree → Option TypedTree → Option TypedTree → After (Option TypedTree) → Option (After TypedStatement)
for_last w line body f c t = and_then (inner (in_loop w) body t.state) (for_made line f c t.value)

-- 6.8.5.3: what follows its second expression
abbrev pub for_step : Around → (line : ℕ) → OptionalTree → StatementTree → Option TypedTree → After (Option TypedTree) → Option (After TypedStatement)
for_step w line step body f c = and_then (expression_if_any taken_value step c.state) (for_last w line body f c.value)

-- 6.8.5.3: what follows its first expression
abbrev pub for_behind : Around → (line : ℕ) → OptionalTree → OptionalTree → StatementTree → After (Option TypedTree) → Option (After TypedStatement)
for_behind w line a step body f = and_then (expression_if_any condition a f.state) (for_step w line step body f.value)

-- 6.8.5.3: the same of a `for` with a declaration, behind its last expression
abbrev pub round_last : Around → (line : ℕ) → StatementTree → List TypedStatement → Option TypedTree → After (Option TypedTree) → Option (After TypedStatement)
round_last w line body xs c t = and_then (inner (in_loop w) body t.state) (round_made line xs c t.value)

-- 6.8.5.3: behind its condition
abbrev pub round_step : Around → (line : ℕ) → OptionalTree → StatementTree → List TypedStatement → After (Option TypedTree) → Option (After TypedStatement)
round_step w line step body xs c = and_then (expression_if_any taken_value step c.state) (round_last w line body xs c.value)

-- 6.8.5.3: behind its declaration
abbrev pub round_behind : Around → (line : ℕ) → OptionalTree → OptionalTree → StatementTree → After (List TypedStatement) → Option (After TypedStatement)
round_behind w line a step body f = and_then (expression_if_any condition a f.state) (round_step w line step body f.value)

-- 6.8.4.2: what follows the controlling expression of a `switch`
abbrev pub switch_behind : Around → (line : ℕ) → StatementTree → After Switched → Option (After TypedStatement)
switch_behind w line body c = and_then (switch_block w c.value.kind body c.state) (switch_made line c.value.value)

-- 6.8.2, 6.8.4p3, 6.8.5p5: a statement that has a scope, within it
abbrev pub scoped_statement : Around → StatementTree → State → Option (After TypedStatement)
scoped_statement w (Block line items) z = and_then (typed_items w items z) (block_made line)
scoped_statement w (If line a body) z = and_then (condition a z) (if_behind w line body)
scoped_statement w (IfElse line a body other) z = and_then (condition a z) (else_behind w line body other)
scoped_statement w (While line a body) z = and_then (condition a z) (while_behind w line body)
scoped_statement w (DoWhile line body a) z = and_then (inner (in_loop w) body z) (do_behind line a)
scoped_statement w (For line first a step body) z = and_then (expression_if_any taken_value first z) (for_behind w line a step body)
scoped_statement w (ForDeclaration line d a step body) z = and_then (and_then (block_declaration d z) if_automatic) (round_behind w line a step body)
scoped_statement w (Switch line a body) z = and_then (switch_value a z) (switch_behind w line body)
scoped_statement w _ z = None

-- 6.8.2p2, 6.8.4p3, 6.8.5p5: whether it has one
abbrev pub has_scope : StatementTree → Bool
has_scope (Block line items) = true
has_scope (If line a body) = true
has_scope (IfElse line a body other) = true
has_scope (While line a body) = true
has_scope (DoWhile line body a) = true
has_scope (For line first a step body) = true
has_scope (ForDeclaration line d a step body) = true
has_scope (Switch line a body) = true
has_scope _ = false

-- 6.8.4.2: the items of a switch's block, within its scope
abbrev pub switch_body : Around → IntKind → StatementTree → State → Option (After TypedStatement)
switch_body w k (SwitchBlock line items) z = and_then (switch_items (in_switch w) k items z) (body_made line)
switch_body w k _ z = None

-- ---- statements of a switch's block

-- 6.8.1: a statement under its labels, and the labels that the switch has then
pub record Marked : Type 0 where
  pub labels : List Label
  pub statement : TypedStatement

-- 6.8.1: a statement with labels
abbrev pub marked_statement : (seen own : List Label) → After TypedStatement → Option (After Marked)
marked_statement seen own x = give (Some (record { labels = seen ++ own; statement = under own x.value })) x.state

-- 6.8.1: a statement without labels
abbrev pub unmarked_statement : (seen : List Label) → After TypedStatement → Option (After Marked)
unmarked_statement seen x = give (Some (record { labels = seen; statement = x.value })) x.state

-- 6.8.1: what follows the labels
abbrev pub under_labels : Around → StatementTree → (seen : List Label) → After (List Label) → Option (After Marked)
under_labels w b seen l = and_then (typed_statement w b l.state) (marked_statement seen l.value)

-- 6.8.1: a statement of a switch's block, with labels or without
abbrev pub labelled_statement : Around → IntKind → StatementTree → (seen : List Label) → State → Option (After Marked)
labelled_statement w k (Labelled line labels b) seen s = and_then (typed_labels k seen labels s) (under_labels w b seen)
labelled_statement w k b seen s = and_then (typed_statement w b s) (unmarked_statement seen)

-- 6.8.4.2: one statement more in the block of a `switch`
abbrev pub with_marked : Body → After Marked → Option (After Body)
with_marked x y = give (Some (record { items = x.items ++ (y.value.statement ∷ []); labels = y.value.labels })) y.state
