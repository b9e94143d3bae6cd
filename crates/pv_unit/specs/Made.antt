-- A bridge: what functions answer that do a part of what TypedStatements says.
use Rattle.pv_typed.specs.TypedTree.{TypedTree}
use Rattle.pv_typed.specs.TypedStatement as typed
use Rattle.pv_typed.specs.TypedStatement.{TypedStatement}
use Rattle.std.specs.Prelude.{Some, Option, ℕ, List, ◌++◌, [], ◌∷◌}
use Rattle.pv_check.specs.State.{After, give, ◌>>=◌}
use Rattle.pv_unit.specs.Statements.{round_of, block_of, reached_declarations, under, Label}
use Rattle.pv_unit.specs.TypedStatements.{Body}
use Rattle.pv_unit.specs.Blocks.{Reached, block_declaration}
use Rattle.pv_tree.specs.Syntax.{DeclarationTree}
use Rattle.std.specs.Option.{option_map_or}

-- 6.8.4.1: an `if` without `else`
abbrev pub if_made : (line : ℕ) → TypedTree → After TypedStatement → Option (After TypedStatement)
if_made line c b = give (Some (typed.If line c b.value)) b.state

-- 6.8.4.1: an `if` with `else`
abbrev pub else_made : (line : ℕ) → TypedTree → TypedStatement → After TypedStatement → Option (After TypedStatement)
else_made line c b d = give (Some (typed.IfElse line c b d.value)) d.state

-- 6.8.5.1: a `while`
abbrev pub while_made : (line : ℕ) → TypedTree → After TypedStatement → Option (After TypedStatement)
while_made line c b = give (Some (typed.While line c b.value)) b.state

-- 6.8.5.2: a `do`
abbrev pub do_made : (line : ℕ) → TypedStatement → After TypedTree → Option (After TypedStatement)
do_made line b c = give (Some (typed.DoWhile line b c.value)) c.state

-- 6.8.5.3: a `for` with an expression first, or none
abbrev pub for_made : (line : ℕ) → Option TypedTree → Option TypedTree → Option TypedTree → After TypedStatement → Option (After TypedStatement)
for_made line f c t b = give (Some (typed.For line f c t b.value)) b.state

-- 6.8.5.3p1, 6.8.5p5: a `for` with a declaration: a block round the loop
abbrev pub round_made : (line : ℕ) → List TypedStatement → Option TypedTree → Option TypedTree → After TypedStatement → Option (After TypedStatement)
round_made line xs c t b = give (Some (round_of line xs c t b.value)) b.state

-- 6.8.4.2: a `switch`
abbrev pub switch_made : (line : ℕ) → TypedTree → After TypedStatement → Option (After TypedStatement)
switch_made line c b = give (Some (typed.Switch line c b.value)) b.state

-- 6.8.3: an expression, or none
abbrev pub expression_of : (line : ℕ) → Option TypedTree → TypedStatement
expression_of line x = option_map_or (typed.Expression line) x (typed.Empty line)

-- 6.8.3: an expression statement, or an empty one
abbrev pub expression_made : (line : ℕ) → After (Option TypedTree) → Option (After TypedStatement)
expression_made line x = give (Some (expression_of line x.value)) x.state

-- 6.8.2: a block
abbrev pub block_made : (line : ℕ) → After (List TypedStatement) → Option (After TypedStatement)
block_made line x = give (Some (block_of line x.value)) x.state

-- 6.8.2: the objects that a declaration reaches, behind other items
abbrev pub with_reached : List TypedStatement → After (List Reached) → Option (After (List TypedStatement))
with_reached xs y = give (Some (xs ++ reached_declarations y.value)) y.state

-- 6.8.2: a statement behind other items
abbrev pub with_statement : List TypedStatement → After TypedStatement → Option (After (List TypedStatement))
with_statement xs y = give (Some (xs ++ (y.value ∷ []))) y.state

-- 6.8.4.2: a declaration in a switch's block
abbrev pub body_reached : Body → After (List Reached) → Option (After Body)
body_reached x y = give (Some (record x { items = x.items ++ reached_declarations y.value })) y.state

-- 6.8.1: a statement under its labels, where the switch has these then
abbrev pub body_with : Body → (all own : List Label) → After TypedStatement → Option (After Body)
body_with x all own y = give (Some (record { items = x.items ++ (under own y.value ∷ []); labels = all })) y.state

-- 6.8.4.2: a switch's block
abbrev pub body_made : (line : ℕ) → After Body → Option (After TypedStatement)
body_made line x = give (Some (block_of line x.value.items)) x.state

-- 6.8.2p1: a declaration behind other items; 6.8.2: the objects that a declaration reaches, behind other items
abbrev pub declared_item : DeclarationTree → After (List TypedStatement) → Option (After (List TypedStatement))
declared_item d x = block_declaration d x.state >>= λ y. give (Some (x.value ++ reached_declarations y.value)) y.state
