-- Typing a statement (C17 6.8), by its tree.
use Rattle.std.specs.Prelude.{ℕ, if◌then◌else◌, List, [], ◌∷◌, ◌++◌, Option, Some, None, true, ◌&&◌, length, ◌==◌}
use Rattle.std.specs.List.{list_all}
use Rattle.pv_num.specs.declared.kinds.IntKind.{IntKind}
use Rattle.pv_tree.specs.Syntax.{StatementTree, Block, ExpressionStatement, If, IfElse, While, DoWhile, For, ForDeclaration, Switch, SwitchBlock, Labelled, Break, Continue, Return, Tree, OfDeclaration, OfStatement, Trees, NoTrees, Then}
use Rattle.pv_typed.specs.TypedStatement.{TypedStatement}
use Rattle.pv_typed.specs.TypedStatement as typed
use Rattle.pv_check.specs.State.{State, After, ◌>>=◌, give, Meaning}
use Rattle.pv_check.specs.Scopes.{in_new_scope, innermost_scope}
use Rattle.pv_unit.specs.Blocks.{Reached, block_declaration}
use Rattle.pv_unit.specs.Statements.{Around, in_loop, leaving, taken_value, condition, expression_if_any, Label, typed_labels, under, return_of, switch_value, reached_declarations, block_of, round_of, is_automatic}
use Rattle.std.specs.Option.{option_map_or}

-- ---- statements whose parts are typed

-- 6.8.5p3: the declaration of a `for` declares automatic objects alone
abbrev pub if_automatic : After (List Reached) → Option (After (List TypedStatement))
if_automatic x =
    if list_all (λ (e : ℕ × Meaning). is_automatic x.state e.1) (innermost_scope x.state.scopes).names && (length (innermost_scope x.state.scopes).tags == 0)
    then give (Some (reached_declarations x.value)) x.state else None

-- ---- items of blocks

-- 6.8.4.2: what stands in a switch's block, and its labels
pub record Body : Type 0 where
  pub items : List TypedStatement
  pub labels : List Label

-- ---- statements

abbrev mutual
  -- 6.8: a statement, in a scope of its own where it is a block, a selection or an iteration (6.8.2p2, 6.8.4p3, 6.8.5p5)
  -- worked: loops, for_declarations, jumps, switches, scopes, returns (proofs/WorkedUnits)
  pub typed_statement : Around → StatementTree → State → Option (After TypedStatement)
  typed_statement w (Block line items) s = leaving (typed_items w items (in_new_scope s) >>= λ x. give (Some (block_of line x.value)) x.state)
  typed_statement w (ExpressionStatement line a) s =
      expression_if_any taken_value a s >>= λ x. give (Some (option_map_or (typed.Expression line) x.value (typed.Empty line))) x.state
  typed_statement w (If line a body) s = leaving do
    c ← condition a (in_new_scope s)
    b ← leaving (typed_statement w body (in_new_scope c.state))
    give (Some (typed.If line c.value b.value)) b.state
  typed_statement w (IfElse line a body other) s = leaving do
    c ← condition a (in_new_scope s)
    b ← leaving (typed_statement w body (in_new_scope c.state))
    e ← leaving (typed_statement w other (in_new_scope b.state))
    give (Some (typed.IfElse line c.value b.value e.value)) e.state
  typed_statement w (While line a body) s = leaving do
    c ← condition a (in_new_scope s)
    b ← leaving (typed_statement (in_loop w) body (in_new_scope c.state))
    give (Some (typed.While line c.value b.value)) b.state
  typed_statement w (DoWhile line body a) s = leaving do
    b ← leaving (typed_statement (in_loop w) body (in_new_scope (in_new_scope s)))
    c ← condition a b.state
    give (Some (typed.DoWhile line b.value c.value)) c.state
  typed_statement w (For line first a step body) s = leaving do
    f ← expression_if_any taken_value first (in_new_scope s)
    c ← expression_if_any condition a f.state
    t ← expression_if_any taken_value step c.state
    b ← leaving (typed_statement (in_loop w) body (in_new_scope t.state))
    give (Some (typed.For line f.value c.value t.value b.value)) b.state
  typed_statement w (ForDeclaration line d a step body) s = leaving do
    f ← block_declaration d (in_new_scope s) >>= if_automatic
    c ← expression_if_any condition a f.state
    t ← expression_if_any taken_value step c.state
    b ← leaving (typed_statement (in_loop w) body (in_new_scope t.state))
    give (Some (round_of line f.value c.value t.value b.value)) b.state
  typed_statement w (Switch line a body) s = leaving do
    c ← switch_value a (in_new_scope s)
    b ← switch_block w c.value.kind body c.state
    give (Some (typed.Switch line c.value.value b.value)) b.state
  typed_statement w (Break line) s = if w.breaks then give (Some (typed.Break line)) s else None
  typed_statement w (Continue line) s = if w.continues then give (Some (typed.Continue line)) s else None
  typed_statement w (Return line a) s = return_of w.result line a s
  typed_statement w _ s = None

  -- 6.8.2p1: the declarations and statements of a block
  pub typed_items : Around → Trees → State → Option (After (List TypedStatement))
  typed_items w NoTrees s = give (Some []) s
  typed_items w (Then before x) s = typed_items w before s >>= typed_item w x

  -- 6.8.2p1: one of them
  pub typed_item : Around → Tree → After (List TypedStatement) → Option (After (List TypedStatement))
  typed_item w (OfDeclaration d) x = block_declaration d x.state >>= λ y. give (Some (x.value ++ reached_declarations y.value)) y.state
  typed_item w (OfStatement b) x = typed_statement w b x.state >>= λ y. give (Some (x.value ++ (y.value ∷ []))) y.state
  typed_item w _ x = None

  -- 6.8.4.2: the block of a switch
  pub switch_block : Around → IntKind → StatementTree → State → Option (After TypedStatement)
  switch_block w k (SwitchBlock line items) s =
      leaving (switch_items (record w { breaks = true }) k items (in_new_scope s) >>= λ x. give (Some (block_of line x.value.items)) x.state)
  switch_block w k _ s = None

  -- 6.8.2p1: its declarations and statements
  pub switch_items : Around → IntKind → Trees → State → Option (After Body)
  switch_items w k NoTrees s = give (Some (record { items = []; labels = [] })) s
  switch_items w k (Then before x) s = switch_items w k before s >>= switch_item w k x

  -- 6.8.1p1: one of them; its statements may have labels
  pub switch_item : Around → IntKind → Tree → After Body → Option (After Body)
  switch_item w k (OfDeclaration d) x = block_declaration d x.state >>= λ y. give (Some (record x.value { items = x.value.items ++ reached_declarations y.value })) y.state
  switch_item w k (OfStatement (Labelled line labels b)) x = do
    l ← typed_labels k x.value.labels labels x.state
    y ← typed_statement w b l.state
    give (Some (record { items = x.value.items ++ (under l.value y.value ∷ []); labels = x.value.labels ++ l.value })) y.state
  switch_item w k (OfStatement b) x =
      typed_statement w b x.state >>= λ y. give (Some (record { items = x.value.items ++ (under [] y.value ∷ []); labels = x.value.labels })) y.state
  switch_item w k _ x = None
