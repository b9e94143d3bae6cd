-- A bridge: the rules of declarations and statements (C17 6.7 to 6.9) over the nodes that the code reads: each is the rule of the nodes' trees.
use Rattle.std.specs.Prelude.{◌≡◌, ℕ, Bool, List, Option}
use Rattle.pv_num.specs.declared.kinds.IntKind.{IntKind}
use Rattle.pv_tree.specs.declared.nodes.NodeId.{NodeId}
use Rattle.pv_tree.specs.declared.nodes.ListId.{ListId}
use Rattle.pv_tree.specs.Syntax.{For, ForDeclaration}
use Rattle.pv_tree.specs.TreeLines.{tree_line}
use Rattle.pv_tree.specs.Tables.{Forest, Tables, tree_at, trees_at, declaration_at, declarator_at, statement_at, optional_at}
use Rattle.pv_types.specs.declared.terms.TypeId.{TypeId}
use Rattle.pv_types.specs.Known.{Known, tree}
use Rattle.pv_types.specs.Ty.{Ty}
use Rattle.pv_typed.specs.Tables.{Stored}
use Rattle.pv_typed.specs.TypedStatement.{TypedStatement}
use Rattle.pv_check.specs.declared.scopes.Scope.{Scope}
use Rattle.pv_check.specs.declared.specifiers.Storage.{Storage}
use Rattle.pv_check.specs.Raw.{raw_of, scope_shown}
use Rattle.pv_check.specs.Specifiers.{Specified}
use Rattle.pv_check.specs.State.{State, After}
use Rattle.pv_typed.specs.Constants.{and_then}
use Rattle.pv_unit.specs.declared.functions.FunctionParts.{FunctionParts}
use Rattle.pv_unit.specs.declared.plain.Place.{Place}
use Rattle.pv_unit.specs.Blocks.{Reached, block_declarator, block_init_declarator}
use Rattle.pv_unit.specs.Bodies.{left_items}
use Rattle.pv_unit.specs.Declarations.{DeclaredType, typedef_entity, variable_entity, entity_declared, file_declarator}
use Rattle.pv_unit.specs.Definitions.{head}
use Rattle.pv_unit.specs.Redeclarations.{UnitState}
use Rattle.pv_unit.specs.Functions.{within, typed_body}
use Rattle.pv_unit.specs.FunctionParts.{body_of}
use Rattle.pv_unit.specs.Scoped.{Marked, labelled_statement}
use Rattle.pv_unit.specs.Stated.{around_in}
use Rattle.pv_unit.specs.Statements.{Label}
use Rattle.pv_unit.specs.TypedStatements.{Body, typed_items, switch_item, switch_items}

-- ---- declarations

-- 6.7p1: one declarator of a block, with its initializer if it has one
abbrev pub block_declarator_at : Tables → Bool → Ty → NodeId → Option NodeId → After (List Reached) → Option (After (List Reached))
block_declarator_at u lasting t d i r = block_declarator lasting t (declarator_at u.forest d) (optional_at u.forest i) r

-- 6.7p1: one init-declarator of a block
abbrev pub block_init_declarator_at : Tables → Bool → Ty → NodeId → After (List Reached) → Option (After (List Reached))
block_init_declarator_at u lasting t n r = block_init_declarator lasting t (tree_at u.forest n) r

-- 6.7p3, 6.7.9: a typedef name, which has no initializer
abbrev pub typedef_entity_at : Tables → DeclaredType → ℕ × ℕ → Option NodeId → UnitState → Option UnitState
typedef_entity_at u d n i z = typedef_entity d.t n d.unsized (optional_at u.forest i) z

-- 6.7p1: a function or an object, with or without an initializer
abbrev pub variable_entity_at : Tables → Storage → DeclaredType → ℕ × ℕ → Option NodeId → UnitState → Option UnitState
variable_entity_at u x d n i z = variable_entity x d.t n d.unsized (optional_at u.forest i) z

-- 6.7p1: what one declarator declares, by the storage class
abbrev pub entity_declared_at : Tables → Storage → DeclaredType → ℕ × ℕ → Option NodeId → UnitState → Option UnitState
entity_declared_at u x d n i z = entity_declared x d.t n d.unsized (optional_at u.forest i) z

-- 6.7p1: one declarator of file scope, with its initializer if it has one
abbrev pub file_declarator_at : Tables → Specified → NodeId → Option NodeId → UnitState → Option UnitState
file_declarator_at u x d i z = file_declarator x (declarator_at u.forest d) (optional_at u.forest i) z

-- ---- function definitions

-- 6.2.1p4: the items of a body in the scope of the parameters, which ends behind them
abbrev pub body_items_at : Tables → Known → TypeId → Scope → ListId → State → Option (After (List TypedStatement))
body_items_at u m t x l s = and_then (typed_items (body_of (tree m t.0)) (trees_at u.forest l) (within (scope_shown m (raw_of x)) s)) left_items

-- 6.9.1p1: a function definition: its head, and then its body
abbrev pub definition_at : Tables → FunctionParts → UnitState → Option UnitState
definition_at u x z = and_then (head (trees_at u.forest x.specs) (declarator_at u.forest x.declarator) z) (typed_body (statement_at u.forest x.block))

-- ---- statements

-- 6.8.5.3: the node is a `for` of these parts, with an expression first, or none
abbrev pub IsFor : Forest → NodeId → (first condition step : Option NodeId) → (body : NodeId) → Type 0
IsFor f n first a step body =
    statement_at f n ≡ For (tree_line (tree_at f n)) (optional_at f first) (optional_at f a) (optional_at f step) (statement_at f body)

-- 6.8.5.3: the node is a `for` of these parts, with a declaration first
abbrev pub IsForDeclaration : Forest → NodeId → (declaration : NodeId) → (condition step : Option NodeId) → (body : NodeId) → Type 0
IsForDeclaration f n d a step body =
    statement_at f n ≡ ForDeclaration (tree_line (tree_at f n)) (declaration_at f d) (optional_at f a) (optional_at f step) (statement_at f body)

-- 6.8.1: a statement of a switch's block, with labels or without
abbrev pub labelled_statement_at : Tables → Stored → Place → IntKind → NodeId → (seen : List Label) → State → Option (After Marked)
labelled_statement_at u m w k n seen s = labelled_statement (around_in m.known w) k (statement_at u.forest n) seen s

-- 6.8.1p1: a declaration or a statement of a switch's block
abbrev pub switch_item_at : Tables → Stored → Place → IntKind → NodeId → After Body → Option (After Body)
switch_item_at u m w k n x = switch_item (around_in m.known w) k (tree_at u.forest n) x

-- 6.8.2p1: the declarations and statements of a switch's block
abbrev pub switch_items_at : Tables → Stored → Place → IntKind → ListId → State → Option (After Body)
switch_items_at u m w k l s = switch_items (around_in m.known w) k (trees_at u.forest l) s
