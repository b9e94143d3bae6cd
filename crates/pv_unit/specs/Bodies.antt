-- A bridge: what the code that types the body of a function has and answers.
use Rattle.std.specs.Prelude.{◌≡◌, ℕ, Bool, true, false, List, Option, Some, None}
use Rattle.pv_tree.specs.declared.nodes.NodeId.{NodeId}
use Rattle.pv_tree.specs.declared.nodes.ListId.{ListId}
use Rattle.pv_tree.specs.Syntax.{Block, DeclarationTree, Function}
use Rattle.pv_tree.specs.Places.{is_block}
use Rattle.pv_tree.specs.TreeLines.{tree_line}
use Rattle.pv_tree.specs.Tables.{Tables, Is, Forest, tree_at, trees_at, declaration_at, declarator_at, statement_at, is_declarator, is_item, is_specifier, is_statement, HasList}
use Rattle.pv_types.specs.Known.{tree}
use Rattle.pv_typed.specs.Tables.{Stored}
use Rattle.pv_typed.specs.TypedStatement.{TypedStatement}
use Rattle.pv_check.specs.declared.parameters.Signature.{Signature}
use Rattle.pv_check.specs.Declarators.{signature_shown}
use Rattle.pv_check.specs.Raw.{Raw}
use Rattle.pv_check.specs.State.{After}
use Rattle.pv_check.specs.Scopes.{behind_scope}
use Rattle.pv_unit.specs.declared.entities.Outer.{Outer}
use Rattle.pv_unit.specs.declared.heads.Defined.{Defined}
use Rattle.pv_unit.specs.declared.functions.FunctionParts.{FunctionParts}
use Rattle.pv_unit.specs.Definitions.{Head}
use Rattle.pv_unit.specs.Redeclarations.{UnitState}
use Rattle.pv_unit.specs.Outside.{unit_state}

-- the head of a definition (6.9.1) that the code made, and what is known behind it
abbrev pub head_made : List (List ℕ) → Raw → Stored → Outer → Defined → Signature → Head × UnitState
head_made texts s m o d g = (
  record { function = d.function; result = tree m.known d.result_type.0; signature = signature_shown m.known g },
  unit_state texts s m o,
)

-- the items of a body (6.8.2p1), where it is a block
abbrev pub IsBodyIf : Forest → NodeId → Option ListId → Type 0
IsBodyIf f n None = is_block (statement_at f n) ≡ false
IsBodyIf f n (Some l) = (statement_at f n ≡ Block (tree_line (tree_at f n)) (trees_at f l)) × HasList f n.0 is_item l

-- the items (6.8.2p1), behind the scope in which they stand (6.2.1p4)
abbrev pub left_items : After (List TypedStatement) → Option (After (List TypedStatement))
left_items x = Some (record { value = x.value; state = behind_scope x.state })

-- a function definition (6.9.1p1)
abbrev pub is_definition : DeclarationTree → Bool
is_definition (Function line specs declarator block) = true
is_definition _ = false

-- the parts of a function definition (6.9.1p1), as the code has them
abbrev pub AreParts : Tables → NodeId → FunctionParts → Type 0
AreParts u n x =
    (declaration_at u.forest n ≡ Function (tree_line (tree_at u.forest n)) (trees_at u.forest x.specs) (declarator_at u.forest x.declarator) (statement_at u.forest x.block))
    × HasList u.forest n.0 is_specifier x.specs
    × Is u is_declarator x.declarator
    × Is u is_statement x.block

-- the same, where it is a function definition (6.9.1p1)
abbrev pub ArePartsIf : Tables → NodeId → Option FunctionParts → Type 0
ArePartsIf u n None = is_definition (declaration_at u.forest n) ≡ false
ArePartsIf u n (Some x) = AreParts u n x
