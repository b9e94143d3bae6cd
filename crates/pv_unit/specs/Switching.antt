-- A bridge: what the answers of the code that types a switch stand for.
use Rattle.std.specs.Prelude.{◌≡◌, ℕ, ℤ, Bool, true, false, List, map, Option, Some, None, if◌then◌else◌, ◌++◌, ◌∷◌, []}
use Rattle.pv_num.specs.declared.kinds.IntKind.{IntKind}
use Rattle.pv_tree.specs.declared.nodes.NodeId.{NodeId}
use Rattle.pv_tree.specs.declared.nodes.ListId.{ListId}
use Rattle.pv_tree.specs.Syntax.{StatementTree, Trees, SwitchBlock, Labelled}
use Rattle.pv_tree.specs.Places.{is_switch_block}
use Rattle.pv_tree.specs.TreeLines.{tree_line}
use Rattle.pv_tree.specs.Tables.{Forest, tree_at, trees_at, statement_at as statement_of, is_item, is_statement, Has, HasList}
use Rattle.pv_typed.specs.Tables.{Stored}
use Rattle.pv_typed.specs.NodeTrees.{expression_at, statement_at}
use Rattle.pv_check.specs.Raw.{Raw}
use Rattle.pv_check.specs.Open.{state_in}
use Rattle.pv_check.specs.State.{State, After, give}
use Rattle.pv_typed.specs.Constants.{and_then}
use Rattle.pv_unit.specs.declared.labels.Label.{Label}
use Rattle.pv_unit.specs.declared.labels.Label.TheVariants as label
use Rattle.pv_unit.specs.declared.labels.Labels.{Labels}
use Rattle.pv_unit.specs.declared.rows.Controlling.{Controlling}
use Rattle.pv_unit.specs.Statements.{Switched, CaseLabel, DefaultLabel, typed_label, typed_labels}
use Rattle.pv_unit.specs.StatementParts.{stands}
use Rattle.pv_unit.specs.Statements as statements
use Rattle.pv_unit.specs.TypedStatements.{Body}
use Rattle.pv_unit.specs.Scoped.{Marked}
use Rattle.pv_unit.specs.Stated.{statements_in}

-- a label (6.8.4.2) that the code has
abbrev pub label_of : Label → statements.Label
label_of (label.Case line value) = CaseLabel line value
label_of (label.Default line) = DefaultLabel line

-- labels (6.8.4.2) that the code has
abbrev pub labels_of : List Label → List statements.Label
labels_of ls = map label_of ls

-- what two labels that are one share (6.8.4.2p3): the value of a `case`
abbrev pub key_of : Label → Option ℤ
key_of (label.Case line value) = Some value
key_of (label.Default line) = None

-- the set has what the labels are (6.8.4.2p3), in their order
abbrev pub HasKeys : Labels → Type 0
HasKeys x = x.keys.keys ≡ map key_of x.all.items

-- a label (6.8.1p1) as an answer, and the state after it
abbrev pub label_if : List (List ℕ) → Raw → Stored → Option Label → Option (After statements.Label)
label_if texts s m None = None
label_if texts s m (Some l) = Some (record { value = label_of l; state = state_in texts s m })

-- all labels of a switch (6.8.4.2) as an answer
abbrev pub labels_if : List (List ℕ) → Raw → Stored → List Label → Bool → Option (After (List statements.Label))
labels_if texts s m ls false = None
labels_if texts s m ls true = Some (record { value = labels_of ls; state = state_in texts s m })

-- further labels behind those that a switch has (6.8.4.2p3)
abbrev pub behind_labels : List statements.Label → Option (After (List statements.Label)) → Option (After (List statements.Label))
behind_labels seen None = None
behind_labels seen (Some x) = Some (record { value = seen ++ x.value; state = x.state })

-- 6.8.4.2p3: the labels of a switch, and those of one of its statements behind them
abbrev pub labels_behind : IntKind → (seen : List statements.Label) → Trees → State → Option (After (List statements.Label))
labels_behind k seen ls s = behind_labels seen (typed_labels k seen ls s)

-- 6.8.4.2p3: all labels of a switch with one more, if it is not among them
abbrev pub with_label : List statements.Label → After statements.Label → Option (After (List statements.Label))
with_label all x = if stands x.value all then None else give (Some (all ++ (x.value ∷ []))) x.state

-- 6.8.1p1, 6.8.4.2p3: all labels of a switch with the one that stands here, if it is not among them
abbrev pub label_behind : IntKind → (all : List statements.Label) → StatementTree → State → Option (After (List statements.Label))
label_behind k all l s = and_then (typed_label k l s) (with_label all)

-- the controlling expression of a switch (6.8.4.2p1)
abbrev pub switched_in : List (List ℕ) → Raw → Stored → Controlling → After Switched
switched_in texts s m x = record { value = record { value = expression_at m x.value; kind = x.kind }; state = state_in texts s m }

-- the controlling expression of a switch (6.8.4.2p1) as an answer
abbrev pub switched_if : List (List ℕ) → Raw → Stored → Option Controlling → Option (After Switched)
switched_if texts s m None = None
switched_if texts s m (Some x) = Some (switched_in texts s m x)

-- the items of a switch's block (6.8.2p1), and its labels
abbrev pub body_in : List (List ℕ) → Raw → Stored → List NodeId → List Label → After Body
body_in texts s m ns ls = record { value = record { items = statements_in m ns; labels = labels_of ls }; state = state_in texts s m }

-- the items of a switch's block (6.8.2p1) as an answer
abbrev pub body_if : List (List ℕ) → Raw → Stored → List NodeId → List Label → Bool → Option (After Body)
body_if texts s m ns ls false = None
body_if texts s m ns ls true = Some (body_in texts s m ns ls)

-- a statement under its labels (6.8.1) as an answer, with the labels of the switch
abbrev pub marked_if : List (List ℕ) → Raw → Stored → List Label → Option NodeId → Option (After Marked)
marked_if texts s m ls None = None
marked_if texts s m ls (Some n) = Some (record { value = record { labels = labels_of ls; statement = statement_at m n }; state = state_in texts s m })

-- a statement with labels (6.8.1)
abbrev pub is_labelled : StatementTree → Bool
is_labelled (Labelled line labels b) = true
is_labelled _ = false

-- the labels of a statement (6.8.1) and what stands behind them, where it has labels
abbrev pub IsLabelledIf : Forest → NodeId → Option (ListId × NodeId) → Type 0
IsLabelledIf f n None = is_labelled (statement_of f n) ≡ false
IsLabelledIf f n (Some p) =
    (statement_of f n ≡ Labelled (tree_line (tree_at f n)) (trees_at f p.0) (statement_of f p.1)) × HasList f n.0 is_statement p.0 × Has f n.0 is_statement p.1

-- the items of a switch's block (6.8.2p1), where it is one
abbrev pub IsBlockIf : Forest → NodeId → Option ListId → Type 0
IsBlockIf f n None = is_switch_block (statement_of f n) ≡ false
IsBlockIf f n (Some l) = (statement_of f n ≡ SwitchBlock (tree_line (tree_at f n)) (trees_at f l)) × HasList f n.0 is_item l
