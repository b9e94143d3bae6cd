-- Labels of a `switch` (C17 6.8.4.2) as the code has them: a bridge to where the definition of execution jumps.
use Rattle.std.specs.Prelude.{◌≡◌, ◌<◌, ℕ, ℤ, Bool, true, false, ◌||◌, None, Some}
use Rattle.std.specs.declared.option.Option.{Option}
use Rattle.std.specs.Ordering.{int_eq}
use Rattle.pv_tree.specs.declared.nodes.NodeId.{NodeId}
use Rattle.pv_tree.specs.declared.nodes.ListId.{ListId}
use Rattle.pv_typed.specs.TypedStatement.{TypedStatement, Statements}
use Rattle.pv_typed.specs.Trees.{declared_of}
use Rattle.pv_typed.specs.Tables.{Stored}
use Rattle.pv_typed.specs.NodeTrees.{expression_at, statement_at, IsExpression, IsStatement}
use Rattle.pv_eval.specs.States.{Setting, State}
use Rattle.pv_exec.specs.declared.switches.Label.{Label}
use Rattle.pv_exec.specs.declared.switches.Label.TheVariants as label
use Rattle.pv_exec.specs.declared.switches.Labelled.{Labelled}
use Rattle.pv_exec.specs.declared.switches.Labelled.TheVariants as labelled
use Rattle.pv_exec.specs.declared.switches.SwitchParts.{SwitchParts}
use Rattle.pv_exec.specs.Flows.{Below}
use Rattle.pv_exec.specs.Labels.{Target, ToCase, ToDefault, ToNone, is_target, target_of}
use Rattle.pv_exec.specs.LabelParts.{some_case, some_default}
use Rattle.pv_exec.specs.OfRuns.{exs, exs_at}
use Rattle.pv_exec.specs.Parts.{Selection}
use Rattle.pv_exec.specs.Tasks.{statements_from}
use Rattle.pv_exec.specs.Fits.{HasList, IsScope}

-- 6.8.4.2p5: where the code jumps, as the definition has it
abbrev pub target : Label → Target
target (label.Value n) = ToCase n
target label.Default = ToDefault

-- 6.8.4.2p5: a label is among these statements
abbrev pub some_target : Target → Statements → Bool
some_target (ToCase v) xs = some_case v xs
some_target ToDefault xs = some_default xs
some_target ToNone xs = false

-- 6.8.4.2p5: a `case` with this value
abbrev pub is_value_of : Label → ℤ → Bool
is_value_of (label.Value n) v = int_eq n v
is_value_of label.Default v = false

-- 6.8.4.2p5: a `default`
abbrev pub is_default_label : Label → Bool
is_default_label (label.Value n) = false
is_default_label label.Default = true

-- 6.8.1, 6.8.4.2p5: what stands before and behind the first label of a statement
abbrev pub LabelIs : Stored → TypedStatement → Labelled → Type 0
LabelIs u t (labelled.Case v x) = (l : Label) → is_target (target l) t ≡ (is_value_of l v || is_target (target l) (statement_at u x))
LabelIs u t (labelled.Default x) = (l : Label) → is_target (target l) t ≡ (is_default_label l || is_target (target l) (statement_at u x))
LabelIs u t labelled.Plain = (l : Label) → is_target (target l) t ≡ false

-- 6.8.1: a label and the statement behind it are there
abbrev pub LabelFits : Stored → NodeId → Labelled → Type 0
LabelFits u n (labelled.Case v x) = IsStatement u x × (x.0 < n.0)
LabelFits u n (labelled.Default x) = IsStatement u x × (x.0 < n.0)
LabelFits u n labelled.Plain = Unit {0}

-- 6.8.4.2p5: the first statement of a list that has the label
pub record Finds (u : Stored) (l : ListId) (at : Target) (i : ℕ) : Type 0 where
  pub some : some_target at (statements_from u l 0) ≡ true
  pub from : (b : Setting) (w : Below) (s : State) → exs_at b w at (statements_from u l 0) s ≡ exs b w (statements_from u l i) s

-- 6.8.4.2p5: no label fits
abbrev pub is_none_target : Target → Bool
is_none_target (ToCase v) = false
is_none_target ToDefault = false
is_none_target ToNone = true

-- 6.8.4.2p5: where a `switch` with this value begins, or that it has no label for it
abbrev pub Reaches : Stored → ListId → ℤ → Option ℕ → Type 0
Reaches u l v None = target_of v (statements_from u l 0) ≡ ToNone
Reaches u l v (Some i) = (is_none_target (target_of v (statements_from u l 0)) ≡ false) × ((b : Setting) (w : Below) (s : State) → exs_at b w (target_of v (statements_from u l 0)) (statements_from u l 0) s ≡ exs b w (statements_from u l i) s)

-- 6.8.4.2: a switch by the numbers of its parts
abbrev pub selection_in : Stored → SwitchParts → Selection
selection_in u p = record { value = expression_at u p.value; block = record { objects = declared_of (statement_at u p.block); items = statements_from u p.items 0 } }

-- 6.8.4.2: the same, if it is one whose body is a block
abbrev pub selection_read : Stored → Option SwitchParts → Option Selection
selection_read u None = None
selection_read u (Some p) = Some (selection_in u p)

-- 6.8.4.2: its parts are there
abbrev pub SelectionFits : Stored → SwitchParts → Type 0
SelectionFits u p = IsExpression u p.value × IsScope u p.block × HasList u p.items
