-- A bridge: the turns that the rows of a table keep: what `Plain` says of trees, said of rows by the rows of the operands.
use Rattle.std.specs.Prelude.{◌≡◌, ℕ, Bool, true, Option, Some, None, List}
use Rattle.pv_tree.specs.declared.nodes.NodeId.{NodeId}
use Rattle.pv_typed.specs.declared.nodes.Typed.{Typed}
use Rattle.pv_typed.specs.declared.nodes.Typed.TheVariants as typed
use Rattle.pv_typed.specs.declared.rows.What.{What}
use Rattle.pv_typed.specs.declared.rows.What.TheVariants as what
use Rattle.pv_typed.specs.declared.rows.Row.{Row}
use Rattle.pv_typed.specs.Plain.{with_own_turn, sum_of_turns, turns_within}
use Rattle.pv_typed.specs.Children.{row_at}

-- the turns of an expression's node, where those of its operands are given
abbrev pub turns_in : (NodeId → Option ℕ) → Bool → Typed → Option ℕ
turns_in turns counts (typed.Constant value) = Some 1
turns_in turns counts (typed.LargeConstant value) = Some 1
turns_in turns counts (typed.Sizeof size) = Some 1
turns_in turns counts (typed.Object o) = Some 1
turns_in turns counts (typed.String l) = Some 1
turns_in turns counts (typed.Read a) = turns a
turns_in turns counts (typed.ArrayPointer a) = turns a
turns_in turns counts (typed.Convert a) = turns a
turns_in turns counts (typed.Indirection a) = with_own_turn counts (turns a)
turns_in turns counts (typed.Subscript a b) = with_own_turn counts (sum_of_turns (turns a) (turns b))
turns_in turns counts (typed.Member a offset) = with_own_turn true (turns a)
turns_in turns counts (typed.Arrow a offset) = with_own_turn true (turns a)
turns_in turns counts (typed.Address a) = with_own_turn true (turns a)
turns_in turns counts (typed.Unary op a) = with_own_turn true (turns a)
turns_in turns counts (typed.Not a) = with_own_turn true (turns a)
turns_in turns counts (typed.Cast a) = with_own_turn true (turns a)
turns_in turns counts (typed.Arithmetic op a b) = with_own_turn true (sum_of_turns (turns a) (turns b))
turns_in turns counts (typed.PointerSum sign a b) = with_own_turn true (sum_of_turns (turns a) (turns b))
turns_in turns counts (typed.PointerDifference a b) = with_own_turn true (sum_of_turns (turns a) (turns b))
turns_in turns counts (typed.PointerOrder op a b) = with_own_turn true (sum_of_turns (turns a) (turns b))
turns_in turns counts (typed.PointerEquality op a b) = with_own_turn true (sum_of_turns (turns a) (turns b))
turns_in turns counts _ = None

-- the turns that a row keeps: an expression's, where it is plain
abbrev pub kept_in : What → Option ℕ
kept_in (what.Expression x t counts plain) = plain
kept_in (what.Statement x declared) = None

-- the same of the row of a number
abbrev pub turns_kept : List Row → NodeId → Option ℕ
turns_kept rows n = kept_in (row_at rows n.0).what

-- a row keeps the turns that follow from the rows of its operands
abbrev pub HasTurns : List Row → What → Type 0
HasTurns rows (what.Expression x t counts plain) = plain ≡ turns_within (turns_in (turns_kept rows) counts x)
HasTurns rows (what.Statement x declared) = Unit {0}
