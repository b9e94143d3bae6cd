-- Tables of examples of typing (C17 6.5): an expression a row, with the typed tree that it has behind some declarations, or none.
use Rattle.std.specs.Prelude.{◌≡◌, ℕ, pos, true, false, Option, Some, None, List, map}
use Rattle.pv_num.specs.declared.kinds.IntKind.TheVariants as kind
use Rattle.pv_tree.specs.Syntax.{ExpressionTree}
use Rattle.pv_types.specs.Ty.{Ty, IntTy}
use Rattle.pv_typed.specs.TypedTree as typed
use Rattle.pv_typed.specs.TypedTree.{TypedTree, Node}
use Rattle.pv_check.specs.State.{State, After}
use Rattle.pv_check.specs.Typing.{types}

-- an expression, and its typed tree, or none where it breaks a constraint
abbrev pub Row : Type 0
Row = ExpressionTree × Option TypedTree

-- what an answer is looked at for: its typed tree
abbrev pub typed_tree : Option (After TypedTree) → Option TypedTree
typed_tree None = None
typed_tree (Some a) = Some a.value

-- of each row: behind these declarations the expression has that typed tree, or none
abbrev pub AreTyped : State → List Row → Type 0
AreTyped s rows = map (λ (r : Row). typed_tree (types r.0 s)) rows ≡ map (λ (r : Row). r.1) rows

-- the object with this number, on the first line; an lvalue (6.5.1p2)
abbrev pub object : Ty → ℕ → TypedTree
object t o = Node t 1 true (typed.Object o)

-- what is read of it (6.3.2.1p2)
abbrev pub value_of_object : Ty → ℕ → TypedTree
value_of_object t o = Node t 1 false (typed.Read (object t o))

-- a constant of type int, on the first line (6.4.4.1p5)
abbrev pub int_constant : ℕ → TypedTree
int_constant n = Node (IntTy kind.Int) 1 true (typed.Constant (pos n))
