-- Words of evaluation: turns, conversions that wait, a node's own accesses, and the operators that read and write back.
use Rattle.std.specs.Prelude.{ℕ, pos, Bool, true, false, List, None, if◌then◌else◌}
use Rattle.std.specs.declared.option.Option.{Option}
use Rattle.pv_num.specs.declared.kinds.IntKind.{IntKind}
use Rattle.pv_num.specs.declared.operators.BinOp.{BinOp}
use Rattle.pv_num.specs.declared.operators.BinOp.TheVariants as op
use Rattle.pv_types.specs.Ty.{Ty}
use Rattle.pv_typed.specs.declared.nodes.IncrementOperator.{IncrementOperator}
use Rattle.pv_typed.specs.declared.nodes.IncrementOperator.TheVariants.{PostIncrement, PostDecrement, PreDecrement}
use Rattle.pv_typed.specs.declared.nodes.Sign.{Sign}
use Rattle.pv_typed.specs.declared.nodes.Sign.TheVariants.{Plus, Minus}
use Rattle.pv_typed.specs.TypedTree.{TypedTree, Node, Form, Subscript, Indirection, Read, ArrayPointer, Convert, line_of}
use Rattle.pv_seq.specs.Sequencing.{Open, with_access, rivals}
use Rattle.pv_world.specs.Worlds.{Worth}
use Rattle.pv_eval.specs.States.{Setting, State, Res, Gives, then_do, tick}
use Rattle.pv_world.specs.Worths.{int, origin_of, pointer_of}
use Rattle.pv_eval.specs.TypeForms.{Lvalue, kind_of, element_size}
use Rattle.pv_types.specs.Sorts.{is_pointer}
use Rattle.pv_num.specs.Kinds.{promotion_of}
use Rattle.pv_eval.specs.Conversions.{how_to}
use Rattle.pv_world.specs.declared.got.How.TheVariants.{Rounds}
use Rattle.pv_eval.specs.Accesses.{access_to}
use Rattle.pv_eval.specs.Operations.{Converts, Calculates, Accepts, Moves, Reads, Writes}
use Rattle.pv_eval.specs.Sequenced.{Given, Acts, doing_by}

-- 6.5.2.2: what a call of a function does, of its number, its arguments and the line of the call
abbrev pub Calling : Type 0
Calling = (function : ℕ) → List Worth → (line : ℕ) → State → Res Worth

-- 5.1.2.3: the turn of a node. Reads, pointers to arrays and functions and implicit conversions take none, nor does a `*` or `[]` directly under `&`
abbrev pub takes : Bool → Form → Bool
takes turn (Read a) = false
takes turn (ArrayPointer a) = false
takes turn (Convert a) = false
takes turn (Subscript a b) = turn
takes turn (Indirection a) = turn
takes turn _ = true

-- 5.1.2.3p1: a turn, if there is one to be taken
abbrev pub tick_if : {A : Type 0} → Bool → Setting → State → (State → Res A) → Res A
tick_if true b s go = tick b s go
tick_if false b s go = go s

-- 6.3p1: an operand's value, converted where its node is an implicit conversion
abbrev pub with_conversion_by : Acts → Setting → TypedTree → Worth → State → Res Worth
with_conversion_by A b (Node t line turn (Convert (Node u m k x))) v s = A b line (Converts (how_to b true u t) v) s
with_conversion_by A b (Node t line turn x) v s = Gives v s

-- 6.5.2.2p7, 6.7.9p11: an argument, or a value that is stored: converted as if by assignment, and there (6.9.1p12)
abbrev pub accepted_value_by : Acts → Setting → TypedTree → Worth → State → Res Worth
accepted_value_by A b x v s = then_do (with_conversion_by A b x v s) (λ v s. A b (line_of x) (Accepts v) s)

-- 6.3.2.1p2, 6.5p2: a read of the node's own
abbrev pub reading_by : Acts → Setting → Lvalue → (line : ℕ) → (place : Worth) → Open → State → (Open → Worth → State → Res Given) → Res Given
reading_by A b l line p j s go = doing_by A b line (Reads l p (rivals j)) s (λ v s. go (with_access (access_to l (pointer_of p) false) j) v s)

-- 6.5.16p3: a write of the node's own
abbrev pub writing_by : Acts → Setting → Lvalue → (line : ℕ) → (place value : Worth) → (from : Option ℕ) → Open → State → (Open → Worth → State → Res Given) → Res Given
writing_by A b l line p v from j s go = doing_by A b line (Writes l p v from (rivals j)) s (λ v s. go (with_access (access_to l (pointer_of p) true) j) v s)

-- 6.5.16.1p3: a right operand that is an lvalue
abbrev pub source_of : TypedTree → Worth → Option ℕ
source_of (Node t line turn (Read a)) v = origin_of v
source_of (Node t line turn _) v = None

-- 6.5.9p3: whether the operator is `!=`
abbrev pub is_unequal : BinOp → Bool
is_unequal op.Ne = true
is_unequal _ = false

-- 6.5.6: whether the operator is `-`
abbrev pub is_minus : Sign → Bool
is_minus Minus = true
is_minus Plus = false

-- 6.5.2.4p3, 6.5.3.1p3: whether 1 is taken off
abbrev pub is_down : IncrementOperator → Bool
is_down PostDecrement = true
is_down PreDecrement = true
is_down _ = false

-- 6.5.2.4p2, p3: whether the result is the value before
abbrev pub is_after : IncrementOperator → Bool
is_after PostIncrement = true
is_after PostDecrement = true
is_after _ = false

-- 6.5.16.2p3: the operator at its kind, and back to the kind of the lvalue
abbrev pub combining_by : Acts → Setting → (line : ℕ) → BinOp → (kind back : IntKind) → Worth → Worth → State → Res Worth
combining_by A b line op kind back v x s = then_do (A b line (Calculates op kind v x) s) (λ v s. A b line (Converts (Rounds back) v) s)

-- 6.5.2.4p2, 6.5.3.1p2: 1 is added or taken off
abbrev pub stepping_by : Acts → Setting → (line : ℕ) → Ty → IncrementOperator → Worth → State → Res Worth
stepping_by A b line t o v s =
    if is_pointer t then A b line (Moves (is_down o) true (element_size b t) v (int (pos 1))) s
    else combining_by A b line (if is_down o then op.Sub else op.Add) (promotion_of (kind_of t)) (kind_of t) v (int (pos 1)) s
