-- A bridge: parts of the clause of evaluation (C17 6.5), one for each function of the code that makes a part: nodes are told by their numbers.
use Rattle.std.specs.Prelude.{◌≡◌, ◌<◌, ◌-◌, ℕ, List, [], ◌∷◌, None, Bool, true, map, length, Result, if◌then◌else◌}
use Rattle.pv_num.specs.declared.kinds.IntKind.{IntKind}
use Rattle.pv_num.specs.declared.operators.BinOp.{BinOp}
use Rattle.pv_num.specs.declared.operators.UnOp.{UnOp}
use Rattle.pv_library.specs.declared.library.Library.{Library}
use Rattle.pv_tree.specs.declared.nodes.NodeId.{NodeId}
use Rattle.pv_tree.specs.declared.nodes.ListId.{ListId}
use Rattle.pv_types.specs.Ty.{Ty}
use Rattle.pv_typed.specs.TypedTree.{CallPointer, TypedTree, Arguments, type_of, line_of}
use Rattle.pv_typed.specs.Nodes.{form_in, arguments_in}
use Rattle.pv_typed.specs.Tables.{Stored, nodes}
use Rattle.pv_typed.specs.NodeTrees.{expression_at, list_at}
use Rattle.pv_typed.specs.declared.nodes.IncrementOperator.{IncrementOperator}
use Rattle.pv_typed.specs.declared.nodes.Sign.{Sign}
use Rattle.pv_typed.specs.declared.nodes.Typed.{Typed}
use Rattle.pv_seq.specs.Sequencing.{Access, Open, open_against}
use Rattle.pv_seq.specs.Rivals.{top}
use Rattle.pv_world.specs.Worlds.{Worth}
use Rattle.pv_world.specs.Coming.{worth_of}
use Rattle.pv_world.specs.declared.got.Got.{Got}
use Rattle.pv_world.specs.declared.got.How.TheVariants.{Rounds}
use Rattle.pv_eval.specs.States.{Setting, State, Res, then_do}
use Rattle.pv_eval.specs.TypeForms.{lvalue, kind_of, element_size, pointed_to}
use Rattle.pv_eval.specs.Operations.{Accepts, Needs, Converts, Calculates, CalculatesOne, Equals, Moves, act}
use Rattle.pv_eval.specs.Sequenced.{Given, node_value, operand}
use Rattle.pv_eval.specs.OfRuns.{work, with_conversion, reading, writing, combining, stepping, ev_form, ev_through, ev_ask}
use Rattle.pv_eval.specs.Steps.{Calling, source_of, is_unequal, is_minus, is_after}
use Rattle.pv_eval.specs.Evaluation.{ev}
use Rattle.pv_eval.specs.Moments.{Moment, Always, state_of}
use Rattle.pv_eval.specs.Frames.{first_after, second_after, both_after, later_after, argument_after, arguments_from, callee_of, passed_of, asked_with, frame_after}
use Rattle.pv_eval.specs.Ahead.{Led}
use Rattle.pv_eval.specs.declared.failure.Failure.{Failure}
use Rattle.pv_eval.specs.declared.frames.Frame.{Frame}
use Rattle.pv_eval.specs.declared.frames.Move.{Move}
use Rattle.pv_eval.specs.declared.frames.Stage.TheVariants as stage

-- a part of the innermost node, beside its accesses, leads to a move or ends the run
abbrev pub LedBy : Stored → (Setting → Calling → Open → State → Res Given) → Result Move Failure → (was now : List Open) → (old new : Moment) → Type 0
LedBy u part r js ks old new = Always u old (λ b out es. (call : Calling) → Led b call u (part b call (top js) (state_of old out es)) r ks (state_of new out es))

-- the same of a part without accesses of its own, whatever those of the node are
abbrev pub LedAnywhere : Stored → (Setting → Calling → Open → State → Res Given) → Result Move Failure → (old new : Moment) → Type 0
LedAnywhere u part r old new =
    Always u old (λ b out es. (call : Calling) (js : List Open) → Led b call u (part b call (top js) (state_of old out es)) r js (state_of new out es))

-- the same of a whole node whose turn is due, and which may take it
abbrev pub LedInTurn : Stored → NodeId → Result Move Failure → (old new : Moment) → Type 0
LedInTurn u n r old new =
    Always u old (λ b out es. (call : Calling) (j : Open) (js : List Open) → old.taken < b.bound
    → Led b call u (ev b call (expression_at u n) j.foes (state_of old out es)) r (open_against j.foes ∷ js) (state_of new out es))

-- the same of a node of this kind that took its turn, whatever its type is
abbrev pub LedAfterTurn : Stored → (line : ℕ) → Typed → Result Move Failure → (old new : Moment) → Type 0
LedAfterTurn u line x r old new =
    Always u old (λ b out es. (call : Calling) (t : Ty) (j : Open) (js : List Open) →
    Led b call u (ev_form b call t line (form_in u.lists (nodes u) x) j.foes (state_of old out es)) r (open_against j.foes ∷ js) (state_of new out es))

-- 7.1.4: the same of a call of the library, none of whose arguments was evaluated
abbrev pub LedByLibrary : Stored → (line : ℕ) → Library → ListId → Result Move Failure → (old new : Moment) → Type 0
LedByLibrary u line f l r old new =
    Always u old (λ b out es. (call : Calling) (fs : List Access) (js : List Open) →
    Led b call u (ev_ask b call line f [] (arguments_in (nodes u) (list_at u l)) (open_against fs) (state_of old out es)) r (open_against fs ∷ js) (state_of new out es))

-- a node that takes no turn begins with this operand
abbrev pub BeginsWith : Stored → (node inner : NodeId) → Setting → Calling → List Access → State → Type 0
BeginsWith u n a b call fs s =
    ev b call (expression_at u n) fs s ≡ operand (ev b call (expression_at u a)) (open_against fs) s (frame_after b call u (record { node = n; stage = stage.First }))

-- with the value for which a node waits
abbrev pub with_frame : Stored → Frame → Worth → Setting → Calling → Open → State → Res Given
with_frame u f v b call j s = frame_after b call u f j v s

-- with the value of the first operand of this node
abbrev pub with_first : Stored → NodeId → Typed → Worth → Setting → Calling → Open → State → Res Given
with_first u n x v b call j s = first_after b call (type_of (expression_at u n)) (line_of (expression_at u n)) (form_in u.lists (nodes u) x) j v s

-- with those of the first and the second
abbrev pub with_second : Stored → NodeId → Typed → (first second : Worth) → Setting → Calling → Open → State → Res Given
with_second u n x v w b call j s = second_after b call (type_of (expression_at u n)) (line_of (expression_at u n)) (form_in u.lists (nodes u) x) v j w s

-- 6.5.16.2p3: with the place, what was read there, and the value of the second operand
abbrev pub with_both : Stored → NodeId → Typed → (place read second : Worth) → Setting → Calling → Open → State → Res Given
with_both u n x p v w b call j s = both_after b call (type_of (expression_at u n)) (line_of (expression_at u n)) (form_in u.lists (nodes u) x) p v j w s

-- 6.5.13p4, 6.5.14p4, 6.5.15p4, 6.5.17p2: with the value of the operand after a sequence point
abbrev pub with_later : Stored → NodeId → Typed → Bool → Worth → Setting → Calling → Open → State → Res Given
with_later u n x side w b call j s = later_after b call (type_of (expression_at u n)) (line_of (expression_at u n)) (form_in u.lists (nodes u) x) side j w s

-- 6.5.2.2p10: with the value of an argument, beside those before it
abbrev pub with_argument : Stored → NodeId → Typed → List Got → Worth → Setting → Calling → Open → State → Res Given
with_argument u n x got v b call j s =
    argument_after b call (type_of (expression_at u n)) (line_of (expression_at u n)) (form_in u.lists (nodes u) x) (length got) (map worth_of got) j v s

-- 6.5.2.2p10: the arguments of a list that are not evaluated yet
abbrev pub arguments_left : Stored → ListId → ℕ → Arguments
arguments_left u l i = arguments_from (arguments_in (nodes u) (list_at u l)) i

-- 6.5.2.2p1, p10: a call by a value, once this value and the first of its arguments are there: the value stands first
abbrev pub through : Stored → NodeId → NodeId → ListId → List Worth → Setting → Calling → Open → State → Res Given
through u n a l got b call j s =
    ev_through b call (line_of (expression_at u n)) (pointed_to (type_of (expression_at u a))) (callee_of got) (passed_of got) (arguments_left u l (length got - 1)) j s

-- 6.5.2.2p1, p10: with one value more, where such a call has these
abbrev pub with_pointed : Stored → NodeId → NodeId → ListId → List Got → Worth → Setting → Calling → Open → State → Res Given
with_pointed u n a l got v b call j s =
    argument_after b call (type_of (expression_at u n)) (line_of (expression_at u n)) (CallPointer (expression_at u a) (arguments_in (nodes u) (list_at u l))) (length got) (map worth_of got) j v s

-- 7.1.4: a call of the library, once the first of its arguments have these values
abbrev pub asks_with : Stored → (line : ℕ) → Library → ListId → List Got → Setting → Calling → Open → State → Res Given
asks_with u line f l got b call j s =
    ev_ask b call line f (asked_with (arguments_in (nodes u) (list_at u l)) (map worth_of got)) (arguments_left u l (length got)) j s

-- 6.5.3.3: the operator on one integer
abbrev pub calculates_one : Stored → NodeId → (line : ℕ) → UnOp → (inner : NodeId) → Worth → Setting → Calling → Open → State → Res Given
calculates_one u n line o a v b call j s =
    then_do (with_conversion b (expression_at u a) v s) (λ v s. work b line (CalculatesOne o (kind_of (type_of (expression_at u n))) v) j s)

-- 6.5.5 to 6.5.12: the operator on two integers, of which the left one is converted
abbrev pub calculates_right : Stored → (line : ℕ) → BinOp → (left right : NodeId) → (first second : Worth) → Setting → Calling → Open → State → Res Given
calculates_right u line o a d v w b call j s =
    then_do (with_conversion b (expression_at u d) w s) (λ w s. work b line (Calculates o (kind_of (type_of (expression_at u a))) v w) j s)

-- 6.5.5 to 6.5.12: the operator on two integers, the left one converted first
abbrev pub calculates : Stored → (line : ℕ) → BinOp → (left right : NodeId) → (first second : Worth) → Setting → Calling → Open → State → Res Given
calculates u line o a d v w b call j s = then_do (with_conversion b (expression_at u a) v s) (λ v s. calculates_right u line o a d v w b call j s)

-- 6.5.9p6: whether two pointers are equal, of which the left one is converted
abbrev pub compares_right : Stored → (line : ℕ) → BinOp → (right : NodeId) → (first second : Worth) → Setting → Calling → Open → State → Res Given
compares_right u line o d v w b call j s = then_do (with_conversion b (expression_at u d) w s) (λ w s. work b line (Equals (is_unequal o) v w) j s)

-- 6.5.9p6: whether two pointers are equal, the left one converted first
abbrev pub compares : Stored → (line : ℕ) → BinOp → (left right : NodeId) → (first second : Worth) → Setting → Calling → Open → State → Res Given
compares u line o a d v w b call j s = then_do (with_conversion b (expression_at u a) v s) (λ v s. compares_right u line o d v w b call j s)

-- 6.5.16.1p2: the right value is converted and stored
abbrev pub assigns : Stored → (line : ℕ) → (left right : NodeId) → (place value : Worth) → Setting → Calling → Open → State → Res Given
assigns u line a d p w b call j s =
    then_do (with_conversion b (expression_at u d) w s) (λ v s.
    writing b (lvalue b (type_of (expression_at u a))) line p v (source_of (expression_at u d) v) j s node_value)

-- 6.5.16p3: the value is stored back, and is the node's
abbrev pub writes_back : Stored → (line : ℕ) → (left : NodeId) → (place value : Worth) → Setting → Calling → Open → State → Res Given
writes_back u line a p v b call j s = writing b (lvalue b (type_of (expression_at u a))) line p v None j s node_value

-- 6.5.16.2p3: the operator, the conversion back, and the store
abbrev pub combines : Stored → (line : ℕ) → BinOp → (kind back : IntKind) → (left : NodeId) → (place read second : Worth) → Setting → Calling → Open → State → Res Given
combines u line o kind back a p v w b call j s = then_do (combining b line o kind back v w s) (λ v s. writes_back u line a p v b call j s)

-- 6.5.16.2p3: the same, the right operand converted first
abbrev pub combines_right : Stored → NodeId → (line : ℕ) → BinOp → IntKind → (left right : NodeId) → (place read second : Worth) → Setting → Calling → Open → State → Res Given
combines_right u n line o kind a d p v w b call j s =
    then_do (with_conversion b (expression_at u d) w s) (λ w s. combines u line o kind (kind_of (type_of (expression_at u n))) a p v w b call j s)

-- 6.5.16.2p3: the same, what was read converted before that
abbrev pub combines_both : Stored → NodeId → (line : ℕ) → BinOp → IntKind → (left right : NodeId) → (place read second : Worth) → Setting → Calling → Open → State → Res Given
combines_both u n line o kind a d p v w b call j s =
    then_do (act b line (Converts (Rounds kind) v) s) (λ v s. combines_right u n line o kind a d p v w b call j s)

-- 6.5.16.2p3: a pointer moved by an integer, and stored
abbrev pub moves_and_writes : Stored → NodeId → (line : ℕ) → Sign → (left : NodeId) → (place read second : Worth) → Setting → Calling → Open → State → Res Given
moves_and_writes u n line sign a p v w b call j s =
    then_do (act b line (Moves (is_minus sign) true (element_size b (type_of (expression_at u n))) v w) s) (λ v s. writes_back u line a p v b call j s)

-- 6.5.16.2p3: the place is read, before the second operand is evaluated
abbrev pub reads_place : Stored → NodeId → (line : ℕ) → Typed → (left right : NodeId) → (place : Worth) → Setting → Calling → Open → State → Res Given
reads_place u n line x a d p b call j s =
    reading b (lvalue b (type_of (expression_at u a))) line p j s (λ j v s.
    operand (ev b call (expression_at u d)) j s (both_after b call (type_of (expression_at u n)) line (form_in u.lists (nodes u) x) p v))

-- 6.5.2.4p2, 6.5.3.1p2: the new value is stored; the node's is the old one or the new one
abbrev pub writes_step : Stored → (line : ℕ) → IncrementOperator → NodeId → (place before after : Worth) → Setting → Calling → Open → State → Res Given
writes_step u line o a p v w b call j s =
    writing b (lvalue b (type_of (expression_at u a))) line p w None j s (λ j w s. node_value j (if is_after o then v else w) s)

-- 6.5.2.4p2, 6.5.3.1p2: 1 is added or taken off, and the new value stored
abbrev pub steps : Stored → NodeId → (line : ℕ) → IncrementOperator → (inner : NodeId) → (place before read : Worth) → Setting → Calling → Open → State → Res Given
steps u n line o a p old v b call j s =
    then_do (stepping b line (type_of (expression_at u n)) o v s) (λ w s. writes_step u line o a p old w b call j s)

-- 6.5.2.4p2, 6.5.3.1p2: the place is read first
abbrev pub increments : Stored → NodeId → (line : ℕ) → IncrementOperator → (inner : NodeId) → (place : Worth) → Setting → Calling → Open → State → Res Given
increments u n line o a p b call j s =
    reading b (lvalue b (type_of (expression_at u a))) line p j s (λ j v s. steps u n line o a p v v b call j s)

-- 6.8.6.4p3: a value converted as if by assignment, and there, at this line
abbrev pub handed_at : Setting → (line : ℕ) → TypedTree → Worth → State → Res Worth
handed_at b line x v s = then_do (with_conversion b x v s) (λ v s. act b line (Accepts v) s)

-- 6.8.4.2p5: a value converted, of which a number is needed
abbrev pub needed_of : Setting → TypedTree → Worth → State → Res Worth
needed_of b x v s = then_do (with_conversion b x v s) (λ v s. act b (line_of x) (Needs v) s)
