-- The meaning of an expression in progress (C17 6.5): a bridge from the code's frames and moves to the recursion of evaluation.
use Rattle.std.specs.Prelude.{◌≡◌, ◌+◌, ◌<◌, Bool, true, false, List, [], ◌∷◌, length, map, reverse, Result, Ok, Err, Some, None}
use Rattle.std.specs.declared.option.Option.{Option}
use Rattle.pv_tree.specs.declared.nodes.NodeId.{NodeId}
use Rattle.pv_typed.specs.Tables.{Stored}
use Rattle.pv_typed.specs.NodeTrees.{expression_at, IsExpression}
use Rattle.pv_typed.specs.declared.nodes.Typed.{Typed}
use Rattle.pv_typed.specs.declared.nodes.Typed.TheVariants as typed
use Rattle.pv_world.specs.declared.got.Got.{Got}
use Rattle.pv_seq.specs.Sequencing.{Open, open_against, sequence_point}
use Rattle.pv_seq.specs.Rivals.{top, below}
use Rattle.pv_eval.specs.States.{Setting, State, Stopped, Res, Stops, then_do}
use Rattle.pv_eval.specs.Sequenced.{Given, node_value, operand, later_operand}
use Rattle.pv_eval.specs.Steps.{Calling}
use Rattle.pv_eval.specs.Evaluation.{ev}
use Rattle.pv_eval.specs.declared.failure.Failure.{Failure}
use Rattle.pv_eval.specs.declared.failure.Failure.TheVariants as failure
use Rattle.pv_eval.specs.declared.frames.Frame.{Frame}
use Rattle.pv_eval.specs.declared.frames.Move.{Move}
use Rattle.pv_eval.specs.declared.frames.Move.TheVariants as move
use Rattle.pv_eval.specs.declared.frames.Now.{Now}
use Rattle.pv_eval.specs.declared.frames.Now.TheVariants as now
use Rattle.pv_world.specs.Coming.{worth_of, wrong_for}
use Rattle.pv_eval.specs.Stack.{rest}
use Rattle.pv_typed.specs.TypedTree.{Form, form_of}
use Rattle.pv_eval.specs.declared.frames.Stage.{Stage}
use Rattle.pv_eval.specs.declared.frames.Stage.TheVariants as stage
use Rattle.pv_eval.specs.Frames.{arguments_count, frame_after, after}

-- 6.5p2: frames with the nodes' accesses, the innermost first
abbrev pub zip : {A B : Type 0} → List A → List B → List (A × B)
zip [] js = []
zip (f ∷ fs) [] = []
zip (f ∷ fs) (j ∷ js) = (f, j) ∷ zip fs js

-- 6.5p2: a stack of frames, the innermost last, each with the accesses of its node
abbrev pub stack : List Frame → List Open → List (Frame × Open)
stack frames js = zip (reverse frames) js

-- what a move does, of the node with these accesses
abbrev pub means : Setting → Calling → Stored → Move → Open → State → Res Given
means b call u (move.Give v) j s = node_value j (worth_of v) s
means b call u (move.Operand n f) j s = operand (ev b call (expression_at u n)) j s (frame_after b call u f)
means b call u (move.Later n f) j s = later_operand (ev b call (expression_at u n)) j s (frame_after b call u f)
means b call u (move.Ask f args line) j s = then_do (call f (map worth_of args.items) line s) (node_value (sequence_point j))

-- what is left of the innermost node
abbrev pub now_does : Setting → Calling → Stored → Now → Open → State → Res Given
now_does b call u (now.Due n) j s = ev b call (expression_at u n) j.foes s
now_does b call u (now.Value v) j s = node_value j (worth_of v) s
now_does b call u (now.Asked f args line) j s = then_do (call f (map worth_of args.items) line s) (node_value (sequence_point j))

-- what is left of the expression: the innermost node, and then those that wait for its value
abbrev pub ahead : Setting → Calling → Stored → List Frame → List Open → Now → State → Res Given
ahead b call u frames js place s = then_do (now_does b call u place (top js) s) (rest (after b call u) (stack frames (below js)))

-- an operation leads to a move, or ends the run (as by undefined behaviour, 3.4.3); after want of memory nothing is said
abbrev pub Led : Setting → Calling → Stored → Res Given → Result Move Failure → List Open → State → Type 0
Led b call u want (Ok m) js s = want ≡ means b call u m (top js) s
Led b call u want (Err (failure.Stop y line)) js s = want ≡ Stops (Stopped (wrong_for y) line) s
Led b call u want (Err failure.NoMemory) js s = Unit {0}

-- what is ahead after a step is what was wanted, or the run has ended (as by undefined behaviour, 3.4.3)
abbrev pub Kept : Setting → Calling → Stored → Res Given → Result Now Failure → List Frame → List Open → State → Type 0
Kept b call u want (Ok place) frames js s = want ≡ ahead b call u frames js place s
Kept b call u want (Err (failure.Stop y line)) frames js s = want ≡ Stops (Stopped (wrong_for y) line) s
Kept b call u want (Err failure.NoMemory) frames js s = Unit {0}

-- 6.5.2.2p10: a call that waits for an argument has one more
abbrev pub StageFits : Form → Stage → Type 0
StageFits x (stage.Argument got) = length got.items < arguments_count x
StageFits x stage.First = Unit {0}
StageFits x (stage.Second v) = Unit {0}
StageFits x (stage.Both r) = Unit {0}
StageFits x (stage.Later side) = Unit {0}

-- a frame's node is an expression of the unit, with the operand for which it waits
abbrev pub FrameFits : Stored → Frame → Type 0
FrameFits u f = IsExpression u f.node × StageFits (form_of (expression_at u f.node)) f.stage

-- the same of what a move names: expressions, and functions that are called (6.5.2.2)
abbrev pub MoveFits : Stored → Move → Type 0
MoveFits u (move.Give v) = Unit {0}
MoveFits u (move.Operand n f) = IsExpression u n × FrameFits u f
MoveFits u (move.Later n f) = IsExpression u n × FrameFits u f
MoveFits u (move.Ask f args line) = f < length u.functions

-- the same, unless the run ended (as by undefined behaviour, 3.4.3)
abbrev pub MoveFitsOr : Stored → Result Move Failure → Type 0
MoveFitsOr u (Ok m) = MoveFits u m
MoveFitsOr u (Err e) = Unit {0}

-- 6.5p2: a node that is due was just begun: it has no accesses yet
abbrev pub NowFits : Stored → Now → List Open → Type 0
NowFits u (now.Due n) js = IsExpression u n × (top js ≡ open_against (top js).foes)
NowFits u (now.Value v) js = Unit {0}
NowFits u (now.Asked f args line) js = f < length u.functions

-- the same, unless the run ended (as by undefined behaviour, 3.4.3)
abbrev pub NowFitsOr : Stored → Result Now Failure → List Open → Type 0
NowFitsOr u (Ok place) js = NowFits u place js
NowFitsOr u (Err e) js = Unit {0}

-- 6.5p2: each frame has its node's accesses below those of the innermost node
abbrev pub Matched : List Frame → List Open → Type 0
Matched frames js = length js ≡ length frames + 1

-- the same, unless the run ended (as by undefined behaviour, 3.4.3)
abbrev pub MatchedOr : Result Now Failure → List Frame → List Open → Type 0
MatchedOr (Ok place) frames js = Matched frames js
MatchedOr (Err e) frames js = Unit {0}

-- the first operand of a node
abbrev pub first_operand_of : Typed → Option NodeId
first_operand_of (typed.Subscript a b) = Some a
first_operand_of (typed.Member a k) = Some a
first_operand_of (typed.MemberOfValue a k) = Some a
first_operand_of (typed.Arrow a k) = Some a
first_operand_of (typed.Increment o a) = Some a
first_operand_of (typed.Address a) = Some a
first_operand_of (typed.Indirection a) = Some a
first_operand_of (typed.Unary o a) = Some a
first_operand_of (typed.Not a) = Some a
first_operand_of (typed.Cast a) = Some a
first_operand_of (typed.Arithmetic o a b) = Some a
first_operand_of (typed.PointerSum s a b) = Some a
first_operand_of (typed.PointerDifference a b) = Some a
first_operand_of (typed.PointerOrder o a b) = Some a
first_operand_of (typed.PointerEquality o a b) = Some a
first_operand_of (typed.LogicalAnd a b) = Some a
first_operand_of (typed.LogicalOr a b) = Some a
first_operand_of (typed.Conditional a b d) = Some a
first_operand_of (typed.Assign a b) = Some a
first_operand_of (typed.CompoundAssign o k a b) = Some a
first_operand_of (typed.PointerAssign s a b) = Some a
first_operand_of (typed.Comma a b) = Some a
first_operand_of (typed.Read a) = Some a
first_operand_of (typed.ArrayPointer a) = Some a
first_operand_of (typed.Convert a) = Some a
first_operand_of (typed.Constant k) = None
first_operand_of (typed.LargeConstant k) = None
first_operand_of (typed.Object o) = None
first_operand_of (typed.Function f) = None
first_operand_of (typed.String l) = None
first_operand_of (typed.Call f l) = None
first_operand_of (typed.CallPointer a l) = Some a
first_operand_of (typed.LibraryCall f l) = None
first_operand_of (typed.Sizeof k) = None

-- the second operand of those that evaluate two in any case
abbrev pub second_operand_of : Typed → Option NodeId
second_operand_of (typed.Subscript a b) = Some b
second_operand_of (typed.Arithmetic o a b) = Some b
second_operand_of (typed.PointerSum s a b) = Some b
second_operand_of (typed.PointerDifference a b) = Some b
second_operand_of (typed.PointerOrder o a b) = Some b
second_operand_of (typed.PointerEquality o a b) = Some b
second_operand_of (typed.Assign a b) = Some b
second_operand_of _ = None

-- whether a node takes a turn
abbrev pub takes_of : Bool → Typed → Bool
takes_of turn (typed.Read a) = false
takes_of turn (typed.ArrayPointer a) = false
takes_of turn (typed.Convert a) = false
takes_of turn (typed.Subscript a b) = turn
takes_of turn (typed.Indirection a) = turn
takes_of turn _ = true

-- a value as a move: it is the node's
abbrev pub move_of : Result Got Failure → Result Move Failure
move_of (Ok v) = Ok (move.Give v)
move_of (Err e) = Err e

-- 6.5.13p4, 6.5.14p4, 6.5.15p4: a node that chooses by its first operand
abbrev pub IsChoice : Typed → Type 0
IsChoice (typed.LogicalAnd a b) = Unit {0}
IsChoice (typed.LogicalOr a b) = Unit {0}
IsChoice (typed.Conditional a b d) = Unit {0}
IsChoice _ = ⊥

-- 7.1.4: a call of the library
abbrev pub IsLibraryCall : Typed → Type 0
IsLibraryCall (typed.LibraryCall f l) = Unit {0}
IsLibraryCall _ = ⊥
