-- A bridge: what a node does with the values of its operands: one clause for each operand of each kind, whose body is a part of the
-- clause of evaluation.
use Rattle.std.specs.Prelude.{ℕ, zero, suc, ◌+◌, pos, Bool, true, false, List, [], ◌∷◌, ◌++◌, None, map, length, if◌then◌else◌}
use Rattle.pv_types.specs.Ty.{Ty, VoidTy}
use Rattle.pv_typed.specs.TypedTree.{TypedTree, Node, Form, Constant, Subscript, Call, CallPointer, LibraryCall, Member, MemberOfValue, Arrow, Increment, Indirection, Unary, Not, Cast, Arithmetic, PointerSum, PointerDifference, PointerOrder, PointerEquality, LogicalAnd, LogicalOr, Conditional, Assign, CompoundAssign, PointerAssign, Comma, Read, Arguments, NoArguments, MoreArguments, type_of, line_of, form_of}
use Rattle.pv_typed.specs.Tables.{Stored}
use Rattle.pv_typed.specs.NodeTrees.{expression_at}
use Rattle.pv_seq.specs.Sequencing.{Open, sequence_point}
use Rattle.pv_world.specs.Worlds.{Worth, Nothing}
use Rattle.pv_eval.specs.States.{Setting, State, Res, then_do}
use Rattle.pv_world.specs.Worths.{is_true}
use Rattle.pv_world.specs.declared.got.How.TheVariants.{Rounds}
use Rattle.pv_eval.specs.TypeForms.{lvalue, kind_of, element_size, pointed_to}
use Rattle.pv_types.specs.Sorts.{is_void, is_pointer}
use Rattle.pv_eval.specs.Conversions.{how_to}
use Rattle.pv_eval.specs.Operations.{Converts, Calculates, CalculatesOne, Tests, Negates, Moves, Subtracts, Orders, Equals, Follows, Selects, TakesPart, act}
use Rattle.pv_eval.specs.Sequenced.{Given, with_given, node_value, operand, later_operand}
use Rattle.pv_eval.specs.OfRuns.{doing, work, with_conversion, accepted_value, reading, writing, combining, stepping, ev_call, ev_through, ev_ask}
use Rattle.pv_eval.specs.Steps.{Calling, source_of, is_unequal, is_minus, is_after}
use Rattle.pv_eval.specs.Arguments.{argument}
use Rattle.pv_eval.specs.Evaluation.{ev}
use Rattle.pv_eval.specs.declared.frames.Stage.{Stage}
use Rattle.pv_eval.specs.declared.frames.Stage.TheVariants as stage
use Rattle.pv_eval.specs.declared.frames.Frame.{Frame}
use Rattle.pv_libc.specs.declared.values.Arg.{Arg}
use Rattle.pv_world.specs.Coming.{worth_of}

-- what a node does with the value of its second operand, beside that of the first
abbrev pub second_after : Setting → Calling → Ty → ℕ → Form → Worth → Open → Worth → State → Res Given
second_after b call t line (Subscript x y) v j w s = work b line (Moves false (is_pointer (type_of x)) (element_size b (if is_pointer (type_of x) then type_of x else type_of y)) v w) j s
second_after b call t line (Arithmetic o x y) v j w s = then_do (with_conversion b x v s) (λ v s. then_do (with_conversion b y w s) (λ w s. work b line (Calculates o (kind_of (type_of x)) v w) j s))
second_after b call t line (PointerSum sign x y) v j w s = work b line (Moves (is_minus sign) (is_pointer (type_of x)) (element_size b t) v w) j s
second_after b call t line (PointerDifference x y) v j w s = work b line (Subtracts (element_size b (type_of x)) v w) j s
second_after b call t line (PointerOrder o x y) v j w s = work b line (Orders o v w) j s
second_after b call t line (PointerEquality o x y) v j w s = then_do (with_conversion b x v s) (λ v s. then_do (with_conversion b y w s) (λ w s. work b line (Equals (is_unequal o) v w) j s))
second_after b call t line (Assign x y) p j v s = then_do (with_conversion b y v s) (λ v s. writing b (lvalue b (type_of x)) line p v (source_of y v) j s node_value)
second_after b call t line _ v j w s = node_value j w s

-- 6.5.16.2p3: the same, beside the place and the value that was read there
abbrev pub both_after : Setting → Calling → Ty → ℕ → Form → Worth → Worth → Open → Worth → State → Res Given
both_after b call t line (CompoundAssign o k x y) p v j w s =
    then_do (act b line (Converts (Rounds k) v) s) (λ v s. then_do (with_conversion b y w s) (λ w s.
    then_do (combining b line o k (kind_of t) v w s) (λ v s. writing b (lvalue b (type_of x)) line p v None j s node_value)))
both_after b call t line (PointerAssign sign x y) p v j w s =
    doing b line (Moves (is_minus sign) true (element_size b t) v w) s (λ v s. writing b (lvalue b (type_of x)) line p v None j s node_value)
both_after b call t line _ p v j w s = node_value j w s

-- 6.5.13p4, 6.5.14p4, 6.5.15p4, 6.5.17p2: with the value of the operand after a sequence point; of a conditional the second or the third
abbrev pub later_after : Setting → Calling → Ty → ℕ → Form → Bool → Open → Worth → State → Res Given
later_after b call t line (LogicalAnd x y) side j w s = work b line (Tests w) j s
later_after b call t line (LogicalOr x y) side j w s = work b line (Tests w) j s
later_after b call t line (Conditional x y z) true j w s = then_do (with_conversion b y w s) (node_value j)
later_after b call t line (Conditional x y z) false j w s = then_do (with_conversion b z w s) (node_value j)
later_after b call t line _ side j w s = node_value j w s

-- with the value of the first operand
abbrev pub first_after : Setting → Calling → Ty → ℕ → Form → Open → Worth → State → Res Given
first_after b call t line (Read x) j p s = reading b (lvalue b (type_of x)) line p j s node_value
first_after b call t line (Indirection x) j v s = work b line (Follows (is_void t) v) j s
first_after b call t line (Member x offset) j v s = work b line (Selects offset v) j s
first_after b call t line (Arrow x offset) j v s = work b line (Selects offset v) j s
first_after b call t line (MemberOfValue x offset) j v s = work b line (TakesPart offset (lvalue b t) v) j s
first_after b call t line (Unary o x) j v s = then_do (with_conversion b x v s) (λ v s. work b line (CalculatesOne o (kind_of t) v) j s)
first_after b call t line (Not x) j v s = work b line (Negates v) j s
first_after b call t line (Cast x) j v s = work b line (Converts (how_to b false (type_of x) t) v) j s
first_after b call t line (Subscript x y) j v s = operand (ev b call y) j s (second_after b call t line (Subscript x y) v)
first_after b call t line (Arithmetic o x y) j v s = operand (ev b call y) j s (second_after b call t line (Arithmetic o x y) v)
first_after b call t line (PointerSum sign x y) j v s = operand (ev b call y) j s (second_after b call t line (PointerSum sign x y) v)
first_after b call t line (PointerDifference x y) j v s = operand (ev b call y) j s (second_after b call t line (PointerDifference x y) v)
first_after b call t line (PointerOrder o x y) j v s = operand (ev b call y) j s (second_after b call t line (PointerOrder o x y) v)
first_after b call t line (PointerEquality o x y) j v s = operand (ev b call y) j s (second_after b call t line (PointerEquality o x y) v)
first_after b call t line (Assign x y) j v s = operand (ev b call y) j s (second_after b call t line (Assign x y) v)
first_after b call t line (CallPointer x xs) j v s = ev_through b call line (pointed_to (type_of x)) v [] xs j s
first_after b call t line (LogicalAnd x y) j v s =
    doing b line (Tests v) s (λ v s. if is_true v then later_operand (ev b call y) (sequence_point j) s (later_after b call t line (LogicalAnd x y) true) else node_value (sequence_point j) v s)
first_after b call t line (LogicalOr x y) j v s =
    doing b line (Tests v) s (λ v s. if is_true v then node_value (sequence_point j) v s else later_operand (ev b call y) (sequence_point j) s (later_after b call t line (LogicalOr x y) true))
first_after b call t line (Conditional x y z) j v s =
    doing b line (Tests v) s (λ v s. if is_true v
    then later_operand (ev b call y) (sequence_point j) s (later_after b call t line (Conditional x y z) true)
    else later_operand (ev b call z) (sequence_point j) s (later_after b call t line (Conditional x y z) false))
first_after b call t line (Comma x y) j v s = later_operand (ev b call y) (sequence_point j) s (later_after b call t line (Comma x y) true)
first_after b call t line (CompoundAssign o k x y) j p s = reading b (lvalue b (type_of x)) line p j s (λ j v s. operand (ev b call y) j s (both_after b call t line (CompoundAssign o k x y) p v))
first_after b call t line (PointerAssign sign x y) j p s = reading b (lvalue b (type_of x)) line p j s (λ j v s. operand (ev b call y) j s (both_after b call t line (PointerAssign sign x y) p v))
first_after b call t line (Increment o x) j p s =
    reading b (lvalue b (type_of x)) line p j s (λ j v s.
    then_do (stepping b line t o v s) (λ w s. writing b (lvalue b (type_of x)) line p w None j s (λ j w s. node_value j (if is_after o then v else w) s)))
first_after b call t line _ j v s = node_value j v s

-- 6.5.2.2: argument number i
abbrev pub argument_at : Arguments → ℕ → TypedTree
argument_at (MoreArguments x xs) zero = x
argument_at (MoreArguments x xs) (suc i) = argument_at xs i
argument_at NoArguments i = Node VoidTy 0 false (Constant (pos 0))

-- 6.5.2.2: the arguments from number i on
abbrev pub arguments_from : Arguments → ℕ → Arguments
arguments_from xs zero = xs
arguments_from (MoreArguments x xs) (suc i) = arguments_from xs i
arguments_from NoArguments (suc i) = NoArguments

-- 6.5.2.2: how many arguments a call has
abbrev pub count : Arguments → ℕ
count NoArguments = 0
count (MoreArguments x xs) = suc (count xs)

-- 6.5.2.2: how many arguments a node has, if it is a call
abbrev pub arguments_count : Form → ℕ
arguments_count (Call f xs) = count xs
-- beside the value by which the function is called, which comes first
arguments_count (CallPointer x xs) = suc (count xs)
arguments_count (LibraryCall f xs) = count xs
arguments_count _ = 0

-- 7.1.4: the arguments of a call of the library that have these values
abbrev pub asked_with : Arguments → List Worth → List Arg
asked_with NoArguments vs = []
asked_with (MoreArguments x xs) [] = []
asked_with (MoreArguments x xs) (v ∷ vs) = argument x v ∷ asked_with xs vs

-- 6.5.2.2p1: of what a call by a value has, the value comes first
abbrev pub callee_of : List Worth → Worth
callee_of [] = Nothing
callee_of (p ∷ got) = p

-- 6.5.2.2p10: and the arguments behind it
abbrev pub passed_of : List Worth → List Worth
passed_of [] = []
passed_of (p ∷ got) = got

-- 6.5.2.2p10: with the value of argument number i
abbrev pub argument_after : Setting → Calling → Ty → ℕ → Form → (i : ℕ) → List Worth → Open → Worth → State → Res Given
argument_after b call t line (Call f xs) i got j v s = then_do (accepted_value b (argument_at xs i) v s) (λ v s. ev_call b call line f (got ++ v ∷ []) (arguments_from xs (i + 1)) j s)
-- what is called stands in front of the arguments of a call by a value
argument_after b call t line (CallPointer x xs) zero got j v s = ev_through b call line (pointed_to (type_of x)) v [] xs j s
argument_after b call t line (CallPointer x xs) (suc i) got j v s =
    then_do (accepted_value b (argument_at xs i) v s) (λ v s. ev_through b call line (pointed_to (type_of x)) (callee_of got) (passed_of got ++ v ∷ []) (arguments_from xs (suc i)) j s)
argument_after b call t line (LibraryCall f xs) i got j v s =
    then_do (accepted_value b (argument_at xs i) v s) (λ v s. ev_ask b call line f (asked_with xs got ++ argument (argument_at xs i) v ∷ []) (arguments_from xs (i + 1)) j s)
argument_after b call t line _ i got j v s = node_value j v s

-- with the value of the operand for which it waits
abbrev pub stage_after : Setting → Calling → Ty → ℕ → Form → Stage → Open → Worth → State → Res Given
stage_after b call t line form stage.First j v s = first_after b call t line form j v s
stage_after b call t line form (stage.Second v) j w s = second_after b call t line form (worth_of v) j w s
stage_after b call t line form (stage.Both r) j w s = both_after b call t line form (worth_of r.place) (worth_of r.value) j w s
stage_after b call t line form (stage.Later side) j w s = later_after b call t line form side j w s
stage_after b call t line form (stage.Argument got) j v s = argument_after b call t line form (length got.items) (map worth_of got.items) j v s

-- the same of a frame, by the node whose number it has
unfoldable pub frame_after : Setting → Calling → Stored → Frame → Open → Worth → State → Res Given
frame_after b call u f j v s = let x = expression_at u f.node in stage_after b call (type_of x) (line_of x) (form_of x) f.stage j v s

-- 6.5p2: a node goes on with what its operand gave, whose accesses join its own; the joining is the same for each kind
abbrev pub after : Setting → Calling → Stored → Frame × Open → Given → State → Res Given
after b call u f g s = frame_after b call u f.0 (with_given f.1 g) g.value s
