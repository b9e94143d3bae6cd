-- Evaluation of expressions (6.5): what each node does against its foes, with its turn before its operands. Operands are
-- evaluated from left to right; an lvalue whose value is needed is read as the last step of that operand, and conversions are
-- made by the node above, once its operands are evaluated, the left one first.
use Rattle.std.specs.Prelude.{ℕ, pos, true, false, List, [], ◌∷◌, ◌++◌, None, if◌then◌else◌, unsigned_abs}
use Rattle.pv_library.specs.declared.library.Library.{Library}
use Rattle.pv_libc.specs.declared.values.Arg.{Arg}
use Rattle.pv_types.specs.Ty.{Ty}
use Rattle.pv_typed.specs.TypedTree.{TypedTree, Node, Form, Constant, Object, Function, String, Subscript, Call, CallPointer, LibraryCall, Member, MemberOfValue, Arrow, Increment, Address, Indirection, Unary, Not, Sizeof, Cast, Arithmetic, PointerSum, PointerDifference, PointerOrder, PointerEquality, LogicalAnd, LogicalOr, Conditional, Assign, CompoundAssign, PointerAssign, Comma, Read, ArrayPointer, Convert, Arguments, NoArguments, MoreArguments, type_of}
use Rattle.pv_seq.specs.Sequencing.{Access, Open, open_against, sequence_point}
use Rattle.pv_world.specs.Worlds.{Worth}
use Rattle.pv_eval.specs.States.{Setting, State, Res, then_do}
use Rattle.pv_world.specs.Worths.{int, is_true, int_of}
use Rattle.pv_eval.specs.TypeForms.{lvalue, kind_of, element_size, pointed_to}
use Rattle.pv_types.specs.Sorts.{is_void, is_pointer}
use Rattle.pv_eval.specs.Conversions.{how_to}
use Rattle.pv_world.specs.declared.got.How.TheVariants.{Rounds}
use Rattle.pv_eval.specs.Operations.{Converts, Calculates, CalculatesOne, Tests, Negates, Moves, Subtracts, Orders, Equals, Follows, Selects, TakesPart, NamesObject, NamesLiteral, NamesFunction, Finds, Asks, act}
use Rattle.pv_eval.specs.Sequenced.{Given, Acts, node_value, doing_by, work_by, operand, later_operand}
use Rattle.pv_eval.specs.Steps.{Calling, takes, tick_if, with_conversion_by, accepted_value_by, reading_by, writing_by, source_of, is_unequal, is_minus, is_after, combining_by, stepping_by}
use Rattle.pv_eval.specs.Arguments.{argument}

-- 6.5p1, p2: what a node gives: its turn first, then by its kind; then the arguments of a call of the program, and of the library
unfoldable mutual
  pub ev_by : Acts → Setting → Calling → TypedTree → List Access → State → Res Given
  ev_by A b call (Node t line turn x) fs s = tick_if (takes turn x) b s (λ s. ev_form_by A b call t line x fs s)

  pub ev_form_by : Acts → Setting → Calling → Ty → ℕ → Form → List Access → State → Res Given
  -- 6.4.4, 6.5.3.4
  ev_form_by A b call t line (Constant n) fs s = node_value (open_against fs) (int n) s
  ev_form_by A b call t line (Sizeof n) fs s = node_value (open_against fs) (int (pos n)) s
  -- 6.5.1p2, p4
  ev_form_by A b call t line (Object o) fs s = work_by A b line (NamesObject o) (open_against fs) s
  ev_form_by A b call t line (String l) fs s = work_by A b line (NamesLiteral l) (open_against fs) s
  ev_form_by A b call t line (Function f) fs s = work_by A b line (NamesFunction f) (open_against fs) s
  -- 6.3.2.1p2
  ev_form_by A b call t line (Read x) fs s = operand (ev_by A b call x) (open_against fs) s (λ j p s. reading_by A b (lvalue b (type_of x)) line p j s node_value)
  -- 6.3.2.1p3, p4, 6.3, 6.5.3.2p3: the operand is all there is to do
  ev_form_by A b call t line (ArrayPointer x) fs s = operand (ev_by A b call x) (open_against fs) s node_value
  ev_form_by A b call t line (Convert x) fs s = operand (ev_by A b call x) (open_against fs) s node_value
  ev_form_by A b call t line (Address x) fs s = operand (ev_by A b call x) (open_against fs) s node_value
  -- 6.5.3.2p4, 6.5.2.1p2
  ev_form_by A b call t line (Indirection x) fs s = operand (ev_by A b call x) (open_against fs) s (λ j v s. work_by A b line (Follows (is_void t) v) j s)
  ev_form_by A b call t line (Subscript x y) fs s =
      operand (ev_by A b call x) (open_against fs) s (λ j v s. operand (ev_by A b call y) j s (λ j w s.
      work_by A b line (Moves false (is_pointer (type_of x)) (element_size b (if is_pointer (type_of x) then type_of x else type_of y)) v w) j s))
  -- 6.5.2.3p3, p4
  ev_form_by A b call t line (Member x offset) fs s = operand (ev_by A b call x) (open_against fs) s (λ j v s. work_by A b line (Selects offset v) j s)
  ev_form_by A b call t line (Arrow x offset) fs s = operand (ev_by A b call x) (open_against fs) s (λ j v s. work_by A b line (Selects offset v) j s)
  ev_form_by A b call t line (MemberOfValue x offset) fs s = operand (ev_by A b call x) (open_against fs) s (λ j v s. work_by A b line (TakesPart offset (lvalue b t) v) j s)
  -- 6.5.3.3, 6.5.4
  ev_form_by A b call t line (Unary o x) fs s =
      operand (ev_by A b call x) (open_against fs) s (λ j v s. then_do (with_conversion_by A b x v s) (λ v s. work_by A b line (CalculatesOne o (kind_of t) v) j s))
  ev_form_by A b call t line (Not x) fs s = operand (ev_by A b call x) (open_against fs) s (λ j v s. work_by A b line (Negates v) j s)
  ev_form_by A b call t line (Cast x) fs s = operand (ev_by A b call x) (open_against fs) s (λ j v s. work_by A b line (Converts (how_to b false (type_of x) t) v) j s)
  -- 6.5.5 to 6.5.12
  ev_form_by A b call t line (Arithmetic o x y) fs s =
      operand (ev_by A b call x) (open_against fs) s (λ j v s. operand (ev_by A b call y) j s (λ j w s.
      then_do (with_conversion_by A b x v s) (λ v s. then_do (with_conversion_by A b y w s) (λ w s. work_by A b line (Calculates o (kind_of (type_of x)) v w) j s))))
  -- 6.5.6p8, p9, 6.5.8p5, 6.5.9p6
  ev_form_by A b call t line (PointerSum sign x y) fs s =
      operand (ev_by A b call x) (open_against fs) s (λ j v s. operand (ev_by A b call y) j s (λ j w s.
      work_by A b line (Moves (is_minus sign) (is_pointer (type_of x)) (element_size b t) v w) j s))
  ev_form_by A b call t line (PointerDifference x y) fs s =
      operand (ev_by A b call x) (open_against fs) s (λ j v s. operand (ev_by A b call y) j s (λ j w s. work_by A b line (Subtracts (element_size b (type_of x)) v w) j s))
  ev_form_by A b call t line (PointerOrder o x y) fs s =
      operand (ev_by A b call x) (open_against fs) s (λ j v s. operand (ev_by A b call y) j s (λ j w s. work_by A b line (Orders o v w) j s))
  ev_form_by A b call t line (PointerEquality o x y) fs s =
      operand (ev_by A b call x) (open_against fs) s (λ j v s. operand (ev_by A b call y) j s (λ j w s.
      then_do (with_conversion_by A b x v s) (λ v s. then_do (with_conversion_by A b y w s) (λ w s. work_by A b line (Equals (is_unequal o) v w) j s))))
  -- 6.5.13p4, 6.5.14p4, 6.5.15p4, 6.5.17p2: a sequence point after the first operand
  ev_form_by A b call t line (LogicalAnd x y) fs s =
      operand (ev_by A b call x) (open_against fs) s (λ j v s. doing_by A b line (Tests v) s (λ v s.
      if is_true v then later_operand (ev_by A b call y) (sequence_point j) s (λ j w s. work_by A b line (Tests w) j s) else node_value (sequence_point j) v s))
  ev_form_by A b call t line (LogicalOr x y) fs s =
      operand (ev_by A b call x) (open_against fs) s (λ j v s. doing_by A b line (Tests v) s (λ v s.
      if is_true v then node_value (sequence_point j) v s else later_operand (ev_by A b call y) (sequence_point j) s (λ j w s. work_by A b line (Tests w) j s)))
  ev_form_by A b call t line (Conditional x y z) fs s =
      operand (ev_by A b call x) (open_against fs) s (λ j v s. doing_by A b line (Tests v) s (λ v s.
      if is_true v
      then later_operand (ev_by A b call y) (sequence_point j) s (λ j w s. then_do (with_conversion_by A b y w s) (node_value j))
      else later_operand (ev_by A b call z) (sequence_point j) s (λ j w s. then_do (with_conversion_by A b z w s) (node_value j))))
  ev_form_by A b call t line (Comma x y) fs s =
      operand (ev_by A b call x) (open_against fs) s (λ j v s. later_operand (ev_by A b call y) (sequence_point j) s node_value)
  -- 6.5.16p3, 6.5.16.1, 6.5.16.2p3
  ev_form_by A b call t line (Assign x y) fs s =
      operand (ev_by A b call x) (open_against fs) s (λ j p s. operand (ev_by A b call y) j s (λ j v s.
      then_do (with_conversion_by A b y v s) (λ v s. writing_by A b (lvalue b (type_of x)) line p v (source_of y v) j s node_value)))
  ev_form_by A b call t line (CompoundAssign o k x y) fs s =
      operand (ev_by A b call x) (open_against fs) s (λ j p s. reading_by A b (lvalue b (type_of x)) line p j s (λ j v s.
      operand (ev_by A b call y) j s (λ j w s. then_do (A b line (Converts (Rounds k) v) s) (λ v s. then_do (with_conversion_by A b y w s) (λ w s.
      then_do (combining_by A b line o k (kind_of t) v w s) (λ v s. writing_by A b (lvalue b (type_of x)) line p v None j s node_value))))))
  ev_form_by A b call t line (PointerAssign sign x y) fs s =
      operand (ev_by A b call x) (open_against fs) s (λ j p s. reading_by A b (lvalue b (type_of x)) line p j s (λ j v s.
      operand (ev_by A b call y) j s (λ j w s. doing_by A b line (Moves (is_minus sign) true (element_size b t) v w) s (λ v s.
      writing_by A b (lvalue b (type_of x)) line p v None j s node_value))))
  -- 6.5.2.4, 6.5.3.1
  ev_form_by A b call t line (Increment o x) fs s =
      operand (ev_by A b call x) (open_against fs) s (λ j p s. reading_by A b (lvalue b (type_of x)) line p j s (λ j v s.
      then_do (stepping_by A b line t o v s) (λ w s. writing_by A b (lvalue b (type_of x)) line p w None j s (λ j w s.
      node_value j (if is_after o then v else w) s))))
  -- 6.5.2.2
  ev_form_by A b call t line (Call f xs) fs s = ev_call_by A b call line f [] xs (open_against fs) s
  ev_form_by A b call t line (CallPointer x xs) fs s = operand (ev_by A b call x) (open_against fs) s (λ j p s. ev_through_by A b call line (pointed_to (type_of x)) p [] xs j s)
  ev_form_by A b call t line (LibraryCall f xs) fs s = ev_ask_by A b call line f [] xs (open_against fs) s

  -- 6.5.2.2p10: the arguments that are left, each converted once it is evaluated, and after a sequence point the call
  pub ev_call_by : Acts → Setting → Calling → ℕ → ℕ → List Worth → Arguments → Open → State → Res Given
  ev_call_by A b call line f got NoArguments j s = then_do (call f got line s) (node_value (sequence_point j))
  ev_call_by A b call line f got (MoreArguments x xs) j s =
      operand (ev_by A b call x) j s (λ j v s. then_do (accepted_value_by A b x v s) (λ v s. ev_call_by A b call line f (got ++ v ∷ []) xs j s))

  -- 6.5.2.2p1, p10: the arguments that are left of a call by a value; behind them it is asked which function the value points to
  pub ev_through_by : Acts → Setting → Calling → ℕ → Ty → Worth → List Worth → Arguments → Open → State → Res Given
  ev_through_by A b call line t p got NoArguments j s =
      then_do (A b line (Finds t p) s) (λ f s. then_do (call (unsigned_abs (int_of f)) got line s) (node_value (sequence_point j)))
  ev_through_by A b call line t p got (MoreArguments x xs) j s =
      operand (ev_by A b call x) j s (λ j v s. then_do (accepted_value_by A b x v s) (λ v s. ev_through_by A b call line t p (got ++ v ∷ []) xs j s))

  -- 6.5.2.2p10, 7.1.4p1: the arguments that are left of a call of a library function, and after a sequence point the call
  pub ev_ask_by : Acts → Setting → Calling → ℕ → Library → List Arg → Arguments → Open → State → Res Given
  ev_ask_by A b call line f got NoArguments j s = work_by A b line (Asks f got) (sequence_point j) s
  ev_ask_by A b call line f got (MoreArguments x xs) j s =
      operand (ev_by A b call x) j s (λ j v s. then_do (accepted_value_by A b x v s) (λ v s. ev_ask_by A b call line f (got ++ argument x v ∷ []) xs j s))

-- 6.5p1: as runs have it
abbrev pub ev : Setting → Calling → TypedTree → List Access → State → Res Given
ev = ev_by act
