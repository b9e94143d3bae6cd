-- What holds of pieces of two runs, and of the ways in which pieces are made, holds of what is left of an expression in progress.
use Rattle.std.proofs.Common.{ℕ, zero, suc, ◌+◌, List, [], ◌∷◌, ◌++◌, refl}
use Rattle.std.specs.Prelude.{Bool, true, false, if◌then◌else◌, None, map, length}
use Rattle.std.specs.declared.option.Option.{Option}
use Rattle.pv_types.specs.Ty.{Ty}
use Rattle.pv_library.specs.declared.library.Library.{Library}
use Rattle.pv_libc.specs.declared.values.Arg.{Arg}
use Rattle.pv_typed.specs.TypedTree.{TypedTree, Form, Constant, Object, Function, String, Subscript, Call, CallPointer, LibraryCall, Member, MemberOfValue, Arrow, Increment, Address, Indirection, Unary, Not, Sizeof, Cast, Arithmetic, PointerSum, PointerDifference, PointerOrder, PointerEquality, LogicalAnd, LogicalOr, Conditional, Assign, CompoundAssign, PointerAssign, Comma, Read, ArrayPointer, Convert, Arguments, NoArguments, MoreArguments, type_of, line_of, form_of}
use Rattle.pv_typed.specs.Tables.{Stored}
use Rattle.pv_typed.specs.NodeTrees.{expression_at}
use Rattle.pv_seq.specs.Sequencing.{Access, Open, sequence_point}
use Rattle.pv_seq.specs.Rivals.{top, below}
use Rattle.pv_world.specs.Worlds.{Worth}
use Rattle.pv_world.specs.Worths.{is_true}
use Rattle.pv_world.specs.Coming.{worth_of}
use Rattle.pv_world.specs.declared.got.How.TheVariants.{Rounds}
use Rattle.pv_eval.specs.declared.frames.Frame.{Frame}
use Rattle.pv_eval.specs.declared.frames.Stage.{Stage}
use Rattle.pv_eval.specs.declared.frames.Stage.TheVariants as stage
use Rattle.pv_eval.specs.declared.frames.Now.{Now}
use Rattle.pv_eval.specs.declared.frames.Now.TheVariants as now
use Rattle.pv_eval.specs.States.{Setting, State, Res, Stops, Unreached}
use Rattle.pv_eval.specs.TypeForms.{lvalue, kind_of, element_size, pointed_to}
use Rattle.pv_types.specs.Sorts.{is_void as is_none, is_pointer}
use Rattle.pv_eval.specs.Conversions.{how_to}
use Rattle.pv_eval.specs.Operations.{Finds, Asks, Converts, Calculates, CalculatesOne, Tests, Negates, Moves, Subtracts, Orders, Equals, Follows, Selects, TakesPart}
use Rattle.pv_eval.specs.Sequenced.{Given, with_given}
use Rattle.pv_eval.specs.Steps.{Calling, source_of, is_unequal, is_minus, is_after}
use Rattle.pv_eval.specs.Arguments.{argument}
use Rattle.pv_eval.specs.Evaluation.{ev_by, ev}
use Rattle.pv_eval.specs.OfRuns.{ev_call, ev_through, ev_ask}
use Rattle.pv_eval.specs.CalleeParts.{function_in}
use Rattle.pv_eval.specs.Frames.{second_after, both_after, later_after, first_after, argument_at, arguments_from, asked_with, argument_after, stage_after, frame_after, after, callee_of, passed_of}
use Rattle.pv_eval.specs.Stack.{rest}
use Rattle.pv_eval.specs.Ahead.{stack, now_does}
use Rattle.pv_eval.specs.Machines.{Started, left_of, answered_of}
use Rattle.pv_eval.proofs.Closed.{Ways, Relation, beside_setting, choice, done-way, work-way, operand-way, later-way, reading-way, writing-way, converted-way, handed-way, combining-way, stepping-way, ev-closed}

-- a stack, whatever its frames are
pub rest-closed : {b b' : Setting} {R : Relation} (w : Ways b b' R) {F V : Type 0} {k : ℕ} (f f' : F → V → State → Res V) → ((x : F) (v : V) → R k k V (f x v) (f' x v)) → (xs : List F) (v : V) → R k k V (rest f xs v) (rest f' xs v)
rest-closed w f f' h [] v = w.gives v
rest-closed w f f' h (x ∷ xs) v = w.seq (h x v) (λ v. rest-closed w f f' h xs v)

module _ (b : Setting) (n : ℕ) (sides : Option (List Bool)) {R : Relation} (w : Ways b (beside_setting b n sides) R) (k : ℕ) (call call' : Calling) (h : (f : ℕ) (vs : List Worth) (line : ℕ) → R k k Worth (call f vs line) (call' f vs line)) where
  abbrev c : Setting
  c = beside_setting b n sides

  -- an operand
  within : (x : TypedTree) (fs : List Access) → R k k Given (ev b call x fs) (ev c call' x fs)
  within x fs = w.less (ev-closed b n sides w k call call' h x fs)

  -- the arguments that are left, and the call
  call-closed : (line f : ℕ) (got : List Worth) (xs : Arguments) (j : Open) → R k k Given (ev_call b call line f got xs j) (ev_call c call' line f got xs j)
  unfolding ev_by
  call-closed line f got NoArguments j = w.seq (h f got line) (done-way b n sides w (sequence_point j))
  call-closed line f got (MoreArguments x xs) j = operand-way b n sides w j (within x) (λ j v. w.seq (handed-way b n sides w x v) (λ v. call-closed line f (got ++ v ∷ []) xs j))

  through-closed : (line : ℕ) (t : Ty) (p : Worth) (got : List Worth) (xs : Arguments) (j : Open) → R k k Given (ev_through b call line t p got xs j) (ev_through c call' line t p got xs j)
  unfolding ev_by
  through-closed line t p got NoArguments j = w.seq (w.acts line (Finds t p) tt) (λ f. w.seq (h (function_in f) got line) (done-way b n sides w (sequence_point j)))
  through-closed line t p got (MoreArguments x xs) j = operand-way b n sides w j (within x) (λ j v. w.seq (handed-way b n sides w x v) (λ v. through-closed line t p (got ++ v ∷ []) xs j))

  ask-closed : (line : ℕ) (f : Library) (got : List Arg) (xs : Arguments) (j : Open) → R k k Given (ev_ask b call line f got xs j) (ev_ask c call' line f got xs j)
  unfolding ev_by
  ask-closed line f got NoArguments j = work-way b n sides w line (Asks f got) tt (sequence_point j)
  ask-closed line f got (MoreArguments x xs) j = operand-way b n sides w j (within x) (λ j v. w.seq (handed-way b n sides w x v) (λ v. ask-closed line f (got ++ argument x v ∷ []) xs j))

  second-closed : (t : Ty) (line : ℕ) (x : Form) (v : Worth) (j : Open) (e : Worth) → R k k Given (second_after b call t line x v j e) (second_after c call' t line x v j e)
  second-closed t line (Constant m) v j e = done-way b n sides w j e
  second-closed t line (Object o) v j e = done-way b n sides w j e
  second-closed t line (Function f) v j e = done-way b n sides w j e
  second-closed t line (String l) v j e = done-way b n sides w j e
  second-closed t line (Subscript x y) v j e = work-way b n sides w line (Moves false (is_pointer (type_of x)) (element_size b (if is_pointer (type_of x) then type_of x else type_of y)) v e) tt j
  second-closed t line (Call f xs) v j e = done-way b n sides w j e
  second-closed t line (CallPointer x xs) v j e = done-way b n sides w j e
  second-closed t line (LibraryCall f xs) v j e = done-way b n sides w j e
  second-closed t line (Member x i) v j e = done-way b n sides w j e
  second-closed t line (MemberOfValue x i) v j e = done-way b n sides w j e
  second-closed t line (Arrow x i) v j e = done-way b n sides w j e
  second-closed t line (Increment o x) v j e = done-way b n sides w j e
  second-closed t line (Address x) v j e = done-way b n sides w j e
  second-closed t line (Indirection x) v j e = done-way b n sides w j e
  second-closed t line (Unary o x) v j e = done-way b n sides w j e
  second-closed t line (Not x) v j e = done-way b n sides w j e
  second-closed t line (Sizeof m) v j e = done-way b n sides w j e
  second-closed t line (Cast x) v j e = done-way b n sides w j e
  second-closed t line (Arithmetic o x y) v j e = w.seq (converted-way b n sides w x v) (λ v. w.seq (converted-way b n sides w y e) (λ e. work-way b n sides w line (Calculates o (kind_of (type_of x)) v e) tt j))
  second-closed t line (PointerSum g x y) v j e = work-way b n sides w line (Moves (is_minus g) (is_pointer (type_of x)) (element_size b t) v e) tt j
  second-closed t line (PointerDifference x y) v j e = work-way b n sides w line (Subtracts (element_size b (type_of x)) v e) tt j
  second-closed t line (PointerOrder o x y) v j e = work-way b n sides w line (Orders o v e) tt j
  second-closed t line (PointerEquality o x y) v j e = w.seq (converted-way b n sides w x v) (λ v. w.seq (converted-way b n sides w y e) (λ e. work-way b n sides w line (Equals (is_unequal o) v e) tt j))
  second-closed t line (LogicalAnd x y) v j e = done-way b n sides w j e
  second-closed t line (LogicalOr x y) v j e = done-way b n sides w j e
  second-closed t line (Conditional x y z) v j e = done-way b n sides w j e
  second-closed t line (Assign x y) v j e = w.seq (converted-way b n sides w y e) (λ e. writing-way b n sides w (lvalue b (type_of x)) (type_of x, refl) line v e (source_of y e) j (done-way b n sides w))
  second-closed t line (CompoundAssign o q x y) v j e = done-way b n sides w j e
  second-closed t line (PointerAssign g x y) v j e = done-way b n sides w j e
  second-closed t line (Comma x y) v j e = done-way b n sides w j e
  second-closed t line (Read x) v j e = done-way b n sides w j e
  second-closed t line (ArrayPointer x) v j e = done-way b n sides w j e
  second-closed t line (Convert x) v j e = done-way b n sides w j e

  both-closed : (t : Ty) (line : ℕ) (x : Form) (p v : Worth) (j : Open) (e : Worth) → R k k Given (both_after b call t line x p v j e) (both_after c call' t line x p v j e)
  both-closed t line (Constant m) p v j e = done-way b n sides w j e
  both-closed t line (Object o) p v j e = done-way b n sides w j e
  both-closed t line (Function f) p v j e = done-way b n sides w j e
  both-closed t line (String l) p v j e = done-way b n sides w j e
  both-closed t line (Subscript x y) p v j e = done-way b n sides w j e
  both-closed t line (Call f xs) p v j e = done-way b n sides w j e
  both-closed t line (CallPointer x xs) p v j e = done-way b n sides w j e
  both-closed t line (LibraryCall f xs) p v j e = done-way b n sides w j e
  both-closed t line (Member x i) p v j e = done-way b n sides w j e
  both-closed t line (MemberOfValue x i) p v j e = done-way b n sides w j e
  both-closed t line (Arrow x i) p v j e = done-way b n sides w j e
  both-closed t line (Increment o x) p v j e = done-way b n sides w j e
  both-closed t line (Address x) p v j e = done-way b n sides w j e
  both-closed t line (Indirection x) p v j e = done-way b n sides w j e
  both-closed t line (Unary o x) p v j e = done-way b n sides w j e
  both-closed t line (Not x) p v j e = done-way b n sides w j e
  both-closed t line (Sizeof m) p v j e = done-way b n sides w j e
  both-closed t line (Cast x) p v j e = done-way b n sides w j e
  both-closed t line (Arithmetic o x y) p v j e = done-way b n sides w j e
  both-closed t line (PointerSum g x y) p v j e = done-way b n sides w j e
  both-closed t line (PointerDifference x y) p v j e = done-way b n sides w j e
  both-closed t line (PointerOrder o x y) p v j e = done-way b n sides w j e
  both-closed t line (PointerEquality o x y) p v j e = done-way b n sides w j e
  both-closed t line (LogicalAnd x y) p v j e = done-way b n sides w j e
  both-closed t line (LogicalOr x y) p v j e = done-way b n sides w j e
  both-closed t line (Conditional x y z) p v j e = done-way b n sides w j e
  both-closed t line (Assign x y) p v j e = done-way b n sides w j e
  both-closed t line (CompoundAssign o q x y) p v j e = w.seq (w.acts line (Converts (Rounds q) v) tt) (λ v. w.seq (converted-way b n sides w y e) (λ e. w.seq (combining-way b n sides w line o q (kind_of t) v e) (λ v. writing-way b n sides w (lvalue b (type_of x)) (type_of x, refl) line p v None j (done-way b n sides w))))
  both-closed t line (PointerAssign g x y) p v j e = w.seq (w.acts line (Moves (is_minus g) true (element_size b t) v e) tt) (λ v. writing-way b n sides w (lvalue b (type_of x)) (type_of x, refl) line p v None j (done-way b n sides w))
  both-closed t line (Comma x y) p v j e = done-way b n sides w j e
  both-closed t line (Read x) p v j e = done-way b n sides w j e
  both-closed t line (ArrayPointer x) p v j e = done-way b n sides w j e
  both-closed t line (Convert x) p v j e = done-way b n sides w j e

  later-closed : (t : Ty) (line : ℕ) (x : Form) (side : Bool) (j : Open) (e : Worth) → R k k Given (later_after b call t line x side j e) (later_after c call' t line x side j e)
  later-closed t line (Constant m) side j e = done-way b n sides w j e
  later-closed t line (Object o) side j e = done-way b n sides w j e
  later-closed t line (Function f) side j e = done-way b n sides w j e
  later-closed t line (String l) side j e = done-way b n sides w j e
  later-closed t line (Subscript x y) side j e = done-way b n sides w j e
  later-closed t line (Call f xs) side j e = done-way b n sides w j e
  later-closed t line (CallPointer x xs) side j e = done-way b n sides w j e
  later-closed t line (LibraryCall f xs) side j e = done-way b n sides w j e
  later-closed t line (Member x i) side j e = done-way b n sides w j e
  later-closed t line (MemberOfValue x i) side j e = done-way b n sides w j e
  later-closed t line (Arrow x i) side j e = done-way b n sides w j e
  later-closed t line (Increment o x) side j e = done-way b n sides w j e
  later-closed t line (Address x) side j e = done-way b n sides w j e
  later-closed t line (Indirection x) side j e = done-way b n sides w j e
  later-closed t line (Unary o x) side j e = done-way b n sides w j e
  later-closed t line (Not x) side j e = done-way b n sides w j e
  later-closed t line (Sizeof m) side j e = done-way b n sides w j e
  later-closed t line (Cast x) side j e = done-way b n sides w j e
  later-closed t line (Arithmetic o x y) side j e = done-way b n sides w j e
  later-closed t line (PointerSum g x y) side j e = done-way b n sides w j e
  later-closed t line (PointerDifference x y) side j e = done-way b n sides w j e
  later-closed t line (PointerOrder o x y) side j e = done-way b n sides w j e
  later-closed t line (PointerEquality o x y) side j e = done-way b n sides w j e
  later-closed t line (LogicalAnd x y) side j e = work-way b n sides w line (Tests e) tt j
  later-closed t line (LogicalOr x y) side j e = work-way b n sides w line (Tests e) tt j
  later-closed t line (Conditional x y z) true j e = w.seq (converted-way b n sides w y e) (done-way b n sides w j)
  later-closed t line (Conditional x y z) false j e = w.seq (converted-way b n sides w z e) (done-way b n sides w j)
  later-closed t line (Assign x y) side j e = done-way b n sides w j e
  later-closed t line (CompoundAssign o q x y) side j e = done-way b n sides w j e
  later-closed t line (PointerAssign g x y) side j e = done-way b n sides w j e
  later-closed t line (Comma x y) side j e = done-way b n sides w j e
  later-closed t line (Read x) side j e = done-way b n sides w j e
  later-closed t line (ArrayPointer x) side j e = done-way b n sides w j e
  later-closed t line (Convert x) side j e = done-way b n sides w j e

  first-closed : (t : Ty) (line : ℕ) (x : Form) (j : Open) (v : Worth) → R k k Given (first_after b call t line x j v) (first_after c call' t line x j v)
  first-closed t line (Constant m) j v = done-way b n sides w j v
  first-closed t line (Object o) j v = done-way b n sides w j v
  first-closed t line (Function f) j v = done-way b n sides w j v
  first-closed t line (String l) j v = done-way b n sides w j v
  first-closed t line (Subscript x y) j v = operand-way b n sides w j (within y) (λ j e. second-closed t line (Subscript x y) v j e)
  first-closed t line (Call f xs) j v = done-way b n sides w j v
  first-closed t line (CallPointer x xs) j v = through-closed line (pointed_to (type_of x)) v [] xs j
  first-closed t line (LibraryCall f xs) j v = done-way b n sides w j v
  first-closed t line (Member x i) j v = work-way b n sides w line (Selects i v) tt j
  first-closed t line (MemberOfValue x i) j v = work-way b n sides w line (TakesPart i (lvalue b t) v) (t, refl) j
  first-closed t line (Arrow x i) j v = work-way b n sides w line (Selects i v) tt j
  first-closed t line (Increment o x) j v = reading-way b n sides w (lvalue b (type_of x)) (type_of x, refl) line v j (λ j p. w.seq (stepping-way b n sides w line t o p) (λ e. writing-way b n sides w (lvalue b (type_of x)) (type_of x, refl) line v e None j (λ j e. done-way b n sides w j (if is_after o then p else e))))
  first-closed t line (Address x) j v = done-way b n sides w j v
  first-closed t line (Indirection x) j v = work-way b n sides w line (Follows (is_none t) v) tt j
  first-closed t line (Unary o x) j v = w.seq (converted-way b n sides w x v) (λ v. work-way b n sides w line (CalculatesOne o (kind_of t) v) tt j)
  first-closed t line (Not x) j v = work-way b n sides w line (Negates v) tt j
  first-closed t line (Sizeof m) j v = done-way b n sides w j v
  first-closed t line (Cast x) j v = work-way b n sides w line (Converts (how_to b false (type_of x) t) v) tt j
  first-closed t line (Arithmetic o x y) j v = operand-way b n sides w j (within y) (λ j e. second-closed t line (Arithmetic o x y) v j e)
  first-closed t line (PointerSum g x y) j v = operand-way b n sides w j (within y) (λ j e. second-closed t line (PointerSum g x y) v j e)
  first-closed t line (PointerDifference x y) j v = operand-way b n sides w j (within y) (λ j e. second-closed t line (PointerDifference x y) v j e)
  first-closed t line (PointerOrder o x y) j v = operand-way b n sides w j (within y) (λ j e. second-closed t line (PointerOrder o x y) v j e)
  first-closed t line (PointerEquality o x y) j v = operand-way b n sides w j (within y) (λ j e. second-closed t line (PointerEquality o x y) v j e)
  first-closed t line (LogicalAnd x y) j v = w.seq (w.acts line (Tests v) tt) (λ v. choice b n sides w (is_true v) (later-way b n sides w (sequence_point j) (within y) (λ j e. later-closed t line (LogicalAnd x y) true j e)) (done-way b n sides w (sequence_point j) v))
  first-closed t line (LogicalOr x y) j v = w.seq (w.acts line (Tests v) tt) (λ v. choice b n sides w (is_true v) (done-way b n sides w (sequence_point j) v) (later-way b n sides w (sequence_point j) (within y) (λ j e. later-closed t line (LogicalOr x y) true j e)))
  first-closed t line (Conditional x y z) j v = w.seq (w.acts line (Tests v) tt) (λ v. choice b n sides w (is_true v) (later-way b n sides w (sequence_point j) (within y) (λ j e. later-closed t line (Conditional x y z) true j e)) (later-way b n sides w (sequence_point j) (within z) (λ j e. later-closed t line (Conditional x y z) false j e)))
  first-closed t line (Assign x y) j v = operand-way b n sides w j (within y) (λ j e. second-closed t line (Assign x y) v j e)
  first-closed t line (CompoundAssign o q x y) j v = reading-way b n sides w (lvalue b (type_of x)) (type_of x, refl) line v j (λ j p. operand-way b n sides w j (within y) (λ j e. both-closed t line (CompoundAssign o q x y) v p j e))
  first-closed t line (PointerAssign g x y) j v = reading-way b n sides w (lvalue b (type_of x)) (type_of x, refl) line v j (λ j p. operand-way b n sides w j (within y) (λ j e. both-closed t line (PointerAssign g x y) v p j e))
  first-closed t line (Comma x y) j v = later-way b n sides w (sequence_point j) (within y) (λ j e. later-closed t line (Comma x y) true j e)
  first-closed t line (Read x) j v = reading-way b n sides w (lvalue b (type_of x)) (type_of x, refl) line v j (done-way b n sides w)
  first-closed t line (ArrayPointer x) j v = done-way b n sides w j v
  first-closed t line (Convert x) j v = done-way b n sides w j v

  argument-closed : (t : Ty) (line : ℕ) (x : Form) (i : ℕ) (got : List Worth) (j : Open) (v : Worth) → R k k Given (argument_after b call t line x i got j v) (argument_after c call' t line x i got j v)
  argument-closed t line (Constant m) i got j v = done-way b n sides w j v
  argument-closed t line (Object o) i got j v = done-way b n sides w j v
  argument-closed t line (Function f) i got j v = done-way b n sides w j v
  argument-closed t line (String l) i got j v = done-way b n sides w j v
  argument-closed t line (Subscript x y) i got j v = done-way b n sides w j v
  argument-closed t line (Call f xs) i got j v = w.seq (handed-way b n sides w (argument_at xs i) v) (λ v. call-closed line f (got ++ v ∷ []) (arguments_from xs (i + 1)) j)
  argument-closed t line (CallPointer x xs) zero got j v = through-closed line (pointed_to (type_of x)) v [] xs j
  argument-closed t line (CallPointer x xs) (suc i) got j v =
      w.seq (handed-way b n sides w (argument_at xs i) v) (λ v. through-closed line (pointed_to (type_of x)) (callee_of got) (passed_of got ++ v ∷ []) (arguments_from xs (suc i)) j)
  argument-closed t line (LibraryCall f xs) i got j v = w.seq (handed-way b n sides w (argument_at xs i) v) (λ v. ask-closed line f (asked_with xs got ++ argument (argument_at xs i) v ∷ []) (arguments_from xs (i + 1)) j)
  argument-closed t line (Member x m) i got j v = done-way b n sides w j v
  argument-closed t line (MemberOfValue x m) i got j v = done-way b n sides w j v
  argument-closed t line (Arrow x m) i got j v = done-way b n sides w j v
  argument-closed t line (Increment o x) i got j v = done-way b n sides w j v
  argument-closed t line (Address x) i got j v = done-way b n sides w j v
  argument-closed t line (Indirection x) i got j v = done-way b n sides w j v
  argument-closed t line (Unary o x) i got j v = done-way b n sides w j v
  argument-closed t line (Not x) i got j v = done-way b n sides w j v
  argument-closed t line (Sizeof m) i got j v = done-way b n sides w j v
  argument-closed t line (Cast x) i got j v = done-way b n sides w j v
  argument-closed t line (Arithmetic o x y) i got j v = done-way b n sides w j v
  argument-closed t line (PointerSum g x y) i got j v = done-way b n sides w j v
  argument-closed t line (PointerDifference x y) i got j v = done-way b n sides w j v
  argument-closed t line (PointerOrder o x y) i got j v = done-way b n sides w j v
  argument-closed t line (PointerEquality o x y) i got j v = done-way b n sides w j v
  argument-closed t line (LogicalAnd x y) i got j v = done-way b n sides w j v
  argument-closed t line (LogicalOr x y) i got j v = done-way b n sides w j v
  argument-closed t line (Conditional x y z) i got j v = done-way b n sides w j v
  argument-closed t line (Assign x y) i got j v = done-way b n sides w j v
  argument-closed t line (CompoundAssign o q x y) i got j v = done-way b n sides w j v
  argument-closed t line (PointerAssign g x y) i got j v = done-way b n sides w j v
  argument-closed t line (Comma x y) i got j v = done-way b n sides w j v
  argument-closed t line (Read x) i got j v = done-way b n sides w j v
  argument-closed t line (ArrayPointer x) i got j v = done-way b n sides w j v
  argument-closed t line (Convert x) i got j v = done-way b n sides w j v

  stage-closed : (t : Ty) (line : ℕ) (x : Form) (f : Stage) (j : Open) (v : Worth) → R k k Given (stage_after b call t line x f j v) (stage_after c call' t line x f j v)
  stage-closed t line x stage.First j v = first-closed t line x j v
  stage-closed t line x (stage.Second q) j v = second-closed t line x (worth_of q) j v
  stage-closed t line x (stage.Both r) j v = both-closed t line x (worth_of r.place) (worth_of r.value) j v
  stage-closed t line x (stage.Later side) j v = later-closed t line x side j v
  stage-closed t line x (stage.Argument got) j v = argument-closed t line x (length got.items) (map worth_of got.items) j v

  frame-closed : (u : Stored) (f : Frame) (j : Open) (v : Worth) → R k k Given (frame_after b call u f j v) (frame_after c call' u f j v)
  unfolding frame_after
  frame-closed u f j v = stage-closed (type_of (expression_at u f.node)) (line_of (expression_at u f.node)) (form_of (expression_at u f.node)) f.stage j v

  frames-closed : (u : Stored) (fs : List (Frame × Open)) (g : Given) → R k k Given (rest (after b call u) fs g) (rest (after c call' u) fs g)
  frames-closed u fs g = rest-closed w (after b call u) (after c call' u) (λ f g. frame-closed u f.0 (with_given f.1 g) g.value) fs g

  now-closed : (u : Stored) (p : Now) (j : Open) → R k k Given (now_does b call u p j) (now_does c call' u p j)
  now-closed u (now.Due x) j = within (expression_at u x) j.foes
  now-closed u (now.Value v) j = done-way b n sides w j (worth_of v)
  now-closed u (now.Asked f args line) j = w.seq (h f (map worth_of args.items) line) (done-way b n sides w (sequence_point j))

  pub left-closed : ((A : Type 0) → R k k A (λ s. Stops Unreached s) (λ s. Stops Unreached s)) → (u : Stored) (es : List Started) → R k k Given (left_of b call u es) (left_of c call' u es)
  left-closed stop u [] = stop Given
  left-closed stop u (e ∷ es) = w.seq (now-closed u e.place (top e.opens)) (λ g. frames-closed u (stack e.frames (below e.opens)) g)

  pub answered-closed : ((A : Type 0) → R k k A (λ s. Stops Unreached s) (λ s. Stops Unreached s)) → (u : Stored) (es : List Started) (v : Worth) → R k k Given (answered_of b call u es v) (answered_of c call' u es v)
  answered-closed stop u [] v = stop Given
  answered-closed stop u (e ∷ es) v = w.seq (done-way b n sides w (sequence_point (top e.opens)) v) (λ g. frames-closed u (stack e.frames (below e.opens)) g)
