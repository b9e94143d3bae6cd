-- What holds of pieces of two runs, and of the ways in which pieces are made, holds of every expression. One line for each
-- kind of node, and one lemma for each word of evaluation.
use Rattle.std.proofs.Common.{◌≡◌, ℕ, suc, List, [], ◌∷◌, ◌++◌, refl}
use Rattle.std.specs.Prelude.{Bool, true, false, if◌then◌else◌, pos, None}
use Rattle.std.specs.declared.option.Option.{Option}
use Rattle.pv_types.specs.Ty.{Ty}
use Rattle.pv_num.specs.declared.kinds.IntKind.{IntKind}
use Rattle.pv_num.specs.declared.operators.BinOp.{BinOp}
use Rattle.pv_num.specs.declared.operators.BinOp.TheVariants as op
use Rattle.pv_library.specs.declared.library.Library.{Library}
use Rattle.pv_libc.specs.declared.values.Arg.{Arg}
use Rattle.pv_typed.specs.declared.nodes.IncrementOperator.{IncrementOperator}
use Rattle.pv_typed.specs.TypedTree.{TypedTree, Node, Constant, Object, Function, String, Subscript, Call, CallPointer, LibraryCall, Member, MemberOfValue, Arrow, Increment, Address, Indirection, Unary, Not, Sizeof, Cast, Arithmetic, PointerSum, PointerDifference, PointerOrder, PointerEquality, LogicalAnd, LogicalOr, Conditional, Assign, CompoundAssign, PointerAssign, Comma, Read, ArrayPointer, Convert, Arguments, NoArguments, MoreArguments, type_of, line_of}
use Rattle.pv_seq.specs.Sequencing.{Access, Open, open_against, beside, with_access, sequence_point, rivals}
use Rattle.pv_world.specs.Worlds.{Worth}
use Rattle.pv_eval.specs.States.{Setting, State, Res, Gives, then_do, tick}
use Rattle.pv_world.specs.Worths.{int, is_true, pointer_of}
use Rattle.pv_world.specs.declared.got.How.TheVariants.{Rounds}
use Rattle.pv_eval.specs.TypeForms.{Lvalue, lvalue, kind_of, element_size, pointed_to}
use Rattle.pv_types.specs.Sorts.{is_void as is_none, is_pointer}
use Rattle.pv_num.specs.Kinds.{promotion_of}
use Rattle.pv_eval.specs.Conversions.{how_to}
use Rattle.pv_eval.specs.Accesses.{access_to}
use Rattle.pv_eval.specs.Operations.{Op, Converts, Calculates, CalculatesOne, Tests, Negates, Accepts, Moves, Subtracts, Orders, Equals, Follows, Selects, TakesPart, Reads, Writes, NamesObject, NamesLiteral, NamesFunction, Finds, Puts, Asks, act}
use Rattle.pv_eval.specs.Sequenced.{Given, with_given, node_value, operand, later_operand}
use Rattle.pv_eval.specs.OfRuns.{work, with_conversion, accepted_value, reading, writing, combining, stepping, ev_call, ev_through, ev_ask}
use Rattle.pv_eval.specs.Steps.{Calling, source_of, is_unequal, is_minus, is_down, is_after}
use Rattle.pv_eval.specs.Arguments.{argument}
use Rattle.pv_eval.specs.Evaluation.{ev_by, ev}
use Rattle.pv_eval.specs.CalleeParts.{function_in}

-- a relation on pieces of two runs, with the room before and after: more than the turns that may still be taken
abbrev pub Relation : Type 1
Relation = ℕ → ℕ → (A : Type 0) → (State → Res A) → (State → Res A) → Type 0

-- 6.3.2.1p1: an lvalue of a type
abbrev pub IsLvalue : Setting → Lvalue → Type 0
IsLvalue b l = (t : Ty) × (l ≡ lvalue b t)

-- what trees ask for: an operation on an lvalue is one on that of a type
abbrev pub IsAsked : Setting → Op → Type 0
IsAsked b (TakesPart offset l v) = IsLvalue b l
IsAsked b (Reads l place rivals) = IsLvalue b l
IsAsked b (Writes l place v from rivals) = IsLvalue b l
IsAsked b (Puts o offset l v) = IsLvalue b l
IsAsked b _ = Unit {0}

-- the ways in which pieces are made
pub record Ways (b b' : Setting) (R : Relation) : Type 1 where
  pub gives : {k : ℕ} {A : Type 0} (a : A) → R k k A (λ s. Gives a s) (λ s. Gives a s)
  pub acts : {k : ℕ} (line : ℕ) (o : Op) → IsAsked b o → R k k Worth (λ s. act b line o s) (λ s. act b' line o s)
  pub ticks : {k j : ℕ} {A : Type 0} {m m' : State → Res A} → R k j A m m' → R (suc k) j A (λ s. tick b s m) (λ s. tick b' s m')
  pub seq : {k j i : ℕ} {A B : Type 0} {m m' : State → Res A} {f f' : A → State → Res B} → R k j A m m' → ((a : A) → R j i B (f a) (f' a)) → R k i B (λ s. then_do (m s) f) (λ s. then_do (m' s) f')
  pub less : {k j : ℕ} {A : Type 0} {m m' : State → Res A} → R (suc k) j A m m' → R k j A m m'
  pub more : {k j : ℕ} {A : Type 0} {m m' : State → Res A} → R k j A m m' → R k (suc j) A m m'

-- two settings of one unit
abbrev pub beside_setting : Setting → ℕ → Option (List Bool) → Setting
beside_setting b n sides = record { unit = b.unit; types = b.types; bound = n; sides = sides; zap = b.zap }

module _ (b : Setting) (n : ℕ) (sides : Option (List Bool)) {R : Relation} (w : Ways b (beside_setting b n sides) R) where
  abbrev c : Setting
  c = beside_setting b n sides

  pub choice : {k j : ℕ} {A : Type 0} {m m' x x' : State → Res A} (t : Bool) → R k j A m m' → R k j A x x' → R k j A (λ s. if t then m s else x s) (λ s. if t then m' s else x' s)
  choice true h g = h
  choice false h g = g

  pub done-way : {k : ℕ} (j : Open) (v : Worth) → R k k Given (node_value j v) (node_value j v)
  done-way j v = w.gives (record { value = v; all = j.all; loose = j.loose })

  pub work-way : {k : ℕ} (line : ℕ) (o : Op) → IsAsked b o → (j : Open) → R k k Given (work b line o j) (work c line o j)
  work-way line o is j = w.seq (w.acts line o is) (λ v. done-way j v)

  pub operand-way : {k l i : ℕ} {e e' : List Access → State → Res Given} {m m' : Open → Worth → State → Res Given} (j : Open) → ((fs : List Access) → R k l Given (e fs) (e' fs)) → ((j : Open) (v : Worth) → R l i Given (m j v) (m' j v)) → R k i Given (λ s. operand e j s m) (λ s. operand e' j s m')
  operand-way j h g = w.seq (h (beside j)) (λ x. g (with_given j x) x.value)

  pub later-way : {k l i : ℕ} {e e' : List Access → State → Res Given} {m m' : Open → Worth → State → Res Given} (j : Open) → ((fs : List Access) → R k l Given (e fs) (e' fs)) → ((j : Open) (v : Worth) → R l i Given (m j v) (m' j v)) → R k i Given (λ s. later_operand e j s m) (λ s. later_operand e' j s m')
  later-way j h g = w.seq (h j.foes) (λ x. g (with_given j x) x.value)

  pub reading-way : {k i : ℕ} {m m' : Open → Worth → State → Res Given} (l : Lvalue) → IsLvalue b l → (line : ℕ) (p : Worth) (j : Open) → ((j : Open) (v : Worth) → R k i Given (m j v) (m' j v)) → R k i Given (λ s. reading b l line p j s m) (λ s. reading c l line p j s m')
  reading-way l is line p j g = w.seq (w.acts line (Reads l p (rivals j)) is) (λ v. g (with_access (access_to l (pointer_of p) false) j) v)

  pub writing-way : {k i : ℕ} {m m' : Open → Worth → State → Res Given} (l : Lvalue) → IsLvalue b l → (line : ℕ) (p v : Worth) (from : Option ℕ) (j : Open) → ((j : Open) (v : Worth) → R k i Given (m j v) (m' j v)) → R k i Given (λ s. writing b l line p v from j s m) (λ s. writing c l line p v from j s m')
  writing-way l is line p v from j g = w.seq (w.acts line (Writes l p v from (rivals j)) is) (λ v. g (with_access (access_to l (pointer_of p) true) j) v)

  pub converted-way : {k : ℕ} (x : TypedTree) (v : Worth) → R k k Worth (with_conversion b x v) (with_conversion c x v)
  converted-way (Node t line turn (Convert (Node u m k x))) v = w.acts line (Converts (how_to b true u t) v) tt
  converted-way (Node t line turn x) v = w.gives v

  pub handed-way : {k : ℕ} (x : TypedTree) (v : Worth) → R k k Worth (accepted_value b x v) (accepted_value c x v)
  handed-way x v = w.seq (converted-way x v) (λ v. w.acts (line_of x) (Accepts v) tt)

  pub combining-way : {k : ℕ} (line : ℕ) (o : BinOp) (kind back : IntKind) (v x : Worth) → R k k Worth (combining b line o kind back v x) (combining c line o kind back v x)
  combining-way line o kind back v x = w.seq (w.acts line (Calculates o kind v x) tt) (λ v. w.acts line (Converts (Rounds back) v) tt)

  pub stepping-way : {k : ℕ} (line : ℕ) (t : Ty) (o : IncrementOperator) (v : Worth) → R k k Worth (stepping b line t o v) (stepping c line t o v)
  stepping-way line t o v = choice (is_pointer t) (w.acts line (Moves (is_down o) true (element_size b t) v (int (pos 1))) tt) (combining-way line (if is_down o then op.Sub else op.Add) (promotion_of (kind_of t)) (kind_of t) v (int (pos 1)))

  module _ (k : ℕ) (call call' : Calling) (h : (f : ℕ) (vs : List Worth) (line : ℕ) → R k k Worth (call f vs line) (call' f vs line)) where
    mutual
      unfolding ev_by

      -- every expression takes a turn
      pub ev-closed : (x : TypedTree) (fs : List Access) → R (suc k) k Given (ev b call x fs) (ev c call' x fs)
      ev-closed (Node t line turn (Constant n)) fs = w.ticks (done-way (open_against fs) (int n))
      ev-closed (Node t line turn (Sizeof n)) fs = w.ticks (done-way (open_against fs) (int (pos n)))
      ev-closed (Node t line turn (Object o)) fs = w.ticks (work-way line (NamesObject o) tt (open_against fs))
      ev-closed (Node t line turn (Function f)) fs = w.ticks (work-way line (NamesFunction f) tt (open_against fs))
      ev-closed (Node t line turn (String l)) fs = w.ticks (work-way line (NamesLiteral l) tt (open_against fs))
      ev-closed (Node t line turn (Read x)) fs = operand-way (open_against fs) (ev-closed x) (λ j p. reading-way (lvalue b (type_of x)) (type_of x, refl) line p j done-way)
      ev-closed (Node t line turn (ArrayPointer x)) fs = operand-way (open_against fs) (ev-closed x) done-way
      ev-closed (Node t line turn (Convert x)) fs = operand-way (open_against fs) (ev-closed x) done-way
      ev-closed (Node t line turn (Address x)) fs = w.ticks (operand-way (open_against fs) (λ fs. w.less (ev-closed x fs)) done-way)
      ev-closed (Node t line true (Indirection x)) fs = w.ticks (operand-way (open_against fs) (λ fs. w.less (ev-closed x fs)) (λ j v. work-way line (Follows (is_none t) v) tt j))
      ev-closed (Node t line false (Indirection x)) fs = operand-way (open_against fs) (ev-closed x) (λ j v. work-way line (Follows (is_none t) v) tt j)
      ev-closed (Node t line true (Subscript x y)) fs = w.ticks (operand-way (open_against fs) (λ fs. w.less (ev-closed x fs)) (λ j v. operand-way j (λ fs. w.less (ev-closed y fs)) (λ j x'. work-way line (Moves false (is_pointer (type_of x)) (element_size b (if is_pointer (type_of x) then type_of x else type_of y)) v x') tt j)))
      ev-closed (Node t line false (Subscript x y)) fs = operand-way (open_against fs) (ev-closed x) (λ j v. operand-way j (λ fs. w.less (ev-closed y fs)) (λ j x'. work-way line (Moves false (is_pointer (type_of x)) (element_size b (if is_pointer (type_of x) then type_of x else type_of y)) v x') tt j))
      ev-closed (Node t line turn (Member x k)) fs = w.ticks (operand-way (open_against fs) (λ fs. w.less (ev-closed x fs)) (λ j v. work-way line (Selects k v) tt j))
      ev-closed (Node t line turn (Arrow x k)) fs = w.ticks (operand-way (open_against fs) (λ fs. w.less (ev-closed x fs)) (λ j v. work-way line (Selects k v) tt j))
      ev-closed (Node t line turn (MemberOfValue x k)) fs = w.ticks (operand-way (open_against fs) (λ fs. w.less (ev-closed x fs)) (λ j v. work-way line (TakesPart k (lvalue b t) v) (t, refl) j))
      ev-closed (Node t line turn (Unary o x)) fs = w.ticks (operand-way (open_against fs) (λ fs. w.less (ev-closed x fs)) (λ j v. w.seq (converted-way x v) (λ v. work-way line (CalculatesOne o (kind_of t) v) tt j)))
      ev-closed (Node t line turn (Not x)) fs = w.ticks (operand-way (open_against fs) (λ fs. w.less (ev-closed x fs)) (λ j v. work-way line (Negates v) tt j))
      ev-closed (Node t line turn (Cast x)) fs = w.ticks (operand-way (open_against fs) (λ fs. w.less (ev-closed x fs)) (λ j v. work-way line (Converts (how_to b false (type_of x) t) v) tt j))
      ev-closed (Node t line turn (Arithmetic o x y)) fs = w.ticks (operand-way (open_against fs) (λ fs. w.less (ev-closed x fs)) (λ j v. operand-way j (λ fs. w.less (ev-closed y fs)) (λ j z. w.seq (converted-way x v) (λ v. w.seq (converted-way y z) (λ z. work-way line (Calculates o (kind_of (type_of x)) v z) tt j)))))
      ev-closed (Node t line turn (PointerSum g x y)) fs = w.ticks (operand-way (open_against fs) (λ fs. w.less (ev-closed x fs)) (λ j v. operand-way j (λ fs. w.less (ev-closed y fs)) (λ j z. work-way line (Moves (is_minus g) (is_pointer (type_of x)) (element_size b t) v z) tt j)))
      ev-closed (Node t line turn (PointerDifference x y)) fs = w.ticks (operand-way (open_against fs) (λ fs. w.less (ev-closed x fs)) (λ j v. operand-way j (λ fs. w.less (ev-closed y fs)) (λ j z. work-way line (Subtracts (element_size b (type_of x)) v z) tt j)))
      ev-closed (Node t line turn (PointerOrder o x y)) fs = w.ticks (operand-way (open_against fs) (λ fs. w.less (ev-closed x fs)) (λ j v. operand-way j (λ fs. w.less (ev-closed y fs)) (λ j z. work-way line (Orders o v z) tt j)))
      ev-closed (Node t line turn (PointerEquality o x y)) fs = w.ticks (operand-way (open_against fs) (λ fs. w.less (ev-closed x fs)) (λ j v. operand-way j (λ fs. w.less (ev-closed y fs)) (λ j z. w.seq (converted-way x v) (λ v. w.seq (converted-way y z) (λ z. work-way line (Equals (is_unequal o) v z) tt j)))))
      ev-closed (Node t line turn (LogicalAnd x y)) fs = w.ticks (operand-way (open_against fs) (λ fs. w.less (ev-closed x fs)) (λ j v. w.seq (w.acts line (Tests v) tt) (λ v. choice (is_true v) (later-way (sequence_point j) (λ fs. w.less (ev-closed y fs)) (λ j z. work-way line (Tests z) tt j)) (done-way (sequence_point j) v))))
      ev-closed (Node t line turn (LogicalOr x y)) fs = w.ticks (operand-way (open_against fs) (λ fs. w.less (ev-closed x fs)) (λ j v. w.seq (w.acts line (Tests v) tt) (λ v. choice (is_true v) (done-way (sequence_point j) v) (later-way (sequence_point j) (λ fs. w.less (ev-closed y fs)) (λ j z. work-way line (Tests z) tt j)))))
      ev-closed (Node t line turn (Conditional x y z)) fs = w.ticks (operand-way (open_against fs) (λ fs. w.less (ev-closed x fs)) (λ j v. w.seq (w.acts line (Tests v) tt) (λ v. choice (is_true v) (later-way (sequence_point j) (λ fs. w.less (ev-closed y fs)) (λ j q. w.seq (converted-way y q) (done-way j))) (later-way (sequence_point j) (λ fs. w.less (ev-closed z fs)) (λ j q. w.seq (converted-way z q) (done-way j))))))
      ev-closed (Node t line turn (Comma x y)) fs = w.ticks (operand-way (open_against fs) (λ fs. w.less (ev-closed x fs)) (λ j v. later-way (sequence_point j) (λ fs. w.less (ev-closed y fs)) done-way))
      ev-closed (Node t line turn (Assign x y)) fs = w.ticks (operand-way (open_against fs) (λ fs. w.less (ev-closed x fs)) (λ j p. operand-way j (λ fs. w.less (ev-closed y fs)) (λ j v. w.seq (converted-way y v) (λ v. writing-way (lvalue b (type_of x)) (type_of x, refl) line p v (source_of y v) j done-way))))
      ev-closed (Node t line turn (CompoundAssign o q x y)) fs = w.ticks (operand-way (open_against fs) (λ fs. w.less (ev-closed x fs)) (λ j p. reading-way (lvalue b (type_of x)) (type_of x, refl) line p j (λ j v. operand-way j (λ fs. w.less (ev-closed y fs)) (λ j z. w.seq (w.acts line (Converts (Rounds q) v) tt) (λ v. w.seq (converted-way y z) (λ z. w.seq (combining-way line o q (kind_of t) v z) (λ v. writing-way (lvalue b (type_of x)) (type_of x, refl) line p v None j done-way)))))))
      ev-closed (Node t line turn (PointerAssign g x y)) fs = w.ticks (operand-way (open_against fs) (λ fs. w.less (ev-closed x fs)) (λ j p. reading-way (lvalue b (type_of x)) (type_of x, refl) line p j (λ j v. operand-way j (λ fs. w.less (ev-closed y fs)) (λ j z. w.seq (w.acts line (Moves (is_minus g) true (element_size b t) v z) tt) (λ v. writing-way (lvalue b (type_of x)) (type_of x, refl) line p v None j done-way)))))
      ev-closed (Node t line turn (Increment o x)) fs = w.ticks (operand-way (open_against fs) (λ fs. w.less (ev-closed x fs)) (λ j p. reading-way (lvalue b (type_of x)) (type_of x, refl) line p j (λ j v. w.seq (stepping-way line t o v) (λ z. writing-way (lvalue b (type_of x)) (type_of x, refl) line p z None j (λ j z. done-way j (if is_after o then v else z))))))
      ev-closed (Node t line turn (Call f xs)) fs = w.ticks (call-closed line f [] xs (open_against fs))
      ev-closed (Node t line turn (CallPointer x xs)) fs = w.ticks (operand-way (open_against fs) (λ fs. w.less (ev-closed x fs)) (λ j p. through-closed line (pointed_to (type_of x)) p [] xs j))
      ev-closed (Node t line turn (LibraryCall f xs)) fs = w.ticks (ask-closed line f [] xs (open_against fs))

      call-closed : (line f : ℕ) (got : List Worth) (xs : Arguments) (j : Open) → R k k Given (ev_call b call line f got xs j) (ev_call c call' line f got xs j)
      call-closed line f got NoArguments j = w.seq (h f got line) (done-way (sequence_point j))
      call-closed line f got (MoreArguments x xs) j = operand-way j (λ fs. w.less (ev-closed x fs)) (λ j v. w.seq (handed-way x v) (λ v. call-closed line f (got ++ v ∷ []) xs j))

      through-closed : (line : ℕ) (t : Ty) (p : Worth) (got : List Worth) (xs : Arguments) (j : Open) → R k k Given (ev_through b call line t p got xs j) (ev_through c call' line t p got xs j)
      through-closed line t p got NoArguments j = w.seq (w.acts line (Finds t p) tt) (λ f. w.seq (h (function_in f) got line) (done-way (sequence_point j)))
      through-closed line t p got (MoreArguments x xs) j = operand-way j (λ fs. w.less (ev-closed x fs)) (λ j v. w.seq (handed-way x v) (λ v. through-closed line t p (got ++ v ∷ []) xs j))

      ask-closed : (line : ℕ) (f : Library) (got : List Arg) (xs : Arguments) (j : Open) → R k k Given (ev_ask b call line f got xs j) (ev_ask c call' line f got xs j)
      ask-closed line f got NoArguments j = work-way line (Asks f got) tt (sequence_point j)
      ask-closed line f got (MoreArguments x xs) j = operand-way j (λ fs. w.less (ev-closed x fs)) (λ j v. w.seq (handed-way x v) (λ v. ask-closed line f (got ++ argument x v ∷ []) xs j))
