-- Every expression keeps moments alike: one line for each kind of node, and one lemma for each word of evaluation.
use Rattle.std.proofs.Common.{◌≡◌, ℕ, List, [], ◌∷◌, ◌++◌, refl, sym, ap, ◌∙◌, subst}
use Rattle.std.specs.Prelude.{Bool, true, false, if◌then◌else◌, pos, None, unsigned_abs}
use Rattle.std.specs.declared.option.Option.{Option}
use Rattle.pv_num.specs.declared.kinds.IntKind.{IntKind}
use Rattle.pv_num.specs.declared.operators.BinOp.{BinOp}
use Rattle.pv_num.specs.declared.operators.BinOp.TheVariants as op
use Rattle.pv_types.specs.Ty.{Ty}
use Rattle.pv_types.specs.Known.{Known}
use Rattle.pv_library.specs.declared.library.Library.{Library}
use Rattle.pv_libc.specs.declared.values.Arg.{Arg}
use Rattle.pv_typed.specs.declared.nodes.IncrementOperator.{IncrementOperator}
use Rattle.pv_typed.specs.TypedTree.{TypedTree, Node, Constant, Object, Function, String, Subscript, Call, CallPointer, LibraryCall, Member, MemberOfValue, Arrow, Increment, Address, Indirection, Unary, Not, Sizeof, Cast, Arithmetic, PointerSum, PointerDifference, PointerOrder, PointerEquality, LogicalAnd, LogicalOr, Conditional, Assign, CompoundAssign, PointerAssign, Comma, Read, ArrayPointer, Convert, Arguments, NoArguments, MoreArguments, type_of, line_of}
use Rattle.pv_seq.specs.Sequencing.{Access, Open, open_against, beside, with_access, sequence_point, rivals}
use Rattle.pv_object.specs.declared.values.Pointer.{Pointer}
use Rattle.pv_world.specs.Worlds.{Worth}
use Rattle.pv_world.specs.Worths.{int, is_true, pointer_of}
use Rattle.pv_world.specs.declared.got.How.TheVariants.{Rounds}
use Rattle.pv_eval.specs.States.{Setting, State, Res}
use Rattle.pv_eval.specs.TypeForms.{lvalue, kind_of, element_size, pointed_to}
use Rattle.pv_types.specs.Sorts.{is_void as is_none, is_pointer}
use Rattle.pv_num.specs.Kinds.{promotion_of}
use Rattle.pv_eval.specs.Conversions.{how_to}
use Rattle.pv_eval.specs.Accesses.{access_to}
use Rattle.pv_eval.specs.Operations.{Op, Converts, Calculates, CalculatesOne, Tests, Negates, Accepts, Moves, Subtracts, Orders, Equals, Follows, Selects, Finds, TakesPart, Reads, Writes, NamesObject, NamesLiteral, NamesFunction, Asks}
use Rattle.pv_eval.specs.Sequenced.{Given, with_given, node_value, operand, later_operand}
use Rattle.pv_eval.specs.OfRuns.{work, with_conversion, accepted_value, reading, writing, combining, stepping, ev_call, ev_through, ev_ask}
use Rattle.pv_eval.specs.Steps.{Calling, source_of, is_unequal, is_minus, is_down, is_after}
use Rattle.pv_eval.specs.Arguments.{argument}
use Rattle.pv_eval.specs.Evaluation.{ev_by, ev}
use Rattle.pv_eval.specs.CalleeParts.{function_in}
use Rattle.pv_numbering.proofs.Alike.{with_types, AlikeWorth, AlikeWorths, AlikeLvalue, AlikeGiven}
use Rattle.pv_numbering.proofs.Acts.{ActAlike, ActsAlike}
use Rattle.pv_numbering.proofs.Worths.{int-same}
use Rattle.pv_numbering.proofs.Types.{AllTypes, AllArguments}
use Rattle.pv_numbering.proofs.Pieces.{Pieces, gives, did, seq, ticks, choice, true-same, pointer-same, argument-same, source-same, either-alike, more-worths}

-- the lvalues of a type are alike in both runs
abbrev pub AlikeType : Setting → Known → Ty → Type 0
AlikeType b m' t = AlikeLvalue b.types m' (lvalue b t) (lvalue (with_types b m') t)

pub own : (P : Ty → Type 0) (x : TypedTree) → AllTypes P x → P (type_of x)
own P (Node t line turn x) h = h.0

-- a node's accesses with those of an operand
abbrev accessed : Open → (all loose : List Access) → Open
accessed j all loose = record { foes = j.foes; all = j.all ++ all; loose = j.loose ++ loose }

module _ {b : Setting} {m' : Known} (acts : ActsAlike b m') where
  abbrev c : Setting
  c = with_types b m'

  abbrev Same : Worth → Worth → Type 0
  Same = AlikeWorth b.types m'

  abbrev GivenAlike : Given → Given → Type 0
  GivenAlike = AlikeGiven b.types m'

  given-same : (j : Open) (g g' : Given) → GivenAlike g g' → with_given j g ≡ with_given j g'
  given-same j g g' e = sym (ap (λ (z : List Access). accessed j z g'.loose) e.all ∙ ap (λ (z : List Access). accessed j g.all z) e.loose)

  pub done-alike : (j : Open) (v v' : Worth) → Same v v' → Pieces b m' GivenAlike (node_value j v) (node_value j v')
  done-alike j v v' h = gives (record { value = v; all = j.all; loose = j.loose }) (record { value = v'; all = j.all; loose = j.loose }) (record { value = h; all = refl; loose = refl })

  pub work-alike : (line : ℕ) (o o' : Op) → ActAlike b m' o o' → (j : Open) → Pieces b m' GivenAlike (work b line o j) (work c line o' j)
  work-alike line o o' h j = seq (did o o' line h) (done-alike j)

  pub operand-alike : {e e' : List Access → State → Res Given} {m n : Open → Worth → State → Res Given} (j : Open) → ((fs : List Access) → Pieces b m' GivenAlike (e fs) (e' fs)) → ((j : Open) (v v' : Worth) → Same v v' → Pieces b m' GivenAlike (m j v) (n j v')) → Pieces b m' GivenAlike (λ s. operand e j s m) (λ s. operand e' j s n)
  operand-alike {m = m} {n = n} j h g = seq (h (beside j)) (λ x x' i. subst (λ (z : Open). Pieces b m' GivenAlike (m (with_given j x) x.value) (n z x'.value)) (given-same j x x' i) (g (with_given j x) x.value x'.value i.value))

  pub later-alike : {e e' : List Access → State → Res Given} {m n : Open → Worth → State → Res Given} (j : Open) → ((fs : List Access) → Pieces b m' GivenAlike (e fs) (e' fs)) → ((j : Open) (v v' : Worth) → Same v v' → Pieces b m' GivenAlike (m j v) (n j v')) → Pieces b m' GivenAlike (λ s. later_operand e j s m) (λ s. later_operand e' j s n)
  later-alike {m = m} {n = n} j h g = seq (h j.foes) (λ x x' i. subst (λ (z : Open). Pieces b m' GivenAlike (m (with_given j x) x.value) (n z x'.value)) (given-same j x x' i) (g (with_given j x) x.value x'.value i.value))

  -- behind an access to this place
  accessing : {m n : Open → Worth → State → Res Given} (t : Ty) (writes : Bool) (p p' : Worth) (j : Open) → Same p p' → ((j : Open) (v v' : Worth) → Same v v' → Pieces b m' GivenAlike (m j v) (n j v'))
      → (v v' : Worth) → Same v v' → Pieces b m' GivenAlike (m (with_access (access_to (lvalue b t) (pointer_of p) writes) j) v) (n (with_access (access_to (lvalue c t) (pointer_of p') writes) j) v')
  accessing {m = m} {n = n} t writes p p' j e g v v' h = subst (λ (z : Pointer). Pieces b m' GivenAlike (m (with_access (access_to (lvalue b t) (pointer_of p) writes) j) v) (n (with_access (access_to (lvalue c t) z writes) j) v')) (sym (pointer-same b.types m' p p' e)) (g (with_access (access_to (lvalue b t) (pointer_of p) writes) j) v v' h)

  pub reading-alike : {m n : Open → Worth → State → Res Given} (t : Ty) → AlikeType b m' t → (line : ℕ) (p p' : Worth) → Same p p' → (j : Open) → ((j : Open) (v v' : Worth) → Same v v' → Pieces b m' GivenAlike (m j v) (n j v')) → Pieces b m' GivenAlike (λ s. reading b (lvalue b t) line p j s m) (λ s. reading c (lvalue c t) line p' j s n)
  reading-alike t k line p p' e j g = seq (did (Reads (lvalue b t) p (rivals j)) (Reads (lvalue c t) p' (rivals j)) line (acts.reads (lvalue b t) (lvalue c t) p p' (rivals j) k e)) (accessing t false p p' j e g)

  pub writing-alike : {m n : Open → Worth → State → Res Given} (t : Ty) → AlikeType b m' t → (line : ℕ) (p p' v v' : Worth) (from : Option ℕ) → Same p p' → Same v v' → (j : Open) → ((j : Open) (v v' : Worth) → Same v v' → Pieces b m' GivenAlike (m j v) (n j v')) → Pieces b m' GivenAlike (λ s. writing b (lvalue b t) line p v from j s m) (λ s. writing c (lvalue c t) line p' v' from j s n)
  writing-alike t k line p p' v v' from e i j g = seq (did (Writes (lvalue b t) p v from (rivals j)) (Writes (lvalue c t) p' v' from (rivals j)) line (acts.writes (lvalue b t) (lvalue c t) p p' v v' from (rivals j) k e i)) (accessing t true p p' j e g)

  pub assigning-alike : (t : Ty) → AlikeType b m' t → (line : ℕ) (y : TypedTree) (p p' v v' : Worth) → Same p p' → Same v v' → (j : Open) → Pieces b m' GivenAlike (λ s. writing b (lvalue b t) line p v (source_of y v) j s node_value) (λ s. writing c (lvalue c t) line p' v' (source_of y v') j s node_value)
  assigning-alike t k line y p p' v v' e i j = subst (λ (z : Option ℕ). Pieces b m' GivenAlike (λ s. writing b (lvalue b t) line p v (source_of y v) j s node_value) (λ s. writing c (lvalue c t) line p' v' z j s node_value)) (sym (source-same b.types m' y v v' i)) (writing-alike t k line p p' v v' (source_of y v) e i j done-alike)

  pub converted-alike : (x : TypedTree) (v v' : Worth) → Same v v' → Pieces b m' Same (with_conversion b x v) (with_conversion c x v')
  converted-alike (Node t line turn (Convert (Node u m k x))) v v' h = did (Converts (how_to b true u t) v) (Converts (how_to b true u t) v') line (acts.converts (how_to b true u t) v v' h)
  converted-alike (Node t line turn x) v v' h = gives v v' h

  pub handed-alike : (x : TypedTree) (v v' : Worth) → Same v v' → Pieces b m' Same (accepted_value b x v) (accepted_value c x v')
  handed-alike x v v' h = seq (converted-alike x v v' h) (λ v v' h. did (Accepts v) (Accepts v') (line_of x) (acts.accepts v v' h))

  combining-alike : (line : ℕ) (o : BinOp) (kind back : IntKind) (v v' x x' : Worth) → Same v v' → Same x x' → Pieces b m' Same (combining b line o kind back v x) (combining c line o kind back v' x')
  combining-alike line o kind back v v' x x' h i = seq (did (Calculates o kind v x) (Calculates o kind v' x') line (acts.calculates o kind v v' x x' h i)) (λ v v' h. did (Converts (Rounds back) v) (Converts (Rounds back) v') line (acts.converts (Rounds back) v v' h))

  stepping-alike : (line : ℕ) (t : Ty) (o : IncrementOperator) (v v' : Worth) → Same v v' → Pieces b m' Same (stepping b line t o v) (stepping c line t o v')
  stepping-alike line t o v v' h =
      choice (is_pointer t) (is_pointer t) refl
      (did (Moves (is_down o) true (element_size b t) v (int (pos 1))) (Moves (is_down o) true (element_size b t) v' (int (pos 1))) line (acts.moves (is_down o) true (element_size b t) v v' (int (pos 1)) (int (pos 1)) h refl))
      (combining-alike line (if is_down o then op.Sub else op.Add) (promotion_of (kind_of t)) (kind_of t) v v' (int (pos 1)) (int (pos 1)) h refl)

  moving-alike : {e e' g g' : List Access → State → Res Given} (line : ℕ) (minus first : Bool) (size : ℕ) (fs : List Access) → ((fs : List Access) → Pieces b m' GivenAlike (e fs) (e' fs)) → ((fs : List Access) → Pieces b m' GivenAlike (g fs) (g' fs))
      → Pieces b m' GivenAlike (λ s. operand e (open_against fs) s (λ j v s. operand g j s (λ j x s. work b line (Moves minus first size v x) j s))) (λ s. operand e' (open_against fs) s (λ j v s. operand g' j s (λ j x s. work c line (Moves minus first size v x) j s)))
  moving-alike line minus first size fs h k = operand-alike (open_against fs) h (λ j v v' e. operand-alike j k (λ j x x' i. work-alike line (Moves minus first size v x) (Moves minus first size v' x') (acts.moves minus first size v v' x x' e i) j))

  module _ (call call' : Calling) (h : (f : ℕ) (vs vs' : List Worth) → AlikeWorths b.types m' vs vs' → (line : ℕ) → Pieces b m' Same (call f vs line) (call' f vs' line)) where
    -- the function that was found
    called-alike : (f f' : Worth) → Same f f' → (got got' : List Worth) → AlikeWorths b.types m' got got' → (line : ℕ) → Pieces b m' Same (call (function_in f) got line) (call' (function_in f') got' line)
    called-alike f f' i got got' e line =
        subst (λ (q : ℕ). Pieces b m' Same (call (function_in f) got line) (call' q got' line)) (sym (ap unsigned_abs (int-same b.types m' f f' i))) (h (function_in f) got got' e line)

    mutual
      unfolding ev_by

      pub ev-alike : (x : TypedTree) → AllTypes (AlikeType b m') x → (fs : List Access) → Pieces b m' GivenAlike (ev b call x fs) (ev c call' x fs)
      ev-alike (Node t line turn (Constant n)) p fs = ticks (done-alike (open_against fs) (int n) (int n) refl)
      ev-alike (Node t line turn (Sizeof n)) p fs = ticks (done-alike (open_against fs) (int (pos n)) (int (pos n)) refl)
      ev-alike (Node t line turn (Object o)) p fs = ticks (work-alike line (NamesObject o) (NamesObject o) (acts.names_object o) (open_against fs))
      ev-alike (Node t line turn (Function f)) p fs = ticks (work-alike line (NamesFunction f) (NamesFunction f) (acts.names_function f) (open_against fs))
      ev-alike (Node t line turn (String l)) p fs = ticks (work-alike line (NamesLiteral l) (NamesLiteral l) (acts.names_literal l) (open_against fs))
      ev-alike (Node t line turn (Read x)) p fs = operand-alike (open_against fs) (ev-alike x p.1) (λ j v v' e. reading-alike (type_of x) (own (AlikeType b m') x p.1) line v v' e j done-alike)
      ev-alike (Node t line turn (ArrayPointer x)) p fs = operand-alike (open_against fs) (ev-alike x p.1) done-alike
      ev-alike (Node t line turn (Convert x)) p fs = operand-alike (open_against fs) (ev-alike x p.1) done-alike
      ev-alike (Node t line turn (Address x)) p fs = ticks (operand-alike (open_against fs) (ev-alike x p.1) done-alike)
      ev-alike (Node t line true (Indirection x)) p fs = ticks (operand-alike (open_against fs) (ev-alike x p.1) (λ j v v' e. work-alike line (Follows (is_none t) v) (Follows (is_none t) v') (acts.follows (is_none t) v v' e) j))
      ev-alike (Node t line false (Indirection x)) p fs = operand-alike (open_against fs) (ev-alike x p.1) (λ j v v' e. work-alike line (Follows (is_none t) v) (Follows (is_none t) v') (acts.follows (is_none t) v v' e) j)
      ev-alike (Node t line true (Subscript x y)) p fs = ticks (moving-alike line false (is_pointer (type_of x)) (element_size b (if is_pointer (type_of x) then type_of x else type_of y)) fs (ev-alike x p.1.0) (ev-alike y p.1.1))
      ev-alike (Node t line false (Subscript x y)) p fs = moving-alike line false (is_pointer (type_of x)) (element_size b (if is_pointer (type_of x) then type_of x else type_of y)) fs (ev-alike x p.1.0) (ev-alike y p.1.1)
      ev-alike (Node t line turn (Member x k)) p fs = ticks (operand-alike (open_against fs) (ev-alike x p.1) (λ j v v' e. work-alike line (Selects k v) (Selects k v') (acts.selects k v v' e) j))
      ev-alike (Node t line turn (Arrow x k)) p fs = ticks (operand-alike (open_against fs) (ev-alike x p.1) (λ j v v' e. work-alike line (Selects k v) (Selects k v') (acts.selects k v v' e) j))
      ev-alike (Node t line turn (MemberOfValue x k)) p fs = ticks (operand-alike (open_against fs) (ev-alike x p.1) (λ j v v' e. work-alike line (TakesPart k (lvalue b t) v) (TakesPart k (lvalue c t) v') (acts.takes_part k (lvalue b t) (lvalue c t) v v' p.0 e) j))
      ev-alike (Node t line turn (Unary o x)) p fs = ticks (operand-alike (open_against fs) (ev-alike x p.1) (λ j v v' e. seq (converted-alike x v v' e) (λ v v' e. work-alike line (CalculatesOne o (kind_of t) v) (CalculatesOne o (kind_of t) v') (acts.calculates_one o (kind_of t) v v' e) j)))
      ev-alike (Node t line turn (Not x)) p fs = ticks (operand-alike (open_against fs) (ev-alike x p.1) (λ j v v' e. work-alike line (Negates v) (Negates v') (acts.negates v v' e) j))
      ev-alike (Node t line turn (Cast x)) p fs = ticks (operand-alike (open_against fs) (ev-alike x p.1) (λ j v v' e. work-alike line (Converts (how_to b false (type_of x) t) v) (Converts (how_to b false (type_of x) t) v') (acts.converts (how_to b false (type_of x) t) v v' e) j))
      ev-alike (Node t line turn (Arithmetic o x y)) p fs = ticks (operand-alike (open_against fs) (ev-alike x p.1.0) (λ j v v' e. operand-alike j (ev-alike y p.1.1) (λ j z z' i. seq (converted-alike x v v' e) (λ v v' e. seq (converted-alike y z z' i) (λ z z' i. work-alike line (Calculates o (kind_of (type_of x)) v z) (Calculates o (kind_of (type_of x)) v' z') (acts.calculates o (kind_of (type_of x)) v v' z z' e i) j)))))
      ev-alike (Node t line turn (PointerSum g x y)) p fs = ticks (moving-alike line (is_minus g) (is_pointer (type_of x)) (element_size b t) fs (ev-alike x p.1.0) (ev-alike y p.1.1))
      ev-alike (Node t line turn (PointerDifference x y)) p fs = ticks (operand-alike (open_against fs) (ev-alike x p.1.0) (λ j v v' e. operand-alike j (ev-alike y p.1.1) (λ j z z' i. work-alike line (Subtracts (element_size b (type_of x)) v z) (Subtracts (element_size b (type_of x)) v' z') (acts.subtracts (element_size b (type_of x)) v v' z z' e i) j)))
      ev-alike (Node t line turn (PointerOrder o x y)) p fs = ticks (operand-alike (open_against fs) (ev-alike x p.1.0) (λ j v v' e. operand-alike j (ev-alike y p.1.1) (λ j z z' i. work-alike line (Orders o v z) (Orders o v' z') (acts.orders o v v' z z' e i) j)))
      ev-alike (Node t line turn (PointerEquality o x y)) p fs = ticks (operand-alike (open_against fs) (ev-alike x p.1.0) (λ j v v' e. operand-alike j (ev-alike y p.1.1) (λ j z z' i. seq (converted-alike x v v' e) (λ v v' e. seq (converted-alike y z z' i) (λ z z' i. work-alike line (Equals (is_unequal o) v z) (Equals (is_unequal o) v' z') (acts.equals (is_unequal o) v v' z z' e i) j)))))
      ev-alike (Node t line turn (LogicalAnd x y)) p fs = ticks (operand-alike (open_against fs) (ev-alike x p.1.0) (λ j v v' e. seq (did (Tests v) (Tests v') line (acts.tests v v' e)) (λ v v' e. choice (is_true v) (is_true v') (true-same b.types m' v v' e) (later-alike (sequence_point j) (ev-alike y p.1.1) (λ j z z' i. work-alike line (Tests z) (Tests z') (acts.tests z z' i) j)) (done-alike (sequence_point j) v v' e))))
      ev-alike (Node t line turn (LogicalOr x y)) p fs = ticks (operand-alike (open_against fs) (ev-alike x p.1.0) (λ j v v' e. seq (did (Tests v) (Tests v') line (acts.tests v v' e)) (λ v v' e. choice (is_true v) (is_true v') (true-same b.types m' v v' e) (done-alike (sequence_point j) v v' e) (later-alike (sequence_point j) (ev-alike y p.1.1) (λ j z z' i. work-alike line (Tests z) (Tests z') (acts.tests z z' i) j)))))
      ev-alike (Node t line turn (Conditional x y z)) p fs = ticks (operand-alike (open_against fs) (ev-alike x p.1.0) (λ j v v' e. seq (did (Tests v) (Tests v') line (acts.tests v v' e)) (λ v v' e. choice (is_true v) (is_true v') (true-same b.types m' v v' e) (later-alike (sequence_point j) (ev-alike y p.1.1) (λ j q q' i. seq (converted-alike y q q' i) (done-alike j))) (later-alike (sequence_point j) (ev-alike z p.1.2) (λ j q q' i. seq (converted-alike z q q' i) (done-alike j))))))
      ev-alike (Node t line turn (Comma x y)) p fs = ticks (operand-alike (open_against fs) (ev-alike x p.1.0) (λ j v v' e. later-alike (sequence_point j) (ev-alike y p.1.1) done-alike))
      ev-alike (Node t line turn (Assign x y)) p fs = ticks (operand-alike (open_against fs) (ev-alike x p.1.0) (λ j q q' e. operand-alike j (ev-alike y p.1.1) (λ j v v' i. seq (converted-alike y v v' i) (λ v v' i. assigning-alike (type_of x) (own (AlikeType b m') x p.1.0) line y q q' v v' e i j))))
      ev-alike (Node t line turn (CompoundAssign o k x y)) p fs = ticks (operand-alike (open_against fs) (ev-alike x p.1.0) (λ j q q' e. reading-alike (type_of x) (own (AlikeType b m') x p.1.0) line q q' e j (λ j v v' i. operand-alike j (ev-alike y p.1.1) (λ j z z' a. seq (did (Converts (Rounds k) v) (Converts (Rounds k) v') line (acts.converts (Rounds k) v v' i)) (λ v v' i. seq (converted-alike y z z' a) (λ z z' a. seq (combining-alike line o k (kind_of t) v v' z z' i a) (λ v v' i. writing-alike (type_of x) (own (AlikeType b m') x p.1.0) line q q' v v' None e i j done-alike)))))))
      ev-alike (Node t line turn (PointerAssign g x y)) p fs = ticks (operand-alike (open_against fs) (ev-alike x p.1.0) (λ j q q' e. reading-alike (type_of x) (own (AlikeType b m') x p.1.0) line q q' e j (λ j v v' i. operand-alike j (ev-alike y p.1.1) (λ j z z' a. seq (did (Moves (is_minus g) true (element_size b t) v z) (Moves (is_minus g) true (element_size b t) v' z') line (acts.moves (is_minus g) true (element_size b t) v v' z z' i a)) (λ v v' i. writing-alike (type_of x) (own (AlikeType b m') x p.1.0) line q q' v v' None e i j done-alike)))))
      ev-alike (Node t line turn (Increment o x)) p fs = ticks (operand-alike (open_against fs) (ev-alike x p.1) (λ j q q' e. reading-alike (type_of x) (own (AlikeType b m') x p.1) line q q' e j (λ j v v' i. seq (stepping-alike line t o v v' i) (λ z z' a. writing-alike (type_of x) (own (AlikeType b m') x p.1) line q q' z z' None e a j (λ j z z' a. done-alike j (if is_after o then v else z) (if is_after o then v' else z') (either-alike b.types m' (is_after o) v v' z z' i a))))))
      ev-alike (Node t line turn (Call f xs)) p fs = ticks (call-alike line f [] [] tt xs p.1 (open_against fs))
      ev-alike (Node t line turn (CallPointer x xs)) p fs = ticks (operand-alike (open_against fs) (ev-alike x p.1.0) (λ j v v' e. through-alike line (pointed_to (type_of x)) v v' e [] [] tt xs p.1.1 j))
      ev-alike (Node t line turn (LibraryCall f xs)) p fs = ticks (ask-alike line f [] xs p.1 (open_against fs))

      call-alike : (line f : ℕ) (got got' : List Worth) → AlikeWorths b.types m' got got' → (xs : Arguments) → AllArguments (AlikeType b m') xs → (j : Open) → Pieces b m' GivenAlike (ev_call b call line f got xs j) (ev_call c call' line f got' xs j)
      call-alike line f got got' e NoArguments p j = seq (h f got got' e line) (done-alike (sequence_point j))
      call-alike line f got got' e (MoreArguments x xs) p j = operand-alike j (ev-alike x p.0) (λ j v v' i. seq (handed-alike x v v' i) (λ v v' i. call-alike line f (got ++ v ∷ []) (got' ++ v' ∷ []) (more-worths b.types m' got got' v v' e i) xs p.1 j))

      through-alike : (line : ℕ) (t : Ty) (p p' : Worth) → Same p p' → (got got' : List Worth) → AlikeWorths b.types m' got got' → (xs : Arguments) → AllArguments (AlikeType b m') xs → (j : Open)
          → Pieces b m' GivenAlike (ev_through b call line t p got xs j) (ev_through c call' line t p' got' xs j)
      through-alike line t p p' k got got' e NoArguments q j =
          seq (did (Finds t p) (Finds t p') line (acts.finds t p p' k)) (λ f f' i. seq (called-alike f f' i got got' e line) (done-alike (sequence_point j)))
      through-alike line t p p' k got got' e (MoreArguments x xs) q j =
          operand-alike j (ev-alike x q.0) (λ j v v' i. seq (handed-alike x v v' i) (λ v v' i. through-alike line t p p' k (got ++ v ∷ []) (got' ++ v' ∷ []) (more-worths b.types m' got got' v v' e i) xs q.1 j))

      ask-alike : (line : ℕ) (f : Library) (got : List Arg) (xs : Arguments) → AllArguments (AlikeType b m') xs → (j : Open) → Pieces b m' GivenAlike (ev_ask b call line f got xs j) (ev_ask c call' line f got xs j)
      ask-alike line f got NoArguments p j = work-alike line (Asks f got) (Asks f got) (acts.asks f got) (sequence_point j)
      ask-alike line f got (MoreArguments x xs) p j = operand-alike j (ev-alike x p.0) (λ j v v' i. seq (handed-alike x v v' i) (λ v v' i. subst (λ (z : Arg). Pieces b m' GivenAlike (ev_ask b call line f (got ++ argument x v ∷ []) xs j) (ev_ask c call' line f (got ++ z ∷ []) xs j)) (sym (argument-same b.types m' x v v' i)) (ask-alike line f (got ++ argument x v ∷ []) xs p.1 j)))
