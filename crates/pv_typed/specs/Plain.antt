-- A bridge: plain expressions (6.5): what they give is read off the abstract machine as it is (5.1.2.3), and how many turns they take does not hang
-- on any value. The form of each node decides, and not its type; a node of another form is not plain:
-- a call (6.5.2.2) runs a function; an assignment (6.5.16), `++` and `--` (6.5.2.4, 6.5.3.1) have a side effect; of `&&`, `||` and `?:`
-- (6.5.13 to 6.5.15) some operands are not evaluated, so their turns hang on values; the left operand of a comma (6.5.17) is there for
-- its side effects; a function designator (6.3.2.1p4) designates no object; a member of a value (6.5.2.3p3) needs a whole structure.
use Rattle.std.specs.Prelude.{ℕ, ◌+◌, Bool, true, false, nat_le, Option, Some, None, if◌then◌else◌}
use Rattle.pv_typed.specs.TypedTree.{TypedTree, Node, Form, Constant, Object, String, Subscript, Member, Arrow, Address, Indirection, Unary, Not, Sizeof, Cast, Arithmetic, PointerSum, PointerDifference, PointerOrder, PointerEquality, Read, ArrayPointer, Convert}

-- with the turn of a node, where it takes one: a helper of sums
abbrev pub with_own_turn : Bool → Option ℕ → Option ℕ
with_own_turn false n = n
with_own_turn true None = None
with_own_turn true (Some n) = Some (n + 1)

-- the turns of two operands, where both are plain: a helper of sums
abbrev pub sum_of_turns : Option ℕ → Option ℕ → Option ℕ
sum_of_turns None n = None
sum_of_turns (Some m) None = None
sum_of_turns (Some m) (Some n) = Some (m + n)

abbrev mutual
  -- how many turns a plain expression takes, each node its own
  pub turns_of : TypedTree → Option ℕ
  turns_of (Node t line turn x) = turns_of_form turn x

  -- the same by the node's form
  pub turns_of_form : Bool → Form → Option ℕ
  -- 6.4.4, 6.5.3.4, 6.5.1p2, p4
  turns_of_form turn (Constant n) = Some 1
  turns_of_form turn (Sizeof n) = Some 1
  turns_of_form turn (Object o) = Some 1
  turns_of_form turn (String l) = Some 1
  -- 6.3.2.1p2, p3, 6.3: what the source doesn't write takes no turn
  turns_of_form turn (Read a) = turns_of a
  turns_of_form turn (ArrayPointer a) = turns_of a
  turns_of_form turn (Convert a) = turns_of a
  -- 6.5.3.2p3, p4, 6.5.2.1p2: no turn directly under `&`
  turns_of_form turn (Indirection a) = with_own_turn turn (turns_of a)
  turns_of_form turn (Subscript a b) = with_own_turn turn (sum_of_turns (turns_of a) (turns_of b))
  -- 6.5.2.3, 6.5.3.2, 6.5.3.3, 6.5.4
  turns_of_form turn (Member a offset) = with_own_turn true (turns_of a)
  turns_of_form turn (Arrow a offset) = with_own_turn true (turns_of a)
  turns_of_form turn (Address a) = with_own_turn true (turns_of a)
  turns_of_form turn (Unary op a) = with_own_turn true (turns_of a)
  turns_of_form turn (Not a) = with_own_turn true (turns_of a)
  turns_of_form turn (Cast a) = with_own_turn true (turns_of a)
  -- 6.5.5 to 6.5.12
  turns_of_form turn (Arithmetic op a b) = with_own_turn true (sum_of_turns (turns_of a) (turns_of b))
  turns_of_form turn (PointerSum sign a b) = with_own_turn true (sum_of_turns (turns_of a) (turns_of b))
  turns_of_form turn (PointerDifference a b) = with_own_turn true (sum_of_turns (turns_of a) (turns_of b))
  turns_of_form turn (PointerOrder op a b) = with_own_turn true (sum_of_turns (turns_of a) (turns_of b))
  turns_of_form turn (PointerEquality op a b) = with_own_turn true (sum_of_turns (turns_of a) (turns_of b))
  turns_of_form turn _ = None

-- a number of turns, where it is at most 1000: no rule of C17
abbrev pub turns_within : Option ℕ → Option ℕ
turns_within None = None
turns_within (Some n) = if nat_le n 1000 then Some n else None

-- how many turns an expression takes, where each of its nodes is plain and they are at most 1000
-- worked: plain_rows (proofs/PlainExamples)
abbrev pub plain_turns : TypedTree → Option ℕ
plain_turns a = turns_within (turns_of a)
