-- Plain expressions, and what is none (C17 6.5).
use Rattle.std.specs.Prelude.{◌≡◌, ℕ, pos, true, false, refl, map, Option, Some, None, List, [], ◌∷◌}
use Rattle.pv_num.specs.declared.kinds.IntKind.TheVariants as kind
use Rattle.pv_num.specs.declared.operators.BinOp.TheVariants as operator
use Rattle.pv_types.specs.Ty.{Ty, IntTy, PointerTo, ArrayOf, StructTag}
use Rattle.pv_typed.specs.declared.nodes.IncrementOperator.TheVariants as step
use Rattle.pv_typed.specs.TypedTree.{TypedTree, Node, Form, Constant, Object, Call, Subscript, Member, Address, Indirection, Increment, Arithmetic, PointerEquality, LogicalAnd, Conditional, Assign, Comma, Read, ArrayPointer, Convert, NoArguments}
use Rattle.pv_typed.specs.Plain.{plain_turns, turns_within}

abbrev int : Form → TypedTree
int x = Node (IntTy kind.Int) 1 true x

abbrev unwritten : Ty → Form → TypedTree
unwritten t x = Node t 1 false x

-- the value of the object 0, an `int`
abbrev i : TypedTree
i = unwritten (IntTy kind.Int) (Read (int (Object 0)))

-- the value of the object 1, a pointer to `int`
abbrev p : TypedTree
p = unwritten (PointerTo (IntTy kind.Int)) (Read (Node (PointerTo (IntTy kind.Int)) 1 true (Object 1)))

-- the object 2, an array of `int`, as the pointer to its first element
abbrev a : TypedTree
a = unwritten (PointerTo (IntTy kind.Int)) (ArrayPointer (Node (ArrayOf (IntTy kind.Int) (Some 9)) 1 true (Object 2)))

-- expressions, each with its turns
abbrev AreTurns : List (TypedTree × Option ℕ) → Type 0
AreTurns rows = map (λ (r : TypedTree × Option ℕ). plain_turns r.0) rows ≡ map (λ (r : TypedTree × Option ℕ). r.1) rows

pub plain_rows : AreTurns (
    -- 7
    (int (Constant (pos 7)), Some 1) ∷
    -- i
    (i, Some 1) ∷
    -- i + 7
    (int (Arithmetic operator.Add i (int (Constant (pos 7)))), Some 3) ∷
    -- (long)i, where it is implicit
    (unwritten (IntTy kind.Long) (Convert i), Some 1) ∷
    -- a[i], an lvalue, and its value
    (int (Subscript a i), Some 3) ∷
    (unwritten (IntTy kind.Int) (Read (int (Subscript a i))), Some 3) ∷
    -- &a[i], &*p
    (Node (PointerTo (IntTy kind.Int)) 1 true (Address (unwritten (IntTy kind.Int) (Subscript a i))), Some 3) ∷
    (Node (PointerTo (IntTy kind.Int)) 1 true (Address (unwritten (IntTy kind.Int) (Indirection p))), Some 2) ∷
    -- *p, (*p).m
    (int (Indirection p), Some 2) ∷
    (int (Member (Node (StructTag 0) 1 true (Indirection p)) 4), Some 3) ∷
    -- p == a
    (int (PointerEquality operator.Eq p a), Some 3) ∷
    -- f(), i + f()
    (int (Call 0 NoArguments), None) ∷
    (int (Arithmetic operator.Add i (int (Call 0 NoArguments))), None) ∷
    -- i = 7, i++
    (int (Assign (int (Object 0)) (int (Constant (pos 7)))), None) ∷
    (int (Increment step.PostIncrement (int (Object 0))), None) ∷
    -- i && i, i ? i : i, (i, i)
    (int (LogicalAnd i i), None) ∷
    (int (Conditional i i i), None) ∷
    (int (Comma i i), None) ∷
    [])
plain_rows = refl

-- 1000 turns, and one more
pub capped_rows : map turns_within (Some 1000 ∷ Some 1001 ∷ None ∷ []) ≡ Some 1000 ∷ None ∷ None ∷ []
capped_rows = refl
