-- Operators of two operands, assignments and the comma (C17 6.5.5 to 6.5.17), each with operands that it takes and operands that it
-- doesn't.
use Rattle.std.specs.Prelude.{refl, pos, true, false, Some, None, [], ◌∷◌}
use Rattle.pv_num.specs.declared.kinds.IntKind.TheVariants as kind
use Rattle.pv_num.specs.declared.operators.BinOp.TheVariants as arithmetic
use Rattle.pv_tree.specs.declared.operators.UnaryOperator.TheVariants as uop
use Rattle.pv_tree.specs.declared.operators.BinaryOperator.TheVariants as bop
use Rattle.pv_tree.specs.declared.operators.AssignOperator.TheVariants as aop
use Rattle.pv_typed.specs.declared.nodes.Sign.TheVariants as sign
use Rattle.pv_typed.specs.TypedTree as typed
use Rattle.pv_tree.specs.Syntax.{Name, Number, Text, Paren, Index, Call, Unary, Binary, Conditional, Assign, Comma, NoArguments, Argument}
use Rattle.pv_types.specs.Ty.{VoidTy, IntTy, PointerTo, ArrayOf, StructTag, UnionTag, ConstOf}
use Rattle.pv_types.specs.Layouts.{layouts_of}
use Rattle.pv_types.specs.Compatible.{are_compatible}
use Rattle.pv_library.specs.LibraryNames.{library_named}
use Rattle.pv_typed.specs.TypedTree.{Node, NoArguments as NoMore, MoreArguments as More}
use Rattle.pv_check.proofs.MoreExamples.{context}
use Rattle.pv_check.proofs.ExampleRows.{AreTyped, object, value_of_object, int_constant}

-- Multiplication, division, remainder, and the bitwise operators (C17 6.5.5, 6.5.10 to 6.5.12).
multiplication_operand_rows : AreTyped context (
    -- ch * pi
    (Binary 1 bop.Multiply (Name 1 8) (Name 1 21), None) ∷
    -- node / 2
    (Binary 1 bop.Divide (Name 1 44) (Number 1 2 true false 0), None) ∷
    -- bo % ch
    (Binary 1 bop.Remainder (Name 1 7) (Name 1 8), Some (Node (IntTy kind.Int) 1 true (typed.Arithmetic arithmetic.Rem (Node (IntTy kind.Int) 1 false (typed.Convert (value_of_object (IntTy kind.Bool) 0))) (Node (IntTy kind.Int) 1 false (typed.Convert (value_of_object (IntTy kind.Char) 1)))))) ∷
    -- i % pi
    (Binary 1 bop.Remainder (Name 1 13) (Name 1 21), None) ∷
    -- sh & ul
    (Binary 1 bop.And (Name 1 11) (Name 1 16), Some (Node (IntTy kind.ULong) 1 true (typed.Arithmetic arithmetic.And (Node (IntTy kind.ULong) 1 false (typed.Convert (value_of_object (IntTy kind.Short) 4))) (value_of_object (IntTy kind.ULong) 9)))) ∷
    -- pi & 1
    (Binary 1 bop.And (Name 1 21) (Number 1 1 true false 0), None) ∷
    -- ui ^ ll
    (Binary 1 bop.ExclusiveOr (Name 1 14) (Name 1 17), Some (Node (IntTy kind.LLong) 1 true (typed.Arithmetic arithmetic.Xor (Node (IntTy kind.LLong) 1 false (typed.Convert (value_of_object (IntTy kind.UInt) 7))) (value_of_object (IntTy kind.LLong) 10)))) ∷
    -- a | 1
    (Binary 1 bop.Or (Name 1 32) (Number 1 1 true false 0), None) ∷
    -- nothing() * 2
    (Binary 1 bop.Multiply (Call 1 (Name 1 64) NoArguments) (Number 1 2 true false 0), None) ∷
    -- node ^ 1
    (Binary 1 bop.ExclusiveOr (Name 1 44) (Number 1 1 true false 0), None) ∷
    -- 2 * node
    (Binary 1 bop.Multiply (Number 1 2 true false 0) (Name 1 44), None) ∷
    -- ul / bo
    (Binary 1 bop.Divide (Name 1 16) (Name 1 7), Some (Node (IntTy kind.ULong) 1 true (typed.Arithmetic arithmetic.Div (value_of_object (IntTy kind.ULong) 9) (Node (IntTy kind.ULong) 1 false (typed.Convert (value_of_object (IntTy kind.Bool) 0)))))) ∷
    -- ch % ll
    (Binary 1 bop.Remainder (Name 1 8) (Name 1 17), Some (Node (IntTy kind.LLong) 1 true (typed.Arithmetic arithmetic.Rem (Node (IntTy kind.LLong) 1 false (typed.Convert (value_of_object (IntTy kind.Char) 1))) (value_of_object (IntTy kind.LLong) 10)))) ∷
    [])
unfolding layouts_of are_compatible library_named
multiplication_operand_rows = refl

-- Sums and differences (C17 6.5.6).
addition_operand_rows : AreTyped context (
    -- pi + ch
    (Binary 1 bop.Add (Name 1 21) (Name 1 8), Some (Node (PointerTo (IntTy kind.Int)) 1 true (typed.PointerSum sign.Plus (value_of_object (PointerTo (IntTy kind.Int)) 14) (value_of_object (IntTy kind.Char) 1)))) ∷
    -- ul + pa3
    (Binary 1 bop.Add (Name 1 16) (Name 1 38), Some (Node (PointerTo (ArrayOf (IntTy kind.Int) (Some 3))) 1 true (typed.PointerSum sign.Plus (value_of_object (IntTy kind.ULong) 9) (value_of_object (PointerTo (ArrayOf (IntTy kind.Int) (Some 3))) 31)))) ∷
    -- m + 1
    (Binary 1 bop.Add (Name 1 34) (Number 1 1 true false 0), Some (Node (PointerTo (ArrayOf (IntTy kind.Int) (Some 3))) 1 true (typed.PointerSum sign.Plus (Node (PointerTo (ArrayOf (IntTy kind.Int) (Some 3))) 1 false (typed.ArrayPointer (object (ArrayOf (ArrayOf (IntTy kind.Int) (Some 3)) (Some 2)) 27))) (int_constant 1)))) ∷
    -- a + a
    (Binary 1 bop.Add (Name 1 32) (Name 1 32), None) ∷
    -- pi + pi
    (Binary 1 bop.Add (Name 1 21) (Name 1 21), None) ∷
    -- pi + node
    (Binary 1 bop.Add (Name 1 21) (Name 1 44), None) ∷
    -- pi - ul
    (Binary 1 bop.Subtract (Name 1 21) (Name 1 16), Some (Node (PointerTo (IntTy kind.Int)) 1 true (typed.PointerSum sign.Minus (value_of_object (PointerTo (IntTy kind.Int)) 14) (value_of_object (IntTy kind.ULong) 9)))) ∷
    -- a - m[0]
    (Binary 1 bop.Subtract (Name 1 32) (Index 1 (Name 1 34) (Number 1 0 false false 0)), Some (Node (IntTy kind.Long) 1 true (typed.PointerDifference (Node (PointerTo (IntTy kind.Int)) 1 false (typed.ArrayPointer (object (ArrayOf (IntTy kind.Int) (Some 3)) 25))) (Node (PointerTo (IntTy kind.Int)) 1 false (typed.ArrayPointer (Node (ArrayOf (IntTy kind.Int) (Some 3)) 1 true (typed.Subscript (Node (PointerTo (ArrayOf (IntTy kind.Int) (Some 3))) 1 false (typed.ArrayPointer (object (ArrayOf (ArrayOf (IntTy kind.Int) (Some 3)) (Some 2)) 27))) (int_constant 0)))))))) ∷
    -- pi - pui
    (Binary 1 bop.Subtract (Name 1 21) (Name 1 28), None) ∷
    -- ca - a
    (Binary 1 bop.Subtract (Name 1 33) (Name 1 32), Some (Node (IntTy kind.Long) 1 true (typed.PointerDifference (Node (PointerTo (ConstOf (IntTy kind.Int))) 1 false (typed.ArrayPointer (object (ArrayOf (ConstOf (IntTy kind.Int)) (Some 2)) 26))) (Node (PointerTo (IntTy kind.Int)) 1 false (typed.ArrayPointer (object (ArrayOf (IntTy kind.Int) (Some 3)) 25)))))) ∷
    -- pa3 - pa4
    (Binary 1 bop.Subtract (Name 1 38) (Name 1 39), None) ∷
    -- pa3 - &open
    (Binary 1 bop.Subtract (Name 1 38) (Unary 1 uop.Address (Name 1 56)), None) ∷
    -- m - pa3
    (Binary 1 bop.Subtract (Name 1 34) (Name 1 38), Some (Node (IntTy kind.Long) 1 true (typed.PointerDifference (Node (PointerTo (ArrayOf (IntTy kind.Int) (Some 3))) 1 false (typed.ArrayPointer (object (ArrayOf (ArrayOf (IntTy kind.Int) (Some 3)) (Some 2)) 27))) (value_of_object (PointerTo (ArrayOf (IntTy kind.Int) (Some 3))) 31)))) ∷
    -- 1 - pi
    (Binary 1 bop.Subtract (Number 1 1 true false 0) (Name 1 21), None) ∷
    -- pn - &node
    (Binary 1 bop.Subtract (Name 1 46) (Unary 1 uop.Address (Name 1 44)), Some (Node (IntTy kind.Long) 1 true (typed.PointerDifference (value_of_object (PointerTo (StructTag 1)) 39) (Node (PointerTo (StructTag 1)) 1 true (typed.Address (object (StructTag 1) 37)))))) ∷
    -- pn + 1
    (Binary 1 bop.Add (Name 1 46) (Number 1 1 true false 0), Some (Node (PointerTo (StructTag 1)) 1 true (typed.PointerSum sign.Plus (value_of_object (PointerTo (StructTag 1)) 39) (int_constant 1)))) ∷
    [])
unfolding layouts_of are_compatible
addition_operand_rows = refl

-- Shifts (C17 6.5.7).
shift_operand_rows : AreTyped context (
    -- ch << ll
    (Binary 1 bop.ShiftLeft (Name 1 8) (Name 1 17), Some (Node (IntTy kind.Int) 1 true (typed.Arithmetic arithmetic.Shl (Node (IntTy kind.Int) 1 false (typed.Convert (value_of_object (IntTy kind.Char) 1))) (value_of_object (IntTy kind.LLong) 10)))) ∷
    -- ul >> bo
    (Binary 1 bop.ShiftRight (Name 1 16) (Name 1 7), Some (Node (IntTy kind.ULong) 1 true (typed.Arithmetic arithmetic.Shr (value_of_object (IntTy kind.ULong) 9) (Node (IntTy kind.Int) 1 false (typed.Convert (value_of_object (IntTy kind.Bool) 0)))))) ∷
    -- us << 1
    (Binary 1 bop.ShiftLeft (Name 1 12) (Number 1 1 true false 0), Some (Node (IntTy kind.Int) 1 true (typed.Arithmetic arithmetic.Shl (Node (IntTy kind.Int) 1 false (typed.Convert (value_of_object (IntTy kind.UShort) 5))) (int_constant 1)))) ∷
    -- pi << 1
    (Binary 1 bop.ShiftLeft (Name 1 21) (Number 1 1 true false 0), None) ∷
    -- 1 >> pi
    (Binary 1 bop.ShiftRight (Number 1 1 true false 0) (Name 1 21), None) ∷
    -- node << 1
    (Binary 1 bop.ShiftLeft (Name 1 44) (Number 1 1 true false 0), None) ∷
    [])
unfolding layouts_of are_compatible
shift_operand_rows = refl

-- Orders (C17 6.5.8).
order_operand_rows : AreTyped context (
    -- ch < ull
    (Binary 1 bop.Less (Name 1 8) (Name 1 18), Some (Node (IntTy kind.Int) 1 true (typed.Arithmetic arithmetic.Lt (Node (IntTy kind.ULLong) 1 false (typed.Convert (value_of_object (IntTy kind.Char) 1))) (value_of_object (IntTy kind.ULLong) 11)))) ∷
    -- l >= ui
    (Binary 1 bop.GreaterEqual (Name 1 15) (Name 1 14), Some (Node (IntTy kind.Int) 1 true (typed.Arithmetic arithmetic.Ge (value_of_object (IntTy kind.Long) 8) (Node (IntTy kind.Long) 1 false (typed.Convert (value_of_object (IntTy kind.UInt) 7)))))) ∷
    -- pi > a
    (Binary 1 bop.Greater (Name 1 21) (Name 1 32), Some (Node (IntTy kind.Int) 1 true (typed.PointerOrder arithmetic.Gt (value_of_object (PointerTo (IntTy kind.Int)) 14) (Node (PointerTo (IntTy kind.Int)) 1 false (typed.ArrayPointer (object (ArrayOf (IntTy kind.Int) (Some 3)) 25)))))) ∷
    -- pci <= pi
    (Binary 1 bop.LessEqual (Name 1 22) (Name 1 21), Some (Node (IntTy kind.Int) 1 true (typed.PointerOrder arithmetic.Le (value_of_object (PointerTo (ConstOf (IntTy kind.Int))) 15) (value_of_object (PointerTo (IntTy kind.Int)) 14)))) ∷
    -- pi <= pui
    (Binary 1 bop.LessEqual (Name 1 21) (Name 1 28), None) ∷
    -- pi < pui
    (Binary 1 bop.Less (Name 1 21) (Name 1 28), None) ∷
    -- pa3 < &open
    (Binary 1 bop.Less (Name 1 38) (Unary 1 uop.Address (Name 1 56)), Some (Node (IntTy kind.Int) 1 true (typed.PointerOrder arithmetic.Lt (value_of_object (PointerTo (ArrayOf (IntTy kind.Int) (Some 3))) 31) (Node (PointerTo (ArrayOf (IntTy kind.Int) None)) 1 true (typed.Address (object (ArrayOf (IntTy kind.Int) None) 49)))))) ∷
    -- pv < pv
    (Binary 1 bop.Less (Name 1 24) (Name 1 24), Some (Node (IntTy kind.Int) 1 true (typed.PointerOrder arithmetic.Lt (value_of_object (PointerTo VoidTy) 17) (value_of_object (PointerTo VoidTy) 17)))) ∷
    -- pi < i
    (Binary 1 bop.Less (Name 1 21) (Name 1 13), None) ∷
    -- node < node
    (Binary 1 bop.Less (Name 1 44) (Name 1 44), None) ∷
    -- ppi < ppci
    (Binary 1 bop.Less (Name 1 29) (Name 1 30), None) ∷
    -- pi >= node
    (Binary 1 bop.GreaterEqual (Name 1 21) (Name 1 44), None) ∷
    -- node > 1
    (Binary 1 bop.Greater (Name 1 44) (Number 1 1 true false 0), None) ∷
    [])
unfolding layouts_of are_compatible
order_operand_rows = refl

-- Equalities (C17 6.5.9).
equality_operand_rows : AreTyped context (
    -- ch == ull
    (Binary 1 bop.Equal (Name 1 8) (Name 1 18), Some (Node (IntTy kind.Int) 1 true (typed.Arithmetic arithmetic.Eq (Node (IntTy kind.ULLong) 1 false (typed.Convert (value_of_object (IntTy kind.Char) 1))) (value_of_object (IntTy kind.ULLong) 11)))) ∷
    -- l != bo
    (Binary 1 bop.NotEqual (Name 1 15) (Name 1 7), Some (Node (IntTy kind.Int) 1 true (typed.Arithmetic arithmetic.Ne (value_of_object (IntTy kind.Long) 8) (Node (IntTy kind.Long) 1 false (typed.Convert (value_of_object (IntTy kind.Bool) 0)))))) ∷
    -- pi == a
    (Binary 1 bop.Equal (Name 1 21) (Name 1 32), Some (Node (IntTy kind.Int) 1 true (typed.PointerEquality arithmetic.Eq (value_of_object (PointerTo (IntTy kind.Int)) 14) (Node (PointerTo (IntTy kind.Int)) 1 false (typed.ArrayPointer (object (ArrayOf (IntTy kind.Int) (Some 3)) 25)))))) ∷
    -- pi == pui
    (Binary 1 bop.Equal (Name 1 21) (Name 1 28), None) ∷
    -- pi == i
    (Binary 1 bop.Equal (Name 1 21) (Name 1 13), None) ∷
    -- node == node
    (Binary 1 bop.Equal (Name 1 44) (Name 1 44), None) ∷
    -- pn == &cnode
    (Binary 1 bop.Equal (Name 1 46) (Unary 1 uop.Address (Name 1 45)), Some (Node (IntTy kind.Int) 1 true (typed.PointerEquality arithmetic.Eq (value_of_object (PointerTo (StructTag 1)) 39) (Node (PointerTo (ConstOf (StructTag 1))) 1 true (typed.Address (object (ConstOf (StructTag 1)) 38)))))) ∷
    -- node != node
    (Binary 1 bop.NotEqual (Name 1 44) (Name 1 44), None) ∷
    -- pi != pui
    (Binary 1 bop.NotEqual (Name 1 21) (Name 1 28), None) ∷
    -- pi != pci
    (Binary 1 bop.NotEqual (Name 1 21) (Name 1 22), Some (Node (IntTy kind.Int) 1 true (typed.PointerEquality arithmetic.Ne (value_of_object (PointerTo (IntTy kind.Int)) 14) (value_of_object (PointerTo (ConstOf (IntTy kind.Int))) 15)))) ∷
    -- pv != pcv
    (Binary 1 bop.NotEqual (Name 1 24) (Name 1 25), Some (Node (IntTy kind.Int) 1 true (typed.PointerEquality arithmetic.Ne (value_of_object (PointerTo VoidTy) 17) (value_of_object (PointerTo (ConstOf VoidTy)) 18)))) ∷
    -- ppi == pv
    (Binary 1 bop.Equal (Name 1 29) (Name 1 24), Some (Node (IntTy kind.Int) 1 true (typed.PointerEquality arithmetic.Eq (Node (PointerTo VoidTy) 1 false (typed.Convert (value_of_object (PointerTo (PointerTo (IntTy kind.Int))) 22))) (value_of_object (PointerTo VoidTy) 17)))) ∷
    [])
unfolding layouts_of are_compatible
equality_operand_rows = refl

-- The operators `&&` and `||` (C17 6.5.13, 6.5.14).
logical_operand_rows : AreTyped context (
    -- node && 1
    (Binary 1 bop.LogicalAnd (Name 1 44) (Number 1 1 true false 0), None) ∷
    -- 1 && node
    (Binary 1 bop.LogicalAnd (Number 1 1 true false 0) (Name 1 44), None) ∷
    -- pi && a
    (Binary 1 bop.LogicalAnd (Name 1 21) (Name 1 32), Some (Node (IntTy kind.Int) 1 true (typed.LogicalAnd (value_of_object (PointerTo (IntTy kind.Int)) 14) (Node (PointerTo (IntTy kind.Int)) 1 false (typed.ArrayPointer (object (ArrayOf (IntTy kind.Int) (Some 3)) 25)))))) ∷
    -- "a" || 0
    (Binary 1 bop.LogicalOr (Text 1 1 0) (Number 1 0 false false 0), Some (Node (IntTy kind.Int) 1 true (typed.LogicalOr (Node (PointerTo (IntTy kind.Char)) 1 false (typed.ArrayPointer (Node (ArrayOf (IntTy kind.Char) (Some 2)) 1 true (typed.String 0)))) (int_constant 0)))) ∷
    -- nothing() || 1
    (Binary 1 bop.LogicalOr (Call 1 (Name 1 64) NoArguments) (Number 1 1 true false 0), None) ∷
    -- 1 || lt
    (Binary 1 bop.LogicalOr (Number 1 1 true false 0) (Name 1 54), None) ∷
    -- i && ul
    (Binary 1 bop.LogicalAnd (Name 1 13) (Name 1 16), Some (Node (IntTy kind.Int) 1 true (typed.LogicalAnd (value_of_object (IntTy kind.Int) 6) (value_of_object (IntTy kind.ULong) 9)))) ∷
    [])
unfolding layouts_of are_compatible library_named
logical_operand_rows = refl

-- Simple assignments (C17 6.5.16.1).
assignment_operand_rows : AreTyped context (
    -- ch = ull
    (Assign 1 aop.Assign (Name 1 8) (Name 1 18), Some (Node (IntTy kind.Char) 1 true (typed.Assign (object (IntTy kind.Char) 1) (Node (IntTy kind.Char) 1 false (typed.Convert (value_of_object (IntTy kind.ULLong) 11)))))) ∷
    -- ull = ch
    (Assign 1 aop.Assign (Name 1 18) (Name 1 8), Some (Node (IntTy kind.ULLong) 1 true (typed.Assign (object (IntTy kind.ULLong) 11) (Node (IntTy kind.ULLong) 1 false (typed.Convert (value_of_object (IntTy kind.Char) 1)))))) ∷
    -- bo = bo
    (Assign 1 aop.Assign (Name 1 7) (Name 1 7), Some (Node (IntTy kind.Bool) 1 true (typed.Assign (object (IntTy kind.Bool) 0) (value_of_object (IntTy kind.Bool) 0)))) ∷
    -- node = make(1)
    (Assign 1 aop.Assign (Name 1 44) (Call 1 (Name 1 58) (Argument NoArguments (Number 1 1 true false 0))), Some (Node (StructTag 1) 1 true (typed.Assign (object (StructTag 1) 37) (Node (StructTag 1) 1 true (typed.Call 0 (More (int_constant 1) NoMore)))))) ∷
    -- node = st
    (Assign 1 aop.Assign (Name 1 44) (Name 1 41), None) ∷
    -- un = unite()
    (Assign 1 aop.Assign (Name 1 48) (Call 1 (Name 1 60) NoArguments), Some (Node (UnionTag 5) 1 true (typed.Assign (object (UnionTag 5) 41) (Node (UnionTag 5) 1 true (typed.Call 2 NoMore))))) ∷
    -- i = node
    (Assign 1 aop.Assign (Name 1 13) (Name 1 44), None) ∷
    -- node = i
    (Assign 1 aop.Assign (Name 1 44) (Name 1 13), None) ∷
    -- text = "abc"
    (Assign 1 aop.Assign (Name 1 36) (Text 1 4 0), None) ∷
    -- a = pi
    (Assign 1 aop.Assign (Name 1 32) (Name 1 21), None) ∷
    -- i = (l = ch)
    (Assign 1 aop.Assign (Name 1 13) (Paren 1 (Assign 1 aop.Assign (Name 1 15) (Name 1 8))), Some (Node (IntTy kind.Int) 1 true (typed.Assign (object (IntTy kind.Int) 6) (Node (IntTy kind.Int) 1 false (typed.Convert (Node (IntTy kind.Long) 1 true (typed.Assign (object (IntTy kind.Long) 8) (Node (IntTy kind.Long) 1 false (typed.Convert (value_of_object (IntTy kind.Char) 1)))))))))) ∷
    -- (i + 1) = 2
    (Assign 1 aop.Assign (Paren 1 (Binary 1 bop.Add (Name 1 13) (Number 1 1 true false 0))) (Number 1 2 true false 0), None) ∷
    -- (i) = 1
    (Assign 1 aop.Assign (Paren 1 (Name 1 13)) (Number 1 1 true false 0), Some (Node (IntTy kind.Int) 1 true (typed.Assign (object (IntTy kind.Int) 6) (int_constant 1)))) ∷
    -- (i, ch) = 1
    (Assign 1 aop.Assign (Paren 1 (Comma 1 (Name 1 13) (Name 1 8))) (Number 1 1 true false 0), None) ∷
    -- (i ? i : i) = 1
    (Assign 1 aop.Assign (Paren 1 (Conditional 1 (Name 1 13) (Name 1 13) (Name 1 13))) (Number 1 1 true false 0), None) ∷
    -- i = nothing()
    (Assign 1 aop.Assign (Name 1 13) (Call 1 (Name 1 64) NoArguments), None) ∷
    -- i = i = 3
    (Assign 1 aop.Assign (Name 1 13) (Assign 1 aop.Assign (Name 1 13) (Number 1 3 true false 0)), Some (Node (IntTy kind.Int) 1 true (typed.Assign (object (IntTy kind.Int) 6) (Node (IntTy kind.Int) 1 true (typed.Assign (object (IntTy kind.Int) 6) (int_constant 3)))))) ∷
    [])
unfolding layouts_of are_compatible library_named
assignment_operand_rows = refl

-- Compound assignments (C17 6.5.16.2).
compound_operand_rows : AreTyped context (
    -- ch += ull
    (Assign 1 aop.Add (Name 1 8) (Name 1 18), Some (Node (IntTy kind.Char) 1 true (typed.CompoundAssign arithmetic.Add kind.ULLong (object (IntTy kind.Char) 1) (value_of_object (IntTy kind.ULLong) 11)))) ∷
    -- bo |= i
    (Assign 1 aop.Or (Name 1 7) (Name 1 13), Some (Node (IntTy kind.Bool) 1 true (typed.CompoundAssign arithmetic.Or kind.Int (object (IntTy kind.Bool) 0) (value_of_object (IntTy kind.Int) 6)))) ∷
    -- ul %= ch
    (Assign 1 aop.Remainder (Name 1 16) (Name 1 8), Some (Node (IntTy kind.ULong) 1 true (typed.CompoundAssign arithmetic.Rem kind.ULong (object (IntTy kind.ULong) 9) (Node (IntTy kind.ULong) 1 false (typed.Convert (value_of_object (IntTy kind.Char) 1)))))) ∷
    -- sh <<= ll
    (Assign 1 aop.ShiftLeft (Name 1 11) (Name 1 17), Some (Node (IntTy kind.Short) 1 true (typed.CompoundAssign arithmetic.Shl kind.Int (object (IntTy kind.Short) 4) (value_of_object (IntTy kind.LLong) 10)))) ∷
    -- l >>= pi
    (Assign 1 aop.ShiftRight (Name 1 15) (Name 1 21), None) ∷
    -- l >>= 2
    (Assign 1 aop.ShiftRight (Name 1 15) (Number 1 2 true false 0), Some (Node (IntTy kind.Long) 1 true (typed.CompoundAssign arithmetic.Shr kind.Long (object (IntTy kind.Long) 8) (int_constant 2)))) ∷
    -- i &= pi
    (Assign 1 aop.And (Name 1 13) (Name 1 21), None) ∷
    -- i ^= node
    (Assign 1 aop.ExclusiveOr (Name 1 13) (Name 1 44), None) ∷
    -- pi += ul
    (Assign 1 aop.Add (Name 1 21) (Name 1 16), Some (Node (PointerTo (IntTy kind.Int)) 1 true (typed.PointerAssign sign.Plus (object (PointerTo (IntTy kind.Int)) 14) (value_of_object (IntTy kind.ULong) 9)))) ∷
    -- pi -= bo
    (Assign 1 aop.Subtract (Name 1 21) (Name 1 7), Some (Node (PointerTo (IntTy kind.Int)) 1 true (typed.PointerAssign sign.Minus (object (PointerTo (IntTy kind.Int)) 14) (value_of_object (IntTy kind.Bool) 0)))) ∷
    -- pi += pi
    (Assign 1 aop.Add (Name 1 21) (Name 1 21), None) ∷
    -- pi -= pi
    (Assign 1 aop.Subtract (Name 1 21) (Name 1 21), None) ∷
    -- pi *= 1
    (Assign 1 aop.Multiply (Name 1 21) (Number 1 1 true false 0), None) ∷
    -- pa3 += 1
    (Assign 1 aop.Add (Name 1 38) (Number 1 1 true false 0), Some (Node (PointerTo (ArrayOf (IntTy kind.Int) (Some 3))) 1 true (typed.PointerAssign sign.Plus (object (PointerTo (ArrayOf (IntTy kind.Int) (Some 3))) 31) (int_constant 1)))) ∷
    -- i += pi
    (Assign 1 aop.Add (Name 1 13) (Name 1 21), None) ∷
    -- a += 1
    (Assign 1 aop.Add (Name 1 32) (Number 1 1 true false 0), None) ∷
    -- node += 1
    (Assign 1 aop.Add (Name 1 44) (Number 1 1 true false 0), None) ∷
    -- node += node
    (Assign 1 aop.Add (Name 1 44) (Name 1 44), None) ∷
    -- ull /= i
    (Assign 1 aop.Divide (Name 1 18) (Name 1 13), Some (Node (IntTy kind.ULLong) 1 true (typed.CompoundAssign arithmetic.Div kind.ULLong (object (IntTy kind.ULLong) 11) (Node (IntTy kind.ULLong) 1 false (typed.Convert (value_of_object (IntTy kind.Int) 6)))))) ∷
    -- uc -= 1
    (Assign 1 aop.Subtract (Name 1 10) (Number 1 1 true false 0), Some (Node (IntTy kind.UChar) 1 true (typed.CompoundAssign arithmetic.Sub kind.Int (object (IntTy kind.UChar) 3) (int_constant 1)))) ∷
    -- bo ^= bo
    (Assign 1 aop.ExclusiveOr (Name 1 7) (Name 1 7), Some (Node (IntTy kind.Bool) 1 true (typed.CompoundAssign arithmetic.Xor kind.Int (object (IntTy kind.Bool) 0) (Node (IntTy kind.Int) 1 false (typed.Convert (value_of_object (IntTy kind.Bool) 0)))))) ∷
    -- 1 += 1
    (Assign 1 aop.Add (Number 1 1 true false 0) (Number 1 1 true false 0), None) ∷
    -- l *= 2u
    (Assign 1 aop.Multiply (Name 1 15) (Number 1 2 true true 0), Some (Node (IntTy kind.Long) 1 true (typed.CompoundAssign arithmetic.Mul kind.Long (object (IntTy kind.Long) 8) (Node (IntTy kind.Long) 1 false (typed.Convert (Node (IntTy kind.UInt) 1 true (typed.Constant (pos 2)))))))) ∷
    -- us &= uc
    (Assign 1 aop.And (Name 1 12) (Name 1 10), Some (Node (IntTy kind.UShort) 1 true (typed.CompoundAssign arithmetic.And kind.Int (object (IntTy kind.UShort) 5) (Node (IntTy kind.Int) 1 false (typed.Convert (value_of_object (IntTy kind.UChar) 3)))))) ∷
    -- sh ^= 1
    (Assign 1 aop.ExclusiveOr (Name 1 11) (Number 1 1 true false 0), Some (Node (IntTy kind.Short) 1 true (typed.CompoundAssign arithmetic.Xor kind.Int (object (IntTy kind.Short) 4) (int_constant 1)))) ∷
    -- ch <<= 1
    (Assign 1 aop.ShiftLeft (Name 1 8) (Number 1 1 true false 0), Some (Node (IntTy kind.Char) 1 true (typed.CompoundAssign arithmetic.Shl kind.Int (object (IntTy kind.Char) 1) (int_constant 1)))) ∷
    -- i |= pi
    (Assign 1 aop.Or (Name 1 13) (Name 1 21), None) ∷
    -- i <<= pi
    (Assign 1 aop.ShiftLeft (Name 1 13) (Name 1 21), None) ∷
    -- i %= pi
    (Assign 1 aop.Remainder (Name 1 13) (Name 1 21), None) ∷
    -- i /= node
    (Assign 1 aop.Divide (Name 1 13) (Name 1 44), None) ∷
    -- lt += 1
    (Assign 1 aop.Add (Name 1 54) (Number 1 1 true false 0), None) ∷
    -- plt -= 1
    (Assign 1 aop.Subtract (Name 1 55) (Number 1 1 true false 0), None) ∷
    [])
unfolding layouts_of are_compatible
compound_operand_rows = refl

-- The comma (C17 6.5.17).
comma_operand_rows : AreTyped context (
    -- nothing(), i
    (Comma 1 (Call 1 (Name 1 64) NoArguments) (Name 1 13), Some (Node (IntTy kind.Int) 1 true (typed.Comma (Node VoidTy 1 true (typed.Call 6 NoMore)) (value_of_object (IntTy kind.Int) 6)))) ∷
    -- i, ci
    (Comma 1 (Name 1 13) (Name 1 19), Some (Node (IntTy kind.Int) 1 true (typed.Comma (value_of_object (IntTy kind.Int) 6) (Node (IntTy kind.Int) 1 false (typed.Read (object (ConstOf (IntTy kind.Int)) 12)))))) ∷
    -- node, cnode
    (Comma 1 (Name 1 44) (Name 1 45), Some (Node (StructTag 1) 1 true (typed.Comma (value_of_object (StructTag 1) 37) (Node (StructTag 1) 1 false (typed.Read (object (ConstOf (StructTag 1)) 38)))))) ∷
    -- a, a
    (Comma 1 (Name 1 32) (Name 1 32), Some (Node (PointerTo (IntTy kind.Int)) 1 true (typed.Comma (Node (PointerTo (IntTy kind.Int)) 1 false (typed.ArrayPointer (object (ArrayOf (IntTy kind.Int) (Some 3)) 25))) (Node (PointerTo (IntTy kind.Int)) 1 false (typed.ArrayPointer (object (ArrayOf (IntTy kind.Int) (Some 3)) 25)))))) ∷
    -- 1, nope
    (Comma 1 (Number 1 1 true false 0) (Name 1 106), None) ∷
    -- i, (pi, st)
    (Comma 1 (Name 1 13) (Paren 1 (Comma 1 (Name 1 21) (Name 1 41))), Some (Node (StructTag 0) 1 true (typed.Comma (value_of_object (IntTy kind.Int) 6) (Node (StructTag 0) 1 true (typed.Comma (value_of_object (PointerTo (IntTy kind.Int)) 14) (value_of_object (StructTag 0) 34)))))) ∷
    [])
unfolding layouts_of are_compatible library_named
comma_operand_rows = refl
