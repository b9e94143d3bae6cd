-- Binary expressions (C17 6.5.5 to 6.5.14) in one context, with their typed trees, or none.
use Rattle.std.specs.Prelude.{refl, true, false, Some, None, [], ◌∷◌}
use Rattle.pv_num.specs.declared.kinds.IntKind.TheVariants as kind
use Rattle.pv_num.specs.declared.operators.BinOp.TheVariants as arithmetic
use Rattle.pv_token.specs.declared.words.Word.TheVariants as word
use Rattle.pv_tree.specs.declared.operators.UnaryOperator.TheVariants as uop
use Rattle.pv_tree.specs.declared.operators.BinaryOperator.TheVariants as bop
use Rattle.pv_tree.specs.Syntax.{Name, Number, Paren, Index, Unary, Cast, Binary, TypeName, AbstractPointer, Keyword, OfDeclarator, OfSpecifier, NoTrees, Then, Absent, Present}
use Rattle.pv_types.specs.Ty.{VoidTy, IntTy, PointerTo, ArrayOf, ConstOf}
use Rattle.pv_types.specs.Layouts.{layouts_of}
use Rattle.pv_types.specs.Compatible.{are_compatible}
use Rattle.pv_typed.specs.declared.nodes.Sign.TheVariants as sign
use Rattle.pv_typed.specs.TypedTree as typed
use Rattle.pv_typed.specs.TypedTree.{Node}
use Rattle.pv_check.specs.Words.{type_of_words}
use Rattle.pv_library.specs.LibraryNames.{library_named}
use Rattle.pv_check.proofs.ExampleContext.{context}
use Rattle.pv_check.proofs.ExampleRows.{AreTyped, object, value_of_object, int_constant}

-- Operators of two integers: the common type, or each operand promoted in a shift (C17 6.5.5 to 6.5.8, 6.5.10 to 6.5.12).
integer_operator_rows : AreTyped context (
    -- i * ch
    (Binary 1 bop.Multiply (Name 1 9) (Name 1 4), Some (Node (IntTy kind.Int) 1 true (typed.Arithmetic arithmetic.Mul (value_of_object (IntTy kind.Int) 5) (Node (IntTy kind.Int) 1 false (typed.Convert (value_of_object (IntTy kind.Char) 0)))))) ∷
    -- ui + l
    (Binary 1 bop.Add (Name 1 10) (Name 1 11), Some (Node (IntTy kind.Long) 1 true (typed.Arithmetic arithmetic.Add (Node (IntTy kind.Long) 1 false (typed.Convert (value_of_object (IntTy kind.UInt) 6))) (value_of_object (IntTy kind.Long) 7)))) ∷
    -- ul + ll
    (Binary 1 bop.Add (Name 1 12) (Name 1 13), Some (Node (IntTy kind.ULLong) 1 true (typed.Arithmetic arithmetic.Add (Node (IntTy kind.ULLong) 1 false (typed.Convert (value_of_object (IntTy kind.ULong) 8))) (Node (IntTy kind.ULLong) 1 false (typed.Convert (value_of_object (IntTy kind.LLong) 9)))))) ∷
    -- i + ul
    (Binary 1 bop.Add (Name 1 9) (Name 1 12), Some (Node (IntTy kind.ULong) 1 true (typed.Arithmetic arithmetic.Add (Node (IntTy kind.ULong) 1 false (typed.Convert (value_of_object (IntTy kind.Int) 5))) (value_of_object (IntTy kind.ULong) 8)))) ∷
    -- us + us
    (Binary 1 bop.Add (Name 1 8) (Name 1 8), Some (Node (IntTy kind.Int) 1 true (typed.Arithmetic arithmetic.Add (Node (IntTy kind.Int) 1 false (typed.Convert (value_of_object (IntTy kind.UShort) 4))) (Node (IntTy kind.Int) 1 false (typed.Convert (value_of_object (IntTy kind.UShort) 4)))))) ∷
    -- uc << l
    (Binary 1 bop.ShiftLeft (Name 1 6) (Name 1 11), Some (Node (IntTy kind.Int) 1 true (typed.Arithmetic arithmetic.Shl (Node (IntTy kind.Int) 1 false (typed.Convert (value_of_object (IntTy kind.UChar) 2))) (value_of_object (IntTy kind.Long) 7)))) ∷
    -- i << ul
    (Binary 1 bop.ShiftLeft (Name 1 9) (Name 1 12), Some (Node (IntTy kind.Int) 1 true (typed.Arithmetic arithmetic.Shl (value_of_object (IntTy kind.Int) 5) (value_of_object (IntTy kind.ULong) 8)))) ∷
    -- i < ui
    (Binary 1 bop.Less (Name 1 9) (Name 1 10), Some (Node (IntTy kind.Int) 1 true (typed.Arithmetic arithmetic.Lt (Node (IntTy kind.UInt) 1 false (typed.Convert (value_of_object (IntTy kind.Int) 5))) (value_of_object (IntTy kind.UInt) 6)))) ∷
    -- i & ull
    (Binary 1 bop.And (Name 1 9) (Name 1 14), Some (Node (IntTy kind.ULLong) 1 true (typed.Arithmetic arithmetic.And (Node (IntTy kind.ULLong) 1 false (typed.Convert (value_of_object (IntTy kind.Int) 5))) (value_of_object (IntTy kind.ULLong) 10)))) ∷
    -- i ^ 1
    (Binary 1 bop.ExclusiveOr (Name 1 9) (Number 1 1 true false 0), Some (Node (IntTy kind.Int) 1 true (typed.Arithmetic arithmetic.Xor (value_of_object (IntTy kind.Int) 5) (int_constant 1)))) ∷
    -- i | sh
    (Binary 1 bop.Or (Name 1 9) (Name 1 7), Some (Node (IntTy kind.Int) 1 true (typed.Arithmetic arithmetic.Or (value_of_object (IntTy kind.Int) 5) (Node (IntTy kind.Int) 1 false (typed.Convert (value_of_object (IntTy kind.Short) 3)))))) ∷
    [])
unfolding type_of_words layouts_of are_compatible library_named
integer_operator_rows = refl

-- Sums and differences with pointers (C17 6.5.6).
pointer_sum_rows : AreTyped context (
    -- pi + 1
    (Binary 1 bop.Add (Name 1 17) (Number 1 1 true false 0), Some (Node (PointerTo (IntTy kind.Int)) 1 true (typed.PointerSum sign.Plus (value_of_object (PointerTo (IntTy kind.Int)) 13) (int_constant 1)))) ∷
    -- 1 + pi
    (Binary 1 bop.Add (Number 1 1 true false 0) (Name 1 17), Some (Node (PointerTo (IntTy kind.Int)) 1 true (typed.PointerSum sign.Plus (int_constant 1) (value_of_object (PointerTo (IntTy kind.Int)) 13)))) ∷
    -- pi - 1
    (Binary 1 bop.Subtract (Name 1 17) (Number 1 1 true false 0), Some (Node (PointerTo (IntTy kind.Int)) 1 true (typed.PointerSum sign.Minus (value_of_object (PointerTo (IntTy kind.Int)) 13) (int_constant 1)))) ∷
    -- 1 - pi
    (Binary 1 bop.Subtract (Number 1 1 true false 0) (Name 1 17), None) ∷
    -- pi - pci
    (Binary 1 bop.Subtract (Name 1 17) (Name 1 18), Some (Node (IntTy kind.Long) 1 true (typed.PointerDifference (value_of_object (PointerTo (IntTy kind.Int)) 13) (value_of_object (PointerTo (ConstOf (IntTy kind.Int))) 14)))) ∷
    -- pv + 1
    (Binary 1 bop.Add (Name 1 20) (Number 1 1 true false 0), None) ∷
    -- a - pi
    (Binary 1 bop.Subtract (Name 1 24) (Name 1 17), Some (Node (IntTy kind.Long) 1 true (typed.PointerDifference (Node (PointerTo (IntTy kind.Int)) 1 false (typed.ArrayPointer (object (ArrayOf (IntTy kind.Int) (Some 3)) 20))) (value_of_object (PointerTo (IntTy kind.Int)) 13)))) ∷
    [])
unfolding type_of_words layouts_of are_compatible library_named
pointer_sum_rows = refl

-- Orders of pointers (C17 6.5.8).
pointer_order_rows : AreTyped context (
    -- pi < pci
    (Binary 1 bop.Less (Name 1 17) (Name 1 18), Some (Node (IntTy kind.Int) 1 true (typed.PointerOrder arithmetic.Lt (value_of_object (PointerTo (IntTy kind.Int)) 13) (value_of_object (PointerTo (ConstOf (IntTy kind.Int))) 14)))) ∷
    -- pi < pv
    (Binary 1 bop.Less (Name 1 17) (Name 1 20), None) ∷
    -- pv <= pcv
    (Binary 1 bop.LessEqual (Name 1 20) (Name 1 21), Some (Node (IntTy kind.Int) 1 true (typed.PointerOrder arithmetic.Le (value_of_object (PointerTo VoidTy) 16) (value_of_object (PointerTo (ConstOf VoidTy)) 17)))) ∷
    [])
unfolding type_of_words layouts_of are_compatible library_named
pointer_order_rows = refl

-- Equalities of pointers (C17 6.5.9).
pointer_equality_rows : AreTyped context (
    -- pi == pv
    (Binary 1 bop.Equal (Name 1 17) (Name 1 20), Some (Node (IntTy kind.Int) 1 true (typed.PointerEquality arithmetic.Eq (Node (PointerTo VoidTy) 1 false (typed.Convert (value_of_object (PointerTo (IntTy kind.Int)) 13))) (value_of_object (PointerTo VoidTy) 16)))) ∷
    -- pv == pci
    (Binary 1 bop.Equal (Name 1 20) (Name 1 18), Some (Node (IntTy kind.Int) 1 true (typed.PointerEquality arithmetic.Eq (value_of_object (PointerTo VoidTy) 16) (Node (PointerTo VoidTy) 1 false (typed.Convert (value_of_object (PointerTo (ConstOf (IntTy kind.Int))) 14)))))) ∷
    -- pi == 0
    (Binary 1 bop.Equal (Name 1 17) (Number 1 0 false false 0), Some (Node (IntTy kind.Int) 1 true (typed.PointerEquality arithmetic.Eq (value_of_object (PointerTo (IntTy kind.Int)) 13) (Node (PointerTo (IntTy kind.Int)) 1 false (typed.Convert (int_constant 0)))))) ∷
    -- 0 == pi
    (Binary 1 bop.Equal (Number 1 0 false false 0) (Name 1 17), Some (Node (IntTy kind.Int) 1 true (typed.PointerEquality arithmetic.Eq (Node (PointerTo (IntTy kind.Int)) 1 false (typed.Convert (int_constant 0))) (value_of_object (PointerTo (IntTy kind.Int)) 13)))) ∷
    -- pi == (void *)0
    (Binary 1 bop.Equal (Name 1 17) (Cast 1 (TypeName 1 (Then NoTrees (OfSpecifier (Keyword 1 word.Void))) (Present (OfDeclarator (AbstractPointer 1 0 Absent)))) (Number 1 0 false false 0)), Some (Node (IntTy kind.Int) 1 true (typed.PointerEquality arithmetic.Eq (value_of_object (PointerTo (IntTy kind.Int)) 13) (Node (PointerTo (IntTy kind.Int)) 1 false (typed.Convert (Node (PointerTo VoidTy) 1 true (typed.Cast (int_constant 0)))))))) ∷
    -- pi == pc
    (Binary 1 bop.Equal (Name 1 17) (Name 1 22), None) ∷
    -- pi == i
    (Binary 1 bop.Equal (Name 1 17) (Name 1 9), None) ∷
    -- (void *)0 == pv
    (Binary 1 bop.Equal (Cast 1 (TypeName 1 (Then NoTrees (OfSpecifier (Keyword 1 word.Void))) (Present (OfDeclarator (AbstractPointer 1 0 Absent)))) (Number 1 0 false false 0)) (Name 1 20), Some (Node (IntTy kind.Int) 1 true (typed.PointerEquality arithmetic.Eq (Node (PointerTo VoidTy) 1 true (typed.Cast (int_constant 0))) (value_of_object (PointerTo VoidTy) 16)))) ∷
    -- 0 == (void *)0
    (Binary 1 bop.Equal (Number 1 0 false false 0) (Cast 1 (TypeName 1 (Then NoTrees (OfSpecifier (Keyword 1 word.Void))) (Present (OfDeclarator (AbstractPointer 1 0 Absent)))) (Number 1 0 false false 0)), Some (Node (IntTy kind.Int) 1 true (typed.PointerEquality arithmetic.Eq (Node (PointerTo VoidTy) 1 false (typed.Convert (int_constant 0))) (Node (PointerTo VoidTy) 1 true (typed.Cast (int_constant 0)))))) ∷
    -- pi != (1 - 1)
    (Binary 1 bop.NotEqual (Name 1 17) (Paren 1 (Binary 1 bop.Subtract (Number 1 1 true false 0) (Number 1 1 true false 0))), Some (Node (IntTy kind.Int) 1 true (typed.PointerEquality arithmetic.Ne (value_of_object (PointerTo (IntTy kind.Int)) 13) (Node (PointerTo (IntTy kind.Int)) 1 false (typed.Convert (Node (IntTy kind.Int) 1 true (typed.Arithmetic arithmetic.Sub (int_constant 1) (int_constant 1)))))))) ∷
    -- a == &a[0]
    (Binary 1 bop.Equal (Name 1 24) (Unary 1 uop.Address (Index 1 (Name 1 24) (Number 1 0 false false 0))), Some (Node (IntTy kind.Int) 1 true (typed.PointerEquality arithmetic.Eq (Node (PointerTo (IntTy kind.Int)) 1 false (typed.ArrayPointer (object (ArrayOf (IntTy kind.Int) (Some 3)) 20))) (Node (PointerTo (IntTy kind.Int)) 1 true (typed.Address (Node (IntTy kind.Int) 1 false (typed.Subscript (Node (PointerTo (IntTy kind.Int)) 1 false (typed.ArrayPointer (object (ArrayOf (IntTy kind.Int) (Some 3)) 20))) (int_constant 0)))))))) ∷
    [])
unfolding type_of_words layouts_of are_compatible library_named
pointer_equality_rows = refl

-- The operators `&&` and `||` (C17 6.5.13, 6.5.14).
logical_rows : AreTyped context (
    -- pi && i
    (Binary 1 bop.LogicalAnd (Name 1 17) (Name 1 9), Some (Node (IntTy kind.Int) 1 true (typed.LogicalAnd (value_of_object (PointerTo (IntTy kind.Int)) 13) (value_of_object (IntTy kind.Int) 5)))) ∷
    -- st || 1
    (Binary 1 bop.LogicalOr (Name 1 28) (Number 1 1 true false 0), None) ∷
    [])
unfolding type_of_words layouts_of are_compatible library_named
logical_rows = refl
