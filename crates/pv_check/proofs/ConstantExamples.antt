-- The kinds of constants (C17 6.4.4.1p5), and every spelling of a null pointer constant (6.3.2.3p3) with some that are none, where it is
-- assigned, compared or passed.
use Rattle.std.specs.Prelude.{refl, pos, negsuc, true, false, Some, None, [], ◌∷◌}
use Rattle.pv_num.specs.declared.kinds.IntKind.TheVariants as kind
use Rattle.pv_num.specs.declared.operators.BinOp.TheVariants as arithmetic
use Rattle.pv_num.specs.declared.operators.UnOp.TheVariants as numeric
use Rattle.pv_token.specs.declared.words.Word.TheVariants as word
use Rattle.pv_tree.specs.declared.operators.UnaryOperator.TheVariants as uop
use Rattle.pv_tree.specs.declared.operators.BinaryOperator.TheVariants as bop
use Rattle.pv_tree.specs.declared.operators.AssignOperator.TheVariants as aop
use Rattle.pv_typed.specs.TypedTree as typed
use Rattle.pv_tree.specs.Syntax.{Name, Number, Character, Text, Paren, Call, Unary, SizeofType, Cast, Binary, Conditional, Assign, Comma, NoArguments, Argument, TypeName, AbstractPointer, Keyword, TypedefName, OfDeclarator, OfSpecifier, NoTrees, Then, Absent, Present}
use Rattle.pv_types.specs.Ty.{VoidTy, IntTy, PointerTo, ArrayOf, StructTag, ConstOf}
use Rattle.pv_types.specs.Layouts.{layouts_of}
use Rattle.pv_types.specs.Compatible.{are_compatible}
use Rattle.pv_check.specs.Words.{type_of_words}
use Rattle.pv_library.specs.LibraryNames.{library_named}
use Rattle.pv_typed.specs.TypedTree.{Node, NoArguments as NoMore, MoreArguments as More}
use Rattle.pv_check.proofs.MoreExamples.{context}
use Rattle.pv_check.proofs.ExampleRows.{AreTyped, object, value_of_object, int_constant}

-- The kinds of integer and character constants (C17 6.4.4.1p5, 6.4.4.4p10).
kind_of_constant_rows : AreTyped context (
    -- 2147483647
    (Number 1 2147483647 true false 0, Some (int_constant 2147483647)) ∷
    -- 9223372036854775807
    (Number 1 9223372036854775807 true false 0, Some (Node (IntTy kind.Long) 1 true (typed.Constant (pos 9223372036854775807)))) ∷
    -- 18446744073709551615u
    (Number 1 18446744073709551615 true true 0, Some (Node (IntTy kind.ULong) 1 true (typed.Constant (pos 18446744073709551615)))) ∷
    -- 9223372036854775808
    (Number 1 9223372036854775808 true false 0, None) ∷
    -- -9223372036854775808
    (Unary 1 uop.Minus (Number 1 9223372036854775808 true false 0), None) ∷
    -- 0xffffffff
    (Number 1 4294967295 false false 0, Some (Node (IntTy kind.UInt) 1 true (typed.Constant (pos 4294967295)))) ∷
    -- 0x8000000000000000
    (Number 1 9223372036854775808 false false 0, Some (Node (IntTy kind.ULong) 1 true (typed.Constant (pos 9223372036854775808)))) ∷
    -- 2147483648u
    (Number 1 2147483648 true true 0, Some (Node (IntTy kind.UInt) 1 true (typed.Constant (pos 2147483648)))) ∷
    -- 1l
    (Number 1 1 true false 1, Some (Node (IntTy kind.Long) 1 true (typed.Constant (pos 1)))) ∷
    -- 1ul
    (Number 1 1 true true 1, Some (Node (IntTy kind.ULong) 1 true (typed.Constant (pos 1)))) ∷
    -- 4294967296u
    (Number 1 4294967296 true true 0, Some (Node (IntTy kind.ULong) 1 true (typed.Constant (pos 4294967296)))) ∷
    -- 1ull
    (Number 1 1 true true 2, Some (Node (IntTy kind.ULLong) 1 true (typed.Constant (pos 1)))) ∷
    -- 0777
    (Number 1 511 false false 0, Some (int_constant 511)) ∷
    -- 037777777777
    (Number 1 4294967295 false false 0, Some (Node (IntTy kind.UInt) 1 true (typed.Constant (pos 4294967295)))) ∷
    -- 0xffffffffl
    (Number 1 4294967295 false false 1, Some (Node (IntTy kind.Long) 1 true (typed.Constant (pos 4294967295)))) ∷
    -- '\n'
    (Character 1 (pos 10), Some (int_constant 10)) ∷
    -- '\377'
    (Character 1 (negsuc 0), Some (Node (IntTy kind.Int) 1 true (typed.Constant (negsuc 0)))) ∷
    -- '\0'
    (Character 1 (pos 0), Some (int_constant 0)) ∷
    [])
unfolding layouts_of are_compatible
kind_of_constant_rows = refl

-- Integer constant expressions with the value 0, and what is none, assigned to a pointer (C17 6.3.2.3p3, 6.6p6).
null_integer_rows : AreTyped context (
    -- pi = 0L
    (Assign 1 aop.Assign (Name 1 21) (Number 1 0 false false 1), Some (Node (PointerTo (IntTy kind.Int)) 1 true (typed.Assign (object (PointerTo (IntTy kind.Int)) 14) (Node (PointerTo (IntTy kind.Int)) 1 false (typed.Convert (Node (IntTy kind.Long) 1 true (typed.Constant (pos 0)))))))) ∷
    -- pi = 0u
    (Assign 1 aop.Assign (Name 1 21) (Number 1 0 false true 0), Some (Node (PointerTo (IntTy kind.Int)) 1 true (typed.Assign (object (PointerTo (IntTy kind.Int)) 14) (Node (PointerTo (IntTy kind.Int)) 1 false (typed.Convert (Node (IntTy kind.UInt) 1 true (typed.Constant (pos 0)))))))) ∷
    -- pi = 0ull
    (Assign 1 aop.Assign (Name 1 21) (Number 1 0 false true 2), Some (Node (PointerTo (IntTy kind.Int)) 1 true (typed.Assign (object (PointerTo (IntTy kind.Int)) 14) (Node (PointerTo (IntTy kind.Int)) 1 false (typed.Convert (Node (IntTy kind.ULLong) 1 true (typed.Constant (pos 0)))))))) ∷
    -- pi = 0x0
    (Assign 1 aop.Assign (Name 1 21) (Number 1 0 false false 0), Some (Node (PointerTo (IntTy kind.Int)) 1 true (typed.Assign (object (PointerTo (IntTy kind.Int)) 14) (Node (PointerTo (IntTy kind.Int)) 1 false (typed.Convert (int_constant 0)))))) ∷
    -- pi = 00
    (Assign 1 aop.Assign (Name 1 21) (Number 1 0 false false 0), Some (Node (PointerTo (IntTy kind.Int)) 1 true (typed.Assign (object (PointerTo (IntTy kind.Int)) 14) (Node (PointerTo (IntTy kind.Int)) 1 false (typed.Convert (int_constant 0)))))) ∷
    -- pi = '\0'
    (Assign 1 aop.Assign (Name 1 21) (Character 1 (pos 0)), Some (Node (PointerTo (IntTy kind.Int)) 1 true (typed.Assign (object (PointerTo (IntTy kind.Int)) 14) (Node (PointerTo (IntTy kind.Int)) 1 false (typed.Convert (int_constant 0)))))) ∷
    -- pi = A
    (Assign 1 aop.Assign (Name 1 21) (Name 1 0), Some (Node (PointerTo (IntTy kind.Int)) 1 true (typed.Assign (object (PointerTo (IntTy kind.Int)) 14) (Node (PointerTo (IntTy kind.Int)) 1 false (typed.Convert (int_constant 0)))))) ∷
    -- pi = B
    (Assign 1 aop.Assign (Name 1 21) (Name 1 1), None) ∷
    -- pi = 'a'
    (Assign 1 aop.Assign (Name 1 21) (Character 1 (pos 97)), None) ∷
    -- pi = 1
    (Assign 1 aop.Assign (Name 1 21) (Number 1 1 true false 0), None) ∷
    -- pi = (1 - 1)
    (Assign 1 aop.Assign (Name 1 21) (Paren 1 (Binary 1 bop.Subtract (Number 1 1 true false 0) (Number 1 1 true false 0))), Some (Node (PointerTo (IntTy kind.Int)) 1 true (typed.Assign (object (PointerTo (IntTy kind.Int)) 14) (Node (PointerTo (IntTy kind.Int)) 1 false (typed.Convert (Node (IntTy kind.Int) 1 true (typed.Arithmetic arithmetic.Sub (int_constant 1) (int_constant 1)))))))) ∷
    -- pi = -0
    (Assign 1 aop.Assign (Name 1 21) (Unary 1 uop.Minus (Number 1 0 false false 0)), Some (Node (PointerTo (IntTy kind.Int)) 1 true (typed.Assign (object (PointerTo (IntTy kind.Int)) 14) (Node (PointerTo (IntTy kind.Int)) 1 false (typed.Convert (Node (IntTy kind.Int) 1 true (typed.Unary numeric.Minus (int_constant 0)))))))) ∷
    -- pi = ~-1
    (Assign 1 aop.Assign (Name 1 21) (Unary 1 uop.Complement (Unary 1 uop.Minus (Number 1 1 true false 0))), Some (Node (PointerTo (IntTy kind.Int)) 1 true (typed.Assign (object (PointerTo (IntTy kind.Int)) 14) (Node (PointerTo (IntTy kind.Int)) 1 false (typed.Convert (Node (IntTy kind.Int) 1 true (typed.Unary numeric.Flip (Node (IntTy kind.Int) 1 true (typed.Unary numeric.Minus (int_constant 1)))))))))) ∷
    -- pi = !1
    (Assign 1 aop.Assign (Name 1 21) (Unary 1 uop.Not (Number 1 1 true false 0)), Some (Node (PointerTo (IntTy kind.Int)) 1 true (typed.Assign (object (PointerTo (IntTy kind.Int)) 14) (Node (PointerTo (IntTy kind.Int)) 1 false (typed.Convert (Node (IntTy kind.Int) 1 true (typed.Not (int_constant 1)))))))) ∷
    -- pi = !B
    (Assign 1 aop.Assign (Name 1 21) (Unary 1 uop.Not (Name 1 1)), Some (Node (PointerTo (IntTy kind.Int)) 1 true (typed.Assign (object (PointerTo (IntTy kind.Int)) 14) (Node (PointerTo (IntTy kind.Int)) 1 false (typed.Convert (Node (IntTy kind.Int) 1 true (typed.Not (int_constant 5)))))))) ∷
    -- pi = A * 3
    (Assign 1 aop.Assign (Name 1 21) (Binary 1 bop.Multiply (Name 1 0) (Number 1 3 true false 0)), Some (Node (PointerTo (IntTy kind.Int)) 1 true (typed.Assign (object (PointerTo (IntTy kind.Int)) 14) (Node (PointerTo (IntTy kind.Int)) 1 false (typed.Convert (Node (IntTy kind.Int) 1 true (typed.Arithmetic arithmetic.Mul (int_constant 0) (int_constant 3)))))))) ∷
    -- pi = (char)0
    (Assign 1 aop.Assign (Name 1 21) (Cast 1 (TypeName 1 (Then NoTrees (OfSpecifier (Keyword 1 word.Char))) Absent) (Number 1 0 false false 0)), Some (Node (PointerTo (IntTy kind.Int)) 1 true (typed.Assign (object (PointerTo (IntTy kind.Int)) 14) (Node (PointerTo (IntTy kind.Int)) 1 false (typed.Convert (Node (IntTy kind.Char) 1 true (typed.Cast (int_constant 0)))))))) ∷
    -- pi = (_Bool)0
    (Assign 1 aop.Assign (Name 1 21) (Cast 1 (TypeName 1 (Then NoTrees (OfSpecifier (Keyword 1 word.Bool))) Absent) (Number 1 0 false false 0)), Some (Node (PointerTo (IntTy kind.Int)) 1 true (typed.Assign (object (PointerTo (IntTy kind.Int)) 14) (Node (PointerTo (IntTy kind.Int)) 1 false (typed.Convert (Node (IntTy kind.Bool) 1 true (typed.Cast (int_constant 0)))))))) ∷
    -- pi = (word)0
    (Assign 1 aop.Assign (Name 1 21) (Cast 1 (TypeName 1 (Then NoTrees (OfSpecifier (TypedefName 1 3))) Absent) (Number 1 0 false false 0)), Some (Node (PointerTo (IntTy kind.Int)) 1 true (typed.Assign (object (PointerTo (IntTy kind.Int)) 14) (Node (PointerTo (IntTy kind.Int)) 1 false (typed.Convert (Node (IntTy kind.Int) 1 true (typed.Cast (int_constant 0)))))))) ∷
    -- pi = (unsigned char)256
    (Assign 1 aop.Assign (Name 1 21) (Cast 1 (TypeName 1 (Then (Then NoTrees (OfSpecifier (Keyword 1 word.Unsigned))) (OfSpecifier (Keyword 1 word.Char))) Absent) (Number 1 256 true false 0)), Some (Node (PointerTo (IntTy kind.Int)) 1 true (typed.Assign (object (PointerTo (IntTy kind.Int)) 14) (Node (PointerTo (IntTy kind.Int)) 1 false (typed.Convert (Node (IntTy kind.UChar) 1 true (typed.Cast (int_constant 256)))))))) ∷
    -- pi = (long)A
    (Assign 1 aop.Assign (Name 1 21) (Cast 1 (TypeName 1 (Then NoTrees (OfSpecifier (Keyword 1 word.Long))) Absent) (Name 1 0)), Some (Node (PointerTo (IntTy kind.Int)) 1 true (typed.Assign (object (PointerTo (IntTy kind.Int)) 14) (Node (PointerTo (IntTy kind.Int)) 1 false (typed.Convert (Node (IntTy kind.Long) 1 true (typed.Cast (int_constant 0)))))))) ∷
    -- pi = 0 && 1
    (Assign 1 aop.Assign (Name 1 21) (Binary 1 bop.LogicalAnd (Number 1 0 false false 0) (Number 1 1 true false 0)), Some (Node (PointerTo (IntTy kind.Int)) 1 true (typed.Assign (object (PointerTo (IntTy kind.Int)) 14) (Node (PointerTo (IntTy kind.Int)) 1 false (typed.Convert (Node (IntTy kind.Int) 1 true (typed.LogicalAnd (int_constant 0) (int_constant 1)))))))) ∷
    -- pi = 0 && 1 / 0
    (Assign 1 aop.Assign (Name 1 21) (Binary 1 bop.LogicalAnd (Number 1 0 false false 0) (Binary 1 bop.Divide (Number 1 1 true false 0) (Number 1 0 false false 0))), Some (Node (PointerTo (IntTy kind.Int)) 1 true (typed.Assign (object (PointerTo (IntTy kind.Int)) 14) (Node (PointerTo (IntTy kind.Int)) 1 false (typed.Convert (Node (IntTy kind.Int) 1 true (typed.LogicalAnd (int_constant 0) (Node (IntTy kind.Int) 1 true (typed.Arithmetic arithmetic.Div (int_constant 1) (int_constant 0)))))))))) ∷
    -- pi = 1 ? 0 : 1 / 0
    (Assign 1 aop.Assign (Name 1 21) (Conditional 1 (Number 1 1 true false 0) (Number 1 0 false false 0) (Binary 1 bop.Divide (Number 1 1 true false 0) (Number 1 0 false false 0))), Some (Node (PointerTo (IntTy kind.Int)) 1 true (typed.Assign (object (PointerTo (IntTy kind.Int)) 14) (Node (PointerTo (IntTy kind.Int)) 1 false (typed.Convert (Node (IntTy kind.Int) 1 true (typed.Conditional (int_constant 1) (int_constant 0) (Node (IntTy kind.Int) 1 true (typed.Arithmetic arithmetic.Div (int_constant 1) (int_constant 0)))))))))) ∷
    -- pi = 0 || 0
    (Assign 1 aop.Assign (Name 1 21) (Binary 1 bop.LogicalOr (Number 1 0 false false 0) (Number 1 0 false false 0)), Some (Node (PointerTo (IntTy kind.Int)) 1 true (typed.Assign (object (PointerTo (IntTy kind.Int)) 14) (Node (PointerTo (IntTy kind.Int)) 1 false (typed.Convert (Node (IntTy kind.Int) 1 true (typed.LogicalOr (int_constant 0) (int_constant 0)))))))) ∷
    -- pi = 1 / 0
    (Assign 1 aop.Assign (Name 1 21) (Binary 1 bop.Divide (Number 1 1 true false 0) (Number 1 0 false false 0)), None) ∷
    -- pi = 2147483647 + 1 - 2147483647 - 1
    (Assign 1 aop.Assign (Name 1 21) (Binary 1 bop.Subtract (Binary 1 bop.Subtract (Binary 1 bop.Add (Number 1 2147483647 true false 0) (Number 1 1 true false 0)) (Number 1 2147483647 true false 0)) (Number 1 1 true false 0)), None) ∷
    -- pi = sizeof (int) - 4
    (Assign 1 aop.Assign (Name 1 21) (Binary 1 bop.Subtract (SizeofType 1 (TypeName 1 (Then NoTrees (OfSpecifier (Keyword 1 word.Int))) Absent)) (Number 1 4 true false 0)), Some (Node (PointerTo (IntTy kind.Int)) 1 true (typed.Assign (object (PointerTo (IntTy kind.Int)) 14) (Node (PointerTo (IntTy kind.Int)) 1 false (typed.Convert (Node (IntTy kind.ULong) 1 true (typed.Arithmetic arithmetic.Sub (Node (IntTy kind.ULong) 1 true (typed.Sizeof 4)) (Node (IntTy kind.ULong) 1 false (typed.Convert (int_constant 4)))))))))) ∷
    -- pi = 1 == 2
    (Assign 1 aop.Assign (Name 1 21) (Binary 1 bop.Equal (Number 1 1 true false 0) (Number 1 2 true false 0)), Some (Node (PointerTo (IntTy kind.Int)) 1 true (typed.Assign (object (PointerTo (IntTy kind.Int)) 14) (Node (PointerTo (IntTy kind.Int)) 1 false (typed.Convert (Node (IntTy kind.Int) 1 true (typed.Arithmetic arithmetic.Eq (int_constant 1) (int_constant 2)))))))) ∷
    -- pi = 3 > 5u
    (Assign 1 aop.Assign (Name 1 21) (Binary 1 bop.Greater (Number 1 3 true false 0) (Number 1 5 true true 0)), Some (Node (PointerTo (IntTy kind.Int)) 1 true (typed.Assign (object (PointerTo (IntTy kind.Int)) 14) (Node (PointerTo (IntTy kind.Int)) 1 false (typed.Convert (Node (IntTy kind.Int) 1 true (typed.Arithmetic arithmetic.Gt (Node (IntTy kind.UInt) 1 false (typed.Convert (int_constant 3))) (Node (IntTy kind.UInt) 1 true (typed.Constant (pos 5)))))))))) ∷
    -- pi = (0, 0)
    (Assign 1 aop.Assign (Name 1 21) (Paren 1 (Comma 1 (Number 1 0 false false 0) (Number 1 0 false false 0))), None) ∷
    -- pi = ci
    (Assign 1 aop.Assign (Name 1 21) (Name 1 19), None) ∷
    -- pi = i - i
    (Assign 1 aop.Assign (Name 1 21) (Binary 1 bop.Subtract (Name 1 13) (Name 1 13)), None) ∷
    -- pi = A * i
    (Assign 1 aop.Assign (Name 1 21) (Binary 1 bop.Multiply (Name 1 0) (Name 1 13)), None) ∷
    -- pi = fixed()
    (Assign 1 aop.Assign (Name 1 21) (Call 1 (Name 1 61) NoArguments), None) ∷
    [])
unfolding type_of_words layouts_of are_compatible library_named
null_integer_rows = refl

-- Such an expression cast to `void *`, and other casts (C17 6.3.2.3p3).
null_void_pointer_rows : AreTyped context (
    -- pi = (void *)0
    (Assign 1 aop.Assign (Name 1 21) (Cast 1 (TypeName 1 (Then NoTrees (OfSpecifier (Keyword 1 word.Void))) (Present (OfDeclarator (AbstractPointer 1 0 Absent)))) (Number 1 0 false false 0)), Some (Node (PointerTo (IntTy kind.Int)) 1 true (typed.Assign (object (PointerTo (IntTy kind.Int)) 14) (Node (PointerTo (IntTy kind.Int)) 1 false (typed.Convert (Node (PointerTo VoidTy) 1 true (typed.Cast (int_constant 0)))))))) ∷
    -- pi = (void *)A
    (Assign 1 aop.Assign (Name 1 21) (Cast 1 (TypeName 1 (Then NoTrees (OfSpecifier (Keyword 1 word.Void))) (Present (OfDeclarator (AbstractPointer 1 0 Absent)))) (Name 1 0)), Some (Node (PointerTo (IntTy kind.Int)) 1 true (typed.Assign (object (PointerTo (IntTy kind.Int)) 14) (Node (PointerTo (IntTy kind.Int)) 1 false (typed.Convert (Node (PointerTo VoidTy) 1 true (typed.Cast (int_constant 0)))))))) ∷
    -- pi = (void *)'\0'
    (Assign 1 aop.Assign (Name 1 21) (Cast 1 (TypeName 1 (Then NoTrees (OfSpecifier (Keyword 1 word.Void))) (Present (OfDeclarator (AbstractPointer 1 0 Absent)))) (Character 1 (pos 0))), Some (Node (PointerTo (IntTy kind.Int)) 1 true (typed.Assign (object (PointerTo (IntTy kind.Int)) 14) (Node (PointerTo (IntTy kind.Int)) 1 false (typed.Convert (Node (PointerTo VoidTy) 1 true (typed.Cast (int_constant 0)))))))) ∷
    -- pi = (void *)(1 - 1)
    (Assign 1 aop.Assign (Name 1 21) (Cast 1 (TypeName 1 (Then NoTrees (OfSpecifier (Keyword 1 word.Void))) (Present (OfDeclarator (AbstractPointer 1 0 Absent)))) (Paren 1 (Binary 1 bop.Subtract (Number 1 1 true false 0) (Number 1 1 true false 0)))), Some (Node (PointerTo (IntTy kind.Int)) 1 true (typed.Assign (object (PointerTo (IntTy kind.Int)) 14) (Node (PointerTo (IntTy kind.Int)) 1 false (typed.Convert (Node (PointerTo VoidTy) 1 true (typed.Cast (Node (IntTy kind.Int) 1 true (typed.Arithmetic arithmetic.Sub (int_constant 1) (int_constant 1)))))))))) ∷
    -- pi = ((void *)0L)
    (Assign 1 aop.Assign (Name 1 21) (Paren 1 (Cast 1 (TypeName 1 (Then NoTrees (OfSpecifier (Keyword 1 word.Void))) (Present (OfDeclarator (AbstractPointer 1 0 Absent)))) (Number 1 0 false false 1))), Some (Node (PointerTo (IntTy kind.Int)) 1 true (typed.Assign (object (PointerTo (IntTy kind.Int)) 14) (Node (PointerTo (IntTy kind.Int)) 1 false (typed.Convert (Node (PointerTo VoidTy) 1 true (typed.Cast (Node (IntTy kind.Long) 1 true (typed.Constant (pos 0)))))))))) ∷
    -- pi = (const void *)0
    (Assign 1 aop.Assign (Name 1 21) (Cast 1 (TypeName 1 (Then (Then NoTrees (OfSpecifier (Keyword 1 word.Const))) (OfSpecifier (Keyword 1 word.Void))) (Present (OfDeclarator (AbstractPointer 1 0 Absent)))) (Number 1 0 false false 0)), None) ∷
    -- pi = (void *)(void *)0
    (Assign 1 aop.Assign (Name 1 21) (Cast 1 (TypeName 1 (Then NoTrees (OfSpecifier (Keyword 1 word.Void))) (Present (OfDeclarator (AbstractPointer 1 0 Absent)))) (Cast 1 (TypeName 1 (Then NoTrees (OfSpecifier (Keyword 1 word.Void))) (Present (OfDeclarator (AbstractPointer 1 0 Absent)))) (Number 1 0 false false 0))), Some (Node (PointerTo (IntTy kind.Int)) 1 true (typed.Assign (object (PointerTo (IntTy kind.Int)) 14) (Node (PointerTo (IntTy kind.Int)) 1 false (typed.Convert (Node (PointerTo VoidTy) 1 true (typed.Cast (Node (PointerTo VoidTy) 1 true (typed.Cast (int_constant 0)))))))))) ∷
    -- pi = (char *)0
    (Assign 1 aop.Assign (Name 1 21) (Cast 1 (TypeName 1 (Then NoTrees (OfSpecifier (Keyword 1 word.Char))) (Present (OfDeclarator (AbstractPointer 1 0 Absent)))) (Number 1 0 false false 0)), None) ∷
    -- pi = (int *)0
    (Assign 1 aop.Assign (Name 1 21) (Cast 1 (TypeName 1 (Then NoTrees (OfSpecifier (Keyword 1 word.Int))) (Present (OfDeclarator (AbstractPointer 1 0 Absent)))) (Number 1 0 false false 0)), Some (Node (PointerTo (IntTy kind.Int)) 1 true (typed.Assign (object (PointerTo (IntTy kind.Int)) 14) (Node (PointerTo (IntTy kind.Int)) 1 true (typed.Cast (int_constant 0)))))) ∷
    -- pi = (void *)1
    (Assign 1 aop.Assign (Name 1 21) (Cast 1 (TypeName 1 (Then NoTrees (OfSpecifier (Keyword 1 word.Void))) (Present (OfDeclarator (AbstractPointer 1 0 Absent)))) (Number 1 1 true false 0)), Some (Node (PointerTo (IntTy kind.Int)) 1 true (typed.Assign (object (PointerTo (IntTy kind.Int)) 14) (Node (PointerTo (IntTy kind.Int)) 1 false (typed.Convert (Node (PointerTo VoidTy) 1 true (typed.Cast (int_constant 1)))))))) ∷
    -- pui = (void *)1
    (Assign 1 aop.Assign (Name 1 28) (Cast 1 (TypeName 1 (Then NoTrees (OfSpecifier (Keyword 1 word.Void))) (Present (OfDeclarator (AbstractPointer 1 0 Absent)))) (Number 1 1 true false 0)), Some (Node (PointerTo (IntTy kind.UInt)) 1 true (typed.Assign (object (PointerTo (IntTy kind.UInt)) 21) (Node (PointerTo (IntTy kind.UInt)) 1 false (typed.Convert (Node (PointerTo VoidTy) 1 true (typed.Cast (int_constant 1)))))))) ∷
    -- pi = nothing()
    (Assign 1 aop.Assign (Name 1 21) (Call 1 (Name 1 64) NoArguments), None) ∷
    [])
unfolding type_of_words layouts_of are_compatible library_named
null_void_pointer_rows = refl

-- Null pointer constants that are compared, or are operands of a logical operator (C17 6.5.9p2, 6.5.13p2).
compared_null_pointer_rows : AreTyped context (
    -- pi == 0u
    (Binary 1 bop.Equal (Name 1 21) (Number 1 0 false true 0), Some (Node (IntTy kind.Int) 1 true (typed.PointerEquality arithmetic.Eq (value_of_object (PointerTo (IntTy kind.Int)) 14) (Node (PointerTo (IntTy kind.Int)) 1 false (typed.Convert (Node (IntTy kind.UInt) 1 true (typed.Constant (pos 0)))))))) ∷
    -- '\0' == pi
    (Binary 1 bop.Equal (Character 1 (pos 0)) (Name 1 21), Some (Node (IntTy kind.Int) 1 true (typed.PointerEquality arithmetic.Eq (Node (PointerTo (IntTy kind.Int)) 1 false (typed.Convert (int_constant 0))) (value_of_object (PointerTo (IntTy kind.Int)) 14)))) ∷
    -- pi != A
    (Binary 1 bop.NotEqual (Name 1 21) (Name 1 0), Some (Node (IntTy kind.Int) 1 true (typed.PointerEquality arithmetic.Ne (value_of_object (PointerTo (IntTy kind.Int)) 14) (Node (PointerTo (IntTy kind.Int)) 1 false (typed.Convert (int_constant 0)))))) ∷
    -- pi == B
    (Binary 1 bop.Equal (Name 1 21) (Name 1 1), None) ∷
    -- pi == (char *)0
    (Binary 1 bop.Equal (Name 1 21) (Cast 1 (TypeName 1 (Then NoTrees (OfSpecifier (Keyword 1 word.Char))) (Present (OfDeclarator (AbstractPointer 1 0 Absent)))) (Number 1 0 false false 0)), None) ∷
    -- pi == (const void *)0
    (Binary 1 bop.Equal (Name 1 21) (Cast 1 (TypeName 1 (Then (Then NoTrees (OfSpecifier (Keyword 1 word.Const))) (OfSpecifier (Keyword 1 word.Void))) (Present (OfDeclarator (AbstractPointer 1 0 Absent)))) (Number 1 0 false false 0)), Some (Node (IntTy kind.Int) 1 true (typed.PointerEquality arithmetic.Eq (Node (PointerTo (ConstOf VoidTy)) 1 false (typed.Convert (value_of_object (PointerTo (IntTy kind.Int)) 14))) (Node (PointerTo (ConstOf VoidTy)) 1 true (typed.Cast (int_constant 0)))))) ∷
    -- (void *)0 == (void *)0
    (Binary 1 bop.Equal (Cast 1 (TypeName 1 (Then NoTrees (OfSpecifier (Keyword 1 word.Void))) (Present (OfDeclarator (AbstractPointer 1 0 Absent)))) (Number 1 0 false false 0)) (Cast 1 (TypeName 1 (Then NoTrees (OfSpecifier (Keyword 1 word.Void))) (Present (OfDeclarator (AbstractPointer 1 0 Absent)))) (Number 1 0 false false 0)), Some (Node (IntTy kind.Int) 1 true (typed.PointerEquality arithmetic.Eq (Node (PointerTo VoidTy) 1 true (typed.Cast (int_constant 0))) (Node (PointerTo VoidTy) 1 true (typed.Cast (int_constant 0)))))) ∷
    -- 0 == (void *)0
    (Binary 1 bop.Equal (Number 1 0 false false 0) (Cast 1 (TypeName 1 (Then NoTrees (OfSpecifier (Keyword 1 word.Void))) (Present (OfDeclarator (AbstractPointer 1 0 Absent)))) (Number 1 0 false false 0)), Some (Node (IntTy kind.Int) 1 true (typed.PointerEquality arithmetic.Eq (Node (PointerTo VoidTy) 1 false (typed.Convert (int_constant 0))) (Node (PointerTo VoidTy) 1 true (typed.Cast (int_constant 0)))))) ∷
    -- 0 == (char *)0
    (Binary 1 bop.Equal (Number 1 0 false false 0) (Cast 1 (TypeName 1 (Then NoTrees (OfSpecifier (Keyword 1 word.Char))) (Present (OfDeclarator (AbstractPointer 1 0 Absent)))) (Number 1 0 false false 0)), Some (Node (IntTy kind.Int) 1 true (typed.PointerEquality arithmetic.Eq (Node (PointerTo (IntTy kind.Char)) 1 false (typed.Convert (int_constant 0))) (Node (PointerTo (IntTy kind.Char)) 1 true (typed.Cast (int_constant 0)))))) ∷
    -- plt == 0
    (Binary 1 bop.Equal (Name 1 55) (Number 1 0 false false 0), Some (Node (IntTy kind.Int) 1 true (typed.PointerEquality arithmetic.Eq (value_of_object (PointerTo (StructTag 4)) 48) (Node (PointerTo (StructTag 4)) 1 false (typed.Convert (int_constant 0)))))) ∷
    -- pv == 0
    (Binary 1 bop.Equal (Name 1 24) (Number 1 0 false false 0), Some (Node (IntTy kind.Int) 1 true (typed.PointerEquality arithmetic.Eq (value_of_object (PointerTo VoidTy) 17) (Node (PointerTo VoidTy) 1 false (typed.Convert (int_constant 0)))))) ∷
    -- pv == 1
    (Binary 1 bop.Equal (Name 1 24) (Number 1 1 true false 0), None) ∷
    -- pci == pv
    (Binary 1 bop.Equal (Name 1 22) (Name 1 24), Some (Node (IntTy kind.Int) 1 true (typed.PointerEquality arithmetic.Eq (Node (PointerTo VoidTy) 1 false (typed.Convert (value_of_object (PointerTo (ConstOf (IntTy kind.Int))) 15))) (value_of_object (PointerTo VoidTy) 17)))) ∷
    -- pi == pci
    (Binary 1 bop.Equal (Name 1 21) (Name 1 22), Some (Node (IntTy kind.Int) 1 true (typed.PointerEquality arithmetic.Eq (value_of_object (PointerTo (IntTy kind.Int)) 14) (value_of_object (PointerTo (ConstOf (IntTy kind.Int))) 15)))) ∷
    -- ppi == ppci
    (Binary 1 bop.Equal (Name 1 29) (Name 1 30), None) ∷
    -- pa3 == &open
    (Binary 1 bop.Equal (Name 1 38) (Unary 1 uop.Address (Name 1 56)), Some (Node (IntTy kind.Int) 1 true (typed.PointerEquality arithmetic.Eq (value_of_object (PointerTo (ArrayOf (IntTy kind.Int) (Some 3))) 31) (Node (PointerTo (ArrayOf (IntTy kind.Int) None)) 1 true (typed.Address (object (ArrayOf (IntTy kind.Int) None) 49)))))) ∷
    -- pa3 == pa4
    (Binary 1 bop.Equal (Name 1 38) (Name 1 39), None) ∷
    -- pa3 == a
    (Binary 1 bop.Equal (Name 1 38) (Name 1 32), None) ∷
    -- pi < 0
    (Binary 1 bop.Less (Name 1 21) (Number 1 0 false false 0), None) ∷
    -- pi < (void *)0
    (Binary 1 bop.Less (Name 1 21) (Cast 1 (TypeName 1 (Then NoTrees (OfSpecifier (Keyword 1 word.Void))) (Present (OfDeclarator (AbstractPointer 1 0 Absent)))) (Number 1 0 false false 0)), None) ∷
    -- a == 0
    (Binary 1 bop.Equal (Name 1 32) (Number 1 0 false false 0), Some (Node (IntTy kind.Int) 1 true (typed.PointerEquality arithmetic.Eq (Node (PointerTo (IntTy kind.Int)) 1 false (typed.ArrayPointer (object (ArrayOf (IntTy kind.Int) (Some 3)) 25))) (Node (PointerTo (IntTy kind.Int)) 1 false (typed.Convert (int_constant 0)))))) ∷
    -- "abc" == 0
    (Binary 1 bop.Equal (Text 1 4 0) (Number 1 0 false false 0), Some (Node (IntTy kind.Int) 1 true (typed.PointerEquality arithmetic.Eq (Node (PointerTo (IntTy kind.Char)) 1 false (typed.ArrayPointer (Node (ArrayOf (IntTy kind.Char) (Some 4)) 1 true (typed.String 0)))) (Node (PointerTo (IntTy kind.Char)) 1 false (typed.Convert (int_constant 0)))))) ∷
    -- "abc" == "abc"
    (Binary 1 bop.Equal (Text 1 4 0) (Text 1 4 0), Some (Node (IntTy kind.Int) 1 true (typed.PointerEquality arithmetic.Eq (Node (PointerTo (IntTy kind.Char)) 1 false (typed.ArrayPointer (Node (ArrayOf (IntTy kind.Char) (Some 4)) 1 true (typed.String 0)))) (Node (PointerTo (IntTy kind.Char)) 1 false (typed.ArrayPointer (Node (ArrayOf (IntTy kind.Char) (Some 4)) 1 true (typed.String 1))))))) ∷
    -- 0 == node
    (Binary 1 bop.Equal (Number 1 0 false false 0) (Name 1 44), None) ∷
    -- pi && 0
    (Binary 1 bop.LogicalAnd (Name 1 21) (Number 1 0 false false 0), Some (Node (IntTy kind.Int) 1 true (typed.LogicalAnd (value_of_object (PointerTo (IntTy kind.Int)) 14) (int_constant 0)))) ∷
    -- pi || (void *)0
    (Binary 1 bop.LogicalOr (Name 1 21) (Cast 1 (TypeName 1 (Then NoTrees (OfSpecifier (Keyword 1 word.Void))) (Present (OfDeclarator (AbstractPointer 1 0 Absent)))) (Number 1 0 false false 0)), Some (Node (IntTy kind.Int) 1 true (typed.LogicalOr (value_of_object (PointerTo (IntTy kind.Int)) 14) (Node (PointerTo VoidTy) 1 true (typed.Cast (int_constant 0)))))) ∷
    -- !0
    (Unary 1 uop.Not (Number 1 0 false false 0), Some (Node (IntTy kind.Int) 1 true (typed.Not (int_constant 0)))) ∷
    -- !(void *)0
    (Unary 1 uop.Not (Cast 1 (TypeName 1 (Then NoTrees (OfSpecifier (Keyword 1 word.Void))) (Present (OfDeclarator (AbstractPointer 1 0 Absent)))) (Number 1 0 false false 0)), Some (Node (IntTy kind.Int) 1 true (typed.Not (Node (PointerTo VoidTy) 1 true (typed.Cast (int_constant 0)))))) ∷
    [])
unfolding type_of_words layouts_of are_compatible
compared_null_pointer_rows = refl

-- Null pointer constants that are passed or assigned (C17 6.5.2.2p2, 6.5.16.1p1).
passed_null_pointer_rows : AreTyped context (
    -- find(0L)
    (Call 1 (Name 1 65) (Argument NoArguments (Number 1 0 false false 1)), Some (Node (PointerTo (IntTy kind.Int)) 1 true (typed.Call 7 (More (Node (PointerTo (ConstOf (IntTy kind.Int))) 1 false (typed.Convert (Node (IntTy kind.Long) 1 true (typed.Constant (pos 0))))) NoMore)))) ∷
    -- find((void *)0)
    (Call 1 (Name 1 65) (Argument NoArguments (Cast 1 (TypeName 1 (Then NoTrees (OfSpecifier (Keyword 1 word.Void))) (Present (OfDeclarator (AbstractPointer 1 0 Absent)))) (Number 1 0 false false 0))), Some (Node (PointerTo (IntTy kind.Int)) 1 true (typed.Call 7 (More (Node (PointerTo (ConstOf (IntTy kind.Int))) 1 false (typed.Convert (Node (PointerTo VoidTy) 1 true (typed.Cast (int_constant 0))))) NoMore)))) ∷
    -- find((char *)0)
    (Call 1 (Name 1 65) (Argument NoArguments (Cast 1 (TypeName 1 (Then NoTrees (OfSpecifier (Keyword 1 word.Char))) (Present (OfDeclarator (AbstractPointer 1 0 Absent)))) (Number 1 0 false false 0))), None) ∷
    -- find(A)
    (Call 1 (Name 1 65) (Argument NoArguments (Name 1 0)), Some (Node (PointerTo (IntTy kind.Int)) 1 true (typed.Call 7 (More (Node (PointerTo (ConstOf (IntTy kind.Int))) 1 false (typed.Convert (int_constant 0))) NoMore)))) ∷
    -- find(1)
    (Call 1 (Name 1 65) (Argument NoArguments (Number 1 1 true false 0)), None) ∷
    -- bo = (void *)0
    (Assign 1 aop.Assign (Name 1 7) (Cast 1 (TypeName 1 (Then NoTrees (OfSpecifier (Keyword 1 word.Void))) (Present (OfDeclarator (AbstractPointer 1 0 Absent)))) (Number 1 0 false false 0)), Some (Node (IntTy kind.Bool) 1 true (typed.Assign (object (IntTy kind.Bool) 0) (Node (IntTy kind.Bool) 1 false (typed.Convert (Node (PointerTo VoidTy) 1 true (typed.Cast (int_constant 0)))))))) ∷
    -- i = (void *)0
    (Assign 1 aop.Assign (Name 1 13) (Cast 1 (TypeName 1 (Then NoTrees (OfSpecifier (Keyword 1 word.Void))) (Present (OfDeclarator (AbstractPointer 1 0 Absent)))) (Number 1 0 false false 0)), None) ∷
    [])
unfolding type_of_words layouts_of are_compatible library_named
passed_null_pointer_rows = refl
