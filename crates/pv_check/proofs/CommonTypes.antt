-- Of each two kinds of integer, left and right, an operator's typed tree: the promotions and the common type (C17 6.3.1.1p2, 6.3.1.8p1).
use Rattle.std.specs.Prelude.{refl, true, false, Some, [], ◌∷◌}
use Rattle.pv_num.specs.declared.kinds.IntKind.TheVariants as kind
use Rattle.pv_num.specs.declared.operators.BinOp.TheVariants as arithmetic
use Rattle.pv_tree.specs.declared.operators.BinaryOperator.TheVariants as bop
use Rattle.pv_typed.specs.TypedTree as typed
use Rattle.pv_tree.specs.Syntax.{Name, Binary}
use Rattle.pv_types.specs.Ty.{IntTy}
use Rattle.pv_types.specs.Layouts.{layouts_of}
use Rattle.pv_types.specs.Compatible.{are_compatible}
use Rattle.pv_typed.specs.TypedTree.{Node}
use Rattle.pv_check.proofs.MoreExamples.{context}
use Rattle.pv_check.proofs.ExampleRows.{AreTyped, value_of_object}

-- The left operand is of type `_Bool` (C17 6.3.1.8p1).
common_with_bool_rows : AreTyped context (
    -- bo * bo
    (Binary 1 bop.Multiply (Name 1 7) (Name 1 7), Some (Node (IntTy kind.Int) 1 true (typed.Arithmetic arithmetic.Mul (Node (IntTy kind.Int) 1 false (typed.Convert (value_of_object (IntTy kind.Bool) 0))) (Node (IntTy kind.Int) 1 false (typed.Convert (value_of_object (IntTy kind.Bool) 0)))))) ∷
    -- bo + ch
    (Binary 1 bop.Add (Name 1 7) (Name 1 8), Some (Node (IntTy kind.Int) 1 true (typed.Arithmetic arithmetic.Add (Node (IntTy kind.Int) 1 false (typed.Convert (value_of_object (IntTy kind.Bool) 0))) (Node (IntTy kind.Int) 1 false (typed.Convert (value_of_object (IntTy kind.Char) 1)))))) ∷
    -- bo - sc
    (Binary 1 bop.Subtract (Name 1 7) (Name 1 9), Some (Node (IntTy kind.Int) 1 true (typed.Arithmetic arithmetic.Sub (Node (IntTy kind.Int) 1 false (typed.Convert (value_of_object (IntTy kind.Bool) 0))) (Node (IntTy kind.Int) 1 false (typed.Convert (value_of_object (IntTy kind.SChar) 2)))))) ∷
    -- bo / uc
    (Binary 1 bop.Divide (Name 1 7) (Name 1 10), Some (Node (IntTy kind.Int) 1 true (typed.Arithmetic arithmetic.Div (Node (IntTy kind.Int) 1 false (typed.Convert (value_of_object (IntTy kind.Bool) 0))) (Node (IntTy kind.Int) 1 false (typed.Convert (value_of_object (IntTy kind.UChar) 3)))))) ∷
    -- bo % sh
    (Binary 1 bop.Remainder (Name 1 7) (Name 1 11), Some (Node (IntTy kind.Int) 1 true (typed.Arithmetic arithmetic.Rem (Node (IntTy kind.Int) 1 false (typed.Convert (value_of_object (IntTy kind.Bool) 0))) (Node (IntTy kind.Int) 1 false (typed.Convert (value_of_object (IntTy kind.Short) 4)))))) ∷
    -- bo & us
    (Binary 1 bop.And (Name 1 7) (Name 1 12), Some (Node (IntTy kind.Int) 1 true (typed.Arithmetic arithmetic.And (Node (IntTy kind.Int) 1 false (typed.Convert (value_of_object (IntTy kind.Bool) 0))) (Node (IntTy kind.Int) 1 false (typed.Convert (value_of_object (IntTy kind.UShort) 5)))))) ∷
    -- bo ^ i
    (Binary 1 bop.ExclusiveOr (Name 1 7) (Name 1 13), Some (Node (IntTy kind.Int) 1 true (typed.Arithmetic arithmetic.Xor (Node (IntTy kind.Int) 1 false (typed.Convert (value_of_object (IntTy kind.Bool) 0))) (value_of_object (IntTy kind.Int) 6)))) ∷
    -- bo | ui
    (Binary 1 bop.Or (Name 1 7) (Name 1 14), Some (Node (IntTy kind.UInt) 1 true (typed.Arithmetic arithmetic.Or (Node (IntTy kind.UInt) 1 false (typed.Convert (value_of_object (IntTy kind.Bool) 0))) (value_of_object (IntTy kind.UInt) 7)))) ∷
    -- bo < l
    (Binary 1 bop.Less (Name 1 7) (Name 1 15), Some (Node (IntTy kind.Int) 1 true (typed.Arithmetic arithmetic.Lt (Node (IntTy kind.Long) 1 false (typed.Convert (value_of_object (IntTy kind.Bool) 0))) (value_of_object (IntTy kind.Long) 8)))) ∷
    -- bo == ul
    (Binary 1 bop.Equal (Name 1 7) (Name 1 16), Some (Node (IntTy kind.Int) 1 true (typed.Arithmetic arithmetic.Eq (Node (IntTy kind.ULong) 1 false (typed.Convert (value_of_object (IntTy kind.Bool) 0))) (value_of_object (IntTy kind.ULong) 9)))) ∷
    -- bo * ll
    (Binary 1 bop.Multiply (Name 1 7) (Name 1 17), Some (Node (IntTy kind.LLong) 1 true (typed.Arithmetic arithmetic.Mul (Node (IntTy kind.LLong) 1 false (typed.Convert (value_of_object (IntTy kind.Bool) 0))) (value_of_object (IntTy kind.LLong) 10)))) ∷
    -- bo + ull
    (Binary 1 bop.Add (Name 1 7) (Name 1 18), Some (Node (IntTy kind.ULLong) 1 true (typed.Arithmetic arithmetic.Add (Node (IntTy kind.ULLong) 1 false (typed.Convert (value_of_object (IntTy kind.Bool) 0))) (value_of_object (IntTy kind.ULLong) 11)))) ∷
    [])
unfolding layouts_of are_compatible
common_with_bool_rows = refl

-- The left operand is of type `char` (C17 6.3.1.8p1).
common_with_char_rows : AreTyped context (
    -- ch - bo
    (Binary 1 bop.Subtract (Name 1 8) (Name 1 7), Some (Node (IntTy kind.Int) 1 true (typed.Arithmetic arithmetic.Sub (Node (IntTy kind.Int) 1 false (typed.Convert (value_of_object (IntTy kind.Char) 1))) (Node (IntTy kind.Int) 1 false (typed.Convert (value_of_object (IntTy kind.Bool) 0)))))) ∷
    -- ch / ch
    (Binary 1 bop.Divide (Name 1 8) (Name 1 8), Some (Node (IntTy kind.Int) 1 true (typed.Arithmetic arithmetic.Div (Node (IntTy kind.Int) 1 false (typed.Convert (value_of_object (IntTy kind.Char) 1))) (Node (IntTy kind.Int) 1 false (typed.Convert (value_of_object (IntTy kind.Char) 1)))))) ∷
    -- ch % sc
    (Binary 1 bop.Remainder (Name 1 8) (Name 1 9), Some (Node (IntTy kind.Int) 1 true (typed.Arithmetic arithmetic.Rem (Node (IntTy kind.Int) 1 false (typed.Convert (value_of_object (IntTy kind.Char) 1))) (Node (IntTy kind.Int) 1 false (typed.Convert (value_of_object (IntTy kind.SChar) 2)))))) ∷
    -- ch & uc
    (Binary 1 bop.And (Name 1 8) (Name 1 10), Some (Node (IntTy kind.Int) 1 true (typed.Arithmetic arithmetic.And (Node (IntTy kind.Int) 1 false (typed.Convert (value_of_object (IntTy kind.Char) 1))) (Node (IntTy kind.Int) 1 false (typed.Convert (value_of_object (IntTy kind.UChar) 3)))))) ∷
    -- ch ^ sh
    (Binary 1 bop.ExclusiveOr (Name 1 8) (Name 1 11), Some (Node (IntTy kind.Int) 1 true (typed.Arithmetic arithmetic.Xor (Node (IntTy kind.Int) 1 false (typed.Convert (value_of_object (IntTy kind.Char) 1))) (Node (IntTy kind.Int) 1 false (typed.Convert (value_of_object (IntTy kind.Short) 4)))))) ∷
    -- ch | us
    (Binary 1 bop.Or (Name 1 8) (Name 1 12), Some (Node (IntTy kind.Int) 1 true (typed.Arithmetic arithmetic.Or (Node (IntTy kind.Int) 1 false (typed.Convert (value_of_object (IntTy kind.Char) 1))) (Node (IntTy kind.Int) 1 false (typed.Convert (value_of_object (IntTy kind.UShort) 5)))))) ∷
    -- ch < i
    (Binary 1 bop.Less (Name 1 8) (Name 1 13), Some (Node (IntTy kind.Int) 1 true (typed.Arithmetic arithmetic.Lt (Node (IntTy kind.Int) 1 false (typed.Convert (value_of_object (IntTy kind.Char) 1))) (value_of_object (IntTy kind.Int) 6)))) ∷
    -- ch == ui
    (Binary 1 bop.Equal (Name 1 8) (Name 1 14), Some (Node (IntTy kind.Int) 1 true (typed.Arithmetic arithmetic.Eq (Node (IntTy kind.UInt) 1 false (typed.Convert (value_of_object (IntTy kind.Char) 1))) (value_of_object (IntTy kind.UInt) 7)))) ∷
    -- ch * l
    (Binary 1 bop.Multiply (Name 1 8) (Name 1 15), Some (Node (IntTy kind.Long) 1 true (typed.Arithmetic arithmetic.Mul (Node (IntTy kind.Long) 1 false (typed.Convert (value_of_object (IntTy kind.Char) 1))) (value_of_object (IntTy kind.Long) 8)))) ∷
    -- ch + ul
    (Binary 1 bop.Add (Name 1 8) (Name 1 16), Some (Node (IntTy kind.ULong) 1 true (typed.Arithmetic arithmetic.Add (Node (IntTy kind.ULong) 1 false (typed.Convert (value_of_object (IntTy kind.Char) 1))) (value_of_object (IntTy kind.ULong) 9)))) ∷
    -- ch - ll
    (Binary 1 bop.Subtract (Name 1 8) (Name 1 17), Some (Node (IntTy kind.LLong) 1 true (typed.Arithmetic arithmetic.Sub (Node (IntTy kind.LLong) 1 false (typed.Convert (value_of_object (IntTy kind.Char) 1))) (value_of_object (IntTy kind.LLong) 10)))) ∷
    -- ch / ull
    (Binary 1 bop.Divide (Name 1 8) (Name 1 18), Some (Node (IntTy kind.ULLong) 1 true (typed.Arithmetic arithmetic.Div (Node (IntTy kind.ULLong) 1 false (typed.Convert (value_of_object (IntTy kind.Char) 1))) (value_of_object (IntTy kind.ULLong) 11)))) ∷
    [])
unfolding layouts_of are_compatible
common_with_char_rows = refl

-- The left operand is of type `signed char` (C17 6.3.1.8p1).
common_with_signed_char_rows : AreTyped context (
    -- sc % bo
    (Binary 1 bop.Remainder (Name 1 9) (Name 1 7), Some (Node (IntTy kind.Int) 1 true (typed.Arithmetic arithmetic.Rem (Node (IntTy kind.Int) 1 false (typed.Convert (value_of_object (IntTy kind.SChar) 2))) (Node (IntTy kind.Int) 1 false (typed.Convert (value_of_object (IntTy kind.Bool) 0)))))) ∷
    -- sc & ch
    (Binary 1 bop.And (Name 1 9) (Name 1 8), Some (Node (IntTy kind.Int) 1 true (typed.Arithmetic arithmetic.And (Node (IntTy kind.Int) 1 false (typed.Convert (value_of_object (IntTy kind.SChar) 2))) (Node (IntTy kind.Int) 1 false (typed.Convert (value_of_object (IntTy kind.Char) 1)))))) ∷
    -- sc ^ sc
    (Binary 1 bop.ExclusiveOr (Name 1 9) (Name 1 9), Some (Node (IntTy kind.Int) 1 true (typed.Arithmetic arithmetic.Xor (Node (IntTy kind.Int) 1 false (typed.Convert (value_of_object (IntTy kind.SChar) 2))) (Node (IntTy kind.Int) 1 false (typed.Convert (value_of_object (IntTy kind.SChar) 2)))))) ∷
    -- sc | uc
    (Binary 1 bop.Or (Name 1 9) (Name 1 10), Some (Node (IntTy kind.Int) 1 true (typed.Arithmetic arithmetic.Or (Node (IntTy kind.Int) 1 false (typed.Convert (value_of_object (IntTy kind.SChar) 2))) (Node (IntTy kind.Int) 1 false (typed.Convert (value_of_object (IntTy kind.UChar) 3)))))) ∷
    -- sc < sh
    (Binary 1 bop.Less (Name 1 9) (Name 1 11), Some (Node (IntTy kind.Int) 1 true (typed.Arithmetic arithmetic.Lt (Node (IntTy kind.Int) 1 false (typed.Convert (value_of_object (IntTy kind.SChar) 2))) (Node (IntTy kind.Int) 1 false (typed.Convert (value_of_object (IntTy kind.Short) 4)))))) ∷
    -- sc == us
    (Binary 1 bop.Equal (Name 1 9) (Name 1 12), Some (Node (IntTy kind.Int) 1 true (typed.Arithmetic arithmetic.Eq (Node (IntTy kind.Int) 1 false (typed.Convert (value_of_object (IntTy kind.SChar) 2))) (Node (IntTy kind.Int) 1 false (typed.Convert (value_of_object (IntTy kind.UShort) 5)))))) ∷
    -- sc * i
    (Binary 1 bop.Multiply (Name 1 9) (Name 1 13), Some (Node (IntTy kind.Int) 1 true (typed.Arithmetic arithmetic.Mul (Node (IntTy kind.Int) 1 false (typed.Convert (value_of_object (IntTy kind.SChar) 2))) (value_of_object (IntTy kind.Int) 6)))) ∷
    -- sc + ui
    (Binary 1 bop.Add (Name 1 9) (Name 1 14), Some (Node (IntTy kind.UInt) 1 true (typed.Arithmetic arithmetic.Add (Node (IntTy kind.UInt) 1 false (typed.Convert (value_of_object (IntTy kind.SChar) 2))) (value_of_object (IntTy kind.UInt) 7)))) ∷
    -- sc - l
    (Binary 1 bop.Subtract (Name 1 9) (Name 1 15), Some (Node (IntTy kind.Long) 1 true (typed.Arithmetic arithmetic.Sub (Node (IntTy kind.Long) 1 false (typed.Convert (value_of_object (IntTy kind.SChar) 2))) (value_of_object (IntTy kind.Long) 8)))) ∷
    -- sc / ul
    (Binary 1 bop.Divide (Name 1 9) (Name 1 16), Some (Node (IntTy kind.ULong) 1 true (typed.Arithmetic arithmetic.Div (Node (IntTy kind.ULong) 1 false (typed.Convert (value_of_object (IntTy kind.SChar) 2))) (value_of_object (IntTy kind.ULong) 9)))) ∷
    -- sc % ll
    (Binary 1 bop.Remainder (Name 1 9) (Name 1 17), Some (Node (IntTy kind.LLong) 1 true (typed.Arithmetic arithmetic.Rem (Node (IntTy kind.LLong) 1 false (typed.Convert (value_of_object (IntTy kind.SChar) 2))) (value_of_object (IntTy kind.LLong) 10)))) ∷
    -- sc & ull
    (Binary 1 bop.And (Name 1 9) (Name 1 18), Some (Node (IntTy kind.ULLong) 1 true (typed.Arithmetic arithmetic.And (Node (IntTy kind.ULLong) 1 false (typed.Convert (value_of_object (IntTy kind.SChar) 2))) (value_of_object (IntTy kind.ULLong) 11)))) ∷
    [])
unfolding layouts_of are_compatible
common_with_signed_char_rows = refl

-- The left operand is of type `unsigned char` (C17 6.3.1.8p1).
common_with_unsigned_char_rows : AreTyped context (
    -- uc ^ bo
    (Binary 1 bop.ExclusiveOr (Name 1 10) (Name 1 7), Some (Node (IntTy kind.Int) 1 true (typed.Arithmetic arithmetic.Xor (Node (IntTy kind.Int) 1 false (typed.Convert (value_of_object (IntTy kind.UChar) 3))) (Node (IntTy kind.Int) 1 false (typed.Convert (value_of_object (IntTy kind.Bool) 0)))))) ∷
    -- uc | ch
    (Binary 1 bop.Or (Name 1 10) (Name 1 8), Some (Node (IntTy kind.Int) 1 true (typed.Arithmetic arithmetic.Or (Node (IntTy kind.Int) 1 false (typed.Convert (value_of_object (IntTy kind.UChar) 3))) (Node (IntTy kind.Int) 1 false (typed.Convert (value_of_object (IntTy kind.Char) 1)))))) ∷
    -- uc < sc
    (Binary 1 bop.Less (Name 1 10) (Name 1 9), Some (Node (IntTy kind.Int) 1 true (typed.Arithmetic arithmetic.Lt (Node (IntTy kind.Int) 1 false (typed.Convert (value_of_object (IntTy kind.UChar) 3))) (Node (IntTy kind.Int) 1 false (typed.Convert (value_of_object (IntTy kind.SChar) 2)))))) ∷
    -- uc == uc
    (Binary 1 bop.Equal (Name 1 10) (Name 1 10), Some (Node (IntTy kind.Int) 1 true (typed.Arithmetic arithmetic.Eq (Node (IntTy kind.Int) 1 false (typed.Convert (value_of_object (IntTy kind.UChar) 3))) (Node (IntTy kind.Int) 1 false (typed.Convert (value_of_object (IntTy kind.UChar) 3)))))) ∷
    -- uc * sh
    (Binary 1 bop.Multiply (Name 1 10) (Name 1 11), Some (Node (IntTy kind.Int) 1 true (typed.Arithmetic arithmetic.Mul (Node (IntTy kind.Int) 1 false (typed.Convert (value_of_object (IntTy kind.UChar) 3))) (Node (IntTy kind.Int) 1 false (typed.Convert (value_of_object (IntTy kind.Short) 4)))))) ∷
    -- uc + us
    (Binary 1 bop.Add (Name 1 10) (Name 1 12), Some (Node (IntTy kind.Int) 1 true (typed.Arithmetic arithmetic.Add (Node (IntTy kind.Int) 1 false (typed.Convert (value_of_object (IntTy kind.UChar) 3))) (Node (IntTy kind.Int) 1 false (typed.Convert (value_of_object (IntTy kind.UShort) 5)))))) ∷
    -- uc - i
    (Binary 1 bop.Subtract (Name 1 10) (Name 1 13), Some (Node (IntTy kind.Int) 1 true (typed.Arithmetic arithmetic.Sub (Node (IntTy kind.Int) 1 false (typed.Convert (value_of_object (IntTy kind.UChar) 3))) (value_of_object (IntTy kind.Int) 6)))) ∷
    -- uc / ui
    (Binary 1 bop.Divide (Name 1 10) (Name 1 14), Some (Node (IntTy kind.UInt) 1 true (typed.Arithmetic arithmetic.Div (Node (IntTy kind.UInt) 1 false (typed.Convert (value_of_object (IntTy kind.UChar) 3))) (value_of_object (IntTy kind.UInt) 7)))) ∷
    -- uc % l
    (Binary 1 bop.Remainder (Name 1 10) (Name 1 15), Some (Node (IntTy kind.Long) 1 true (typed.Arithmetic arithmetic.Rem (Node (IntTy kind.Long) 1 false (typed.Convert (value_of_object (IntTy kind.UChar) 3))) (value_of_object (IntTy kind.Long) 8)))) ∷
    -- uc & ul
    (Binary 1 bop.And (Name 1 10) (Name 1 16), Some (Node (IntTy kind.ULong) 1 true (typed.Arithmetic arithmetic.And (Node (IntTy kind.ULong) 1 false (typed.Convert (value_of_object (IntTy kind.UChar) 3))) (value_of_object (IntTy kind.ULong) 9)))) ∷
    -- uc ^ ll
    (Binary 1 bop.ExclusiveOr (Name 1 10) (Name 1 17), Some (Node (IntTy kind.LLong) 1 true (typed.Arithmetic arithmetic.Xor (Node (IntTy kind.LLong) 1 false (typed.Convert (value_of_object (IntTy kind.UChar) 3))) (value_of_object (IntTy kind.LLong) 10)))) ∷
    -- uc | ull
    (Binary 1 bop.Or (Name 1 10) (Name 1 18), Some (Node (IntTy kind.ULLong) 1 true (typed.Arithmetic arithmetic.Or (Node (IntTy kind.ULLong) 1 false (typed.Convert (value_of_object (IntTy kind.UChar) 3))) (value_of_object (IntTy kind.ULLong) 11)))) ∷
    [])
unfolding layouts_of are_compatible
common_with_unsigned_char_rows = refl

-- The left operand is of type `short` (C17 6.3.1.8p1).
common_with_short_rows : AreTyped context (
    -- sh < bo
    (Binary 1 bop.Less (Name 1 11) (Name 1 7), Some (Node (IntTy kind.Int) 1 true (typed.Arithmetic arithmetic.Lt (Node (IntTy kind.Int) 1 false (typed.Convert (value_of_object (IntTy kind.Short) 4))) (Node (IntTy kind.Int) 1 false (typed.Convert (value_of_object (IntTy kind.Bool) 0)))))) ∷
    -- sh == ch
    (Binary 1 bop.Equal (Name 1 11) (Name 1 8), Some (Node (IntTy kind.Int) 1 true (typed.Arithmetic arithmetic.Eq (Node (IntTy kind.Int) 1 false (typed.Convert (value_of_object (IntTy kind.Short) 4))) (Node (IntTy kind.Int) 1 false (typed.Convert (value_of_object (IntTy kind.Char) 1)))))) ∷
    -- sh * sc
    (Binary 1 bop.Multiply (Name 1 11) (Name 1 9), Some (Node (IntTy kind.Int) 1 true (typed.Arithmetic arithmetic.Mul (Node (IntTy kind.Int) 1 false (typed.Convert (value_of_object (IntTy kind.Short) 4))) (Node (IntTy kind.Int) 1 false (typed.Convert (value_of_object (IntTy kind.SChar) 2)))))) ∷
    -- sh + uc
    (Binary 1 bop.Add (Name 1 11) (Name 1 10), Some (Node (IntTy kind.Int) 1 true (typed.Arithmetic arithmetic.Add (Node (IntTy kind.Int) 1 false (typed.Convert (value_of_object (IntTy kind.Short) 4))) (Node (IntTy kind.Int) 1 false (typed.Convert (value_of_object (IntTy kind.UChar) 3)))))) ∷
    -- sh - sh
    (Binary 1 bop.Subtract (Name 1 11) (Name 1 11), Some (Node (IntTy kind.Int) 1 true (typed.Arithmetic arithmetic.Sub (Node (IntTy kind.Int) 1 false (typed.Convert (value_of_object (IntTy kind.Short) 4))) (Node (IntTy kind.Int) 1 false (typed.Convert (value_of_object (IntTy kind.Short) 4)))))) ∷
    -- sh / us
    (Binary 1 bop.Divide (Name 1 11) (Name 1 12), Some (Node (IntTy kind.Int) 1 true (typed.Arithmetic arithmetic.Div (Node (IntTy kind.Int) 1 false (typed.Convert (value_of_object (IntTy kind.Short) 4))) (Node (IntTy kind.Int) 1 false (typed.Convert (value_of_object (IntTy kind.UShort) 5)))))) ∷
    -- sh % i
    (Binary 1 bop.Remainder (Name 1 11) (Name 1 13), Some (Node (IntTy kind.Int) 1 true (typed.Arithmetic arithmetic.Rem (Node (IntTy kind.Int) 1 false (typed.Convert (value_of_object (IntTy kind.Short) 4))) (value_of_object (IntTy kind.Int) 6)))) ∷
    -- sh & ui
    (Binary 1 bop.And (Name 1 11) (Name 1 14), Some (Node (IntTy kind.UInt) 1 true (typed.Arithmetic arithmetic.And (Node (IntTy kind.UInt) 1 false (typed.Convert (value_of_object (IntTy kind.Short) 4))) (value_of_object (IntTy kind.UInt) 7)))) ∷
    -- sh ^ l
    (Binary 1 bop.ExclusiveOr (Name 1 11) (Name 1 15), Some (Node (IntTy kind.Long) 1 true (typed.Arithmetic arithmetic.Xor (Node (IntTy kind.Long) 1 false (typed.Convert (value_of_object (IntTy kind.Short) 4))) (value_of_object (IntTy kind.Long) 8)))) ∷
    -- sh | ul
    (Binary 1 bop.Or (Name 1 11) (Name 1 16), Some (Node (IntTy kind.ULong) 1 true (typed.Arithmetic arithmetic.Or (Node (IntTy kind.ULong) 1 false (typed.Convert (value_of_object (IntTy kind.Short) 4))) (value_of_object (IntTy kind.ULong) 9)))) ∷
    -- sh < ll
    (Binary 1 bop.Less (Name 1 11) (Name 1 17), Some (Node (IntTy kind.Int) 1 true (typed.Arithmetic arithmetic.Lt (Node (IntTy kind.LLong) 1 false (typed.Convert (value_of_object (IntTy kind.Short) 4))) (value_of_object (IntTy kind.LLong) 10)))) ∷
    -- sh == ull
    (Binary 1 bop.Equal (Name 1 11) (Name 1 18), Some (Node (IntTy kind.Int) 1 true (typed.Arithmetic arithmetic.Eq (Node (IntTy kind.ULLong) 1 false (typed.Convert (value_of_object (IntTy kind.Short) 4))) (value_of_object (IntTy kind.ULLong) 11)))) ∷
    [])
unfolding layouts_of are_compatible
common_with_short_rows = refl

-- The left operand is of type `unsigned short` (C17 6.3.1.8p1).
common_with_unsigned_short_rows : AreTyped context (
    -- us * bo
    (Binary 1 bop.Multiply (Name 1 12) (Name 1 7), Some (Node (IntTy kind.Int) 1 true (typed.Arithmetic arithmetic.Mul (Node (IntTy kind.Int) 1 false (typed.Convert (value_of_object (IntTy kind.UShort) 5))) (Node (IntTy kind.Int) 1 false (typed.Convert (value_of_object (IntTy kind.Bool) 0)))))) ∷
    -- us + ch
    (Binary 1 bop.Add (Name 1 12) (Name 1 8), Some (Node (IntTy kind.Int) 1 true (typed.Arithmetic arithmetic.Add (Node (IntTy kind.Int) 1 false (typed.Convert (value_of_object (IntTy kind.UShort) 5))) (Node (IntTy kind.Int) 1 false (typed.Convert (value_of_object (IntTy kind.Char) 1)))))) ∷
    -- us - sc
    (Binary 1 bop.Subtract (Name 1 12) (Name 1 9), Some (Node (IntTy kind.Int) 1 true (typed.Arithmetic arithmetic.Sub (Node (IntTy kind.Int) 1 false (typed.Convert (value_of_object (IntTy kind.UShort) 5))) (Node (IntTy kind.Int) 1 false (typed.Convert (value_of_object (IntTy kind.SChar) 2)))))) ∷
    -- us / uc
    (Binary 1 bop.Divide (Name 1 12) (Name 1 10), Some (Node (IntTy kind.Int) 1 true (typed.Arithmetic arithmetic.Div (Node (IntTy kind.Int) 1 false (typed.Convert (value_of_object (IntTy kind.UShort) 5))) (Node (IntTy kind.Int) 1 false (typed.Convert (value_of_object (IntTy kind.UChar) 3)))))) ∷
    -- us % sh
    (Binary 1 bop.Remainder (Name 1 12) (Name 1 11), Some (Node (IntTy kind.Int) 1 true (typed.Arithmetic arithmetic.Rem (Node (IntTy kind.Int) 1 false (typed.Convert (value_of_object (IntTy kind.UShort) 5))) (Node (IntTy kind.Int) 1 false (typed.Convert (value_of_object (IntTy kind.Short) 4)))))) ∷
    -- us & us
    (Binary 1 bop.And (Name 1 12) (Name 1 12), Some (Node (IntTy kind.Int) 1 true (typed.Arithmetic arithmetic.And (Node (IntTy kind.Int) 1 false (typed.Convert (value_of_object (IntTy kind.UShort) 5))) (Node (IntTy kind.Int) 1 false (typed.Convert (value_of_object (IntTy kind.UShort) 5)))))) ∷
    -- us ^ i
    (Binary 1 bop.ExclusiveOr (Name 1 12) (Name 1 13), Some (Node (IntTy kind.Int) 1 true (typed.Arithmetic arithmetic.Xor (Node (IntTy kind.Int) 1 false (typed.Convert (value_of_object (IntTy kind.UShort) 5))) (value_of_object (IntTy kind.Int) 6)))) ∷
    -- us | ui
    (Binary 1 bop.Or (Name 1 12) (Name 1 14), Some (Node (IntTy kind.UInt) 1 true (typed.Arithmetic arithmetic.Or (Node (IntTy kind.UInt) 1 false (typed.Convert (value_of_object (IntTy kind.UShort) 5))) (value_of_object (IntTy kind.UInt) 7)))) ∷
    -- us < l
    (Binary 1 bop.Less (Name 1 12) (Name 1 15), Some (Node (IntTy kind.Int) 1 true (typed.Arithmetic arithmetic.Lt (Node (IntTy kind.Long) 1 false (typed.Convert (value_of_object (IntTy kind.UShort) 5))) (value_of_object (IntTy kind.Long) 8)))) ∷
    -- us == ul
    (Binary 1 bop.Equal (Name 1 12) (Name 1 16), Some (Node (IntTy kind.Int) 1 true (typed.Arithmetic arithmetic.Eq (Node (IntTy kind.ULong) 1 false (typed.Convert (value_of_object (IntTy kind.UShort) 5))) (value_of_object (IntTy kind.ULong) 9)))) ∷
    -- us * ll
    (Binary 1 bop.Multiply (Name 1 12) (Name 1 17), Some (Node (IntTy kind.LLong) 1 true (typed.Arithmetic arithmetic.Mul (Node (IntTy kind.LLong) 1 false (typed.Convert (value_of_object (IntTy kind.UShort) 5))) (value_of_object (IntTy kind.LLong) 10)))) ∷
    -- us + ull
    (Binary 1 bop.Add (Name 1 12) (Name 1 18), Some (Node (IntTy kind.ULLong) 1 true (typed.Arithmetic arithmetic.Add (Node (IntTy kind.ULLong) 1 false (typed.Convert (value_of_object (IntTy kind.UShort) 5))) (value_of_object (IntTy kind.ULLong) 11)))) ∷
    [])
unfolding layouts_of are_compatible
common_with_unsigned_short_rows = refl

-- The left operand is of type `int` (C17 6.3.1.8p1).
common_with_int_rows : AreTyped context (
    -- i - bo
    (Binary 1 bop.Subtract (Name 1 13) (Name 1 7), Some (Node (IntTy kind.Int) 1 true (typed.Arithmetic arithmetic.Sub (value_of_object (IntTy kind.Int) 6) (Node (IntTy kind.Int) 1 false (typed.Convert (value_of_object (IntTy kind.Bool) 0)))))) ∷
    -- i / ch
    (Binary 1 bop.Divide (Name 1 13) (Name 1 8), Some (Node (IntTy kind.Int) 1 true (typed.Arithmetic arithmetic.Div (value_of_object (IntTy kind.Int) 6) (Node (IntTy kind.Int) 1 false (typed.Convert (value_of_object (IntTy kind.Char) 1)))))) ∷
    -- i % sc
    (Binary 1 bop.Remainder (Name 1 13) (Name 1 9), Some (Node (IntTy kind.Int) 1 true (typed.Arithmetic arithmetic.Rem (value_of_object (IntTy kind.Int) 6) (Node (IntTy kind.Int) 1 false (typed.Convert (value_of_object (IntTy kind.SChar) 2)))))) ∷
    -- i & uc
    (Binary 1 bop.And (Name 1 13) (Name 1 10), Some (Node (IntTy kind.Int) 1 true (typed.Arithmetic arithmetic.And (value_of_object (IntTy kind.Int) 6) (Node (IntTy kind.Int) 1 false (typed.Convert (value_of_object (IntTy kind.UChar) 3)))))) ∷
    -- i ^ sh
    (Binary 1 bop.ExclusiveOr (Name 1 13) (Name 1 11), Some (Node (IntTy kind.Int) 1 true (typed.Arithmetic arithmetic.Xor (value_of_object (IntTy kind.Int) 6) (Node (IntTy kind.Int) 1 false (typed.Convert (value_of_object (IntTy kind.Short) 4)))))) ∷
    -- i | us
    (Binary 1 bop.Or (Name 1 13) (Name 1 12), Some (Node (IntTy kind.Int) 1 true (typed.Arithmetic arithmetic.Or (value_of_object (IntTy kind.Int) 6) (Node (IntTy kind.Int) 1 false (typed.Convert (value_of_object (IntTy kind.UShort) 5)))))) ∷
    -- i < i
    (Binary 1 bop.Less (Name 1 13) (Name 1 13), Some (Node (IntTy kind.Int) 1 true (typed.Arithmetic arithmetic.Lt (value_of_object (IntTy kind.Int) 6) (value_of_object (IntTy kind.Int) 6)))) ∷
    -- i == ui
    (Binary 1 bop.Equal (Name 1 13) (Name 1 14), Some (Node (IntTy kind.Int) 1 true (typed.Arithmetic arithmetic.Eq (Node (IntTy kind.UInt) 1 false (typed.Convert (value_of_object (IntTy kind.Int) 6))) (value_of_object (IntTy kind.UInt) 7)))) ∷
    -- i * l
    (Binary 1 bop.Multiply (Name 1 13) (Name 1 15), Some (Node (IntTy kind.Long) 1 true (typed.Arithmetic arithmetic.Mul (Node (IntTy kind.Long) 1 false (typed.Convert (value_of_object (IntTy kind.Int) 6))) (value_of_object (IntTy kind.Long) 8)))) ∷
    -- i + ul
    (Binary 1 bop.Add (Name 1 13) (Name 1 16), Some (Node (IntTy kind.ULong) 1 true (typed.Arithmetic arithmetic.Add (Node (IntTy kind.ULong) 1 false (typed.Convert (value_of_object (IntTy kind.Int) 6))) (value_of_object (IntTy kind.ULong) 9)))) ∷
    -- i - ll
    (Binary 1 bop.Subtract (Name 1 13) (Name 1 17), Some (Node (IntTy kind.LLong) 1 true (typed.Arithmetic arithmetic.Sub (Node (IntTy kind.LLong) 1 false (typed.Convert (value_of_object (IntTy kind.Int) 6))) (value_of_object (IntTy kind.LLong) 10)))) ∷
    -- i / ull
    (Binary 1 bop.Divide (Name 1 13) (Name 1 18), Some (Node (IntTy kind.ULLong) 1 true (typed.Arithmetic arithmetic.Div (Node (IntTy kind.ULLong) 1 false (typed.Convert (value_of_object (IntTy kind.Int) 6))) (value_of_object (IntTy kind.ULLong) 11)))) ∷
    [])
unfolding layouts_of are_compatible
common_with_int_rows = refl

-- The left operand is of type `unsigned` (C17 6.3.1.8p1).
common_with_unsigned_int_rows : AreTyped context (
    -- ui % bo
    (Binary 1 bop.Remainder (Name 1 14) (Name 1 7), Some (Node (IntTy kind.UInt) 1 true (typed.Arithmetic arithmetic.Rem (value_of_object (IntTy kind.UInt) 7) (Node (IntTy kind.UInt) 1 false (typed.Convert (value_of_object (IntTy kind.Bool) 0)))))) ∷
    -- ui & ch
    (Binary 1 bop.And (Name 1 14) (Name 1 8), Some (Node (IntTy kind.UInt) 1 true (typed.Arithmetic arithmetic.And (value_of_object (IntTy kind.UInt) 7) (Node (IntTy kind.UInt) 1 false (typed.Convert (value_of_object (IntTy kind.Char) 1)))))) ∷
    -- ui ^ sc
    (Binary 1 bop.ExclusiveOr (Name 1 14) (Name 1 9), Some (Node (IntTy kind.UInt) 1 true (typed.Arithmetic arithmetic.Xor (value_of_object (IntTy kind.UInt) 7) (Node (IntTy kind.UInt) 1 false (typed.Convert (value_of_object (IntTy kind.SChar) 2)))))) ∷
    -- ui | uc
    (Binary 1 bop.Or (Name 1 14) (Name 1 10), Some (Node (IntTy kind.UInt) 1 true (typed.Arithmetic arithmetic.Or (value_of_object (IntTy kind.UInt) 7) (Node (IntTy kind.UInt) 1 false (typed.Convert (value_of_object (IntTy kind.UChar) 3)))))) ∷
    -- ui < sh
    (Binary 1 bop.Less (Name 1 14) (Name 1 11), Some (Node (IntTy kind.Int) 1 true (typed.Arithmetic arithmetic.Lt (value_of_object (IntTy kind.UInt) 7) (Node (IntTy kind.UInt) 1 false (typed.Convert (value_of_object (IntTy kind.Short) 4)))))) ∷
    -- ui == us
    (Binary 1 bop.Equal (Name 1 14) (Name 1 12), Some (Node (IntTy kind.Int) 1 true (typed.Arithmetic arithmetic.Eq (value_of_object (IntTy kind.UInt) 7) (Node (IntTy kind.UInt) 1 false (typed.Convert (value_of_object (IntTy kind.UShort) 5)))))) ∷
    -- ui * i
    (Binary 1 bop.Multiply (Name 1 14) (Name 1 13), Some (Node (IntTy kind.UInt) 1 true (typed.Arithmetic arithmetic.Mul (value_of_object (IntTy kind.UInt) 7) (Node (IntTy kind.UInt) 1 false (typed.Convert (value_of_object (IntTy kind.Int) 6)))))) ∷
    -- ui + ui
    (Binary 1 bop.Add (Name 1 14) (Name 1 14), Some (Node (IntTy kind.UInt) 1 true (typed.Arithmetic arithmetic.Add (value_of_object (IntTy kind.UInt) 7) (value_of_object (IntTy kind.UInt) 7)))) ∷
    -- ui - l
    (Binary 1 bop.Subtract (Name 1 14) (Name 1 15), Some (Node (IntTy kind.Long) 1 true (typed.Arithmetic arithmetic.Sub (Node (IntTy kind.Long) 1 false (typed.Convert (value_of_object (IntTy kind.UInt) 7))) (value_of_object (IntTy kind.Long) 8)))) ∷
    -- ui / ul
    (Binary 1 bop.Divide (Name 1 14) (Name 1 16), Some (Node (IntTy kind.ULong) 1 true (typed.Arithmetic arithmetic.Div (Node (IntTy kind.ULong) 1 false (typed.Convert (value_of_object (IntTy kind.UInt) 7))) (value_of_object (IntTy kind.ULong) 9)))) ∷
    -- ui % ll
    (Binary 1 bop.Remainder (Name 1 14) (Name 1 17), Some (Node (IntTy kind.LLong) 1 true (typed.Arithmetic arithmetic.Rem (Node (IntTy kind.LLong) 1 false (typed.Convert (value_of_object (IntTy kind.UInt) 7))) (value_of_object (IntTy kind.LLong) 10)))) ∷
    -- ui & ull
    (Binary 1 bop.And (Name 1 14) (Name 1 18), Some (Node (IntTy kind.ULLong) 1 true (typed.Arithmetic arithmetic.And (Node (IntTy kind.ULLong) 1 false (typed.Convert (value_of_object (IntTy kind.UInt) 7))) (value_of_object (IntTy kind.ULLong) 11)))) ∷
    [])
unfolding layouts_of are_compatible
common_with_unsigned_int_rows = refl

-- The left operand is of type `long` (C17 6.3.1.8p1).
common_with_long_rows : AreTyped context (
    -- l ^ bo
    (Binary 1 bop.ExclusiveOr (Name 1 15) (Name 1 7), Some (Node (IntTy kind.Long) 1 true (typed.Arithmetic arithmetic.Xor (value_of_object (IntTy kind.Long) 8) (Node (IntTy kind.Long) 1 false (typed.Convert (value_of_object (IntTy kind.Bool) 0)))))) ∷
    -- l | ch
    (Binary 1 bop.Or (Name 1 15) (Name 1 8), Some (Node (IntTy kind.Long) 1 true (typed.Arithmetic arithmetic.Or (value_of_object (IntTy kind.Long) 8) (Node (IntTy kind.Long) 1 false (typed.Convert (value_of_object (IntTy kind.Char) 1)))))) ∷
    -- l < sc
    (Binary 1 bop.Less (Name 1 15) (Name 1 9), Some (Node (IntTy kind.Int) 1 true (typed.Arithmetic arithmetic.Lt (value_of_object (IntTy kind.Long) 8) (Node (IntTy kind.Long) 1 false (typed.Convert (value_of_object (IntTy kind.SChar) 2)))))) ∷
    -- l == uc
    (Binary 1 bop.Equal (Name 1 15) (Name 1 10), Some (Node (IntTy kind.Int) 1 true (typed.Arithmetic arithmetic.Eq (value_of_object (IntTy kind.Long) 8) (Node (IntTy kind.Long) 1 false (typed.Convert (value_of_object (IntTy kind.UChar) 3)))))) ∷
    -- l * sh
    (Binary 1 bop.Multiply (Name 1 15) (Name 1 11), Some (Node (IntTy kind.Long) 1 true (typed.Arithmetic arithmetic.Mul (value_of_object (IntTy kind.Long) 8) (Node (IntTy kind.Long) 1 false (typed.Convert (value_of_object (IntTy kind.Short) 4)))))) ∷
    -- l + us
    (Binary 1 bop.Add (Name 1 15) (Name 1 12), Some (Node (IntTy kind.Long) 1 true (typed.Arithmetic arithmetic.Add (value_of_object (IntTy kind.Long) 8) (Node (IntTy kind.Long) 1 false (typed.Convert (value_of_object (IntTy kind.UShort) 5)))))) ∷
    -- l - i
    (Binary 1 bop.Subtract (Name 1 15) (Name 1 13), Some (Node (IntTy kind.Long) 1 true (typed.Arithmetic arithmetic.Sub (value_of_object (IntTy kind.Long) 8) (Node (IntTy kind.Long) 1 false (typed.Convert (value_of_object (IntTy kind.Int) 6)))))) ∷
    -- l / ui
    (Binary 1 bop.Divide (Name 1 15) (Name 1 14), Some (Node (IntTy kind.Long) 1 true (typed.Arithmetic arithmetic.Div (value_of_object (IntTy kind.Long) 8) (Node (IntTy kind.Long) 1 false (typed.Convert (value_of_object (IntTy kind.UInt) 7)))))) ∷
    -- l % l
    (Binary 1 bop.Remainder (Name 1 15) (Name 1 15), Some (Node (IntTy kind.Long) 1 true (typed.Arithmetic arithmetic.Rem (value_of_object (IntTy kind.Long) 8) (value_of_object (IntTy kind.Long) 8)))) ∷
    -- l & ul
    (Binary 1 bop.And (Name 1 15) (Name 1 16), Some (Node (IntTy kind.ULong) 1 true (typed.Arithmetic arithmetic.And (Node (IntTy kind.ULong) 1 false (typed.Convert (value_of_object (IntTy kind.Long) 8))) (value_of_object (IntTy kind.ULong) 9)))) ∷
    -- l ^ ll
    (Binary 1 bop.ExclusiveOr (Name 1 15) (Name 1 17), Some (Node (IntTy kind.LLong) 1 true (typed.Arithmetic arithmetic.Xor (Node (IntTy kind.LLong) 1 false (typed.Convert (value_of_object (IntTy kind.Long) 8))) (value_of_object (IntTy kind.LLong) 10)))) ∷
    -- l | ull
    (Binary 1 bop.Or (Name 1 15) (Name 1 18), Some (Node (IntTy kind.ULLong) 1 true (typed.Arithmetic arithmetic.Or (Node (IntTy kind.ULLong) 1 false (typed.Convert (value_of_object (IntTy kind.Long) 8))) (value_of_object (IntTy kind.ULLong) 11)))) ∷
    [])
unfolding layouts_of are_compatible
common_with_long_rows = refl

-- The left operand is of type `unsigned long` (C17 6.3.1.8p1).
common_with_unsigned_long_rows : AreTyped context (
    -- ul < bo
    (Binary 1 bop.Less (Name 1 16) (Name 1 7), Some (Node (IntTy kind.Int) 1 true (typed.Arithmetic arithmetic.Lt (value_of_object (IntTy kind.ULong) 9) (Node (IntTy kind.ULong) 1 false (typed.Convert (value_of_object (IntTy kind.Bool) 0)))))) ∷
    -- ul == ch
    (Binary 1 bop.Equal (Name 1 16) (Name 1 8), Some (Node (IntTy kind.Int) 1 true (typed.Arithmetic arithmetic.Eq (value_of_object (IntTy kind.ULong) 9) (Node (IntTy kind.ULong) 1 false (typed.Convert (value_of_object (IntTy kind.Char) 1)))))) ∷
    -- ul * sc
    (Binary 1 bop.Multiply (Name 1 16) (Name 1 9), Some (Node (IntTy kind.ULong) 1 true (typed.Arithmetic arithmetic.Mul (value_of_object (IntTy kind.ULong) 9) (Node (IntTy kind.ULong) 1 false (typed.Convert (value_of_object (IntTy kind.SChar) 2)))))) ∷
    -- ul + uc
    (Binary 1 bop.Add (Name 1 16) (Name 1 10), Some (Node (IntTy kind.ULong) 1 true (typed.Arithmetic arithmetic.Add (value_of_object (IntTy kind.ULong) 9) (Node (IntTy kind.ULong) 1 false (typed.Convert (value_of_object (IntTy kind.UChar) 3)))))) ∷
    -- ul - sh
    (Binary 1 bop.Subtract (Name 1 16) (Name 1 11), Some (Node (IntTy kind.ULong) 1 true (typed.Arithmetic arithmetic.Sub (value_of_object (IntTy kind.ULong) 9) (Node (IntTy kind.ULong) 1 false (typed.Convert (value_of_object (IntTy kind.Short) 4)))))) ∷
    -- ul / us
    (Binary 1 bop.Divide (Name 1 16) (Name 1 12), Some (Node (IntTy kind.ULong) 1 true (typed.Arithmetic arithmetic.Div (value_of_object (IntTy kind.ULong) 9) (Node (IntTy kind.ULong) 1 false (typed.Convert (value_of_object (IntTy kind.UShort) 5)))))) ∷
    -- ul % i
    (Binary 1 bop.Remainder (Name 1 16) (Name 1 13), Some (Node (IntTy kind.ULong) 1 true (typed.Arithmetic arithmetic.Rem (value_of_object (IntTy kind.ULong) 9) (Node (IntTy kind.ULong) 1 false (typed.Convert (value_of_object (IntTy kind.Int) 6)))))) ∷
    -- ul & ui
    (Binary 1 bop.And (Name 1 16) (Name 1 14), Some (Node (IntTy kind.ULong) 1 true (typed.Arithmetic arithmetic.And (value_of_object (IntTy kind.ULong) 9) (Node (IntTy kind.ULong) 1 false (typed.Convert (value_of_object (IntTy kind.UInt) 7)))))) ∷
    -- ul ^ l
    (Binary 1 bop.ExclusiveOr (Name 1 16) (Name 1 15), Some (Node (IntTy kind.ULong) 1 true (typed.Arithmetic arithmetic.Xor (value_of_object (IntTy kind.ULong) 9) (Node (IntTy kind.ULong) 1 false (typed.Convert (value_of_object (IntTy kind.Long) 8)))))) ∷
    -- ul | ul
    (Binary 1 bop.Or (Name 1 16) (Name 1 16), Some (Node (IntTy kind.ULong) 1 true (typed.Arithmetic arithmetic.Or (value_of_object (IntTy kind.ULong) 9) (value_of_object (IntTy kind.ULong) 9)))) ∷
    -- ul < ll
    (Binary 1 bop.Less (Name 1 16) (Name 1 17), Some (Node (IntTy kind.Int) 1 true (typed.Arithmetic arithmetic.Lt (Node (IntTy kind.ULLong) 1 false (typed.Convert (value_of_object (IntTy kind.ULong) 9))) (Node (IntTy kind.ULLong) 1 false (typed.Convert (value_of_object (IntTy kind.LLong) 10)))))) ∷
    -- ul == ull
    (Binary 1 bop.Equal (Name 1 16) (Name 1 18), Some (Node (IntTy kind.Int) 1 true (typed.Arithmetic arithmetic.Eq (Node (IntTy kind.ULLong) 1 false (typed.Convert (value_of_object (IntTy kind.ULong) 9))) (value_of_object (IntTy kind.ULLong) 11)))) ∷
    [])
unfolding layouts_of are_compatible
common_with_unsigned_long_rows = refl

-- The left operand is of type `long long` (C17 6.3.1.8p1).
common_with_long_long_rows : AreTyped context (
    -- ll * bo
    (Binary 1 bop.Multiply (Name 1 17) (Name 1 7), Some (Node (IntTy kind.LLong) 1 true (typed.Arithmetic arithmetic.Mul (value_of_object (IntTy kind.LLong) 10) (Node (IntTy kind.LLong) 1 false (typed.Convert (value_of_object (IntTy kind.Bool) 0)))))) ∷
    -- ll + ch
    (Binary 1 bop.Add (Name 1 17) (Name 1 8), Some (Node (IntTy kind.LLong) 1 true (typed.Arithmetic arithmetic.Add (value_of_object (IntTy kind.LLong) 10) (Node (IntTy kind.LLong) 1 false (typed.Convert (value_of_object (IntTy kind.Char) 1)))))) ∷
    -- ll - sc
    (Binary 1 bop.Subtract (Name 1 17) (Name 1 9), Some (Node (IntTy kind.LLong) 1 true (typed.Arithmetic arithmetic.Sub (value_of_object (IntTy kind.LLong) 10) (Node (IntTy kind.LLong) 1 false (typed.Convert (value_of_object (IntTy kind.SChar) 2)))))) ∷
    -- ll / uc
    (Binary 1 bop.Divide (Name 1 17) (Name 1 10), Some (Node (IntTy kind.LLong) 1 true (typed.Arithmetic arithmetic.Div (value_of_object (IntTy kind.LLong) 10) (Node (IntTy kind.LLong) 1 false (typed.Convert (value_of_object (IntTy kind.UChar) 3)))))) ∷
    -- ll % sh
    (Binary 1 bop.Remainder (Name 1 17) (Name 1 11), Some (Node (IntTy kind.LLong) 1 true (typed.Arithmetic arithmetic.Rem (value_of_object (IntTy kind.LLong) 10) (Node (IntTy kind.LLong) 1 false (typed.Convert (value_of_object (IntTy kind.Short) 4)))))) ∷
    -- ll & us
    (Binary 1 bop.And (Name 1 17) (Name 1 12), Some (Node (IntTy kind.LLong) 1 true (typed.Arithmetic arithmetic.And (value_of_object (IntTy kind.LLong) 10) (Node (IntTy kind.LLong) 1 false (typed.Convert (value_of_object (IntTy kind.UShort) 5)))))) ∷
    -- ll ^ i
    (Binary 1 bop.ExclusiveOr (Name 1 17) (Name 1 13), Some (Node (IntTy kind.LLong) 1 true (typed.Arithmetic arithmetic.Xor (value_of_object (IntTy kind.LLong) 10) (Node (IntTy kind.LLong) 1 false (typed.Convert (value_of_object (IntTy kind.Int) 6)))))) ∷
    -- ll | ui
    (Binary 1 bop.Or (Name 1 17) (Name 1 14), Some (Node (IntTy kind.LLong) 1 true (typed.Arithmetic arithmetic.Or (value_of_object (IntTy kind.LLong) 10) (Node (IntTy kind.LLong) 1 false (typed.Convert (value_of_object (IntTy kind.UInt) 7)))))) ∷
    -- ll < l
    (Binary 1 bop.Less (Name 1 17) (Name 1 15), Some (Node (IntTy kind.Int) 1 true (typed.Arithmetic arithmetic.Lt (value_of_object (IntTy kind.LLong) 10) (Node (IntTy kind.LLong) 1 false (typed.Convert (value_of_object (IntTy kind.Long) 8)))))) ∷
    -- ll == ul
    (Binary 1 bop.Equal (Name 1 17) (Name 1 16), Some (Node (IntTy kind.Int) 1 true (typed.Arithmetic arithmetic.Eq (Node (IntTy kind.ULLong) 1 false (typed.Convert (value_of_object (IntTy kind.LLong) 10))) (Node (IntTy kind.ULLong) 1 false (typed.Convert (value_of_object (IntTy kind.ULong) 9)))))) ∷
    -- ll * ll
    (Binary 1 bop.Multiply (Name 1 17) (Name 1 17), Some (Node (IntTy kind.LLong) 1 true (typed.Arithmetic arithmetic.Mul (value_of_object (IntTy kind.LLong) 10) (value_of_object (IntTy kind.LLong) 10)))) ∷
    -- ll + ull
    (Binary 1 bop.Add (Name 1 17) (Name 1 18), Some (Node (IntTy kind.ULLong) 1 true (typed.Arithmetic arithmetic.Add (Node (IntTy kind.ULLong) 1 false (typed.Convert (value_of_object (IntTy kind.LLong) 10))) (value_of_object (IntTy kind.ULLong) 11)))) ∷
    [])
unfolding layouts_of are_compatible
common_with_long_long_rows = refl

-- The left operand is of type `unsigned long long` (C17 6.3.1.8p1).
common_with_unsigned_long_long_rows : AreTyped context (
    -- ull - bo
    (Binary 1 bop.Subtract (Name 1 18) (Name 1 7), Some (Node (IntTy kind.ULLong) 1 true (typed.Arithmetic arithmetic.Sub (value_of_object (IntTy kind.ULLong) 11) (Node (IntTy kind.ULLong) 1 false (typed.Convert (value_of_object (IntTy kind.Bool) 0)))))) ∷
    -- ull / ch
    (Binary 1 bop.Divide (Name 1 18) (Name 1 8), Some (Node (IntTy kind.ULLong) 1 true (typed.Arithmetic arithmetic.Div (value_of_object (IntTy kind.ULLong) 11) (Node (IntTy kind.ULLong) 1 false (typed.Convert (value_of_object (IntTy kind.Char) 1)))))) ∷
    -- ull % sc
    (Binary 1 bop.Remainder (Name 1 18) (Name 1 9), Some (Node (IntTy kind.ULLong) 1 true (typed.Arithmetic arithmetic.Rem (value_of_object (IntTy kind.ULLong) 11) (Node (IntTy kind.ULLong) 1 false (typed.Convert (value_of_object (IntTy kind.SChar) 2)))))) ∷
    -- ull & uc
    (Binary 1 bop.And (Name 1 18) (Name 1 10), Some (Node (IntTy kind.ULLong) 1 true (typed.Arithmetic arithmetic.And (value_of_object (IntTy kind.ULLong) 11) (Node (IntTy kind.ULLong) 1 false (typed.Convert (value_of_object (IntTy kind.UChar) 3)))))) ∷
    -- ull ^ sh
    (Binary 1 bop.ExclusiveOr (Name 1 18) (Name 1 11), Some (Node (IntTy kind.ULLong) 1 true (typed.Arithmetic arithmetic.Xor (value_of_object (IntTy kind.ULLong) 11) (Node (IntTy kind.ULLong) 1 false (typed.Convert (value_of_object (IntTy kind.Short) 4)))))) ∷
    -- ull | us
    (Binary 1 bop.Or (Name 1 18) (Name 1 12), Some (Node (IntTy kind.ULLong) 1 true (typed.Arithmetic arithmetic.Or (value_of_object (IntTy kind.ULLong) 11) (Node (IntTy kind.ULLong) 1 false (typed.Convert (value_of_object (IntTy kind.UShort) 5)))))) ∷
    -- ull < i
    (Binary 1 bop.Less (Name 1 18) (Name 1 13), Some (Node (IntTy kind.Int) 1 true (typed.Arithmetic arithmetic.Lt (value_of_object (IntTy kind.ULLong) 11) (Node (IntTy kind.ULLong) 1 false (typed.Convert (value_of_object (IntTy kind.Int) 6)))))) ∷
    -- ull == ui
    (Binary 1 bop.Equal (Name 1 18) (Name 1 14), Some (Node (IntTy kind.Int) 1 true (typed.Arithmetic arithmetic.Eq (value_of_object (IntTy kind.ULLong) 11) (Node (IntTy kind.ULLong) 1 false (typed.Convert (value_of_object (IntTy kind.UInt) 7)))))) ∷
    -- ull * l
    (Binary 1 bop.Multiply (Name 1 18) (Name 1 15), Some (Node (IntTy kind.ULLong) 1 true (typed.Arithmetic arithmetic.Mul (value_of_object (IntTy kind.ULLong) 11) (Node (IntTy kind.ULLong) 1 false (typed.Convert (value_of_object (IntTy kind.Long) 8)))))) ∷
    -- ull + ul
    (Binary 1 bop.Add (Name 1 18) (Name 1 16), Some (Node (IntTy kind.ULLong) 1 true (typed.Arithmetic arithmetic.Add (value_of_object (IntTy kind.ULLong) 11) (Node (IntTy kind.ULLong) 1 false (typed.Convert (value_of_object (IntTy kind.ULong) 9)))))) ∷
    -- ull - ll
    (Binary 1 bop.Subtract (Name 1 18) (Name 1 17), Some (Node (IntTy kind.ULLong) 1 true (typed.Arithmetic arithmetic.Sub (value_of_object (IntTy kind.ULLong) 11) (Node (IntTy kind.ULLong) 1 false (typed.Convert (value_of_object (IntTy kind.LLong) 10)))))) ∷
    -- ull / ull
    (Binary 1 bop.Divide (Name 1 18) (Name 1 18), Some (Node (IntTy kind.ULLong) 1 true (typed.Arithmetic arithmetic.Div (value_of_object (IntTy kind.ULLong) 11) (value_of_object (IntTy kind.ULLong) 11)))) ∷
    [])
unfolding layouts_of are_compatible
common_with_unsigned_long_long_rows = refl
