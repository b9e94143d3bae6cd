-- Names, constants, postfix and unary expressions, `sizeof` and casts (C17 6.5.1 to 6.5.4) in one context, with their typed trees, or none.
use Rattle.std.specs.Prelude.{refl, pos, true, false, Some, None, [], ◌∷◌}
use Rattle.pv_num.specs.declared.kinds.IntKind.TheVariants as kind
use Rattle.pv_num.specs.declared.operators.UnOp.TheVariants as numeric
use Rattle.pv_token.specs.declared.words.Word.TheVariants as word
use Rattle.pv_tree.specs.declared.operators.UnaryOperator.TheVariants as uop
use Rattle.pv_tree.specs.Syntax.{Name, Number, Character, Text, Paren, Index, Call, Member, Arrow, PostIncrement, PreDecrement, Unary, SizeofExpr, SizeofType, Cast, NoArguments, Argument, TypeName, AbstractParen, AbstractPointer, AbstractArray, Keyword, Tag, TypedefName, OfExpression, OfDeclarator, OfSpecifier, NoTrees, Then, Absent, Present}
use Rattle.pv_types.specs.Ty.{VoidTy, IntTy, PointerTo, ArrayOf, StructTag, ConstOf, FunctionTy, MoreTys, NoTys}
use Rattle.pv_types.specs.Layouts.{layouts_of}
use Rattle.pv_types.specs.Compatible.{are_compatible}
use Rattle.pv_typed.specs.declared.nodes.IncrementOperator.TheVariants as step
use Rattle.pv_typed.specs.TypedTree as typed
use Rattle.pv_typed.specs.TypedTree.{Node, NoArguments as NoMore, MoreArguments as More}
use Rattle.pv_check.specs.Words.{type_of_words}
use Rattle.pv_library.specs.LibraryNames.{library_named}
use Rattle.pv_check.proofs.ExampleContext.{context}
use Rattle.pv_check.proofs.ExampleRows.{AreTyped, object, value_of_object, int_constant}

-- Identifiers, constants, string literals and parentheses (C17 6.5.1, 6.4.4, 6.4.5).
primary_expression_rows : AreTyped context (
    -- i
    (Name 1 9, Some (object (IntTy kind.Int) 5)) ∷
    -- ch
    (Name 1 4, Some (object (IntTy kind.Char) 0)) ∷
    -- C
    (Name 1 2, Some (int_constant 6)) ∷
    -- nope
    (Name 1 55, None) ∷
    -- add
    (Name 1 39, Some (Node (FunctionTy (IntTy kind.Int) (MoreTys (IntTy kind.Int) (MoreTys (IntTy kind.Long) NoTys)) false) 1 true (typed.Function 1))) ∷
    -- 42
    (Number 1 42 true false 0, Some (int_constant 42)) ∷
    -- 2147483648
    (Number 1 2147483648 true false 0, Some (Node (IntTy kind.Long) 1 true (typed.Constant (pos 2147483648)))) ∷
    -- 0x80000000
    (Number 1 2147483648 false false 0, Some (Node (IntTy kind.UInt) 1 true (typed.Constant (pos 2147483648)))) ∷
    -- 4294967296
    (Number 1 4294967296 true false 0, Some (Node (IntTy kind.Long) 1 true (typed.Constant (pos 4294967296)))) ∷
    -- 0xffffffffffffffff
    (Number 1 18446744073709551615 false false 0, Some (Node (IntTy kind.ULong) 1 true (typed.Constant (pos 18446744073709551615)))) ∷
    -- 1u
    (Number 1 1 true true 0, Some (Node (IntTy kind.UInt) 1 true (typed.Constant (pos 1)))) ∷
    -- 1ll
    (Number 1 1 true false 2, Some (Node (IntTy kind.LLong) 1 true (typed.Constant (pos 1)))) ∷
    -- 077777777777u
    (Number 1 8589934591 false true 0, Some (Node (IntTy kind.ULong) 1 true (typed.Constant (pos 8589934591)))) ∷
    -- 'a'
    (Character 1 (pos 97), Some (int_constant 97)) ∷
    -- "abc"
    (Text 1 0 0, Some (Node (ArrayOf (IntTy kind.Char) (Some 4)) 1 true (typed.String 0))) ∷
    -- (i)
    (Paren 1 (Name 1 9), Some (object (IntTy kind.Int) 5)) ∷
    [])
unfolding type_of_words layouts_of are_compatible library_named
primary_expression_rows = refl

-- Array subscripts (C17 6.5.2.1) and members (6.5.2.3).
subscript_and_member_rows : AreTyped context (
    -- a[1]
    (Index 1 (Name 1 24) (Number 1 1 true false 0), Some (Node (IntTy kind.Int) 1 true (typed.Subscript (Node (PointerTo (IntTy kind.Int)) 1 false (typed.ArrayPointer (object (ArrayOf (IntTy kind.Int) (Some 3)) 20))) (int_constant 1)))) ∷
    -- 1[a]
    (Index 1 (Number 1 1 true false 0) (Name 1 24), Some (Node (IntTy kind.Int) 1 true (typed.Subscript (int_constant 1) (Node (PointerTo (IntTy kind.Int)) 1 false (typed.ArrayPointer (object (ArrayOf (IntTy kind.Int) (Some 3)) 20)))))) ∷
    -- m[1][2]
    (Index 1 (Index 1 (Name 1 26) (Number 1 1 true false 0)) (Number 1 2 true false 0), Some (Node (IntTy kind.Int) 1 true (typed.Subscript (Node (PointerTo (IntTy kind.Int)) 1 false (typed.ArrayPointer (Node (ArrayOf (IntTy kind.Int) (Some 3)) 1 true (typed.Subscript (Node (PointerTo (ArrayOf (IntTy kind.Int) (Some 3))) 1 false (typed.ArrayPointer (object (ArrayOf (ArrayOf (IntTy kind.Int) (Some 3)) (Some 2)) 22))) (int_constant 1))))) (int_constant 2)))) ∷
    -- a["x"]
    (Index 1 (Name 1 24) (Text 1 1 0), None) ∷
    -- pv[0]
    (Index 1 (Name 1 20) (Number 1 0 false false 0), None) ∷
    -- plt[0]
    (Index 1 (Name 1 36) (Number 1 0 false false 0), None) ∷
    -- st.a
    (Member 1 (Name 1 28) 24, Some (Node (IntTy kind.Int) 1 true (typed.Member (object (StructTag 0) 24) 0))) ∷
    -- st.b
    (Member 1 (Name 1 28) 50, Some (Node (ArrayOf (IntTy kind.Char) (Some 4)) 1 true (typed.Member (object (StructTag 0) 24) 4))) ∷
    -- cst.a
    (Member 1 (Name 1 29) 24, Some (Node (ConstOf (IntTy kind.Int)) 1 true (typed.Member (object (ConstOf (StructTag 0)) 25) 0))) ∷
    -- cst.b
    (Member 1 (Name 1 29) 50, Some (Node (ArrayOf (ConstOf (IntTy kind.Char)) (Some 4)) 1 true (typed.Member (object (ConstOf (StructTag 0)) 25) 4))) ∷
    -- make(1).x
    (Member 1 (Call 1 (Name 1 38) (Argument NoArguments (Number 1 1 true false 0))) 52, Some (Node (IntTy kind.Int) 1 true (typed.MemberOfValue (Node (StructTag 1) 1 true (typed.Call 0 (More (int_constant 1) NoMore))) 0))) ∷
    -- make(1).next
    (Member 1 (Call 1 (Name 1 38) (Argument NoArguments (Number 1 1 true false 0))) 53, Some (Node (PointerTo (StructTag 1)) 1 true (typed.MemberOfValue (Node (StructTag 1) 1 true (typed.Call 0 (More (int_constant 1) NoMore))) 8))) ∷
    -- st.d
    (Member 1 (Name 1 28) 56, None) ∷
    -- i.a
    (Member 1 (Name 1 9) 24, None) ∷
    -- lt.a
    (Member 1 (Name 1 35) 24, None) ∷
    -- pn->next->x
    (Arrow 1 (Arrow 1 (Name 1 33) 53) 52, Some (Node (IntTy kind.Int) 1 true (typed.Arrow (Node (PointerTo (StructTag 1)) 1 false (typed.Read (Node (PointerTo (StructTag 1)) 1 true (typed.Arrow (value_of_object (PointerTo (StructTag 1)) 29) 8)))) 0))) ∷
    -- pcst->b
    (Arrow 1 (Name 1 31) 50, Some (Node (ArrayOf (ConstOf (IntTy kind.Char)) (Some 4)) 1 true (typed.Arrow (value_of_object (PointerTo (ConstOf (StructTag 0))) 27) 4))) ∷
    -- plt->x
    (Arrow 1 (Name 1 36) 52, None) ∷
    [])
unfolding type_of_words layouts_of are_compatible library_named
subscript_and_member_rows = refl

-- Increments and decrements, behind and before their operand (C17 6.5.2.4, 6.5.3.1).
increment_rows : AreTyped context (
    -- i++
    (PostIncrement 1 (Name 1 9), Some (Node (IntTy kind.Int) 1 true (typed.Increment step.PostIncrement (object (IntTy kind.Int) 5)))) ∷
    -- --pi
    (PreDecrement 1 (Name 1 17), Some (Node (PointerTo (IntTy kind.Int)) 1 true (typed.Increment step.PreDecrement (object (PointerTo (IntTy kind.Int)) 13)))) ∷
    -- st++
    (PostIncrement 1 (Name 1 28), None) ∷
    -- ci++
    (PostIncrement 1 (Name 1 16), None) ∷
    -- cpi++
    (PostIncrement 1 (Name 1 19), None) ∷
    -- pv++
    (PostIncrement 1 (Name 1 20), None) ∷
    [])
unfolding type_of_words layouts_of are_compatible library_named
increment_rows = refl

-- The operators `&` and `*` (C17 6.5.3.2).
address_and_indirection_rows : AreTyped context (
    -- &i
    (Unary 1 uop.Address (Name 1 9), Some (Node (PointerTo (IntTy kind.Int)) 1 true (typed.Address (object (IntTy kind.Int) 5)))) ∷
    -- &a
    (Unary 1 uop.Address (Name 1 24), Some (Node (PointerTo (ArrayOf (IntTy kind.Int) (Some 3))) 1 true (typed.Address (object (ArrayOf (IntTy kind.Int) (Some 3)) 20)))) ∷
    -- &ci
    (Unary 1 uop.Address (Name 1 16), Some (Node (PointerTo (ConstOf (IntTy kind.Int))) 1 true (typed.Address (object (ConstOf (IntTy kind.Int)) 12)))) ∷
    -- &*pi
    (Unary 1 uop.Address (Unary 1 uop.Indirection (Name 1 17)), Some (Node (PointerTo (IntTy kind.Int)) 1 true (typed.Address (Node (IntTy kind.Int) 1 false (typed.Indirection (value_of_object (PointerTo (IntTy kind.Int)) 13)))))) ∷
    -- &a[1]
    (Unary 1 uop.Address (Index 1 (Name 1 24) (Number 1 1 true false 0)), Some (Node (PointerTo (IntTy kind.Int)) 1 true (typed.Address (Node (IntTy kind.Int) 1 false (typed.Subscript (Node (PointerTo (IntTy kind.Int)) 1 false (typed.ArrayPointer (object (ArrayOf (IntTy kind.Int) (Some 3)) 20))) (int_constant 1)))))) ∷
    -- &st.c
    (Unary 1 uop.Address (Member 1 (Name 1 28) 51), Some (Node (PointerTo (ConstOf (IntTy kind.Int))) 1 true (typed.Address (Node (ConstOf (IntTy kind.Int)) 1 true (typed.Member (object (StructTag 0) 24) 8))))) ∷
    -- &1
    (Unary 1 uop.Address (Number 1 1 true false 0), None) ∷
    -- &make(1)
    (Unary 1 uop.Address (Call 1 (Name 1 38) (Argument NoArguments (Number 1 1 true false 0))), None) ∷
    -- *pi
    (Unary 1 uop.Indirection (Name 1 17), Some (Node (IntTy kind.Int) 1 true (typed.Indirection (value_of_object (PointerTo (IntTy kind.Int)) 13)))) ∷
    -- *a
    (Unary 1 uop.Indirection (Name 1 24), Some (Node (IntTy kind.Int) 1 true (typed.Indirection (Node (PointerTo (IntTy kind.Int)) 1 false (typed.ArrayPointer (object (ArrayOf (IntTy kind.Int) (Some 3)) 20)))))) ∷
    -- *pv
    (Unary 1 uop.Indirection (Name 1 20), Some (Node VoidTy 1 true (typed.Indirection (value_of_object (PointerTo VoidTy) 16)))) ∷
    -- *i
    (Unary 1 uop.Indirection (Name 1 9), None) ∷
    -- *pcv
    (Unary 1 uop.Indirection (Name 1 21), Some (Node VoidTy 1 true (typed.Indirection (value_of_object (PointerTo (ConstOf VoidTy)) 17)))) ∷
    [])
unfolding type_of_words layouts_of are_compatible library_named
address_and_indirection_rows = refl

-- The operators `+`, `-`, `~` and `!` (C17 6.5.3.3).
unary_arithmetic_rows : AreTyped context (
    -- -ch
    (Unary 1 uop.Minus (Name 1 4), Some (Node (IntTy kind.Int) 1 true (typed.Unary numeric.Minus (Node (IntTy kind.Int) 1 false (typed.Convert (value_of_object (IntTy kind.Char) 0)))))) ∷
    -- ~us
    (Unary 1 uop.Complement (Name 1 8), Some (Node (IntTy kind.Int) 1 true (typed.Unary numeric.Flip (Node (IntTy kind.Int) 1 false (typed.Convert (value_of_object (IntTy kind.UShort) 4)))))) ∷
    -- !pi
    (Unary 1 uop.Not (Name 1 17), Some (Node (IntTy kind.Int) 1 true (typed.Not (value_of_object (PointerTo (IntTy kind.Int)) 13)))) ∷
    -- !st
    (Unary 1 uop.Not (Name 1 28), None) ∷
    -- +bo
    (Unary 1 uop.Plus (Name 1 15), Some (Node (IntTy kind.Int) 1 true (typed.Unary numeric.Plus (Node (IntTy kind.Int) 1 false (typed.Convert (value_of_object (IntTy kind.Bool) 11)))))) ∷
    [])
unfolding type_of_words layouts_of are_compatible library_named
unary_arithmetic_rows = refl

-- Sizes of expressions and of types (C17 6.5.3.4).
sizeof_rows : AreTyped context (
    -- sizeof i
    (SizeofExpr 1 (Name 1 9), Some (Node (IntTy kind.ULong) 1 true (typed.Sizeof 4))) ∷
    -- sizeof a
    (SizeofExpr 1 (Name 1 24), Some (Node (IntTy kind.ULong) 1 true (typed.Sizeof 12))) ∷
    -- sizeof "abc"
    (SizeofExpr 1 (Text 1 2 0), Some (Node (IntTy kind.ULong) 1 true (typed.Sizeof 4))) ∷
    -- sizeof (int)
    (SizeofType 1 (TypeName 1 (Then NoTrees (OfSpecifier (Keyword 1 word.Int))) Absent), Some (Node (IntTy kind.ULong) 1 true (typed.Sizeof 4))) ∷
    -- sizeof (char[3][4])
    (SizeofType 1 (TypeName 1 (Then NoTrees (OfSpecifier (Keyword 1 word.Char))) (Present (OfDeclarator (AbstractArray 1 (Present (OfDeclarator (AbstractArray 1 Absent (Present (OfExpression (Number 1 3 true false 0)))))) (Present (OfExpression (Number 1 4 true false 0))))))), Some (Node (IntTy kind.ULong) 1 true (typed.Sizeof 12))) ∷
    -- sizeof (struct s)
    (SizeofType 1 (TypeName 1 (Then NoTrees (OfSpecifier (Tag 1 word.Struct 45))) Absent), Some (Node (IntTy kind.ULong) 1 true (typed.Sizeof 12))) ∷
    -- sizeof (struct later)
    (SizeofType 1 (TypeName 1 (Then NoTrees (OfSpecifier (Tag 1 word.Struct 47))) Absent), None) ∷
    -- sizeof (void)
    (SizeofType 1 (TypeName 1 (Then NoTrees (OfSpecifier (Keyword 1 word.Void))) Absent), None) ∷
    -- sizeof open
    (SizeofExpr 1 (Name 1 37), None) ∷
    [])
unfolding type_of_words layouts_of are_compatible library_named
sizeof_rows = refl

-- Casts (C17 6.5.4).
cast_rows : AreTyped context (
    -- (char)i
    (Cast 1 (TypeName 1 (Then NoTrees (OfSpecifier (Keyword 1 word.Char))) Absent) (Name 1 9), Some (Node (IntTy kind.Char) 1 true (typed.Cast (value_of_object (IntTy kind.Int) 5)))) ∷
    -- (void)st
    (Cast 1 (TypeName 1 (Then NoTrees (OfSpecifier (Keyword 1 word.Void))) Absent) (Name 1 28), Some (Node VoidTy 1 true (typed.Cast (value_of_object (StructTag 0) 24)))) ∷
    -- (int *)l
    (Cast 1 (TypeName 1 (Then NoTrees (OfSpecifier (Keyword 1 word.Int))) (Present (OfDeclarator (AbstractPointer 1 0 Absent)))) (Name 1 11), Some (Node (PointerTo (IntTy kind.Int)) 1 true (typed.Cast (value_of_object (IntTy kind.Long) 7)))) ∷
    -- (long)pi
    (Cast 1 (TypeName 1 (Then NoTrees (OfSpecifier (Keyword 1 word.Long))) Absent) (Name 1 17), Some (Node (IntTy kind.Long) 1 true (typed.Cast (value_of_object (PointerTo (IntTy kind.Int)) 13)))) ∷
    -- (struct s)st
    (Cast 1 (TypeName 1 (Then NoTrees (OfSpecifier (Tag 1 word.Struct 45))) Absent) (Name 1 28), None) ∷
    -- (const int)ch
    (Cast 1 (TypeName 1 (Then (Then NoTrees (OfSpecifier (Keyword 1 word.Const))) (OfSpecifier (Keyword 1 word.Int))) Absent) (Name 1 4), Some (Node (IntTy kind.Int) 1 true (typed.Cast (value_of_object (IntTy kind.Char) 0)))) ∷
    -- (word)ul
    (Cast 1 (TypeName 1 (Then NoTrees (OfSpecifier (TypedefName 1 3))) Absent) (Name 1 12), Some (Node (IntTy kind.Int) 1 true (typed.Cast (value_of_object (IntTy kind.ULong) 8)))) ∷
    -- (void *)0
    (Cast 1 (TypeName 1 (Then NoTrees (OfSpecifier (Keyword 1 word.Void))) (Present (OfDeclarator (AbstractPointer 1 0 Absent)))) (Number 1 0 false false 0), Some (Node (PointerTo VoidTy) 1 true (typed.Cast (int_constant 0)))) ∷
    -- (int (*)[3])pv
    (Cast 1 (TypeName 1 (Then NoTrees (OfSpecifier (Keyword 1 word.Int))) (Present (OfDeclarator (AbstractArray 1 (Present (OfDeclarator (AbstractParen 1 (AbstractPointer 1 0 Absent)))) (Present (OfExpression (Number 1 3 true false 0))))))) (Name 1 20), Some (Node (PointerTo (ArrayOf (IntTy kind.Int) (Some 3))) 1 true (typed.Cast (value_of_object (PointerTo VoidTy) 16)))) ∷
    [])
unfolding type_of_words layouts_of are_compatible library_named
cast_rows = refl
