-- Tags and enumerators that a type name declares (C17 6.7.2.2, 6.7.2.3), seen behind it, within `sizeof` and casts; the types that type
-- names name (6.7.7).
use Rattle.std.specs.Prelude.{refl, pos, negsuc, true, false, Some, None, [], ◌∷◌}
use Rattle.pv_num.specs.declared.kinds.IntKind.TheVariants as kind
use Rattle.pv_num.specs.declared.operators.BinOp.TheVariants as arithmetic
use Rattle.pv_token.specs.declared.words.Word.TheVariants as word
use Rattle.pv_tree.specs.declared.operators.UnaryOperator.TheVariants as uop
use Rattle.pv_tree.specs.declared.operators.BinaryOperator.TheVariants as bop
use Rattle.pv_tree.specs.declared.operators.AssignOperator.TheVariants as aop
use Rattle.pv_typed.specs.TypedTree as typed
use Rattle.pv_tree.specs.Syntax.{Name, Number, Character, Paren, Call, Member, Arrow, Unary, SizeofExpr, SizeofType, Cast, Binary, Conditional, Assign, Comma, NoArguments, MemberDeclaration, Enumerator, Parameter, TypeName, DeclaredName, ParenDeclarator, Pointer, Array, FunctionDeclarator, AbstractParen, AbstractPointer, AbstractArray, AbstractFunction, Keyword, Composite, Enumeration, Tag, TypedefName, OfExpression, OfDeclaration, OfDeclarator, OfSpecifier, NoTrees, Then, Absent, Present}
use Rattle.pv_types.specs.Ty.{VoidTy, IntTy, PointerTo, ArrayOf, StructTag, UnionTag, ConstOf}
use Rattle.pv_types.specs.Layouts.{layouts_of}
use Rattle.pv_types.specs.Compatible.{are_compatible}
use Rattle.pv_check.specs.Words.{type_of_words}
use Rattle.pv_library.specs.LibraryNames.{library_named}
use Rattle.pv_typed.specs.TypedTree.{Node}
use Rattle.pv_check.proofs.MoreExamples.{context}
use Rattle.pv_check.proofs.ExampleRows.{AreTyped, value_of_object, int_constant}

-- Enumerators that a type name declares, and where they are seen (C17 6.2.1p7).
declared_enumerator_rows : AreTyped context (
    -- sizeof (enum { Q = 2, R }) + R
    (Binary 1 bop.Add (SizeofType 1 (TypeName 1 (Then NoTrees (OfSpecifier (Enumeration 1 None (Then (Then NoTrees (OfDeclaration (Enumerator 1 107 (Present (OfExpression (Number 1 2 true false 0)))))) (OfDeclaration (Enumerator 1 108 Absent))) false))) Absent)) (Name 1 108), Some (Node (IntTy kind.ULong) 1 true (typed.Arithmetic arithmetic.Add (Node (IntTy kind.ULong) 1 true (typed.Sizeof 4)) (Node (IntTy kind.ULong) 1 false (typed.Convert (int_constant 3)))))) ∷
    -- (enum { Q, R })i + R
    (Binary 1 bop.Add (Cast 1 (TypeName 1 (Then NoTrees (OfSpecifier (Enumeration 1 None (Then (Then NoTrees (OfDeclaration (Enumerator 1 107 Absent))) (OfDeclaration (Enumerator 1 108 Absent))) false))) Absent) (Name 1 13)) (Name 1 108), Some (Node (IntTy kind.Int) 1 true (typed.Arithmetic arithmetic.Add (Node (IntTy kind.Int) 1 true (typed.Cast (value_of_object (IntTy kind.Int) 6))) (int_constant 1)))) ∷
    -- (enum { Q = 7 })Q
    (Cast 1 (TypeName 1 (Then NoTrees (OfSpecifier (Enumeration 1 None (Then NoTrees (OfDeclaration (Enumerator 1 107 (Present (OfExpression (Number 1 7 true false 0)))))) false))) Absent) (Name 1 107), Some (Node (IntTy kind.Int) 1 true (typed.Cast (int_constant 7)))) ∷
    -- Q + sizeof (enum { Q })
    (Binary 1 bop.Add (Name 1 107) (SizeofType 1 (TypeName 1 (Then NoTrees (OfSpecifier (Enumeration 1 None (Then NoTrees (OfDeclaration (Enumerator 1 107 Absent))) false))) Absent)), None) ∷
    -- sizeof (enum { Q = 4 }), Q
    (Comma 1 (SizeofType 1 (TypeName 1 (Then NoTrees (OfSpecifier (Enumeration 1 None (Then NoTrees (OfDeclaration (Enumerator 1 107 (Present (OfExpression (Number 1 4 true false 0)))))) false))) Absent)) (Name 1 107), Some (Node (IntTy kind.Int) 1 true (typed.Comma (Node (IntTy kind.ULong) 1 true (typed.Sizeof 4)) (int_constant 4)))) ∷
    -- i ? sizeof (enum { Q = 1 }) : Q
    (Conditional 1 (Name 1 13) (SizeofType 1 (TypeName 1 (Then NoTrees (OfSpecifier (Enumeration 1 None (Then NoTrees (OfDeclaration (Enumerator 1 107 (Present (OfExpression (Number 1 1 true false 0)))))) false))) Absent)) (Name 1 107), Some (Node (IntTy kind.ULong) 1 true (typed.Conditional (value_of_object (IntTy kind.Int) 6) (Node (IntTy kind.ULong) 1 true (typed.Sizeof 4)) (Node (IntTy kind.ULong) 1 false (typed.Convert (int_constant 1)))))) ∷
    -- i && sizeof (enum { Q = 1 }) && Q
    (Binary 1 bop.LogicalAnd (Binary 1 bop.LogicalAnd (Name 1 13) (SizeofType 1 (TypeName 1 (Then NoTrees (OfSpecifier (Enumeration 1 None (Then NoTrees (OfDeclaration (Enumerator 1 107 (Present (OfExpression (Number 1 1 true false 0)))))) false))) Absent))) (Name 1 107), Some (Node (IntTy kind.Int) 1 true (typed.LogicalAnd (Node (IntTy kind.Int) 1 true (typed.LogicalAnd (value_of_object (IntTy kind.Int) 6) (Node (IntTy kind.ULong) 1 true (typed.Sizeof 4)))) (int_constant 1)))) ∷
    -- sizeof (int[sizeof (enum { Q = 1 }) + Q])
    (SizeofType 1 (TypeName 1 (Then NoTrees (OfSpecifier (Keyword 1 word.Int))) (Present (OfDeclarator (AbstractArray 1 Absent (Present (OfExpression (Binary 1 bop.Add (SizeofType 1 (TypeName 1 (Then NoTrees (OfSpecifier (Enumeration 1 None (Then NoTrees (OfDeclaration (Enumerator 1 107 (Present (OfExpression (Number 1 1 true false 0)))))) false))) Absent)) (Name 1 107)))))))), Some (Node (IntTy kind.ULong) 1 true (typed.Sizeof 20))) ∷
    -- sizeof (int[Q])
    (SizeofType 1 (TypeName 1 (Then NoTrees (OfSpecifier (Keyword 1 word.Int))) (Present (OfDeclarator (AbstractArray 1 Absent (Present (OfExpression (Name 1 107))))))), None) ∷
    -- sizeof (enum { Q = sizeof (enum { R = 3 }), T }) + R + T
    (Binary 1 bop.Add (Binary 1 bop.Add (SizeofType 1 (TypeName 1 (Then NoTrees (OfSpecifier (Enumeration 1 None (Then (Then NoTrees (OfDeclaration (Enumerator 1 107 (Present (OfExpression (SizeofType 1 (TypeName 1 (Then NoTrees (OfSpecifier (Enumeration 1 None (Then NoTrees (OfDeclaration (Enumerator 1 108 (Present (OfExpression (Number 1 3 true false 0)))))) false))) Absent))))))) (OfDeclaration (Enumerator 1 109 Absent))) false))) Absent)) (Name 1 108)) (Name 1 109), Some (Node (IntTy kind.ULong) 1 true (typed.Arithmetic arithmetic.Add (Node (IntTy kind.ULong) 1 true (typed.Arithmetic arithmetic.Add (Node (IntTy kind.ULong) 1 true (typed.Sizeof 4)) (Node (IntTy kind.ULong) 1 false (typed.Convert (int_constant 3))))) (Node (IntTy kind.ULong) 1 false (typed.Convert (int_constant 5)))))) ∷
    [])
unfolding type_of_words layouts_of are_compatible
declared_enumerator_rows = refl

-- The values of enumerators (C17 6.7.2.2p2, p3).
enumerator_value_rows : AreTyped context (
    -- sizeof (enum { Q = -1, R, T }) + T
    (Binary 1 bop.Add (SizeofType 1 (TypeName 1 (Then NoTrees (OfSpecifier (Enumeration 1 None (Then (Then (Then NoTrees (OfDeclaration (Enumerator 1 107 (Present (OfExpression (Unary 1 uop.Minus (Number 1 1 true false 0))))))) (OfDeclaration (Enumerator 1 108 Absent))) (OfDeclaration (Enumerator 1 109 Absent))) false))) Absent)) (Name 1 109), Some (Node (IntTy kind.ULong) 1 true (typed.Arithmetic arithmetic.Add (Node (IntTy kind.ULong) 1 true (typed.Sizeof 4)) (Node (IntTy kind.ULong) 1 false (typed.Convert (int_constant 1)))))) ∷
    -- sizeof (enum { Q, R = Q + 2, T = R * R }) + T
    (Binary 1 bop.Add (SizeofType 1 (TypeName 1 (Then NoTrees (OfSpecifier (Enumeration 1 None (Then (Then (Then NoTrees (OfDeclaration (Enumerator 1 107 Absent))) (OfDeclaration (Enumerator 1 108 (Present (OfExpression (Binary 1 bop.Add (Name 1 107) (Number 1 2 true false 0))))))) (OfDeclaration (Enumerator 1 109 (Present (OfExpression (Binary 1 bop.Multiply (Name 1 108) (Name 1 108))))))) false))) Absent)) (Name 1 109), Some (Node (IntTy kind.ULong) 1 true (typed.Arithmetic arithmetic.Add (Node (IntTy kind.ULong) 1 true (typed.Sizeof 4)) (Node (IntTy kind.ULong) 1 false (typed.Convert (int_constant 4)))))) ∷
    -- sizeof (enum { Q = R, R })
    (SizeofType 1 (TypeName 1 (Then NoTrees (OfSpecifier (Enumeration 1 None (Then (Then NoTrees (OfDeclaration (Enumerator 1 107 (Present (OfExpression (Name 1 108)))))) (OfDeclaration (Enumerator 1 108 Absent))) false))) Absent), None) ∷
    -- sizeof (enum { Q, Q })
    (SizeofType 1 (TypeName 1 (Then NoTrees (OfSpecifier (Enumeration 1 None (Then (Then NoTrees (OfDeclaration (Enumerator 1 107 Absent))) (OfDeclaration (Enumerator 1 107 Absent))) false))) Absent), None) ∷
    -- sizeof (enum { A })
    (SizeofType 1 (TypeName 1 (Then NoTrees (OfSpecifier (Enumeration 1 None (Then NoTrees (OfDeclaration (Enumerator 1 0 Absent))) false))) Absent), None) ∷
    -- sizeof (enum { i })
    (SizeofType 1 (TypeName 1 (Then NoTrees (OfSpecifier (Enumeration 1 None (Then NoTrees (OfDeclaration (Enumerator 1 13 Absent))) false))) Absent), None) ∷
    -- sizeof (enum { add = 1 })
    (SizeofType 1 (TypeName 1 (Then NoTrees (OfSpecifier (Enumeration 1 None (Then NoTrees (OfDeclaration (Enumerator 1 63 (Present (OfExpression (Number 1 1 true false 0)))))) false))) Absent), None) ∷
    -- sizeof (enum { s = 3, p, later }) + later
    (Binary 1 bop.Add (SizeofType 1 (TypeName 1 (Then NoTrees (OfSpecifier (Enumeration 1 None (Then (Then (Then NoTrees (OfDeclaration (Enumerator 1 85 (Present (OfExpression (Number 1 3 true false 0)))))) (OfDeclaration (Enumerator 1 86 Absent))) (OfDeclaration (Enumerator 1 89 Absent))) false))) Absent)) (Name 1 89), Some (Node (IntTy kind.ULong) 1 true (typed.Arithmetic arithmetic.Add (Node (IntTy kind.ULong) 1 true (typed.Sizeof 4)) (Node (IntTy kind.ULong) 1 false (typed.Convert (int_constant 5)))))) ∷
    -- sizeof (enum { Q = 2147483647 })
    (SizeofType 1 (TypeName 1 (Then NoTrees (OfSpecifier (Enumeration 1 None (Then NoTrees (OfDeclaration (Enumerator 1 107 (Present (OfExpression (Number 1 2147483647 true false 0)))))) false))) Absent), Some (Node (IntTy kind.ULong) 1 true (typed.Sizeof 4))) ∷
    -- sizeof (enum { Q = 2147483647, R })
    (SizeofType 1 (TypeName 1 (Then NoTrees (OfSpecifier (Enumeration 1 None (Then (Then NoTrees (OfDeclaration (Enumerator 1 107 (Present (OfExpression (Number 1 2147483647 true false 0)))))) (OfDeclaration (Enumerator 1 108 Absent))) false))) Absent), None) ∷
    -- sizeof (enum { Q = 2147483648 })
    (SizeofType 1 (TypeName 1 (Then NoTrees (OfSpecifier (Enumeration 1 None (Then NoTrees (OfDeclaration (Enumerator 1 107 (Present (OfExpression (Number 1 2147483648 true false 0)))))) false))) Absent), None) ∷
    -- sizeof (enum { Q = -2147483647 - 1 }) + Q
    (Binary 1 bop.Add (SizeofType 1 (TypeName 1 (Then NoTrees (OfSpecifier (Enumeration 1 None (Then NoTrees (OfDeclaration (Enumerator 1 107 (Present (OfExpression (Binary 1 bop.Subtract (Unary 1 uop.Minus (Number 1 2147483647 true false 0)) (Number 1 1 true false 0))))))) false))) Absent)) (Name 1 107), Some (Node (IntTy kind.ULong) 1 true (typed.Arithmetic arithmetic.Add (Node (IntTy kind.ULong) 1 true (typed.Sizeof 4)) (Node (IntTy kind.ULong) 1 false (typed.Convert (Node (IntTy kind.Int) 1 true (typed.Constant (negsuc 2147483647)))))))) ∷
    -- sizeof (enum { Q = i })
    (SizeofType 1 (TypeName 1 (Then NoTrees (OfSpecifier (Enumeration 1 None (Then NoTrees (OfDeclaration (Enumerator 1 107 (Present (OfExpression (Name 1 13)))))) false))) Absent), None) ∷
    -- sizeof (enum { Q = 1 / 0 })
    (SizeofType 1 (TypeName 1 (Then NoTrees (OfSpecifier (Enumeration 1 None (Then NoTrees (OfDeclaration (Enumerator 1 107 (Present (OfExpression (Binary 1 bop.Divide (Number 1 1 true false 0) (Number 1 0 false false 0))))))) false))) Absent), None) ∷
    -- sizeof (enum { Q = 'a' }) + Q
    (Binary 1 bop.Add (SizeofType 1 (TypeName 1 (Then NoTrees (OfSpecifier (Enumeration 1 None (Then NoTrees (OfDeclaration (Enumerator 1 107 (Present (OfExpression (Character 1 (pos 97))))))) false))) Absent)) (Name 1 107), Some (Node (IntTy kind.ULong) 1 true (typed.Arithmetic arithmetic.Add (Node (IntTy kind.ULong) 1 true (typed.Sizeof 4)) (Node (IntTy kind.ULong) 1 false (typed.Convert (int_constant 97)))))) ∷
    -- sizeof (enum { Q = (char)300 }) + Q
    (Binary 1 bop.Add (SizeofType 1 (TypeName 1 (Then NoTrees (OfSpecifier (Enumeration 1 None (Then NoTrees (OfDeclaration (Enumerator 1 107 (Present (OfExpression (Cast 1 (TypeName 1 (Then NoTrees (OfSpecifier (Keyword 1 word.Char))) Absent) (Number 1 300 true false 0))))))) false))) Absent)) (Name 1 107), Some (Node (IntTy kind.ULong) 1 true (typed.Arithmetic arithmetic.Add (Node (IntTy kind.ULong) 1 true (typed.Sizeof 4)) (Node (IntTy kind.ULong) 1 false (typed.Convert (int_constant 44)))))) ∷
    -- sizeof (enum { Q = ci })
    (SizeofType 1 (TypeName 1 (Then NoTrees (OfSpecifier (Enumeration 1 None (Then NoTrees (OfDeclaration (Enumerator 1 107 (Present (OfExpression (Name 1 19)))))) false))) Absent), None) ∷
    -- sizeof (enum { Q = pi })
    (SizeofType 1 (TypeName 1 (Then NoTrees (OfSpecifier (Enumeration 1 None (Then NoTrees (OfDeclaration (Enumerator 1 107 (Present (OfExpression (Name 1 21)))))) false))) Absent), None) ∷
    -- sizeof (enum { Q }) + sizeof (enum { Q })
    (Binary 1 bop.Add (SizeofType 1 (TypeName 1 (Then NoTrees (OfSpecifier (Enumeration 1 None (Then NoTrees (OfDeclaration (Enumerator 1 107 Absent))) false))) Absent)) (SizeofType 1 (TypeName 1 (Then NoTrees (OfSpecifier (Enumeration 1 None (Then NoTrees (OfDeclaration (Enumerator 1 107 Absent))) false))) Absent)), None) ∷
    [])
unfolding type_of_words layouts_of are_compatible
enumerator_value_rows = refl

-- Tags of enumerations (C17 6.7.2.3).
enumeration_tag_rows : AreTyped context (
    -- sizeof (enum z { Q }) + sizeof (enum z)
    (Binary 1 bop.Add (SizeofType 1 (TypeName 1 (Then NoTrees (OfSpecifier (Enumeration 1 (Some 102) (Then NoTrees (OfDeclaration (Enumerator 1 107 Absent))) false))) Absent)) (SizeofType 1 (TypeName 1 (Then NoTrees (OfSpecifier (Tag 1 word.Enum 102))) Absent)), Some (Node (IntTy kind.ULong) 1 true (typed.Arithmetic arithmetic.Add (Node (IntTy kind.ULong) 1 true (typed.Sizeof 4)) (Node (IntTy kind.ULong) 1 true (typed.Sizeof 4))))) ∷
    -- (enum z { Q })1 + (enum z)2
    (Binary 1 bop.Add (Cast 1 (TypeName 1 (Then NoTrees (OfSpecifier (Enumeration 1 (Some 102) (Then NoTrees (OfDeclaration (Enumerator 1 107 Absent))) false))) Absent) (Number 1 1 true false 0)) (Cast 1 (TypeName 1 (Then NoTrees (OfSpecifier (Tag 1 word.Enum 102))) Absent) (Number 1 2 true false 0)), Some (Node (IntTy kind.Int) 1 true (typed.Arithmetic arithmetic.Add (Node (IntTy kind.Int) 1 true (typed.Cast (int_constant 1))) (Node (IntTy kind.Int) 1 true (typed.Cast (int_constant 2)))))) ∷
    -- (enum z)1
    (Cast 1 (TypeName 1 (Then NoTrees (OfSpecifier (Tag 1 word.Enum 102))) Absent) (Number 1 1 true false 0), None) ∷
    -- (enum e)1
    (Cast 1 (TypeName 1 (Then NoTrees (OfSpecifier (Tag 1 word.Enum 92))) Absent) (Number 1 1 true false 0), Some (Node (IntTy kind.Int) 1 true (typed.Cast (int_constant 1)))) ∷
    -- sizeof (enum e *)
    (SizeofType 1 (TypeName 1 (Then NoTrees (OfSpecifier (Tag 1 word.Enum 92))) (Present (OfDeclarator (AbstractPointer 1 0 Absent)))), Some (Node (IntTy kind.ULong) 1 true (typed.Sizeof 8))) ∷
    -- sizeof (enum e { Q })
    (SizeofType 1 (TypeName 1 (Then NoTrees (OfSpecifier (Enumeration 1 (Some 92) (Then NoTrees (OfDeclaration (Enumerator 1 107 Absent))) false))) Absent), None) ∷
    -- sizeof (enum s { Q })
    (SizeofType 1 (TypeName 1 (Then NoTrees (OfSpecifier (Enumeration 1 (Some 85) (Then NoTrees (OfDeclaration (Enumerator 1 107 Absent))) false))) Absent), None) ∷
    -- sizeof (enum s)
    (SizeofType 1 (TypeName 1 (Then NoTrees (OfSpecifier (Tag 1 word.Enum 85))) Absent), None) ∷
    -- sizeof (enum z { Q = sizeof (enum z) })
    (SizeofType 1 (TypeName 1 (Then NoTrees (OfSpecifier (Enumeration 1 (Some 102) (Then NoTrees (OfDeclaration (Enumerator 1 107 (Present (OfExpression (SizeofType 1 (TypeName 1 (Then NoTrees (OfSpecifier (Tag 1 word.Enum 102))) Absent))))))) false))) Absent), None) ∷
    -- sizeof (enum { Q } *)
    (SizeofType 1 (TypeName 1 (Then NoTrees (OfSpecifier (Enumeration 1 None (Then NoTrees (OfDeclaration (Enumerator 1 107 Absent))) false))) (Present (OfDeclarator (AbstractPointer 1 0 Absent)))), Some (Node (IntTy kind.ULong) 1 true (typed.Sizeof 8))) ∷
    -- (enum { Q } *)pi
    (Cast 1 (TypeName 1 (Then NoTrees (OfSpecifier (Enumeration 1 None (Then NoTrees (OfDeclaration (Enumerator 1 107 Absent))) false))) (Present (OfDeclarator (AbstractPointer 1 0 Absent)))) (Name 1 21), Some (Node (PointerTo (IntTy kind.Int)) 1 true (typed.Cast (value_of_object (PointerTo (IntTy kind.Int)) 14)))) ∷
    [])
unfolding layouts_of are_compatible
enumeration_tag_rows = refl

-- Structures and unions that a type name declares (C17 6.7.2.1, 6.7.2.3).
declared_structure_rows : AreTyped context (
    -- sizeof (struct z { int q; }) + sizeof (struct z)
    (Binary 1 bop.Add (SizeofType 1 (TypeName 1 (Then NoTrees (OfSpecifier (Composite 1 word.Struct (Some 102) (Then NoTrees (OfDeclaration (MemberDeclaration 1 (Then NoTrees (OfSpecifier (Keyword 1 word.Int))) (Then NoTrees (OfDeclarator (DeclaredName 1 99))))))))) Absent)) (SizeofType 1 (TypeName 1 (Then NoTrees (OfSpecifier (Tag 1 word.Struct 102))) Absent)), Some (Node (IntTy kind.ULong) 1 true (typed.Arithmetic arithmetic.Add (Node (IntTy kind.ULong) 1 true (typed.Sizeof 4)) (Node (IntTy kind.ULong) 1 true (typed.Sizeof 4))))) ∷
    -- ((struct z { int q; } *)pv)->q
    (Arrow 1 (Paren 1 (Cast 1 (TypeName 1 (Then NoTrees (OfSpecifier (Composite 1 word.Struct (Some 102) (Then NoTrees (OfDeclaration (MemberDeclaration 1 (Then NoTrees (OfSpecifier (Keyword 1 word.Int))) (Then NoTrees (OfDeclarator (DeclaredName 1 99))))))))) (Present (OfDeclarator (AbstractPointer 1 0 Absent)))) (Name 1 24))) 99, Some (Node (IntTy kind.Int) 1 true (typed.Arrow (Node (PointerTo (StructTag 7)) 1 true (typed.Cast (value_of_object (PointerTo VoidTy) 17))) 0))) ∷
    -- ((struct z { int q; const long r; } *)pv)->r
    (Arrow 1 (Paren 1 (Cast 1 (TypeName 1 (Then NoTrees (OfSpecifier (Composite 1 word.Struct (Some 102) (Then (Then NoTrees (OfDeclaration (MemberDeclaration 1 (Then NoTrees (OfSpecifier (Keyword 1 word.Int))) (Then NoTrees (OfDeclarator (DeclaredName 1 99)))))) (OfDeclaration (MemberDeclaration 1 (Then (Then NoTrees (OfSpecifier (Keyword 1 word.Const))) (OfSpecifier (Keyword 1 word.Long))) (Then NoTrees (OfDeclarator (DeclaredName 1 110))))))))) (Present (OfDeclarator (AbstractPointer 1 0 Absent)))) (Name 1 24))) 110, Some (Node (ConstOf (IntTy kind.Long)) 1 true (typed.Arrow (Node (PointerTo (StructTag 7)) 1 true (typed.Cast (value_of_object (PointerTo VoidTy) 17))) 8))) ∷
    -- ((union z { int q; long r; } *)pv)->r
    (Arrow 1 (Paren 1 (Cast 1 (TypeName 1 (Then NoTrees (OfSpecifier (Composite 1 word.Union (Some 102) (Then (Then NoTrees (OfDeclaration (MemberDeclaration 1 (Then NoTrees (OfSpecifier (Keyword 1 word.Int))) (Then NoTrees (OfDeclarator (DeclaredName 1 99)))))) (OfDeclaration (MemberDeclaration 1 (Then NoTrees (OfSpecifier (Keyword 1 word.Long))) (Then NoTrees (OfDeclarator (DeclaredName 1 110))))))))) (Present (OfDeclarator (AbstractPointer 1 0 Absent)))) (Name 1 24))) 110, Some (Node (IntTy kind.Long) 1 true (typed.Arrow (Node (PointerTo (UnionTag 7)) 1 true (typed.Cast (value_of_object (PointerTo VoidTy) 17))) 0))) ∷
    -- ((struct { char q[3]; short r; } *)pv)->r
    (Arrow 1 (Paren 1 (Cast 1 (TypeName 1 (Then NoTrees (OfSpecifier (Composite 1 word.Struct None (Then (Then NoTrees (OfDeclaration (MemberDeclaration 1 (Then NoTrees (OfSpecifier (Keyword 1 word.Char))) (Then NoTrees (OfDeclarator (Array 1 (DeclaredName 1 99) (Present (OfExpression (Number 1 3 true false 0))))))))) (OfDeclaration (MemberDeclaration 1 (Then NoTrees (OfSpecifier (Keyword 1 word.Short))) (Then NoTrees (OfDeclarator (DeclaredName 1 110))))))))) (Present (OfDeclarator (AbstractPointer 1 0 Absent)))) (Name 1 24))) 110, Some (Node (IntTy kind.Short) 1 true (typed.Arrow (Node (PointerTo (StructTag 7)) 1 true (typed.Cast (value_of_object (PointerTo VoidTy) 17))) 4))) ∷
    -- (*(struct z { int q; } *)pv).q = 1
    (Assign 1 aop.Assign (Member 1 (Paren 1 (Unary 1 uop.Indirection (Cast 1 (TypeName 1 (Then NoTrees (OfSpecifier (Composite 1 word.Struct (Some 102) (Then NoTrees (OfDeclaration (MemberDeclaration 1 (Then NoTrees (OfSpecifier (Keyword 1 word.Int))) (Then NoTrees (OfDeclarator (DeclaredName 1 99))))))))) (Present (OfDeclarator (AbstractPointer 1 0 Absent)))) (Name 1 24)))) 99) (Number 1 1 true false 0), Some (Node (IntTy kind.Int) 1 true (typed.Assign (Node (IntTy kind.Int) 1 true (typed.Member (Node (StructTag 7) 1 true (typed.Indirection (Node (PointerTo (StructTag 7)) 1 true (typed.Cast (value_of_object (PointerTo VoidTy) 17))))) 0)) (int_constant 1)))) ∷
    -- ((const struct z { int q; } *)pv)->q = 1
    (Assign 1 aop.Assign (Arrow 1 (Paren 1 (Cast 1 (TypeName 1 (Then (Then NoTrees (OfSpecifier (Keyword 1 word.Const))) (OfSpecifier (Composite 1 word.Struct (Some 102) (Then NoTrees (OfDeclaration (MemberDeclaration 1 (Then NoTrees (OfSpecifier (Keyword 1 word.Int))) (Then NoTrees (OfDeclarator (DeclaredName 1 99))))))))) (Present (OfDeclarator (AbstractPointer 1 0 Absent)))) (Name 1 24))) 99) (Number 1 1 true false 0), None) ∷
    -- sizeof (struct z)
    (SizeofType 1 (TypeName 1 (Then NoTrees (OfSpecifier (Tag 1 word.Struct 102))) Absent), None) ∷
    -- sizeof *(struct z *)0
    (SizeofExpr 1 (Unary 1 uop.Indirection (Cast 1 (TypeName 1 (Then NoTrees (OfSpecifier (Tag 1 word.Struct 102))) (Present (OfDeclarator (AbstractPointer 1 0 Absent)))) (Number 1 0 false false 0))), None) ∷
    -- (struct z *)0
    (Cast 1 (TypeName 1 (Then NoTrees (OfSpecifier (Tag 1 word.Struct 102))) (Present (OfDeclarator (AbstractPointer 1 0 Absent)))) (Number 1 0 false false 0), Some (Node (PointerTo (StructTag 7)) 1 true (typed.Cast (int_constant 0)))) ∷
    -- (struct z *)0 == (struct z *)pv
    (Binary 1 bop.Equal (Cast 1 (TypeName 1 (Then NoTrees (OfSpecifier (Tag 1 word.Struct 102))) (Present (OfDeclarator (AbstractPointer 1 0 Absent)))) (Number 1 0 false false 0)) (Cast 1 (TypeName 1 (Then NoTrees (OfSpecifier (Tag 1 word.Struct 102))) (Present (OfDeclarator (AbstractPointer 1 0 Absent)))) (Name 1 24)), Some (Node (IntTy kind.Int) 1 true (typed.PointerEquality arithmetic.Eq (Node (PointerTo (StructTag 7)) 1 true (typed.Cast (int_constant 0))) (Node (PointerTo (StructTag 7)) 1 true (typed.Cast (value_of_object (PointerTo VoidTy) 17)))))) ∷
    -- (struct z *)0 == (union z *)0
    (Binary 1 bop.Equal (Cast 1 (TypeName 1 (Then NoTrees (OfSpecifier (Tag 1 word.Struct 102))) (Present (OfDeclarator (AbstractPointer 1 0 Absent)))) (Number 1 0 false false 0)) (Cast 1 (TypeName 1 (Then NoTrees (OfSpecifier (Tag 1 word.Union 102))) (Present (OfDeclarator (AbstractPointer 1 0 Absent)))) (Number 1 0 false false 0)), None) ∷
    -- (struct z *)pv, sizeof (struct z { long q; })
    (Comma 1 (Cast 1 (TypeName 1 (Then NoTrees (OfSpecifier (Tag 1 word.Struct 102))) (Present (OfDeclarator (AbstractPointer 1 0 Absent)))) (Name 1 24)) (SizeofType 1 (TypeName 1 (Then NoTrees (OfSpecifier (Composite 1 word.Struct (Some 102) (Then NoTrees (OfDeclaration (MemberDeclaration 1 (Then NoTrees (OfSpecifier (Keyword 1 word.Long))) (Then NoTrees (OfDeclarator (DeclaredName 1 99))))))))) Absent)), Some (Node (IntTy kind.ULong) 1 true (typed.Comma (Node (PointerTo (StructTag 7)) 1 true (typed.Cast (value_of_object (PointerTo VoidTy) 17))) (Node (IntTy kind.ULong) 1 true (typed.Sizeof 8))))) ∷
    -- sizeof (struct z { long q; }) + sizeof *(struct z *)0
    (Binary 1 bop.Add (SizeofType 1 (TypeName 1 (Then NoTrees (OfSpecifier (Composite 1 word.Struct (Some 102) (Then NoTrees (OfDeclaration (MemberDeclaration 1 (Then NoTrees (OfSpecifier (Keyword 1 word.Long))) (Then NoTrees (OfDeclarator (DeclaredName 1 99))))))))) Absent)) (SizeofExpr 1 (Unary 1 uop.Indirection (Cast 1 (TypeName 1 (Then NoTrees (OfSpecifier (Tag 1 word.Struct 102))) (Present (OfDeclarator (AbstractPointer 1 0 Absent)))) (Number 1 0 false false 0)))), Some (Node (IntTy kind.ULong) 1 true (typed.Arithmetic arithmetic.Add (Node (IntTy kind.ULong) 1 true (typed.Sizeof 8)) (Node (IntTy kind.ULong) 1 true (typed.Sizeof 8))))) ∷
    -- sizeof (struct z { int q; }) + sizeof (struct z { int q; })
    (Binary 1 bop.Add (SizeofType 1 (TypeName 1 (Then NoTrees (OfSpecifier (Composite 1 word.Struct (Some 102) (Then NoTrees (OfDeclaration (MemberDeclaration 1 (Then NoTrees (OfSpecifier (Keyword 1 word.Int))) (Then NoTrees (OfDeclarator (DeclaredName 1 99))))))))) Absent)) (SizeofType 1 (TypeName 1 (Then NoTrees (OfSpecifier (Composite 1 word.Struct (Some 102) (Then NoTrees (OfDeclaration (MemberDeclaration 1 (Then NoTrees (OfSpecifier (Keyword 1 word.Int))) (Then NoTrees (OfDeclarator (DeclaredName 1 99))))))))) Absent)), None) ∷
    [])
unfolding type_of_words layouts_of are_compatible
declared_structure_rows = refl

-- Tags that the context declares (C17 6.7.2.3p1, p2).
known_tag_rows : AreTyped context (
    -- sizeof (struct p { int q; })
    (SizeofType 1 (TypeName 1 (Then NoTrees (OfSpecifier (Composite 1 word.Struct (Some 86) (Then NoTrees (OfDeclaration (MemberDeclaration 1 (Then NoTrees (OfSpecifier (Keyword 1 word.Int))) (Then NoTrees (OfDeclarator (DeclaredName 1 99))))))))) Absent), None) ∷
    -- sizeof (struct later { int q; }) + sizeof lt
    (Binary 1 bop.Add (SizeofType 1 (TypeName 1 (Then NoTrees (OfSpecifier (Composite 1 word.Struct (Some 89) (Then NoTrees (OfDeclaration (MemberDeclaration 1 (Then NoTrees (OfSpecifier (Keyword 1 word.Int))) (Then NoTrees (OfDeclarator (DeclaredName 1 99))))))))) Absent)) (SizeofExpr 1 (Name 1 54)), Some (Node (IntTy kind.ULong) 1 true (typed.Arithmetic arithmetic.Add (Node (IntTy kind.ULong) 1 true (typed.Sizeof 4)) (Node (IntTy kind.ULong) 1 true (typed.Sizeof 4))))) ∷
    -- sizeof (struct later { int q; }) + plt->q
    (Binary 1 bop.Add (SizeofType 1 (TypeName 1 (Then NoTrees (OfSpecifier (Composite 1 word.Struct (Some 89) (Then NoTrees (OfDeclaration (MemberDeclaration 1 (Then NoTrees (OfSpecifier (Keyword 1 word.Int))) (Then NoTrees (OfDeclarator (DeclaredName 1 99))))))))) Absent)) (Arrow 1 (Name 1 55) 99), Some (Node (IntTy kind.ULong) 1 true (typed.Arithmetic arithmetic.Add (Node (IntTy kind.ULong) 1 true (typed.Sizeof 4)) (Node (IntTy kind.ULong) 1 false (typed.Convert (Node (IntTy kind.Int) 1 false (typed.Read (Node (IntTy kind.Int) 1 true (typed.Arrow (value_of_object (PointerTo (StructTag 4)) 48) 0))))))))) ∷
    -- plt->q + sizeof (struct later { int q; })
    (Binary 1 bop.Add (Arrow 1 (Name 1 55) 99) (SizeofType 1 (TypeName 1 (Then NoTrees (OfSpecifier (Composite 1 word.Struct (Some 89) (Then NoTrees (OfDeclaration (MemberDeclaration 1 (Then NoTrees (OfSpecifier (Keyword 1 word.Int))) (Then NoTrees (OfDeclarator (DeclaredName 1 99))))))))) Absent)), None) ∷
    -- sizeof (union later { int q; })
    (SizeofType 1 (TypeName 1 (Then NoTrees (OfSpecifier (Composite 1 word.Union (Some 89) (Then NoTrees (OfDeclaration (MemberDeclaration 1 (Then NoTrees (OfSpecifier (Keyword 1 word.Int))) (Then NoTrees (OfDeclarator (DeclaredName 1 99))))))))) Absent), None) ∷
    -- (union s *)0
    (Cast 1 (TypeName 1 (Then NoTrees (OfSpecifier (Tag 1 word.Union 85))) (Present (OfDeclarator (AbstractPointer 1 0 Absent)))) (Number 1 0 false false 0), None) ∷
    -- (struct u *)0
    (Cast 1 (TypeName 1 (Then NoTrees (OfSpecifier (Tag 1 word.Struct 90))) (Present (OfDeclarator (AbstractPointer 1 0 Absent)))) (Number 1 0 false false 0), None) ∷
    -- (struct e *)0
    (Cast 1 (TypeName 1 (Then NoTrees (OfSpecifier (Tag 1 word.Struct 92))) (Present (OfDeclarator (AbstractPointer 1 0 Absent)))) (Number 1 0 false false 0), None) ∷
    -- (union u *)pv
    (Cast 1 (TypeName 1 (Then NoTrees (OfSpecifier (Tag 1 word.Union 90))) (Present (OfDeclarator (AbstractPointer 1 0 Absent)))) (Name 1 24), Some (Node (PointerTo (UnionTag 5)) 1 true (typed.Cast (value_of_object (PointerTo VoidTy) 17)))) ∷
    -- ((union u *)pv)->i
    (Arrow 1 (Paren 1 (Cast 1 (TypeName 1 (Then NoTrees (OfSpecifier (Tag 1 word.Union 90))) (Present (OfDeclarator (AbstractPointer 1 0 Absent)))) (Name 1 24))) 13, Some (Node (IntTy kind.Int) 1 true (typed.Arrow (Node (PointerTo (UnionTag 5)) 1 true (typed.Cast (value_of_object (PointerTo VoidTy) 17))) 0))) ∷
    [])
unfolding type_of_words layouts_of are_compatible
known_tag_rows = refl

-- Declarations within the members of a structure (C17 6.7.2.1, 6.2.1p7).
nested_declaration_rows : AreTyped context (
    -- sizeof (struct z { struct z *q; })
    (SizeofType 1 (TypeName 1 (Then NoTrees (OfSpecifier (Composite 1 word.Struct (Some 102) (Then NoTrees (OfDeclaration (MemberDeclaration 1 (Then NoTrees (OfSpecifier (Tag 1 word.Struct 102))) (Then NoTrees (OfDeclarator (Pointer 1 0 (DeclaredName 1 99)))))))))) Absent), Some (Node (IntTy kind.ULong) 1 true (typed.Sizeof 8))) ∷
    -- sizeof (struct z { struct z q; })
    (SizeofType 1 (TypeName 1 (Then NoTrees (OfSpecifier (Composite 1 word.Struct (Some 102) (Then NoTrees (OfDeclaration (MemberDeclaration 1 (Then NoTrees (OfSpecifier (Tag 1 word.Struct 102))) (Then NoTrees (OfDeclarator (DeclaredName 1 99))))))))) Absent), None) ∷
    -- sizeof (struct z { struct y *q; }) + sizeof (struct y)
    (Binary 1 bop.Add (SizeofType 1 (TypeName 1 (Then NoTrees (OfSpecifier (Composite 1 word.Struct (Some 102) (Then NoTrees (OfDeclaration (MemberDeclaration 1 (Then NoTrees (OfSpecifier (Tag 1 word.Struct 111))) (Then NoTrees (OfDeclarator (Pointer 1 0 (DeclaredName 1 99)))))))))) Absent)) (SizeofType 1 (TypeName 1 (Then NoTrees (OfSpecifier (Tag 1 word.Struct 111))) Absent)), None) ∷
    -- sizeof (struct z { struct y { int r; } q; }) + sizeof (struct y)
    (Binary 1 bop.Add (SizeofType 1 (TypeName 1 (Then NoTrees (OfSpecifier (Composite 1 word.Struct (Some 102) (Then NoTrees (OfDeclaration (MemberDeclaration 1 (Then NoTrees (OfSpecifier (Composite 1 word.Struct (Some 111) (Then NoTrees (OfDeclaration (MemberDeclaration 1 (Then NoTrees (OfSpecifier (Keyword 1 word.Int))) (Then NoTrees (OfDeclarator (DeclaredName 1 110))))))))) (Then NoTrees (OfDeclarator (DeclaredName 1 99))))))))) Absent)) (SizeofType 1 (TypeName 1 (Then NoTrees (OfSpecifier (Tag 1 word.Struct 111))) Absent)), Some (Node (IntTy kind.ULong) 1 true (typed.Arithmetic arithmetic.Add (Node (IntTy kind.ULong) 1 true (typed.Sizeof 4)) (Node (IntTy kind.ULong) 1 true (typed.Sizeof 4))))) ∷
    -- sizeof (struct z { enum { Q = 3 } q; int r[Q]; }) + Q
    (Binary 1 bop.Add (SizeofType 1 (TypeName 1 (Then NoTrees (OfSpecifier (Composite 1 word.Struct (Some 102) (Then (Then NoTrees (OfDeclaration (MemberDeclaration 1 (Then NoTrees (OfSpecifier (Enumeration 1 None (Then NoTrees (OfDeclaration (Enumerator 1 107 (Present (OfExpression (Number 1 3 true false 0)))))) false))) (Then NoTrees (OfDeclarator (DeclaredName 1 99)))))) (OfDeclaration (MemberDeclaration 1 (Then NoTrees (OfSpecifier (Keyword 1 word.Int))) (Then NoTrees (OfDeclarator (Array 1 (DeclaredName 1 110) (Present (OfExpression (Name 1 107)))))))))))) Absent)) (Name 1 107), Some (Node (IntTy kind.ULong) 1 true (typed.Arithmetic arithmetic.Add (Node (IntTy kind.ULong) 1 true (typed.Sizeof 16)) (Node (IntTy kind.ULong) 1 false (typed.Convert (int_constant 3)))))) ∷
    -- sizeof (int[sizeof (struct z { char q[3]; })]) + sizeof (struct z)
    (Binary 1 bop.Add (SizeofType 1 (TypeName 1 (Then NoTrees (OfSpecifier (Keyword 1 word.Int))) (Present (OfDeclarator (AbstractArray 1 Absent (Present (OfExpression (SizeofType 1 (TypeName 1 (Then NoTrees (OfSpecifier (Composite 1 word.Struct (Some 102) (Then NoTrees (OfDeclaration (MemberDeclaration 1 (Then NoTrees (OfSpecifier (Keyword 1 word.Char))) (Then NoTrees (OfDeclarator (Array 1 (DeclaredName 1 99) (Present (OfExpression (Number 1 3 true false 0)))))))))))) Absent))))))))) (SizeofType 1 (TypeName 1 (Then NoTrees (OfSpecifier (Tag 1 word.Struct 102))) Absent)), Some (Node (IntTy kind.ULong) 1 true (typed.Arithmetic arithmetic.Add (Node (IntTy kind.ULong) 1 true (typed.Sizeof 12)) (Node (IntTy kind.ULong) 1 true (typed.Sizeof 3))))) ∷
    [])
unfolding type_of_words layouts_of are_compatible
nested_declaration_rows = refl

-- Which members a structure or union may have (C17 6.7.2.1p3).
declared_member_rows : AreTyped context (
    -- sizeof (struct { int q; int q; })
    (SizeofType 1 (TypeName 1 (Then NoTrees (OfSpecifier (Composite 1 word.Struct None (Then (Then NoTrees (OfDeclaration (MemberDeclaration 1 (Then NoTrees (OfSpecifier (Keyword 1 word.Int))) (Then NoTrees (OfDeclarator (DeclaredName 1 99)))))) (OfDeclaration (MemberDeclaration 1 (Then NoTrees (OfSpecifier (Keyword 1 word.Int))) (Then NoTrees (OfDeclarator (DeclaredName 1 99))))))))) Absent), None) ∷
    -- sizeof (struct { int q, *r, t[2]; })
    (SizeofType 1 (TypeName 1 (Then NoTrees (OfSpecifier (Composite 1 word.Struct None (Then NoTrees (OfDeclaration (MemberDeclaration 1 (Then NoTrees (OfSpecifier (Keyword 1 word.Int))) (Then (Then (Then NoTrees (OfDeclarator (DeclaredName 1 99))) (OfDeclarator (Pointer 1 0 (DeclaredName 1 110)))) (OfDeclarator (Array 1 (DeclaredName 1 112) (Present (OfExpression (Number 1 2 true false 0)))))))))))) Absent), Some (Node (IntTy kind.ULong) 1 true (typed.Sizeof 24))) ∷
    -- sizeof (struct { char q; long r; char t; })
    (SizeofType 1 (TypeName 1 (Then NoTrees (OfSpecifier (Composite 1 word.Struct None (Then (Then (Then NoTrees (OfDeclaration (MemberDeclaration 1 (Then NoTrees (OfSpecifier (Keyword 1 word.Char))) (Then NoTrees (OfDeclarator (DeclaredName 1 99)))))) (OfDeclaration (MemberDeclaration 1 (Then NoTrees (OfSpecifier (Keyword 1 word.Long))) (Then NoTrees (OfDeclarator (DeclaredName 1 110)))))) (OfDeclaration (MemberDeclaration 1 (Then NoTrees (OfSpecifier (Keyword 1 word.Char))) (Then NoTrees (OfDeclarator (DeclaredName 1 112))))))))) Absent), Some (Node (IntTy kind.ULong) 1 true (typed.Sizeof 24))) ∷
    -- sizeof (union { char q[5]; int r; })
    (SizeofType 1 (TypeName 1 (Then NoTrees (OfSpecifier (Composite 1 word.Union None (Then (Then NoTrees (OfDeclaration (MemberDeclaration 1 (Then NoTrees (OfSpecifier (Keyword 1 word.Char))) (Then NoTrees (OfDeclarator (Array 1 (DeclaredName 1 99) (Present (OfExpression (Number 1 5 true false 0))))))))) (OfDeclaration (MemberDeclaration 1 (Then NoTrees (OfSpecifier (Keyword 1 word.Int))) (Then NoTrees (OfDeclarator (DeclaredName 1 110))))))))) Absent), Some (Node (IntTy kind.ULong) 1 true (typed.Sizeof 8))) ∷
    -- sizeof (union { int q; char q; })
    (SizeofType 1 (TypeName 1 (Then NoTrees (OfSpecifier (Composite 1 word.Union None (Then (Then NoTrees (OfDeclaration (MemberDeclaration 1 (Then NoTrees (OfSpecifier (Keyword 1 word.Int))) (Then NoTrees (OfDeclarator (DeclaredName 1 99)))))) (OfDeclaration (MemberDeclaration 1 (Then NoTrees (OfSpecifier (Keyword 1 word.Char))) (Then NoTrees (OfDeclarator (DeclaredName 1 99))))))))) Absent), None) ∷
    -- sizeof (struct { void q; })
    (SizeofType 1 (TypeName 1 (Then NoTrees (OfSpecifier (Composite 1 word.Struct None (Then NoTrees (OfDeclaration (MemberDeclaration 1 (Then NoTrees (OfSpecifier (Keyword 1 word.Void))) (Then NoTrees (OfDeclarator (DeclaredName 1 99))))))))) Absent), None) ∷
    -- sizeof (struct { void *q; })
    (SizeofType 1 (TypeName 1 (Then NoTrees (OfSpecifier (Composite 1 word.Struct None (Then NoTrees (OfDeclaration (MemberDeclaration 1 (Then NoTrees (OfSpecifier (Keyword 1 word.Void))) (Then NoTrees (OfDeclarator (Pointer 1 0 (DeclaredName 1 99)))))))))) Absent), Some (Node (IntTy kind.ULong) 1 true (typed.Sizeof 8))) ∷
    -- sizeof (struct { int q[]; })
    (SizeofType 1 (TypeName 1 (Then NoTrees (OfSpecifier (Composite 1 word.Struct None (Then NoTrees (OfDeclaration (MemberDeclaration 1 (Then NoTrees (OfSpecifier (Keyword 1 word.Int))) (Then NoTrees (OfDeclarator (Array 1 (DeclaredName 1 99) Absent))))))))) Absent), None) ∷
    -- sizeof (struct { int q(void); })
    (SizeofType 1 (TypeName 1 (Then NoTrees (OfSpecifier (Composite 1 word.Struct None (Then NoTrees (OfDeclaration (MemberDeclaration 1 (Then NoTrees (OfSpecifier (Keyword 1 word.Int))) (Then NoTrees (OfDeclarator (FunctionDeclarator 1 (DeclaredName 1 99) (Then NoTrees (OfDeclaration (Parameter 1 (Then NoTrees (OfSpecifier (Keyword 1 word.Void))) Absent))) false))))))))) Absent), None) ∷
    -- sizeof (struct { int (*q)[3]; })
    (SizeofType 1 (TypeName 1 (Then NoTrees (OfSpecifier (Composite 1 word.Struct None (Then NoTrees (OfDeclaration (MemberDeclaration 1 (Then NoTrees (OfSpecifier (Keyword 1 word.Int))) (Then NoTrees (OfDeclarator (Array 1 (ParenDeclarator 1 (Pointer 1 0 (DeclaredName 1 99))) (Present (OfExpression (Number 1 3 true false 0)))))))))))) Absent), Some (Node (IntTy kind.ULong) 1 true (typed.Sizeof 8))) ∷
    -- sizeof (struct { const int q; row r; })
    (SizeofType 1 (TypeName 1 (Then NoTrees (OfSpecifier (Composite 1 word.Struct None (Then (Then NoTrees (OfDeclaration (MemberDeclaration 1 (Then (Then NoTrees (OfSpecifier (Keyword 1 word.Const))) (OfSpecifier (Keyword 1 word.Int))) (Then NoTrees (OfDeclarator (DeclaredName 1 99)))))) (OfDeclaration (MemberDeclaration 1 (Then NoTrees (OfSpecifier (TypedefName 1 5))) (Then NoTrees (OfDeclarator (DeclaredName 1 110))))))))) Absent), Some (Node (IntTy kind.ULong) 1 true (typed.Sizeof 16))) ∷
    [])
unfolding type_of_words layouts_of are_compatible
declared_member_rows = refl

-- The types that type names name (C17 6.7.7).
type_name_rows : AreTyped context (
    -- sizeof (row)
    (SizeofType 1 (TypeName 1 (Then NoTrees (OfSpecifier (TypedefName 1 5))) Absent), Some (Node (IntTy kind.ULong) 1 true (typed.Sizeof 12))) ∷
    -- sizeof (row *)
    (SizeofType 1 (TypeName 1 (Then NoTrees (OfSpecifier (TypedefName 1 5))) (Present (OfDeclarator (AbstractPointer 1 0 Absent)))), Some (Node (IntTy kind.ULong) 1 true (typed.Sizeof 8))) ∷
    -- sizeof (const row)
    (SizeofType 1 (TypeName 1 (Then (Then NoTrees (OfSpecifier (Keyword 1 word.Const))) (OfSpecifier (TypedefName 1 5))) Absent), Some (Node (IntTy kind.ULong) 1 true (typed.Sizeof 12))) ∷
    -- sizeof (row[2])
    (SizeofType 1 (TypeName 1 (Then NoTrees (OfSpecifier (TypedefName 1 5))) (Present (OfDeclarator (AbstractArray 1 Absent (Present (OfExpression (Number 1 2 true false 0))))))), Some (Node (IntTy kind.ULong) 1 true (typed.Sizeof 24))) ∷
    -- sizeof (int[A])
    (SizeofType 1 (TypeName 1 (Then NoTrees (OfSpecifier (Keyword 1 word.Int))) (Present (OfDeclarator (AbstractArray 1 Absent (Present (OfExpression (Name 1 0))))))), None) ∷
    -- sizeof (int[B])
    (SizeofType 1 (TypeName 1 (Then NoTrees (OfSpecifier (Keyword 1 word.Int))) (Present (OfDeclarator (AbstractArray 1 Absent (Present (OfExpression (Name 1 1))))))), Some (Node (IntTy kind.ULong) 1 true (typed.Sizeof 20))) ∷
    -- sizeof (int[-1])
    (SizeofType 1 (TypeName 1 (Then NoTrees (OfSpecifier (Keyword 1 word.Int))) (Present (OfDeclarator (AbstractArray 1 Absent (Present (OfExpression (Unary 1 uop.Minus (Number 1 1 true false 0)))))))), None) ∷
    -- sizeof (int[ci])
    (SizeofType 1 (TypeName 1 (Then NoTrees (OfSpecifier (Keyword 1 word.Int))) (Present (OfDeclarator (AbstractArray 1 Absent (Present (OfExpression (Name 1 19))))))), None) ∷
    -- sizeof (int['a'])
    (SizeofType 1 (TypeName 1 (Then NoTrees (OfSpecifier (Keyword 1 word.Int))) (Present (OfDeclarator (AbstractArray 1 Absent (Present (OfExpression (Character 1 (pos 97)))))))), Some (Node (IntTy kind.ULong) 1 true (typed.Sizeof 388))) ∷
    -- sizeof (int[2u])
    (SizeofType 1 (TypeName 1 (Then NoTrees (OfSpecifier (Keyword 1 word.Int))) (Present (OfDeclarator (AbstractArray 1 Absent (Present (OfExpression (Number 1 2 true true 0))))))), Some (Node (IntTy kind.ULong) 1 true (typed.Sizeof 8))) ∷
    -- sizeof (int[pi])
    (SizeofType 1 (TypeName 1 (Then NoTrees (OfSpecifier (Keyword 1 word.Int))) (Present (OfDeclarator (AbstractArray 1 Absent (Present (OfExpression (Name 1 21))))))), None) ∷
    -- sizeof (int[])
    (SizeofType 1 (TypeName 1 (Then NoTrees (OfSpecifier (Keyword 1 word.Int))) (Present (OfDeclarator (AbstractArray 1 Absent Absent)))), None) ∷
    -- sizeof (int[][2])
    (SizeofType 1 (TypeName 1 (Then NoTrees (OfSpecifier (Keyword 1 word.Int))) (Present (OfDeclarator (AbstractArray 1 (Present (OfDeclarator (AbstractArray 1 Absent Absent))) (Present (OfExpression (Number 1 2 true false 0))))))), None) ∷
    -- sizeof (int (*)[])
    (SizeofType 1 (TypeName 1 (Then NoTrees (OfSpecifier (Keyword 1 word.Int))) (Present (OfDeclarator (AbstractArray 1 (Present (OfDeclarator (AbstractParen 1 (AbstractPointer 1 0 Absent)))) Absent)))), None) ∷
    -- sizeof (void[2])
    (SizeofType 1 (TypeName 1 (Then NoTrees (OfSpecifier (Keyword 1 word.Void))) (Present (OfDeclarator (AbstractArray 1 Absent (Present (OfExpression (Number 1 2 true false 0))))))), None) ∷
    -- sizeof (int (void))
    (SizeofType 1 (TypeName 1 (Then NoTrees (OfSpecifier (Keyword 1 word.Int))) (Present (OfDeclarator (AbstractFunction 1 Absent (Then NoTrees (OfDeclaration (Parameter 1 (Then NoTrees (OfSpecifier (Keyword 1 word.Void))) Absent))) false)))), None) ∷
    -- sizeof (int (*)(int))
    (SizeofType 1 (TypeName 1 (Then NoTrees (OfSpecifier (Keyword 1 word.Int))) (Present (OfDeclarator (AbstractFunction 1 (Present (OfDeclarator (AbstractParen 1 (AbstractPointer 1 0 Absent)))) (Then NoTrees (OfDeclaration (Parameter 1 (Then NoTrees (OfSpecifier (Keyword 1 word.Int))) Absent))) false)))), Some (Node (IntTy kind.ULong) 1 true (typed.Sizeof 8))) ∷
    -- sizeof (int *(*[2])[3])
    (SizeofType 1 (TypeName 1 (Then NoTrees (OfSpecifier (Keyword 1 word.Int))) (Present (OfDeclarator (AbstractPointer 1 0 (Present (OfDeclarator (AbstractArray 1 (Present (OfDeclarator (AbstractParen 1 (AbstractPointer 1 0 (Present (OfDeclarator (AbstractArray 1 Absent (Present (OfExpression (Number 1 2 true false 0)))))))))) (Present (OfExpression (Number 1 3 true false 0)))))))))), Some (Node (IntTy kind.ULong) 1 true (typed.Sizeof 16))) ∷
    -- sizeof (string)
    (SizeofType 1 (TypeName 1 (Then NoTrees (OfSpecifier (TypedefName 1 6))) Absent), Some (Node (IntTy kind.ULong) 1 true (typed.Sizeof 8))) ∷
    -- sizeof (nope)
    (SizeofExpr 1 (Paren 1 (Name 1 106)), None) ∷
    -- sizeof (unsigned long long int)
    (SizeofType 1 (TypeName 1 (Then (Then (Then (Then NoTrees (OfSpecifier (Keyword 1 word.Unsigned))) (OfSpecifier (Keyword 1 word.Long))) (OfSpecifier (Keyword 1 word.Long))) (OfSpecifier (Keyword 1 word.Int))) Absent), Some (Node (IntTy kind.ULong) 1 true (typed.Sizeof 8))) ∷
    -- sizeof (long unsigned)
    (SizeofType 1 (TypeName 1 (Then (Then NoTrees (OfSpecifier (Keyword 1 word.Long))) (OfSpecifier (Keyword 1 word.Unsigned))) Absent), Some (Node (IntTy kind.ULong) 1 true (typed.Sizeof 8))) ∷
    -- sizeof (short char)
    (SizeofType 1 (TypeName 1 (Then (Then NoTrees (OfSpecifier (Keyword 1 word.Short))) (OfSpecifier (Keyword 1 word.Char))) Absent), None) ∷
    -- sizeof (word int)
    (SizeofType 1 (TypeName 1 (Then (Then NoTrees (OfSpecifier (Keyword 1 word.Int))) (OfSpecifier (TypedefName 1 3))) Absent), None) ∷
    -- sizeof (_Bool)
    (SizeofType 1 (TypeName 1 (Then NoTrees (OfSpecifier (Keyword 1 word.Bool))) Absent), Some (Node (IntTy kind.ULong) 1 true (typed.Sizeof 1))) ∷
    [])
unfolding type_of_words layouts_of are_compatible
type_name_rows = refl

-- Casts to them (C17 6.5.4).
cast_to_type_name_rows : AreTyped context (
    -- (row)pi
    (Cast 1 (TypeName 1 (Then NoTrees (OfSpecifier (TypedefName 1 5))) Absent) (Name 1 21), None) ∷
    -- (row *)pv
    (Cast 1 (TypeName 1 (Then NoTrees (OfSpecifier (TypedefName 1 5))) (Present (OfDeclarator (AbstractPointer 1 0 Absent)))) (Name 1 24), Some (Node (PointerTo (ArrayOf (IntTy kind.Int) (Some 3))) 1 true (typed.Cast (value_of_object (PointerTo VoidTy) 17)))) ∷
    -- (const row *)pv
    (Cast 1 (TypeName 1 (Then (Then NoTrees (OfSpecifier (Keyword 1 word.Const))) (OfSpecifier (TypedefName 1 5))) (Present (OfDeclarator (AbstractPointer 1 0 Absent)))) (Name 1 24), Some (Node (PointerTo (ArrayOf (ConstOf (IntTy kind.Int)) (Some 3))) 1 true (typed.Cast (value_of_object (PointerTo VoidTy) 17)))) ∷
    -- (string)pv
    (Cast 1 (TypeName 1 (Then NoTrees (OfSpecifier (TypedefName 1 6))) Absent) (Name 1 24), Some (Node (PointerTo (IntTy kind.Char)) 1 true (typed.Cast (value_of_object (PointerTo VoidTy) 17)))) ∷
    -- (struct p)node
    (Cast 1 (TypeName 1 (Then NoTrees (OfSpecifier (Tag 1 word.Struct 86))) Absent) (Name 1 44), None) ∷
    -- (union u)un
    (Cast 1 (TypeName 1 (Then NoTrees (OfSpecifier (Tag 1 word.Union 90))) Absent) (Name 1 48), None) ∷
    -- (void)un
    (Cast 1 (TypeName 1 (Then NoTrees (OfSpecifier (Keyword 1 word.Void))) Absent) (Name 1 48), Some (Node VoidTy 1 true (typed.Cast (value_of_object (UnionTag 5) 41)))) ∷
    -- (int)node
    (Cast 1 (TypeName 1 (Then NoTrees (OfSpecifier (Keyword 1 word.Int))) Absent) (Name 1 44), None) ∷
    -- (void)i
    (Cast 1 (TypeName 1 (Then NoTrees (OfSpecifier (Keyword 1 word.Void))) Absent) (Name 1 13), Some (Node VoidTy 1 true (typed.Cast (value_of_object (IntTy kind.Int) 6)))) ∷
    -- (const void)i
    (Cast 1 (TypeName 1 (Then (Then NoTrees (OfSpecifier (Keyword 1 word.Const))) (OfSpecifier (Keyword 1 word.Void))) Absent) (Name 1 13), Some (Node VoidTy 1 true (typed.Cast (value_of_object (IntTy kind.Int) 6)))) ∷
    -- (_Bool)pi
    (Cast 1 (TypeName 1 (Then NoTrees (OfSpecifier (Keyword 1 word.Bool))) Absent) (Name 1 21), Some (Node (IntTy kind.Bool) 1 true (typed.Cast (value_of_object (PointerTo (IntTy kind.Int)) 14)))) ∷
    -- (unsigned long long)pi
    (Cast 1 (TypeName 1 (Then (Then (Then NoTrees (OfSpecifier (Keyword 1 word.Unsigned))) (OfSpecifier (Keyword 1 word.Long))) (OfSpecifier (Keyword 1 word.Long))) Absent) (Name 1 21), Some (Node (IntTy kind.ULLong) 1 true (typed.Cast (value_of_object (PointerTo (IntTy kind.Int)) 14)))) ∷
    -- (int *)ul
    (Cast 1 (TypeName 1 (Then NoTrees (OfSpecifier (Keyword 1 word.Int))) (Present (OfDeclarator (AbstractPointer 1 0 Absent)))) (Name 1 16), Some (Node (PointerTo (IntTy kind.Int)) 1 true (typed.Cast (value_of_object (IntTy kind.ULong) 9)))) ∷
    -- (int **const)pv
    (Cast 1 (TypeName 1 (Then NoTrees (OfSpecifier (Keyword 1 word.Int))) (Present (OfDeclarator (AbstractPointer 1 0 (Present (OfDeclarator (AbstractPointer 1 1 Absent))))))) (Name 1 24), Some (Node (PointerTo (PointerTo (IntTy kind.Int))) 1 true (typed.Cast (value_of_object (PointerTo VoidTy) 17)))) ∷
    -- (char)pi
    (Cast 1 (TypeName 1 (Then NoTrees (OfSpecifier (Keyword 1 word.Char))) Absent) (Name 1 21), Some (Node (IntTy kind.Char) 1 true (typed.Cast (value_of_object (PointerTo (IntTy kind.Int)) 14)))) ∷
    -- (void *)node
    (Cast 1 (TypeName 1 (Then NoTrees (OfSpecifier (Keyword 1 word.Void))) (Present (OfDeclarator (AbstractPointer 1 0 Absent)))) (Name 1 44), None) ∷
    -- (int *)nothing()
    (Cast 1 (TypeName 1 (Then NoTrees (OfSpecifier (Keyword 1 word.Int))) (Present (OfDeclarator (AbstractPointer 1 0 Absent)))) (Call 1 (Name 1 64) NoArguments), None) ∷
    -- (int)add
    (Cast 1 (TypeName 1 (Then NoTrees (OfSpecifier (Keyword 1 word.Int))) Absent) (Name 1 63), None) ∷
    -- (int)nope
    (Cast 1 (TypeName 1 (Then NoTrees (OfSpecifier (Keyword 1 word.Int))) Absent) (Name 1 106), None) ∷
    [])
unfolding type_of_words layouts_of are_compatible library_named
cast_to_type_name_rows = refl
