-- Qualifiers (C17 6.7.3): what is read is unqualified, an address keeps them, which lvalues are modifiable (6.3.2.1p1), and which
-- pointers may be assigned (6.5.16.1p1).
use Rattle.std.specs.Prelude.{refl, pos, true, false, Some, None, [], ◌∷◌}
use Rattle.pv_num.specs.declared.kinds.IntKind.TheVariants as kind
use Rattle.pv_num.specs.declared.operators.BinOp.TheVariants as arithmetic
use Rattle.pv_num.specs.declared.operators.UnOp.TheVariants as numeric
use Rattle.pv_token.specs.declared.words.Word.TheVariants as word
use Rattle.pv_tree.specs.declared.operators.UnaryOperator.TheVariants as uop
use Rattle.pv_tree.specs.declared.operators.BinaryOperator.TheVariants as bop
use Rattle.pv_tree.specs.declared.operators.AssignOperator.TheVariants as aop
use Rattle.pv_typed.specs.declared.nodes.IncrementOperator.TheVariants as step
use Rattle.pv_typed.specs.TypedTree as typed
use Rattle.pv_tree.specs.Syntax.{Name, Number, Character, Text, Paren, Index, Call, Member, Arrow, PostIncrement, PostDecrement, PreIncrement, Unary, Cast, Binary, Assign, Comma, NoArguments, Argument, TypeName, AbstractPointer, Keyword, Tag, TypedefName, OfDeclarator, OfSpecifier, NoTrees, Then, Absent, Present}
use Rattle.pv_types.specs.Ty.{VoidTy, IntTy, PointerTo, ArrayOf, StructTag, UnionTag, ConstOf}
use Rattle.pv_types.specs.Layouts.{layouts_of}
use Rattle.pv_types.specs.Compatible.{are_compatible}
use Rattle.pv_check.specs.Words.{type_of_words}
use Rattle.pv_library.specs.LibraryNames.{library_named}
use Rattle.pv_typed.specs.TypedTree.{Node, NoArguments as NoMore, MoreArguments as More}
use Rattle.pv_check.proofs.MoreExamples.{context}
use Rattle.pv_check.proofs.ExampleRows.{AreTyped, object, value_of_object, int_constant}

-- What is read, cast to or given back has no qualifier (C17 6.3.2.1p2, 6.5.4, 6.7.6.3).
unqualified_value_rows : AreTyped context (
    -- ci
    (Name 1 19, Some (object (ConstOf (IntTy kind.Int)) 12)) ∷
    -- ci, cul
    (Comma 1 (Name 1 19) (Name 1 20), Some (Node (IntTy kind.ULong) 1 true (typed.Comma (Node (IntTy kind.Int) 1 false (typed.Read (object (ConstOf (IntTy kind.Int)) 12))) (Node (IntTy kind.ULong) 1 false (typed.Read (object (ConstOf (IntTy kind.ULong)) 13)))))) ∷
    -- cul + ci
    (Binary 1 bop.Add (Name 1 20) (Name 1 19), Some (Node (IntTy kind.ULong) 1 true (typed.Arithmetic arithmetic.Add (Node (IntTy kind.ULong) 1 false (typed.Read (object (ConstOf (IntTy kind.ULong)) 13))) (Node (IntTy kind.ULong) 1 false (typed.Convert (Node (IntTy kind.Int) 1 false (typed.Read (object (ConstOf (IntTy kind.Int)) 12)))))))) ∷
    -- (cword)ch
    (Cast 1 (TypeName 1 (Then NoTrees (OfSpecifier (TypedefName 1 4))) Absent) (Name 1 8), Some (Node (IntTy kind.Int) 1 true (typed.Cast (value_of_object (IntTy kind.Char) 1)))) ∷
    -- (const int *)pi
    (Cast 1 (TypeName 1 (Then (Then NoTrees (OfSpecifier (Keyword 1 word.Const))) (OfSpecifier (Keyword 1 word.Int))) (Present (OfDeclarator (AbstractPointer 1 0 Absent)))) (Name 1 21), Some (Node (PointerTo (ConstOf (IntTy kind.Int))) 1 true (typed.Cast (value_of_object (PointerTo (IntTy kind.Int)) 14)))) ∷
    -- *&ci
    (Unary 1 uop.Indirection (Unary 1 uop.Address (Name 1 19)), Some (Node (ConstOf (IntTy kind.Int)) 1 true (typed.Indirection (Node (PointerTo (ConstOf (IntTy kind.Int))) 1 true (typed.Address (object (ConstOf (IntTy kind.Int)) 12)))))) ∷
    -- +ci
    (Unary 1 uop.Plus (Name 1 19), Some (Node (IntTy kind.Int) 1 true (typed.Unary numeric.Plus (Node (IntTy kind.Int) 1 false (typed.Read (object (ConstOf (IntTy kind.Int)) 12)))))) ∷
    -- fixed()
    (Call 1 (Name 1 61) NoArguments, Some (Node (IntTy kind.Int) 1 true (typed.Call 3 NoMore))) ∷
    -- fixed() = 1
    (Assign 1 aop.Assign (Call 1 (Name 1 61) NoArguments) (Number 1 1 true false 0), None) ∷
    [])
unfolding type_of_words layouts_of are_compatible library_named
unqualified_value_rows = refl

-- An address keeps the qualifiers of its lvalue (C17 6.5.3.2p3).
qualified_address_rows : AreTyped context (
    -- &ci
    (Unary 1 uop.Address (Name 1 19), Some (Node (PointerTo (ConstOf (IntTy kind.Int))) 1 true (typed.Address (object (ConstOf (IntTy kind.Int)) 12)))) ∷
    -- &cpi
    (Unary 1 uop.Address (Name 1 23), Some (Node (PointerTo (ConstOf (PointerTo (IntTy kind.Int)))) 1 true (typed.Address (object (ConstOf (PointerTo (IntTy kind.Int))) 16)))) ∷
    -- &ca
    (Unary 1 uop.Address (Name 1 33), Some (Node (PointerTo (ArrayOf (ConstOf (IntTy kind.Int)) (Some 2))) 1 true (typed.Address (object (ArrayOf (ConstOf (IntTy kind.Int)) (Some 2)) 26)))) ∷
    -- &ca[1]
    (Unary 1 uop.Address (Index 1 (Name 1 33) (Number 1 1 true false 0)), Some (Node (PointerTo (ConstOf (IntTy kind.Int))) 1 true (typed.Address (Node (ConstOf (IntTy kind.Int)) 1 false (typed.Subscript (Node (PointerTo (ConstOf (IntTy kind.Int))) 1 false (typed.ArrayPointer (object (ArrayOf (ConstOf (IntTy kind.Int)) (Some 2)) 26))) (int_constant 1)))))) ∷
    -- &cm[1]
    (Unary 1 uop.Address (Index 1 (Name 1 35) (Number 1 1 true false 0)), Some (Node (PointerTo (ArrayOf (ConstOf (IntTy kind.Int)) (Some 3))) 1 true (typed.Address (Node (ArrayOf (ConstOf (IntTy kind.Int)) (Some 3)) 1 false (typed.Subscript (Node (PointerTo (ArrayOf (ConstOf (IntTy kind.Int)) (Some 3))) 1 false (typed.ArrayPointer (object (ArrayOf (ArrayOf (ConstOf (IntTy kind.Int)) (Some 3)) (Some 2)) 28))) (int_constant 1)))))) ∷
    -- &cst.a
    (Unary 1 uop.Address (Member 1 (Name 1 42) 32), Some (Node (PointerTo (ConstOf (IntTy kind.Int))) 1 true (typed.Address (Node (ConstOf (IntTy kind.Int)) 1 true (typed.Member (object (ConstOf (StructTag 0)) 35) 0))))) ∷
    -- &cst.b
    (Unary 1 uop.Address (Member 1 (Name 1 42) 93), Some (Node (PointerTo (ArrayOf (ConstOf (IntTy kind.Char)) (Some 4))) 1 true (typed.Address (Node (ArrayOf (ConstOf (IntTy kind.Char)) (Some 4)) 1 true (typed.Member (object (ConstOf (StructTag 0)) 35) 4))))) ∷
    -- &pcst->b[1]
    (Unary 1 uop.Address (Index 1 (Arrow 1 (Name 1 43) 93) (Number 1 1 true false 0)), Some (Node (PointerTo (ConstOf (IntTy kind.Char))) 1 true (typed.Address (Node (ConstOf (IntTy kind.Char)) 1 false (typed.Subscript (Node (PointerTo (ConstOf (IntTy kind.Char))) 1 false (typed.ArrayPointer (Node (ArrayOf (ConstOf (IntTy kind.Char)) (Some 4)) 1 true (typed.Arrow (value_of_object (PointerTo (ConstOf (StructTag 0))) 36) 4)))) (int_constant 1)))))) ∷
    -- &cnode.next
    (Unary 1 uop.Address (Member 1 (Name 1 45) 96), Some (Node (PointerTo (ConstOf (PointerTo (StructTag 1)))) 1 true (typed.Address (Node (ConstOf (PointerTo (StructTag 1))) 1 true (typed.Member (object (ConstOf (StructTag 1)) 38) 8))))) ∷
    -- &pcn->x
    (Unary 1 uop.Address (Arrow 1 (Name 1 47) 95), Some (Node (PointerTo (ConstOf (IntTy kind.Int))) 1 true (typed.Address (Node (ConstOf (IntTy kind.Int)) 1 true (typed.Arrow (value_of_object (PointerTo (ConstOf (StructTag 1))) 40) 0))))) ∷
    -- &cho.q
    (Unary 1 uop.Address (Member 1 (Name 1 53) 99), Some (Node (PointerTo (ArrayOf (ConstOf (StructTag 1)) (Some 2))) 1 true (typed.Address (Node (ArrayOf (ConstOf (StructTag 1)) (Some 2)) 1 true (typed.Member (object (ConstOf (StructTag 3)) 46) 0))))) ∷
    -- &cho.q[1].next
    (Unary 1 uop.Address (Member 1 (Index 1 (Member 1 (Name 1 53) 99) (Number 1 1 true false 0)) 96), Some (Node (PointerTo (ConstOf (PointerTo (StructTag 1)))) 1 true (typed.Address (Node (ConstOf (PointerTo (StructTag 1))) 1 true (typed.Member (Node (ConstOf (StructTag 1)) 1 true (typed.Subscript (Node (PointerTo (ConstOf (StructTag 1))) 1 false (typed.ArrayPointer (Node (ArrayOf (ConstOf (StructTag 1)) (Some 2)) 1 true (typed.Member (object (ConstOf (StructTag 3)) 46) 0)))) (int_constant 1))) 8))))) ∷
    -- &st.c
    (Unary 1 uop.Address (Member 1 (Name 1 41) 94), Some (Node (PointerTo (ConstOf (IntTy kind.Int))) 1 true (typed.Address (Node (ConstOf (IntTy kind.Int)) 1 true (typed.Member (object (StructTag 0) 34) 8))))) ∷
    [])
unfolding layouts_of are_compatible
qualified_address_rows = refl

-- Which lvalues of scalar type are modifiable (C17 6.3.2.1p1).
modifiable_scalar_rows : AreTyped context (
    -- cpi = pi
    (Assign 1 aop.Assign (Name 1 23) (Name 1 21), None) ∷
    -- *cpi = 1
    (Assign 1 aop.Assign (Unary 1 uop.Indirection (Name 1 23)) (Number 1 1 true false 0), Some (Node (IntTy kind.Int) 1 true (typed.Assign (Node (IntTy kind.Int) 1 true (typed.Indirection (Node (PointerTo (IntTy kind.Int)) 1 false (typed.Read (object (ConstOf (PointerTo (IntTy kind.Int))) 16))))) (int_constant 1)))) ∷
    -- (*cpi)++
    (PostIncrement 1 (Paren 1 (Unary 1 uop.Indirection (Name 1 23))), Some (Node (IntTy kind.Int) 1 true (typed.Increment step.PostIncrement (Node (IntTy kind.Int) 1 true (typed.Indirection (Node (PointerTo (IntTy kind.Int)) 1 false (typed.Read (object (ConstOf (PointerTo (IntTy kind.Int))) 16)))))))) ∷
    -- cpi += 1
    (Assign 1 aop.Add (Name 1 23) (Number 1 1 true false 0), None) ∷
    -- pci++
    (PostIncrement 1 (Name 1 22), Some (Node (PointerTo (ConstOf (IntTy kind.Int))) 1 true (typed.Increment step.PostIncrement (object (PointerTo (ConstOf (IntTy kind.Int))) 15)))) ∷
    -- *pci = 1
    (Assign 1 aop.Assign (Unary 1 uop.Indirection (Name 1 22)) (Number 1 1 true false 0), None) ∷
    -- ++*pci
    (PreIncrement 1 (Unary 1 uop.Indirection (Name 1 22)), None) ∷
    -- ca[0] = 1
    (Assign 1 aop.Assign (Index 1 (Name 1 33) (Number 1 0 false false 0)) (Number 1 1 true false 0), None) ∷
    -- *ca = 1
    (Assign 1 aop.Assign (Unary 1 uop.Indirection (Name 1 33)) (Number 1 1 true false 0), None) ∷
    -- cm[1][0] = 1
    (Assign 1 aop.Assign (Index 1 (Index 1 (Name 1 35) (Number 1 1 true false 0)) (Number 1 0 false false 0)) (Number 1 1 true false 0), None) ∷
    -- cul += 1
    (Assign 1 aop.Add (Name 1 20) (Number 1 1 true false 0), None) ∷
    -- cst.a = 1
    (Assign 1 aop.Assign (Member 1 (Name 1 42) 32) (Number 1 1 true false 0), None) ∷
    -- pcst->b[0] = 'x'
    (Assign 1 aop.Assign (Index 1 (Arrow 1 (Name 1 43) 93) (Number 1 0 false false 0)) (Character 1 (pos 120)), None) ∷
    -- st.b[0] = 'x'
    (Assign 1 aop.Assign (Index 1 (Member 1 (Name 1 41) 93) (Number 1 0 false false 0)) (Character 1 (pos 120)), Some (Node (IntTy kind.Char) 1 true (typed.Assign (Node (IntTy kind.Char) 1 true (typed.Subscript (Node (PointerTo (IntTy kind.Char)) 1 false (typed.ArrayPointer (Node (ArrayOf (IntTy kind.Char) (Some 4)) 1 true (typed.Member (object (StructTag 0) 34) 4)))) (int_constant 0))) (Node (IntTy kind.Char) 1 false (typed.Convert (int_constant 120)))))) ∷
    -- st.c = 1
    (Assign 1 aop.Assign (Member 1 (Name 1 41) 94) (Number 1 1 true false 0), None) ∷
    -- st.a = 1
    (Assign 1 aop.Assign (Member 1 (Name 1 41) 32) (Number 1 1 true false 0), Some (Node (IntTy kind.Int) 1 true (typed.Assign (Node (IntTy kind.Int) 1 true (typed.Member (object (StructTag 0) 34) 0)) (int_constant 1)))) ∷
    [])
unfolding layouts_of are_compatible
modifiable_scalar_rows = refl

-- Structures and unions with members that are `const`, and what is selected of them (C17 6.3.2.1p1, 6.5.2.3p3).
modifiable_structure_rows : AreTyped context (
    -- de = de
    (Assign 1 aop.Assign (Name 1 51) (Name 1 51), None) ∷
    -- de.n = 1
    (Assign 1 aop.Assign (Member 1 (Name 1 51) 98) (Number 1 1 true false 0), Some (Node (IntTy kind.Int) 1 true (typed.Assign (Node (IntTy kind.Int) 1 true (typed.Member (object (StructTag 2) 44) 12)) (int_constant 1)))) ∷
    -- de.inner.c--
    (PostDecrement 1 (Member 1 (Member 1 (Name 1 51) 97) 94), None) ∷
    -- de.inner.a--
    (PostDecrement 1 (Member 1 (Member 1 (Name 1 51) 97) 32), Some (Node (IntTy kind.Int) 1 true (typed.Increment step.PostDecrement (Node (IntTy kind.Int) 1 true (typed.Member (Node (StructTag 0) 1 true (typed.Member (object (StructTag 2) 44) 0)) 0))))) ∷
    -- uv = uv
    (Assign 1 aop.Assign (Name 1 50) (Name 1 50), None) ∷
    -- uv.m = 1
    (Assign 1 aop.Assign (Member 1 (Name 1 50) 34) (Number 1 1 true false 0), Some (Node (IntTy kind.Long) 1 true (typed.Assign (Node (IntTy kind.Long) 1 true (typed.Member (object (UnionTag 6) 43) 0)) (Node (IntTy kind.Long) 1 false (typed.Convert (int_constant 1)))))) ∷
    -- uv.k = 1
    (Assign 1 aop.Assign (Member 1 (Name 1 50) 101) (Number 1 1 true false 0), None) ∷
    -- ho = ho
    (Assign 1 aop.Assign (Name 1 52) (Name 1 52), Some (Node (StructTag 3) 1 true (typed.Assign (object (StructTag 3) 45) (value_of_object (StructTag 3) 45)))) ∷
    -- ho = cho
    (Assign 1 aop.Assign (Name 1 52) (Name 1 53), Some (Node (StructTag 3) 1 true (typed.Assign (object (StructTag 3) 45) (Node (StructTag 3) 1 false (typed.Read (object (ConstOf (StructTag 3)) 46)))))) ∷
    -- cho = ho
    (Assign 1 aop.Assign (Name 1 53) (Name 1 52), None) ∷
    -- cho.u = 1
    (Assign 1 aop.Assign (Member 1 (Name 1 53) 90) (Number 1 1 true false 0), None) ∷
    -- cho.q[0].x = 1
    (Assign 1 aop.Assign (Member 1 (Index 1 (Member 1 (Name 1 53) 99) (Number 1 0 false false 0)) 95) (Number 1 1 true false 0), None) ∷
    -- ho.q[1] = node
    (Assign 1 aop.Assign (Index 1 (Member 1 (Name 1 52) 99) (Number 1 1 true false 0)) (Name 1 44), Some (Node (StructTag 1) 1 true (typed.Assign (Node (StructTag 1) 1 true (typed.Subscript (Node (PointerTo (StructTag 1)) 1 false (typed.ArrayPointer (Node (ArrayOf (StructTag 1) (Some 2)) 1 true (typed.Member (object (StructTag 3) 45) 0)))) (int_constant 1))) (value_of_object (StructTag 1) 37)))) ∷
    -- cho.q[1] = node
    (Assign 1 aop.Assign (Index 1 (Member 1 (Name 1 53) 99) (Number 1 1 true false 0)) (Name 1 44), None) ∷
    -- cnode.next = 0
    (Assign 1 aop.Assign (Member 1 (Name 1 45) 96) (Number 1 0 false false 0), None) ∷
    -- cnode.next->x = 1
    (Assign 1 aop.Assign (Arrow 1 (Member 1 (Name 1 45) 96) 95) (Number 1 1 true false 0), Some (Node (IntTy kind.Int) 1 true (typed.Assign (Node (IntTy kind.Int) 1 true (typed.Arrow (Node (PointerTo (StructTag 1)) 1 false (typed.Read (Node (ConstOf (PointerTo (StructTag 1))) 1 true (typed.Member (object (ConstOf (StructTag 1)) 38) 8)))) 0)) (int_constant 1)))) ∷
    -- pcn->next->next->x++
    (PostIncrement 1 (Arrow 1 (Arrow 1 (Arrow 1 (Name 1 47) 96) 96) 95), Some (Node (IntTy kind.Int) 1 true (typed.Increment step.PostIncrement (Node (IntTy kind.Int) 1 true (typed.Arrow (Node (PointerTo (StructTag 1)) 1 false (typed.Read (Node (PointerTo (StructTag 1)) 1 true (typed.Arrow (Node (PointerTo (StructTag 1)) 1 false (typed.Read (Node (ConstOf (PointerTo (StructTag 1))) 1 true (typed.Arrow (value_of_object (PointerTo (ConstOf (StructTag 1))) 40) 8)))) 8)))) 0))))) ∷
    -- pcn->x++
    (PostIncrement 1 (Arrow 1 (Name 1 47) 95), None) ∷
    -- *&node = cnode
    (Assign 1 aop.Assign (Unary 1 uop.Indirection (Unary 1 uop.Address (Name 1 44))) (Name 1 45), Some (Node (StructTag 1) 1 true (typed.Assign (Node (StructTag 1) 1 true (typed.Indirection (Node (PointerTo (StructTag 1)) 1 true (typed.Address (object (StructTag 1) 37))))) (Node (StructTag 1) 1 false (typed.Read (object (ConstOf (StructTag 1)) 38)))))) ∷
    -- *(const struct p *)&node = cnode
    (Assign 1 aop.Assign (Unary 1 uop.Indirection (Cast 1 (TypeName 1 (Then (Then NoTrees (OfSpecifier (Keyword 1 word.Const))) (OfSpecifier (Tag 1 word.Struct 86))) (Present (OfDeclarator (AbstractPointer 1 0 Absent)))) (Unary 1 uop.Address (Name 1 44)))) (Name 1 45), None) ∷
    -- *pcpi = pi
    (Assign 1 aop.Assign (Unary 1 uop.Indirection (Name 1 31)) (Name 1 21), None) ∷
    -- **pcpi = 1
    (Assign 1 aop.Assign (Unary 1 uop.Indirection (Unary 1 uop.Indirection (Name 1 31))) (Number 1 1 true false 0), Some (Node (IntTy kind.Int) 1 true (typed.Assign (Node (IntTy kind.Int) 1 true (typed.Indirection (Node (PointerTo (IntTy kind.Int)) 1 false (typed.Read (Node (ConstOf (PointerTo (IntTy kind.Int))) 1 true (typed.Indirection (value_of_object (PointerTo (ConstOf (PointerTo (IntTy kind.Int)))) 24))))))) (int_constant 1)))) ∷
    [])
unfolding type_of_words layouts_of are_compatible
modifiable_structure_rows = refl

-- Members of values, and what else is no modifiable lvalue (C17 6.5.2.3p3, 6.3.2.1p1).
member_of_value_rows : AreTyped context (
    -- build().a = 1
    (Assign 1 aop.Assign (Member 1 (Call 1 (Name 1 59) NoArguments) 32) (Number 1 1 true false 0), None) ∷
    -- make(1).x++
    (PostIncrement 1 (Member 1 (Call 1 (Name 1 58) (Argument NoArguments (Number 1 1 true false 0))) 95), None) ∷
    -- build().b
    (Member 1 (Call 1 (Name 1 59) NoArguments) 93, None) ∷
    -- build().c
    (Member 1 (Call 1 (Name 1 59) NoArguments) 94, Some (Node (IntTy kind.Int) 1 true (typed.MemberOfValue (Node (StructTag 0) 1 true (typed.Call 1 NoMore)) 8))) ∷
    -- build().a
    (Member 1 (Call 1 (Name 1 59) NoArguments) 32, Some (Node (IntTy kind.Int) 1 true (typed.MemberOfValue (Node (StructTag 0) 1 true (typed.Call 1 NoMore)) 0))) ∷
    -- make(2).next->x = 3
    (Assign 1 aop.Assign (Arrow 1 (Member 1 (Call 1 (Name 1 58) (Argument NoArguments (Number 1 2 true false 0))) 96) 95) (Number 1 3 true false 0), Some (Node (IntTy kind.Int) 1 true (typed.Assign (Node (IntTy kind.Int) 1 true (typed.Arrow (Node (PointerTo (StructTag 1)) 1 true (typed.MemberOfValue (Node (StructTag 1) 1 true (typed.Call 0 (More (int_constant 2) NoMore))) 8)) 0)) (int_constant 3)))) ∷
    -- unite().bytes
    (Member 1 (Call 1 (Name 1 60) NoArguments) 100, None) ∷
    -- unite().i
    (Member 1 (Call 1 (Name 1 60) NoArguments) 13, Some (Node (IntTy kind.Int) 1 true (typed.MemberOfValue (Node (UnionTag 5) 1 true (typed.Call 2 NoMore)) 0))) ∷
    -- m[1] = a
    (Assign 1 aop.Assign (Index 1 (Name 1 34) (Number 1 1 true false 0)) (Name 1 32), None) ∷
    -- *pv = i
    (Assign 1 aop.Assign (Unary 1 uop.Indirection (Name 1 24)) (Name 1 13), None) ∷
    -- A = 1
    (Assign 1 aop.Assign (Name 1 0) (Number 1 1 true false 0), None) ∷
    -- "abc"[1] = 'x'
    (Assign 1 aop.Assign (Index 1 (Text 1 4 0) (Number 1 1 true false 0)) (Character 1 (pos 120)), Some (Node (IntTy kind.Char) 1 true (typed.Assign (Node (IntTy kind.Char) 1 true (typed.Subscript (Node (PointerTo (IntTy kind.Char)) 1 false (typed.ArrayPointer (Node (ArrayOf (IntTy kind.Char) (Some 4)) 1 true (typed.String 0)))) (int_constant 1))) (Node (IntTy kind.Char) 1 false (typed.Convert (int_constant 120)))))) ∷
    [])
unfolding layouts_of are_compatible library_named
member_of_value_rows = refl

-- Which pointers may be assigned to which (C17 6.5.16.1p1).
assigned_pointer_rows : AreTyped context (
    -- pci = &ci
    (Assign 1 aop.Assign (Name 1 22) (Unary 1 uop.Address (Name 1 19)), Some (Node (PointerTo (ConstOf (IntTy kind.Int))) 1 true (typed.Assign (object (PointerTo (ConstOf (IntTy kind.Int))) 15) (Node (PointerTo (ConstOf (IntTy kind.Int))) 1 true (typed.Address (object (ConstOf (IntTy kind.Int)) 12)))))) ∷
    -- pi = &ci
    (Assign 1 aop.Assign (Name 1 21) (Unary 1 uop.Address (Name 1 19)), None) ∷
    -- pi = (int *)&ci
    (Assign 1 aop.Assign (Name 1 21) (Cast 1 (TypeName 1 (Then NoTrees (OfSpecifier (Keyword 1 word.Int))) (Present (OfDeclarator (AbstractPointer 1 0 Absent)))) (Unary 1 uop.Address (Name 1 19))), Some (Node (PointerTo (IntTy kind.Int)) 1 true (typed.Assign (object (PointerTo (IntTy kind.Int)) 14) (Node (PointerTo (IntTy kind.Int)) 1 true (typed.Cast (Node (PointerTo (ConstOf (IntTy kind.Int))) 1 true (typed.Address (object (ConstOf (IntTy kind.Int)) 12)))))))) ∷
    -- pi = ca
    (Assign 1 aop.Assign (Name 1 21) (Name 1 33), None) ∷
    -- pci = ca
    (Assign 1 aop.Assign (Name 1 22) (Name 1 33), Some (Node (PointerTo (ConstOf (IntTy kind.Int))) 1 true (typed.Assign (object (PointerTo (ConstOf (IntTy kind.Int))) 15) (Node (PointerTo (ConstOf (IntTy kind.Int))) 1 false (typed.ArrayPointer (object (ArrayOf (ConstOf (IntTy kind.Int)) (Some 2)) 26)))))) ∷
    -- ppci = ppi
    (Assign 1 aop.Assign (Name 1 30) (Name 1 29), None) ∷
    -- pcpi = ppi
    (Assign 1 aop.Assign (Name 1 31) (Name 1 29), Some (Node (PointerTo (ConstOf (PointerTo (IntTy kind.Int)))) 1 true (typed.Assign (object (PointerTo (ConstOf (PointerTo (IntTy kind.Int)))) 24) (Node (PointerTo (ConstOf (PointerTo (IntTy kind.Int)))) 1 false (typed.Convert (value_of_object (PointerTo (PointerTo (IntTy kind.Int))) 22)))))) ∷
    -- ppi = pcpi
    (Assign 1 aop.Assign (Name 1 29) (Name 1 31), None) ∷
    -- ppi = &cpi
    (Assign 1 aop.Assign (Name 1 29) (Unary 1 uop.Address (Name 1 23)), None) ∷
    -- pcpi = &cpi
    (Assign 1 aop.Assign (Name 1 31) (Unary 1 uop.Address (Name 1 23)), Some (Node (PointerTo (ConstOf (PointerTo (IntTy kind.Int)))) 1 true (typed.Assign (object (PointerTo (ConstOf (PointerTo (IntTy kind.Int)))) 24) (Node (PointerTo (ConstOf (PointerTo (IntTy kind.Int)))) 1 true (typed.Address (object (ConstOf (PointerTo (IntTy kind.Int))) 16)))))) ∷
    -- pca3 = pa3
    (Assign 1 aop.Assign (Name 1 40) (Name 1 38), None) ∷
    -- pa3 = &a
    (Assign 1 aop.Assign (Name 1 38) (Unary 1 uop.Address (Name 1 32)), Some (Node (PointerTo (ArrayOf (IntTy kind.Int) (Some 3))) 1 true (typed.Assign (object (PointerTo (ArrayOf (IntTy kind.Int) (Some 3))) 31) (Node (PointerTo (ArrayOf (IntTy kind.Int) (Some 3))) 1 true (typed.Address (object (ArrayOf (IntTy kind.Int) (Some 3)) 25)))))) ∷
    -- pa3 = m
    (Assign 1 aop.Assign (Name 1 38) (Name 1 34), Some (Node (PointerTo (ArrayOf (IntTy kind.Int) (Some 3))) 1 true (typed.Assign (object (PointerTo (ArrayOf (IntTy kind.Int) (Some 3))) 31) (Node (PointerTo (ArrayOf (IntTy kind.Int) (Some 3))) 1 false (typed.ArrayPointer (object (ArrayOf (ArrayOf (IntTy kind.Int) (Some 3)) (Some 2)) 27)))))) ∷
    -- pa3 = cm
    (Assign 1 aop.Assign (Name 1 38) (Name 1 35), None) ∷
    -- pca3 = cm
    (Assign 1 aop.Assign (Name 1 40) (Name 1 35), Some (Node (PointerTo (ArrayOf (ConstOf (IntTy kind.Int)) (Some 3))) 1 true (typed.Assign (object (PointerTo (ArrayOf (ConstOf (IntTy kind.Int)) (Some 3))) 33) (Node (PointerTo (ArrayOf (ConstOf (IntTy kind.Int)) (Some 3))) 1 false (typed.ArrayPointer (object (ArrayOf (ArrayOf (ConstOf (IntTy kind.Int)) (Some 3)) (Some 2)) 28)))))) ∷
    -- pa3 = &open
    (Assign 1 aop.Assign (Name 1 38) (Unary 1 uop.Address (Name 1 56)), Some (Node (PointerTo (ArrayOf (IntTy kind.Int) (Some 3))) 1 true (typed.Assign (object (PointerTo (ArrayOf (IntTy kind.Int) (Some 3))) 31) (Node (PointerTo (ArrayOf (IntTy kind.Int) (Some 3))) 1 false (typed.Convert (Node (PointerTo (ArrayOf (IntTy kind.Int) None)) 1 true (typed.Address (object (ArrayOf (IntTy kind.Int) None) 49)))))))) ∷
    -- pa4 = &open
    (Assign 1 aop.Assign (Name 1 39) (Unary 1 uop.Address (Name 1 56)), Some (Node (PointerTo (ArrayOf (IntTy kind.Int) (Some 4))) 1 true (typed.Assign (object (PointerTo (ArrayOf (IntTy kind.Int) (Some 4))) 32) (Node (PointerTo (ArrayOf (IntTy kind.Int) (Some 4))) 1 false (typed.Convert (Node (PointerTo (ArrayOf (IntTy kind.Int) None)) 1 true (typed.Address (object (ArrayOf (IntTy kind.Int) None) 49)))))))) ∷
    -- pa4 = &a
    (Assign 1 aop.Assign (Name 1 39) (Unary 1 uop.Address (Name 1 32)), None) ∷
    -- pv = pci
    (Assign 1 aop.Assign (Name 1 24) (Name 1 22), None) ∷
    -- pcv = pci
    (Assign 1 aop.Assign (Name 1 25) (Name 1 22), Some (Node (PointerTo (ConstOf VoidTy)) 1 true (typed.Assign (object (PointerTo (ConstOf VoidTy)) 18) (Node (PointerTo (ConstOf VoidTy)) 1 false (typed.Convert (value_of_object (PointerTo (ConstOf (IntTy kind.Int))) 15)))))) ∷
    -- pv = ppci
    (Assign 1 aop.Assign (Name 1 24) (Name 1 30), Some (Node (PointerTo VoidTy) 1 true (typed.Assign (object (PointerTo VoidTy) 17) (Node (PointerTo VoidTy) 1 false (typed.Convert (value_of_object (PointerTo (PointerTo (ConstOf (IntTy kind.Int)))) 23)))))) ∷
    -- pc = pcc
    (Assign 1 aop.Assign (Name 1 26) (Name 1 27), None) ∷
    -- pcc = pc
    (Assign 1 aop.Assign (Name 1 27) (Name 1 26), Some (Node (PointerTo (ConstOf (IntTy kind.Char))) 1 true (typed.Assign (object (PointerTo (ConstOf (IntTy kind.Char))) 20) (Node (PointerTo (ConstOf (IntTy kind.Char))) 1 false (typed.Convert (value_of_object (PointerTo (IntTy kind.Char)) 19)))))) ∷
    -- pcc = "abc"
    (Assign 1 aop.Assign (Name 1 27) (Text 1 4 0), Some (Node (PointerTo (ConstOf (IntTy kind.Char))) 1 true (typed.Assign (object (PointerTo (ConstOf (IntTy kind.Char))) 20) (Node (PointerTo (ConstOf (IntTy kind.Char))) 1 false (typed.Convert (Node (PointerTo (IntTy kind.Char)) 1 false (typed.ArrayPointer (Node (ArrayOf (IntTy kind.Char) (Some 4)) 1 true (typed.String 0))))))))) ∷
    -- pc = "abc"
    (Assign 1 aop.Assign (Name 1 26) (Text 1 4 0), Some (Node (PointerTo (IntTy kind.Char)) 1 true (typed.Assign (object (PointerTo (IntTy kind.Char)) 19) (Node (PointerTo (IntTy kind.Char)) 1 false (typed.ArrayPointer (Node (ArrayOf (IntTy kind.Char) (Some 4)) 1 true (typed.String 0))))))) ∷
    -- pui = pi
    (Assign 1 aop.Assign (Name 1 28) (Name 1 21), None) ∷
    -- pn = &cnode
    (Assign 1 aop.Assign (Name 1 46) (Unary 1 uop.Address (Name 1 45)), None) ∷
    -- pcn = &node
    (Assign 1 aop.Assign (Name 1 47) (Unary 1 uop.Address (Name 1 44)), Some (Node (PointerTo (ConstOf (StructTag 1))) 1 true (typed.Assign (object (PointerTo (ConstOf (StructTag 1))) 40) (Node (PointerTo (ConstOf (StructTag 1))) 1 false (typed.Convert (Node (PointerTo (StructTag 1)) 1 true (typed.Address (object (StructTag 1) 37)))))))) ∷
    -- bo = pci
    (Assign 1 aop.Assign (Name 1 7) (Name 1 22), Some (Node (IntTy kind.Bool) 1 true (typed.Assign (object (IntTy kind.Bool) 0) (Node (IntTy kind.Bool) 1 false (typed.Convert (value_of_object (PointerTo (ConstOf (IntTy kind.Int))) 15)))))) ∷
    -- bo = a
    (Assign 1 aop.Assign (Name 1 7) (Name 1 32), Some (Node (IntTy kind.Bool) 1 true (typed.Assign (object (IntTy kind.Bool) 0) (Node (IntTy kind.Bool) 1 false (typed.Convert (Node (PointerTo (IntTy kind.Int)) 1 false (typed.ArrayPointer (object (ArrayOf (IntTy kind.Int) (Some 3)) 25)))))))) ∷
    -- bo = node
    (Assign 1 aop.Assign (Name 1 7) (Name 1 44), None) ∷
    -- l = pi
    (Assign 1 aop.Assign (Name 1 15) (Name 1 21), None) ∷
    [])
unfolding type_of_words layouts_of are_compatible
assigned_pointer_rows = refl

-- Arguments are assigned to parameters (C17 6.5.2.2p2).
passed_pointer_rows : AreTyped context (
    -- keep(ci, cpi)
    (Call 1 (Name 1 68) (Argument (Argument NoArguments (Name 1 19)) (Name 1 23)), Some (Node (IntTy kind.Int) 1 true (typed.Call 10 (More (Node (IntTy kind.Int) 1 false (typed.Read (object (ConstOf (IntTy kind.Int)) 12))) (More (Node (PointerTo (IntTy kind.Int)) 1 false (typed.Read (object (ConstOf (PointerTo (IntTy kind.Int))) 16))) NoMore))))) ∷
    -- keep(i, pci)
    (Call 1 (Name 1 68) (Argument (Argument NoArguments (Name 1 13)) (Name 1 22)), None) ∷
    -- find(&ci)
    (Call 1 (Name 1 65) (Argument NoArguments (Unary 1 uop.Address (Name 1 19))), Some (Node (PointerTo (IntTy kind.Int)) 1 true (typed.Call 7 (More (Node (PointerTo (ConstOf (IntTy kind.Int))) 1 true (typed.Address (object (ConstOf (IntTy kind.Int)) 12))) NoMore)))) ∷
    -- find(ca)
    (Call 1 (Name 1 65) (Argument NoArguments (Name 1 33)), Some (Node (PointerTo (IntTy kind.Int)) 1 true (typed.Call 7 (More (Node (PointerTo (ConstOf (IntTy kind.Int))) 1 false (typed.ArrayPointer (object (ArrayOf (ConstOf (IntTy kind.Int)) (Some 2)) 26))) NoMore)))) ∷
    [])
unfolding layouts_of are_compatible library_named
passed_pointer_rows = refl
