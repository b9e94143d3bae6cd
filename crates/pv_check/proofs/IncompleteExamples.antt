-- Incomplete structures, arrays of unknown size and void (C17 6.2.5p1, p19 and p22): where a value or a size is needed there is no typed
-- tree, elsewhere there is.
use Rattle.std.specs.Prelude.{refl, true, false, Some, None, [], ◌∷◌}
use Rattle.pv_num.specs.declared.kinds.IntKind.TheVariants as kind
use Rattle.pv_num.specs.declared.operators.BinOp.TheVariants as arithmetic
use Rattle.pv_token.specs.declared.words.Word.TheVariants as word
use Rattle.pv_tree.specs.declared.operators.UnaryOperator.TheVariants as uop
use Rattle.pv_tree.specs.declared.operators.BinaryOperator.TheVariants as bop
use Rattle.pv_tree.specs.declared.operators.AssignOperator.TheVariants as aop
use Rattle.pv_typed.specs.declared.nodes.Sign.TheVariants as sign
use Rattle.pv_typed.specs.TypedTree as typed
use Rattle.pv_tree.specs.Syntax.{Name, Number, Paren, Index, Call, Member, Arrow, PostIncrement, PreIncrement, PreDecrement, Unary, SizeofExpr, SizeofType, Cast, Binary, Conditional, Assign, Comma, NoArguments, Argument, MemberDeclaration, TypeName, DeclaredName, AbstractPointer, AbstractArray, Keyword, Composite, Tag, OfExpression, OfDeclaration, OfDeclarator, OfSpecifier, NoTrees, Then, Absent, Present}
use Rattle.pv_types.specs.Ty.{VoidTy, IntTy, PointerTo, ArrayOf, StructTag, ConstOf}
use Rattle.pv_types.specs.Layouts.{layouts_of}
use Rattle.pv_types.specs.Compatible.{are_compatible}
use Rattle.pv_check.specs.Words.{type_of_words}
use Rattle.pv_library.specs.LibraryNames.{library_named}
use Rattle.pv_typed.specs.TypedTree.{Node, NoArguments as NoMore, MoreArguments as More}
use Rattle.pv_check.proofs.MoreExamples.{context}
use Rattle.pv_check.proofs.ExampleRows.{AreTyped, object, value_of_object, int_constant}

-- An lvalue of incomplete structure type, of which no value is taken (C17 6.3.2.1p2).
incomplete_structure_rows : AreTyped context (
    -- lt
    (Name 1 54, Some (object (StructTag 4) 47)) ∷
    -- &lt
    (Unary 1 uop.Address (Name 1 54), Some (Node (PointerTo (StructTag 4)) 1 true (typed.Address (object (StructTag 4) 47)))) ∷
    -- *&lt
    (Unary 1 uop.Indirection (Unary 1 uop.Address (Name 1 54)), Some (Node (StructTag 4) 1 true (typed.Indirection (Node (PointerTo (StructTag 4)) 1 true (typed.Address (object (StructTag 4) 47)))))) ∷
    -- &*&lt
    (Unary 1 uop.Address (Unary 1 uop.Indirection (Unary 1 uop.Address (Name 1 54))), Some (Node (PointerTo (StructTag 4)) 1 true (typed.Address (Node (StructTag 4) 1 false (typed.Indirection (Node (PointerTo (StructTag 4)) 1 true (typed.Address (object (StructTag 4) 47)))))))) ∷
    -- *plt
    (Unary 1 uop.Indirection (Name 1 55), Some (Node (StructTag 4) 1 true (typed.Indirection (value_of_object (PointerTo (StructTag 4)) 48)))) ∷
    -- &*plt
    (Unary 1 uop.Address (Unary 1 uop.Indirection (Name 1 55)), Some (Node (PointerTo (StructTag 4)) 1 true (typed.Address (Node (StructTag 4) 1 false (typed.Indirection (value_of_object (PointerTo (StructTag 4)) 48)))))) ∷
    -- &**&plt
    (Unary 1 uop.Address (Unary 1 uop.Indirection (Unary 1 uop.Indirection (Unary 1 uop.Address (Name 1 55)))), Some (Node (PointerTo (StructTag 4)) 1 true (typed.Address (Node (StructTag 4) 1 false (typed.Indirection (Node (PointerTo (StructTag 4)) 1 false (typed.Read (Node (PointerTo (StructTag 4)) 1 true (typed.Indirection (Node (PointerTo (PointerTo (StructTag 4))) 1 true (typed.Address (object (PointerTo (StructTag 4)) 48)))))))))))) ∷
    -- lt = lt
    (Assign 1 aop.Assign (Name 1 54) (Name 1 54), None) ∷
    -- *plt = *plt
    (Assign 1 aop.Assign (Unary 1 uop.Indirection (Name 1 55)) (Unary 1 uop.Indirection (Name 1 55)), None) ∷
    -- (void)lt
    (Cast 1 (TypeName 1 (Then NoTrees (OfSpecifier (Keyword 1 word.Void))) Absent) (Name 1 54), None) ∷
    -- (void)*plt
    (Cast 1 (TypeName 1 (Then NoTrees (OfSpecifier (Keyword 1 word.Void))) Absent) (Unary 1 uop.Indirection (Name 1 55)), None) ∷
    -- lt, 1
    (Comma 1 (Name 1 54) (Number 1 1 true false 0), None) ∷
    -- 1, *plt
    (Comma 1 (Number 1 1 true false 0) (Unary 1 uop.Indirection (Name 1 55)), None) ∷
    -- !lt
    (Unary 1 uop.Not (Name 1 54), None) ∷
    -- lt.a
    (Member 1 (Name 1 54) 32, None) ∷
    -- plt->a
    (Arrow 1 (Name 1 55) 32, None) ∷
    -- plt[0]
    (Index 1 (Name 1 55) (Number 1 0 false false 0), None) ∷
    [])
unfolding type_of_words layouts_of are_compatible
incomplete_structure_rows = refl

-- A pointer to an incomplete structure: no sum and no difference (C17 6.5.6p2, p3).
pointer_to_incomplete_rows : AreTyped context (
    -- plt + 1
    (Binary 1 bop.Add (Name 1 55) (Number 1 1 true false 0), None) ∷
    -- 1 + plt
    (Binary 1 bop.Add (Number 1 1 true false 0) (Name 1 55), None) ∷
    -- plt - 1
    (Binary 1 bop.Subtract (Name 1 55) (Number 1 1 true false 0), None) ∷
    -- plt - plt
    (Binary 1 bop.Subtract (Name 1 55) (Name 1 55), None) ∷
    -- plt++
    (PostIncrement 1 (Name 1 55), None) ∷
    -- --plt
    (PreDecrement 1 (Name 1 55), None) ∷
    -- plt += 1
    (Assign 1 aop.Add (Name 1 55) (Number 1 1 true false 0), None) ∷
    -- plt = plt
    (Assign 1 aop.Assign (Name 1 55) (Name 1 55), Some (Node (PointerTo (StructTag 4)) 1 true (typed.Assign (object (PointerTo (StructTag 4)) 48) (value_of_object (PointerTo (StructTag 4)) 48)))) ∷
    -- plt = &lt
    (Assign 1 aop.Assign (Name 1 55) (Unary 1 uop.Address (Name 1 54)), Some (Node (PointerTo (StructTag 4)) 1 true (typed.Assign (object (PointerTo (StructTag 4)) 48) (Node (PointerTo (StructTag 4)) 1 true (typed.Address (object (StructTag 4) 47)))))) ∷
    -- plt = pv
    (Assign 1 aop.Assign (Name 1 55) (Name 1 24), Some (Node (PointerTo (StructTag 4)) 1 true (typed.Assign (object (PointerTo (StructTag 4)) 48) (Node (PointerTo (StructTag 4)) 1 false (typed.Convert (value_of_object (PointerTo VoidTy) 17)))))) ∷
    -- plt = pi
    (Assign 1 aop.Assign (Name 1 55) (Name 1 21), None) ∷
    -- plt == &lt
    (Binary 1 bop.Equal (Name 1 55) (Unary 1 uop.Address (Name 1 54)), Some (Node (IntTy kind.Int) 1 true (typed.PointerEquality arithmetic.Eq (value_of_object (PointerTo (StructTag 4)) 48) (Node (PointerTo (StructTag 4)) 1 true (typed.Address (object (StructTag 4) 47)))))) ∷
    -- plt <= &lt
    (Binary 1 bop.LessEqual (Name 1 55) (Unary 1 uop.Address (Name 1 54)), Some (Node (IntTy kind.Int) 1 true (typed.PointerOrder arithmetic.Le (value_of_object (PointerTo (StructTag 4)) 48) (Node (PointerTo (StructTag 4)) 1 true (typed.Address (object (StructTag 4) 47)))))) ∷
    -- plt && 1
    (Binary 1 bop.LogicalAnd (Name 1 55) (Number 1 1 true false 0), Some (Node (IntTy kind.Int) 1 true (typed.LogicalAnd (value_of_object (PointerTo (StructTag 4)) 48) (int_constant 1)))) ∷
    -- !plt
    (Unary 1 uop.Not (Name 1 55), Some (Node (IntTy kind.Int) 1 true (typed.Not (value_of_object (PointerTo (StructTag 4)) 48)))) ∷
    -- plt ? 1 : 0
    (Conditional 1 (Name 1 55) (Number 1 1 true false 0) (Number 1 0 false false 0), Some (Node (IntTy kind.Int) 1 true (typed.Conditional (value_of_object (PointerTo (StructTag 4)) 48) (int_constant 1) (int_constant 0)))) ∷
    -- (struct later *)pv
    (Cast 1 (TypeName 1 (Then NoTrees (OfSpecifier (Tag 1 word.Struct 89))) (Present (OfDeclarator (AbstractPointer 1 0 Absent)))) (Name 1 24), Some (Node (PointerTo (StructTag 4)) 1 true (typed.Cast (value_of_object (PointerTo VoidTy) 17)))) ∷
    -- (struct later)lt
    (Cast 1 (TypeName 1 (Then NoTrees (OfSpecifier (Tag 1 word.Struct 89))) Absent) (Name 1 54), None) ∷
    -- (long)plt
    (Cast 1 (TypeName 1 (Then NoTrees (OfSpecifier (Keyword 1 word.Long))) Absent) (Name 1 55), Some (Node (IntTy kind.Long) 1 true (typed.Cast (value_of_object (PointerTo (StructTag 4)) 48)))) ∷
    [])
unfolding type_of_words layouts_of are_compatible
pointer_to_incomplete_rows = refl

-- No size of an incomplete type (C17 6.5.3.4p1).
size_of_incomplete_rows : AreTyped context (
    -- sizeof lt
    (SizeofExpr 1 (Name 1 54), None) ∷
    -- sizeof *plt
    (SizeofExpr 1 (Unary 1 uop.Indirection (Name 1 55)), None) ∷
    -- sizeof plt
    (SizeofExpr 1 (Name 1 55), Some (Node (IntTy kind.ULong) 1 true (typed.Sizeof 8))) ∷
    -- sizeof (struct later)
    (SizeofType 1 (TypeName 1 (Then NoTrees (OfSpecifier (Tag 1 word.Struct 89))) Absent), None) ∷
    -- sizeof (struct later *)
    (SizeofType 1 (TypeName 1 (Then NoTrees (OfSpecifier (Tag 1 word.Struct 89))) (Present (OfDeclarator (AbstractPointer 1 0 Absent)))), Some (Node (IntTy kind.ULong) 1 true (typed.Sizeof 8))) ∷
    -- sizeof (struct later[2])
    (SizeofType 1 (TypeName 1 (Then NoTrees (OfSpecifier (Tag 1 word.Struct 89))) (Present (OfDeclarator (AbstractArray 1 Absent (Present (OfExpression (Number 1 2 true false 0))))))), None) ∷
    -- sizeof (struct { struct later z; })
    (SizeofType 1 (TypeName 1 (Then NoTrees (OfSpecifier (Composite 1 word.Struct None (Then NoTrees (OfDeclaration (MemberDeclaration 1 (Then NoTrees (OfSpecifier (Tag 1 word.Struct 89))) (Then NoTrees (OfDeclarator (DeclaredName 1 102))))))))) Absent), None) ∷
    [])
unfolding layouts_of are_compatible
size_of_incomplete_rows = refl

-- A call of a function with an incomplete result (C17 6.5.2.2p1).
incomplete_result_rows : AreTyped context (
    -- missing()
    (Call 1 (Name 1 62) NoArguments, None) ∷
    -- missing().a
    (Member 1 (Call 1 (Name 1 62) NoArguments) 32, None) ∷
    -- (void)missing()
    (Cast 1 (TypeName 1 (Then NoTrees (OfSpecifier (Keyword 1 word.Void))) Absent) (Call 1 (Name 1 62) NoArguments), None) ∷
    -- sizeof missing()
    (SizeofExpr 1 (Call 1 (Name 1 62) NoArguments), None) ∷
    [])
unfolding type_of_words layouts_of are_compatible library_named
incomplete_result_rows = refl

-- Arrays of unknown size (C17 6.2.5p22, 6.3.2.1p3).
unknown_size_rows : AreTyped context (
    -- open
    (Name 1 56, Some (object (ArrayOf (IntTy kind.Int) None) 49)) ∷
    -- &open
    (Unary 1 uop.Address (Name 1 56), Some (Node (PointerTo (ArrayOf (IntTy kind.Int) None)) 1 true (typed.Address (object (ArrayOf (IntTy kind.Int) None) 49)))) ∷
    -- open[1]
    (Index 1 (Name 1 56) (Number 1 1 true false 0), Some (Node (IntTy kind.Int) 1 true (typed.Subscript (Node (PointerTo (IntTy kind.Int)) 1 false (typed.ArrayPointer (object (ArrayOf (IntTy kind.Int) None) 49))) (int_constant 1)))) ∷
    -- *open
    (Unary 1 uop.Indirection (Name 1 56), Some (Node (IntTy kind.Int) 1 true (typed.Indirection (Node (PointerTo (IntTy kind.Int)) 1 false (typed.ArrayPointer (object (ArrayOf (IntTy kind.Int) None) 49)))))) ∷
    -- open + 1
    (Binary 1 bop.Add (Name 1 56) (Number 1 1 true false 0), Some (Node (PointerTo (IntTy kind.Int)) 1 true (typed.PointerSum sign.Plus (Node (PointerTo (IntTy kind.Int)) 1 false (typed.ArrayPointer (object (ArrayOf (IntTy kind.Int) None) 49))) (int_constant 1)))) ∷
    -- open == pi
    (Binary 1 bop.Equal (Name 1 56) (Name 1 21), Some (Node (IntTy kind.Int) 1 true (typed.PointerEquality arithmetic.Eq (Node (PointerTo (IntTy kind.Int)) 1 false (typed.ArrayPointer (object (ArrayOf (IntTy kind.Int) None) 49))) (value_of_object (PointerTo (IntTy kind.Int)) 14)))) ∷
    -- open = a
    (Assign 1 aop.Assign (Name 1 56) (Name 1 32), None) ∷
    -- sizeof open
    (SizeofExpr 1 (Name 1 56), None) ∷
    -- sizeof open[0]
    (SizeofExpr 1 (Index 1 (Name 1 56) (Number 1 0 false false 0)), Some (Node (IntTy kind.ULong) 1 true (typed.Sizeof 4))) ∷
    -- sizeof *&open
    (SizeofExpr 1 (Unary 1 uop.Indirection (Unary 1 uop.Address (Name 1 56))), None) ∷
    -- &open + 1
    (Binary 1 bop.Add (Unary 1 uop.Address (Name 1 56)) (Number 1 1 true false 0), None) ∷
    -- (*&open)[1]
    (Index 1 (Paren 1 (Unary 1 uop.Indirection (Unary 1 uop.Address (Name 1 56)))) (Number 1 1 true false 0), Some (Node (IntTy kind.Int) 1 true (typed.Subscript (Node (PointerTo (IntTy kind.Int)) 1 false (typed.ArrayPointer (Node (ArrayOf (IntTy kind.Int) None) 1 true (typed.Indirection (Node (PointerTo (ArrayOf (IntTy kind.Int) None)) 1 true (typed.Address (object (ArrayOf (IntTy kind.Int) None) 49))))))) (int_constant 1)))) ∷
    -- rows[1]
    (Index 1 (Name 1 57) (Number 1 1 true false 0), Some (Node (ArrayOf (IntTy kind.Int) (Some 3)) 1 true (typed.Subscript (Node (PointerTo (ArrayOf (IntTy kind.Int) (Some 3))) 1 false (typed.ArrayPointer (object (ArrayOf (ArrayOf (IntTy kind.Int) (Some 3)) None) 50))) (int_constant 1)))) ∷
    -- rows[1][2]
    (Index 1 (Index 1 (Name 1 57) (Number 1 1 true false 0)) (Number 1 2 true false 0), Some (Node (IntTy kind.Int) 1 true (typed.Subscript (Node (PointerTo (IntTy kind.Int)) 1 false (typed.ArrayPointer (Node (ArrayOf (IntTy kind.Int) (Some 3)) 1 true (typed.Subscript (Node (PointerTo (ArrayOf (IntTy kind.Int) (Some 3))) 1 false (typed.ArrayPointer (object (ArrayOf (ArrayOf (IntTy kind.Int) (Some 3)) None) 50))) (int_constant 1))))) (int_constant 2)))) ∷
    -- *rows
    (Unary 1 uop.Indirection (Name 1 57), Some (Node (ArrayOf (IntTy kind.Int) (Some 3)) 1 true (typed.Indirection (Node (PointerTo (ArrayOf (IntTy kind.Int) (Some 3))) 1 false (typed.ArrayPointer (object (ArrayOf (ArrayOf (IntTy kind.Int) (Some 3)) None) 50)))))) ∷
    -- &rows
    (Unary 1 uop.Address (Name 1 57), Some (Node (PointerTo (ArrayOf (ArrayOf (IntTy kind.Int) (Some 3)) None)) 1 true (typed.Address (object (ArrayOf (ArrayOf (IntTy kind.Int) (Some 3)) None) 50)))) ∷
    -- &rows[0]
    (Unary 1 uop.Address (Index 1 (Name 1 57) (Number 1 0 false false 0)), Some (Node (PointerTo (ArrayOf (IntTy kind.Int) (Some 3))) 1 true (typed.Address (Node (ArrayOf (IntTy kind.Int) (Some 3)) 1 false (typed.Subscript (Node (PointerTo (ArrayOf (IntTy kind.Int) (Some 3))) 1 false (typed.ArrayPointer (object (ArrayOf (ArrayOf (IntTy kind.Int) (Some 3)) None) 50))) (int_constant 0)))))) ∷
    -- sizeof rows
    (SizeofExpr 1 (Name 1 57), None) ∷
    -- sizeof rows[0]
    (SizeofExpr 1 (Index 1 (Name 1 57) (Number 1 0 false false 0)), Some (Node (IntTy kind.ULong) 1 true (typed.Sizeof 12))) ∷
    -- walk(&open)
    (Call 1 (Name 1 70) (Argument NoArguments (Unary 1 uop.Address (Name 1 56))), Some (Node (IntTy kind.Int) 1 true (typed.Call 12 (More (Node (PointerTo (ArrayOf (IntTy kind.Int) None)) 1 true (typed.Address (object (ArrayOf (IntTy kind.Int) None) 49))) NoMore)))) ∷
    -- walk(pa3)
    (Call 1 (Name 1 70) (Argument NoArguments (Name 1 38)), Some (Node (IntTy kind.Int) 1 true (typed.Call 12 (More (Node (PointerTo (ArrayOf (IntTy kind.Int) None)) 1 false (typed.Convert (value_of_object (PointerTo (ArrayOf (IntTy kind.Int) (Some 3))) 31))) NoMore)))) ∷
    -- walk(&a)
    (Call 1 (Name 1 70) (Argument NoArguments (Unary 1 uop.Address (Name 1 32))), Some (Node (IntTy kind.Int) 1 true (typed.Call 12 (More (Node (PointerTo (ArrayOf (IntTy kind.Int) None)) 1 false (typed.Convert (Node (PointerTo (ArrayOf (IntTy kind.Int) (Some 3))) 1 true (typed.Address (object (ArrayOf (IntTy kind.Int) (Some 3)) 25))))) NoMore)))) ∷
    -- walk(open)
    (Call 1 (Name 1 70) (Argument NoArguments (Name 1 56)), None) ∷
    -- walk(&ca)
    (Call 1 (Name 1 70) (Argument NoArguments (Unary 1 uop.Address (Name 1 33))), None) ∷
    -- total(open)
    (Call 1 (Name 1 69) (Argument NoArguments (Name 1 56)), Some (Node (IntTy kind.Int) 1 true (typed.Call 11 (More (Node (PointerTo (IntTy kind.Int)) 1 false (typed.ArrayPointer (object (ArrayOf (IntTy kind.Int) None) 49))) NoMore)))) ∷
    -- total(a)
    (Call 1 (Name 1 69) (Argument NoArguments (Name 1 32)), Some (Node (IntTy kind.Int) 1 true (typed.Call 11 (More (Node (PointerTo (IntTy kind.Int)) 1 false (typed.ArrayPointer (object (ArrayOf (IntTy kind.Int) (Some 3)) 25))) NoMore)))) ∷
    -- total(&a)
    (Call 1 (Name 1 69) (Argument NoArguments (Unary 1 uop.Address (Name 1 32))), None) ∷
    [])
unfolding layouts_of are_compatible library_named
unknown_size_rows = refl

-- What a pointer to void points to (C17 6.2.5p19, 6.5.3.2p4).
void_lvalue_rows : AreTyped context (
    -- *pv
    (Unary 1 uop.Indirection (Name 1 24), Some (Node VoidTy 1 true (typed.Indirection (value_of_object (PointerTo VoidTy) 17)))) ∷
    -- *pcv
    (Unary 1 uop.Indirection (Name 1 25), Some (Node VoidTy 1 true (typed.Indirection (value_of_object (PointerTo (ConstOf VoidTy)) 18)))) ∷
    -- &*pv
    (Unary 1 uop.Address (Unary 1 uop.Indirection (Name 1 24)), None) ∷
    -- *pv, 1
    (Comma 1 (Unary 1 uop.Indirection (Name 1 24)) (Number 1 1 true false 0), Some (Node (IntTy kind.Int) 1 true (typed.Comma (Node VoidTy 1 true (typed.Indirection (value_of_object (PointerTo VoidTy) 17))) (int_constant 1)))) ∷
    -- (void)*pv
    (Cast 1 (TypeName 1 (Then NoTrees (OfSpecifier (Keyword 1 word.Void))) Absent) (Unary 1 uop.Indirection (Name 1 24)), Some (Node VoidTy 1 true (typed.Cast (Node VoidTy 1 true (typed.Indirection (value_of_object (PointerTo VoidTy) 17)))))) ∷
    -- *pv + 1
    (Binary 1 bop.Add (Unary 1 uop.Indirection (Name 1 24)) (Number 1 1 true false 0), None) ∷
    -- pv[0]
    (Index 1 (Name 1 24) (Number 1 0 false false 0), None) ∷
    -- pv + 1
    (Binary 1 bop.Add (Name 1 24) (Number 1 1 true false 0), None) ∷
    -- pv - pv
    (Binary 1 bop.Subtract (Name 1 24) (Name 1 24), None) ∷
    -- ++pv
    (PreIncrement 1 (Name 1 24), None) ∷
    -- pv -= 1
    (Assign 1 aop.Subtract (Name 1 24) (Number 1 1 true false 0), None) ∷
    -- pv < pcv
    (Binary 1 bop.Less (Name 1 24) (Name 1 25), Some (Node (IntTy kind.Int) 1 true (typed.PointerOrder arithmetic.Lt (value_of_object (PointerTo VoidTy) 17) (value_of_object (PointerTo (ConstOf VoidTy)) 18)))) ∷
    -- sizeof *pv
    (SizeofExpr 1 (Unary 1 uop.Indirection (Name 1 24)), None) ∷
    -- (int)*pv
    (Cast 1 (TypeName 1 (Then NoTrees (OfSpecifier (Keyword 1 word.Int))) Absent) (Unary 1 uop.Indirection (Name 1 24)), None) ∷
    [])
unfolding type_of_words layouts_of are_compatible
void_lvalue_rows = refl

-- Void expressions (C17 6.3.2.2).
void_expression_rows : AreTyped context (
    -- nothing(), nothing()
    (Comma 1 (Call 1 (Name 1 64) NoArguments) (Call 1 (Name 1 64) NoArguments), Some (Node VoidTy 1 true (typed.Comma (Node VoidTy 1 true (typed.Call 6 NoMore)) (Node VoidTy 1 true (typed.Call 6 NoMore))))) ∷
    -- nothing() = 1
    (Assign 1 aop.Assign (Call 1 (Name 1 64) NoArguments) (Number 1 1 true false 0), None) ∷
    -- &nothing()
    (Unary 1 uop.Address (Call 1 (Name 1 64) NoArguments), None) ∷
    -- !nothing()
    (Unary 1 uop.Not (Call 1 (Name 1 64) NoArguments), None) ∷
    -- -nothing()
    (Unary 1 uop.Minus (Call 1 (Name 1 64) NoArguments), None) ∷
    -- nothing() == nothing()
    (Binary 1 bop.Equal (Call 1 (Name 1 64) NoArguments) (Call 1 (Name 1 64) NoArguments), None) ∷
    -- add(nothing(), 1)
    (Call 1 (Name 1 63) (Argument (Argument NoArguments (Call 1 (Name 1 64) NoArguments)) (Number 1 1 true false 0)), None) ∷
    -- (int)nothing()
    (Cast 1 (TypeName 1 (Then NoTrees (OfSpecifier (Keyword 1 word.Int))) Absent) (Call 1 (Name 1 64) NoArguments), None) ∷
    -- (void)nothing()
    (Cast 1 (TypeName 1 (Then NoTrees (OfSpecifier (Keyword 1 word.Void))) Absent) (Call 1 (Name 1 64) NoArguments), Some (Node VoidTy 1 true (typed.Cast (Node VoidTy 1 true (typed.Call 6 NoMore))))) ∷
    -- sizeof nothing()
    (SizeofExpr 1 (Call 1 (Name 1 64) NoArguments), None) ∷
    [])
unfolding type_of_words layouts_of are_compatible library_named
void_expression_rows = refl
