-- Conditionals, assignments and commas (C17 6.5.15 to 6.5.17), calls (6.5.2.2), and type names that declare, in one context.
use Rattle.std.specs.Prelude.{refl, true, false, Some, None, [], ◌∷◌}
use Rattle.pv_num.specs.declared.kinds.IntKind.TheVariants as kind
use Rattle.pv_num.specs.declared.operators.BinOp.TheVariants as arithmetic
use Rattle.pv_token.specs.declared.words.Word.TheVariants as word
use Rattle.pv_library.specs.declared.library.Library.TheVariants as library
use Rattle.pv_tree.specs.declared.operators.UnaryOperator.TheVariants as uop
use Rattle.pv_tree.specs.declared.operators.BinaryOperator.TheVariants as bop
use Rattle.pv_tree.specs.declared.operators.AssignOperator.TheVariants as aop
use Rattle.pv_tree.specs.Syntax.{Name, Number, Text, Paren, Call, Unary, SizeofType, Cast, Binary, Conditional, Assign, Comma, NoArguments, Argument, MemberDeclaration, Enumerator, TypeName, DeclaredName, Pointer, Array, AbstractParen, AbstractPointer, AbstractArray, Keyword, Composite, Enumeration, Tag, OfExpression, OfDeclaration, OfDeclarator, OfSpecifier, NoTrees, Then, Absent, Present}
use Rattle.pv_types.specs.Ty.{VoidTy, IntTy, PointerTo, ArrayOf, StructTag, UnionTag, ConstOf}
use Rattle.pv_types.specs.Layouts.{layouts_of}
use Rattle.pv_types.specs.Compatible.{are_compatible}
use Rattle.pv_typed.specs.declared.nodes.Sign.TheVariants as sign
use Rattle.pv_typed.specs.TypedTree as typed
use Rattle.pv_typed.specs.TypedTree.{Node, NoArguments as NoMore, MoreArguments as More}
use Rattle.pv_check.specs.Words.{type_of_words}
use Rattle.pv_library.specs.LibraryNames.{library_named}
use Rattle.pv_check.proofs.ExampleContext.{context}
use Rattle.pv_check.proofs.ExampleRows.{AreTyped, object, value_of_object, int_constant}

-- The operator `?:` (C17 6.5.15).
conditional_rows : AreTyped context (
    -- i ? pi : 0
    (Conditional 1 (Name 1 9) (Name 1 17) (Number 1 0 false false 0), Some (Node (PointerTo (IntTy kind.Int)) 1 true (typed.Conditional (value_of_object (IntTy kind.Int) 5) (value_of_object (PointerTo (IntTy kind.Int)) 13) (Node (PointerTo (IntTy kind.Int)) 1 false (typed.Convert (int_constant 0)))))) ∷
    -- i ? 0 : pi
    (Conditional 1 (Name 1 9) (Number 1 0 false false 0) (Name 1 17), Some (Node (PointerTo (IntTy kind.Int)) 1 true (typed.Conditional (value_of_object (IntTy kind.Int) 5) (Node (PointerTo (IntTy kind.Int)) 1 false (typed.Convert (int_constant 0))) (value_of_object (PointerTo (IntTy kind.Int)) 13)))) ∷
    -- i ? pi : pci
    (Conditional 1 (Name 1 9) (Name 1 17) (Name 1 18), Some (Node (PointerTo (ConstOf (IntTy kind.Int))) 1 true (typed.Conditional (value_of_object (IntTy kind.Int) 5) (Node (PointerTo (ConstOf (IntTy kind.Int))) 1 false (typed.Convert (value_of_object (PointerTo (IntTy kind.Int)) 13))) (value_of_object (PointerTo (ConstOf (IntTy kind.Int))) 14)))) ∷
    -- i ? pi : pv
    (Conditional 1 (Name 1 9) (Name 1 17) (Name 1 20), Some (Node (PointerTo VoidTy) 1 true (typed.Conditional (value_of_object (IntTy kind.Int) 5) (Node (PointerTo VoidTy) 1 false (typed.Convert (value_of_object (PointerTo (IntTy kind.Int)) 13))) (value_of_object (PointerTo VoidTy) 16)))) ∷
    -- i ? pi : (void *)0
    (Conditional 1 (Name 1 9) (Name 1 17) (Cast 1 (TypeName 1 (Then NoTrees (OfSpecifier (Keyword 1 word.Void))) (Present (OfDeclarator (AbstractPointer 1 0 Absent)))) (Number 1 0 false false 0)), Some (Node (PointerTo (IntTy kind.Int)) 1 true (typed.Conditional (value_of_object (IntTy kind.Int) 5) (value_of_object (PointerTo (IntTy kind.Int)) 13) (Node (PointerTo (IntTy kind.Int)) 1 false (typed.Convert (Node (PointerTo VoidTy) 1 true (typed.Cast (int_constant 0)))))))) ∷
    -- i ? (const int *)pi : (void *)0
    (Conditional 1 (Name 1 9) (Cast 1 (TypeName 1 (Then (Then NoTrees (OfSpecifier (Keyword 1 word.Const))) (OfSpecifier (Keyword 1 word.Int))) (Present (OfDeclarator (AbstractPointer 1 0 Absent)))) (Name 1 17)) (Cast 1 (TypeName 1 (Then NoTrees (OfSpecifier (Keyword 1 word.Void))) (Present (OfDeclarator (AbstractPointer 1 0 Absent)))) (Number 1 0 false false 0)), Some (Node (PointerTo (ConstOf (IntTy kind.Int))) 1 true (typed.Conditional (value_of_object (IntTy kind.Int) 5) (Node (PointerTo (ConstOf (IntTy kind.Int))) 1 true (typed.Cast (value_of_object (PointerTo (IntTy kind.Int)) 13))) (Node (PointerTo (ConstOf (IntTy kind.Int))) 1 false (typed.Convert (Node (PointerTo VoidTy) 1 true (typed.Cast (int_constant 0)))))))) ∷
    -- i ? pcv : pi
    (Conditional 1 (Name 1 9) (Name 1 21) (Name 1 17), Some (Node (PointerTo (ConstOf VoidTy)) 1 true (typed.Conditional (value_of_object (IntTy kind.Int) 5) (value_of_object (PointerTo (ConstOf VoidTy)) 17) (Node (PointerTo (ConstOf VoidTy)) 1 false (typed.Convert (value_of_object (PointerTo (IntTy kind.Int)) 13)))))) ∷
    -- i ? ch : ul
    (Conditional 1 (Name 1 9) (Name 1 4) (Name 1 12), Some (Node (IntTy kind.ULong) 1 true (typed.Conditional (value_of_object (IntTy kind.Int) 5) (Node (IntTy kind.ULong) 1 false (typed.Convert (value_of_object (IntTy kind.Char) 0))) (value_of_object (IntTy kind.ULong) 8)))) ∷
    -- i ? st : cst
    (Conditional 1 (Name 1 9) (Name 1 28) (Name 1 29), Some (Node (StructTag 0) 1 true (typed.Conditional (value_of_object (IntTy kind.Int) 5) (value_of_object (StructTag 0) 24) (Node (StructTag 0) 1 false (typed.Read (object (ConstOf (StructTag 0)) 25)))))) ∷
    -- i ? st : un
    (Conditional 1 (Name 1 9) (Name 1 28) (Name 1 34), None) ∷
    -- i ? nothing() : nothing()
    (Conditional 1 (Name 1 9) (Call 1 (Name 1 40) NoArguments) (Call 1 (Name 1 40) NoArguments), Some (Node VoidTy 1 true (typed.Conditional (value_of_object (IntTy kind.Int) 5) (Node VoidTy 1 true (typed.Call 2 NoMore)) (Node VoidTy 1 true (typed.Call 2 NoMore))))) ∷
    -- i ? nothing() : i
    (Conditional 1 (Name 1 9) (Call 1 (Name 1 40) NoArguments) (Name 1 9), None) ∷
    -- st ? 1 : 2
    (Conditional 1 (Name 1 28) (Number 1 1 true false 0) (Number 1 2 true false 0), None) ∷
    -- i ? pi : i
    (Conditional 1 (Name 1 9) (Name 1 17) (Name 1 9), None) ∷
    -- i ? pi : pc
    (Conditional 1 (Name 1 9) (Name 1 17) (Name 1 22), None) ∷
    [])
unfolding type_of_words layouts_of are_compatible library_named
conditional_rows = refl

-- Simple assignments (C17 6.5.16.1).
simple_assignment_rows : AreTyped context (
    -- i = ch
    (Assign 1 aop.Assign (Name 1 9) (Name 1 4), Some (Node (IntTy kind.Int) 1 true (typed.Assign (object (IntTy kind.Int) 5) (Node (IntTy kind.Int) 1 false (typed.Convert (value_of_object (IntTy kind.Char) 0)))))) ∷
    -- ch = i
    (Assign 1 aop.Assign (Name 1 4) (Name 1 9), Some (Node (IntTy kind.Char) 1 true (typed.Assign (object (IntTy kind.Char) 0) (Node (IntTy kind.Char) 1 false (typed.Convert (value_of_object (IntTy kind.Int) 5)))))) ∷
    -- bo = pi
    (Assign 1 aop.Assign (Name 1 15) (Name 1 17), Some (Node (IntTy kind.Bool) 1 true (typed.Assign (object (IntTy kind.Bool) 11) (Node (IntTy kind.Bool) 1 false (typed.Convert (value_of_object (PointerTo (IntTy kind.Int)) 13)))))) ∷
    -- i = pi
    (Assign 1 aop.Assign (Name 1 9) (Name 1 17), None) ∷
    -- pi = 0
    (Assign 1 aop.Assign (Name 1 17) (Number 1 0 false false 0), Some (Node (PointerTo (IntTy kind.Int)) 1 true (typed.Assign (object (PointerTo (IntTy kind.Int)) 13) (Node (PointerTo (IntTy kind.Int)) 1 false (typed.Convert (int_constant 0)))))) ∷
    -- pi = i
    (Assign 1 aop.Assign (Name 1 17) (Name 1 9), None) ∷
    -- pi = pci
    (Assign 1 aop.Assign (Name 1 17) (Name 1 18), None) ∷
    -- pci = pi
    (Assign 1 aop.Assign (Name 1 18) (Name 1 17), Some (Node (PointerTo (ConstOf (IntTy kind.Int))) 1 true (typed.Assign (object (PointerTo (ConstOf (IntTy kind.Int))) 14) (Node (PointerTo (ConstOf (IntTy kind.Int))) 1 false (typed.Convert (value_of_object (PointerTo (IntTy kind.Int)) 13)))))) ∷
    -- pv = pi
    (Assign 1 aop.Assign (Name 1 20) (Name 1 17), Some (Node (PointerTo VoidTy) 1 true (typed.Assign (object (PointerTo VoidTy) 16) (Node (PointerTo VoidTy) 1 false (typed.Convert (value_of_object (PointerTo (IntTy kind.Int)) 13)))))) ∷
    -- pi = pv
    (Assign 1 aop.Assign (Name 1 17) (Name 1 20), Some (Node (PointerTo (IntTy kind.Int)) 1 true (typed.Assign (object (PointerTo (IntTy kind.Int)) 13) (Node (PointerTo (IntTy kind.Int)) 1 false (typed.Convert (value_of_object (PointerTo VoidTy) 16)))))) ∷
    -- pi = pcv
    (Assign 1 aop.Assign (Name 1 17) (Name 1 21), None) ∷
    -- a = a
    (Assign 1 aop.Assign (Name 1 24) (Name 1 24), None) ∷
    -- ci = 1
    (Assign 1 aop.Assign (Name 1 16) (Number 1 1 true false 0), None) ∷
    -- st = st
    (Assign 1 aop.Assign (Name 1 28) (Name 1 28), None) ∷
    -- node = make(2)
    (Assign 1 aop.Assign (Name 1 32) (Call 1 (Name 1 38) (Argument NoArguments (Number 1 2 true false 0))), Some (Node (StructTag 1) 1 true (typed.Assign (object (StructTag 1) 28) (Node (StructTag 1) 1 true (typed.Call 0 (More (int_constant 2) NoMore)))))) ∷
    -- un = un
    (Assign 1 aop.Assign (Name 1 34) (Name 1 34), Some (Node (UnionTag 3) 1 true (typed.Assign (object (UnionTag 3) 30) (value_of_object (UnionTag 3) 30)))) ∷
    -- node = *pn
    (Assign 1 aop.Assign (Name 1 32) (Unary 1 uop.Indirection (Name 1 33)), Some (Node (StructTag 1) 1 true (typed.Assign (object (StructTag 1) 28) (Node (StructTag 1) 1 false (typed.Read (Node (StructTag 1) 1 true (typed.Indirection (value_of_object (PointerTo (StructTag 1)) 29)))))))) ∷
    -- 1 = i
    (Assign 1 aop.Assign (Number 1 1 true false 0) (Name 1 9), None) ∷
    [])
unfolding type_of_words layouts_of are_compatible library_named
simple_assignment_rows = refl

-- Compound assignments (C17 6.5.16.2).
compound_assignment_rows : AreTyped context (
    -- i += l
    (Assign 1 aop.Add (Name 1 9) (Name 1 11), Some (Node (IntTy kind.Int) 1 true (typed.CompoundAssign arithmetic.Add kind.Long (object (IntTy kind.Int) 5) (value_of_object (IntTy kind.Long) 7)))) ∷
    -- ch *= ul
    (Assign 1 aop.Multiply (Name 1 4) (Name 1 12), Some (Node (IntTy kind.Char) 1 true (typed.CompoundAssign arithmetic.Mul kind.ULong (object (IntTy kind.Char) 0) (value_of_object (IntTy kind.ULong) 8)))) ∷
    -- i <<= ul
    (Assign 1 aop.ShiftLeft (Name 1 9) (Name 1 12), Some (Node (IntTy kind.Int) 1 true (typed.CompoundAssign arithmetic.Shl kind.Int (object (IntTy kind.Int) 5) (value_of_object (IntTy kind.ULong) 8)))) ∷
    -- pi += ch
    (Assign 1 aop.Add (Name 1 17) (Name 1 4), Some (Node (PointerTo (IntTy kind.Int)) 1 true (typed.PointerAssign sign.Plus (object (PointerTo (IntTy kind.Int)) 13) (value_of_object (IntTy kind.Char) 0)))) ∷
    -- pi -= 1
    (Assign 1 aop.Subtract (Name 1 17) (Number 1 1 true false 0), Some (Node (PointerTo (IntTy kind.Int)) 1 true (typed.PointerAssign sign.Minus (object (PointerTo (IntTy kind.Int)) 13) (int_constant 1)))) ∷
    -- pi *= 2
    (Assign 1 aop.Multiply (Name 1 17) (Number 1 2 true false 0), None) ∷
    -- pi += pi
    (Assign 1 aop.Add (Name 1 17) (Name 1 17), None) ∷
    -- i += pi
    (Assign 1 aop.Add (Name 1 9) (Name 1 17), None) ∷
    -- bo -= 1
    (Assign 1 aop.Subtract (Name 1 15) (Number 1 1 true false 0), Some (Node (IntTy kind.Bool) 1 true (typed.CompoundAssign arithmetic.Sub kind.Int (object (IntTy kind.Bool) 11) (int_constant 1)))) ∷
    -- ul %= i
    (Assign 1 aop.Remainder (Name 1 12) (Name 1 9), Some (Node (IntTy kind.ULong) 1 true (typed.CompoundAssign arithmetic.Rem kind.ULong (object (IntTy kind.ULong) 8) (Node (IntTy kind.ULong) 1 false (typed.Convert (value_of_object (IntTy kind.Int) 5)))))) ∷
    [])
unfolding type_of_words layouts_of are_compatible library_named
compound_assignment_rows = refl

-- The comma (C17 6.5.17).
comma_rows : AreTyped context (
    -- i, l
    (Comma 1 (Name 1 9) (Name 1 11), Some (Node (IntTy kind.Long) 1 true (typed.Comma (value_of_object (IntTy kind.Int) 5) (value_of_object (IntTy kind.Long) 7)))) ∷
    -- st, pi
    (Comma 1 (Name 1 28) (Name 1 17), Some (Node (PointerTo (IntTy kind.Int)) 1 true (typed.Comma (value_of_object (StructTag 0) 24) (value_of_object (PointerTo (IntTy kind.Int)) 13)))) ∷
    -- lt, 1
    (Comma 1 (Name 1 35) (Number 1 1 true false 0), None) ∷
    [])
unfolding type_of_words layouts_of are_compatible library_named
comma_rows = refl

-- Calls of functions of the program (C17 6.5.2.2).
function_call_rows : AreTyped context (
    -- add(1, 2)
    (Call 1 (Name 1 39) (Argument (Argument NoArguments (Number 1 1 true false 0)) (Number 1 2 true false 0)), Some (Node (IntTy kind.Int) 1 true (typed.Call 1 (More (int_constant 1) (More (Node (IntTy kind.Long) 1 false (typed.Convert (int_constant 2))) NoMore))))) ∷
    -- add(ch, i)
    (Call 1 (Name 1 39) (Argument (Argument NoArguments (Name 1 4)) (Name 1 9)), Some (Node (IntTy kind.Int) 1 true (typed.Call 1 (More (Node (IntTy kind.Int) 1 false (typed.Convert (value_of_object (IntTy kind.Char) 0))) (More (Node (IntTy kind.Long) 1 false (typed.Convert (value_of_object (IntTy kind.Int) 5))) NoMore))))) ∷
    -- (add)(1, l)
    (Call 1 (Paren 1 (Name 1 39)) (Argument (Argument NoArguments (Number 1 1 true false 0)) (Name 1 11)), Some (Node (IntTy kind.Int) 1 true (typed.Call 1 (More (int_constant 1) (More (value_of_object (IntTy kind.Long) 7) NoMore))))) ∷
    -- add(1)
    (Call 1 (Name 1 39) (Argument NoArguments (Number 1 1 true false 0)), None) ∷
    -- add(1, 2, 3)
    (Call 1 (Name 1 39) (Argument (Argument (Argument NoArguments (Number 1 1 true false 0)) (Number 1 2 true false 0)) (Number 1 3 true false 0)), None) ∷
    -- add(pi, 1)
    (Call 1 (Name 1 39) (Argument (Argument NoArguments (Name 1 17)) (Number 1 1 true false 0)), None) ∷
    -- nothing()
    (Call 1 (Name 1 40) NoArguments, Some (Node VoidTy 1 true (typed.Call 2 NoMore))) ∷
    -- nothing() + 1
    (Binary 1 bop.Add (Call 1 (Name 1 40) NoArguments) (Number 1 1 true false 0), None) ∷
    -- find(pi)
    (Call 1 (Name 1 41) (Argument NoArguments (Name 1 17)), Some (Node (PointerTo (IntTy kind.Int)) 1 true (typed.Call 3 (More (Node (PointerTo (ConstOf (IntTy kind.Int))) 1 false (typed.Convert (value_of_object (PointerTo (IntTy kind.Int)) 13))) NoMore)))) ∷
    -- find(0)
    (Call 1 (Name 1 41) (Argument NoArguments (Number 1 0 false false 0)), Some (Node (PointerTo (IntTy kind.Int)) 1 true (typed.Call 3 (More (Node (PointerTo (ConstOf (IntTy kind.Int))) 1 false (typed.Convert (int_constant 0))) NoMore)))) ∷
    -- make(i)
    (Call 1 (Name 1 38) (Argument NoArguments (Name 1 9)), Some (Node (StructTag 1) 1 true (typed.Call 0 (More (value_of_object (IntTy kind.Int) 5) NoMore)))) ∷
    -- i(1)
    (Call 1 (Name 1 9) (Argument NoArguments (Number 1 1 true false 0)), None) ∷
    -- nope(1)
    (Call 1 (Name 1 55) (Argument NoArguments (Number 1 1 true false 0)), None) ∷
    [])
unfolding type_of_words layouts_of are_compatible library_named
function_call_rows = refl

-- Calls of functions of the library (C17 7.21.6.3, 7.22.3).
library_call_rows : AreTyped context (
    -- printf("%d %s\n", ch, text)
    (Call 1 (Name 1 42) (Argument (Argument (Argument NoArguments (Text 1 3 0)) (Name 1 4)) (Name 1 27)), Some (Node (IntTy kind.Int) 1 true (typed.LibraryCall library.Printf (More (Node (PointerTo (ConstOf (IntTy kind.Char))) 1 false (typed.Convert (Node (PointerTo (IntTy kind.Char)) 1 false (typed.ArrayPointer (Node (ArrayOf (IntTy kind.Char) (Some 7)) 1 true (typed.String 0)))))) (More (Node (IntTy kind.Int) 1 false (typed.Convert (value_of_object (IntTy kind.Char) 0))) (More (Node (PointerTo (IntTy kind.Char)) 1 false (typed.ArrayPointer (object (ArrayOf (IntTy kind.Char) (Some 4)) 23))) NoMore)))))) ∷
    -- printf("%f")
    (Call 1 (Name 1 42) (Argument NoArguments (Text 1 4 0)), None) ∷
    -- printf(text)
    (Call 1 (Name 1 42) (Argument NoArguments (Name 1 27)), None) ∷
    -- printf(("%ld%%"), l, node)
    (Call 1 (Name 1 42) (Argument (Argument (Argument NoArguments (Paren 1 (Text 1 5 0))) (Name 1 11)) (Name 1 32)), Some (Node (IntTy kind.Int) 1 true (typed.LibraryCall library.Printf (More (Node (PointerTo (ConstOf (IntTy kind.Char))) 1 false (typed.Convert (Node (PointerTo (IntTy kind.Char)) 1 false (typed.ArrayPointer (Node (ArrayOf (IntTy kind.Char) (Some 6)) 1 true (typed.String 0)))))) (More (value_of_object (IntTy kind.Long) 7) (More (value_of_object (StructTag 1) 28) NoMore)))))) ∷
    -- printf("%")
    (Call 1 (Name 1 42) (Argument NoArguments (Text 1 6 0)), None) ∷
    -- malloc(sizeof (int))
    (Call 1 (Name 1 43) (Argument NoArguments (SizeofType 1 (TypeName 1 (Then NoTrees (OfSpecifier (Keyword 1 word.Int))) Absent))), Some (Node (PointerTo VoidTy) 1 true (typed.LibraryCall library.Malloc (More (Node (IntTy kind.ULong) 1 true (typed.Sizeof 4)) NoMore)))) ∷
    -- free(pi)
    (Call 1 (Name 1 44) (Argument NoArguments (Name 1 17)), Some (Node VoidTy 1 true (typed.LibraryCall library.Free (More (Node (PointerTo VoidTy) 1 false (typed.Convert (value_of_object (PointerTo (IntTy kind.Int)) 13))) NoMore)))) ∷
    [])
unfolding type_of_words layouts_of are_compatible library_named
library_call_rows = refl

-- Type names that declare a tag or enumerators, and the sizes of types (C17 6.7.2, 6.7.7).
named_type_rows : AreTyped context (
    -- sizeof (enum n { X = 3, Y, Z = sizeof (int) }) + Y
    (Binary 1 bop.Add (SizeofType 1 (TypeName 1 (Then NoTrees (OfSpecifier (Enumeration 1 (Some 57) (Then (Then (Then NoTrees (OfDeclaration (Enumerator 1 58 (Present (OfExpression (Number 1 3 true false 0)))))) (OfDeclaration (Enumerator 1 59 Absent))) (OfDeclaration (Enumerator 1 60 (Present (OfExpression (SizeofType 1 (TypeName 1 (Then NoTrees (OfSpecifier (Keyword 1 word.Int))) Absent))))))) false))) Absent)) (Name 1 59), Some (Node (IntTy kind.ULong) 1 true (typed.Arithmetic arithmetic.Add (Node (IntTy kind.ULong) 1 true (typed.Sizeof 4)) (Node (IntTy kind.ULong) 1 false (typed.Convert (int_constant 4)))))) ∷
    -- sizeof (struct q { int a; struct q *n; char c[2 + 1]; }) + sizeof (struct q)
    (Binary 1 bop.Add (SizeofType 1 (TypeName 1 (Then NoTrees (OfSpecifier (Composite 1 word.Struct (Some 61) (Then (Then (Then NoTrees (OfDeclaration (MemberDeclaration 1 (Then NoTrees (OfSpecifier (Keyword 1 word.Int))) (Then NoTrees (OfDeclarator (DeclaredName 1 24)))))) (OfDeclaration (MemberDeclaration 1 (Then NoTrees (OfSpecifier (Tag 1 word.Struct 61))) (Then NoTrees (OfDeclarator (Pointer 1 0 (DeclaredName 1 57))))))) (OfDeclaration (MemberDeclaration 1 (Then NoTrees (OfSpecifier (Keyword 1 word.Char))) (Then NoTrees (OfDeclarator (Array 1 (DeclaredName 1 51) (Present (OfExpression (Binary 1 bop.Add (Number 1 2 true false 0) (Number 1 1 true false 0))))))))))))) Absent)) (SizeofType 1 (TypeName 1 (Then NoTrees (OfSpecifier (Tag 1 word.Struct 61))) Absent)), Some (Node (IntTy kind.ULong) 1 true (typed.Arithmetic arithmetic.Add (Node (IntTy kind.ULong) 1 true (typed.Sizeof 24)) (Node (IntTy kind.ULong) 1 true (typed.Sizeof 24))))) ∷
    -- (struct q *)0
    (Cast 1 (TypeName 1 (Then NoTrees (OfSpecifier (Tag 1 word.Struct 61))) (Present (OfDeclarator (AbstractPointer 1 0 Absent)))) (Number 1 0 false false 0), Some (Node (PointerTo (StructTag 4)) 1 true (typed.Cast (int_constant 0)))) ∷
    -- sizeof (union w { long a; char b; }) + sizeof (union w)
    (Binary 1 bop.Add (SizeofType 1 (TypeName 1 (Then NoTrees (OfSpecifier (Composite 1 word.Union (Some 62) (Then (Then NoTrees (OfDeclaration (MemberDeclaration 1 (Then NoTrees (OfSpecifier (Keyword 1 word.Long))) (Then NoTrees (OfDeclarator (DeclaredName 1 24)))))) (OfDeclaration (MemberDeclaration 1 (Then NoTrees (OfSpecifier (Keyword 1 word.Char))) (Then NoTrees (OfDeclarator (DeclaredName 1 50))))))))) Absent)) (SizeofType 1 (TypeName 1 (Then NoTrees (OfSpecifier (Tag 1 word.Union 62))) Absent)), Some (Node (IntTy kind.ULong) 1 true (typed.Arithmetic arithmetic.Add (Node (IntTy kind.ULong) 1 true (typed.Sizeof 8)) (Node (IntTy kind.ULong) 1 true (typed.Sizeof 8))))) ∷
    -- sizeof (int *(*)[4])
    (SizeofType 1 (TypeName 1 (Then NoTrees (OfSpecifier (Keyword 1 word.Int))) (Present (OfDeclarator (AbstractPointer 1 0 (Present (OfDeclarator (AbstractArray 1 (Present (OfDeclarator (AbstractParen 1 (AbstractPointer 1 0 Absent)))) (Present (OfExpression (Number 1 4 true false 0)))))))))), Some (Node (IntTy kind.ULong) 1 true (typed.Sizeof 8))) ∷
    -- sizeof (int[0])
    (SizeofType 1 (TypeName 1 (Then NoTrees (OfSpecifier (Keyword 1 word.Int))) (Present (OfDeclarator (AbstractArray 1 Absent (Present (OfExpression (Number 1 0 false false 0))))))), None) ∷
    -- sizeof (int[i])
    (SizeofType 1 (TypeName 1 (Then NoTrees (OfSpecifier (Keyword 1 word.Int))) (Present (OfDeclarator (AbstractArray 1 Absent (Present (OfExpression (Name 1 9))))))), None) ∷
    -- sizeof (enum e)
    (SizeofType 1 (TypeName 1 (Then NoTrees (OfSpecifier (Tag 1 word.Enum 49))) Absent), Some (Node (IntTy kind.ULong) 1 true (typed.Sizeof 4))) ∷
    -- sizeof (struct e)
    (SizeofType 1 (TypeName 1 (Then NoTrees (OfSpecifier (Tag 1 word.Struct 49))) Absent), None) ∷
    [])
unfolding type_of_words layouts_of are_compatible library_named
named_type_rows = refl
