-- Functions of the library by their names (C17 7.21.6.3, 7.22.3, 7.22.4, 7.24): the parameters that each has, and names that are no
-- callee.
use Rattle.std.specs.Prelude.{refl, pos, true, false, Some, None, [], ◌∷◌}
use Rattle.pv_num.specs.declared.kinds.IntKind.TheVariants as kind
use Rattle.pv_token.specs.declared.words.Word.TheVariants as word
use Rattle.pv_library.specs.declared.library.Library.TheVariants as library
use Rattle.pv_tree.specs.declared.operators.UnaryOperator.TheVariants as uop
use Rattle.pv_tree.specs.declared.operators.BinaryOperator.TheVariants as bop
use Rattle.pv_tree.specs.declared.operators.AssignOperator.TheVariants as aop
use Rattle.pv_typed.specs.TypedTree as typed
use Rattle.pv_tree.specs.Syntax.{Name, Number, Character, Text, Paren, Index, Call, Unary, SizeofExpr, SizeofType, Cast, Binary, Conditional, Assign, Comma, NoArguments, Argument, TypeName, AbstractPointer, Keyword, OfDeclarator, OfSpecifier, NoTrees, Then, Absent, Present}
use Rattle.pv_types.specs.Ty.{VoidTy, IntTy, PointerTo, ArrayOf, StructTag, ConstOf}
use Rattle.pv_types.specs.Layouts.{layouts_of}
use Rattle.pv_types.specs.Compatible.{are_compatible}
use Rattle.pv_check.specs.Words.{type_of_words}
use Rattle.pv_library.specs.LibraryNames.{library_named}
use Rattle.pv_typed.specs.TypedTree.{Node, NoArguments as NoMore, MoreArguments as More}
use Rattle.pv_check.proofs.MoreExamples.{context}
use Rattle.pv_check.proofs.ExampleRows.{AreTyped, object, value_of_object, int_constant}

-- Functions that manage memory (C17 7.22.3).
memory_function_rows : AreTyped context (
    -- malloc(3)
    (Call 1 (Name 1 71) (Argument NoArguments (Number 1 3 true false 0)), Some (Node (PointerTo VoidTy) 1 true (typed.LibraryCall library.Malloc (More (Node (IntTy kind.ULong) 1 false (typed.Convert (int_constant 3))) NoMore)))) ∷
    -- malloc(ch)
    (Call 1 (Name 1 71) (Argument NoArguments (Name 1 8)), Some (Node (PointerTo VoidTy) 1 true (typed.LibraryCall library.Malloc (More (Node (IntTy kind.ULong) 1 false (typed.Convert (value_of_object (IntTy kind.Char) 1))) NoMore)))) ∷
    -- malloc()
    (Call 1 (Name 1 71) NoArguments, None) ∷
    -- malloc(1, 2)
    (Call 1 (Name 1 71) (Argument (Argument NoArguments (Number 1 1 true false 0)) (Number 1 2 true false 0)), None) ∷
    -- malloc(pi)
    (Call 1 (Name 1 71) (Argument NoArguments (Name 1 21)), None) ∷
    -- malloc(node)
    (Call 1 (Name 1 71) (Argument NoArguments (Name 1 44)), None) ∷
    -- malloc
    (Name 1 71, None) ∷
    -- &malloc
    (Unary 1 uop.Address (Name 1 71), None) ∷
    -- *malloc
    (Unary 1 uop.Indirection (Name 1 71), None) ∷
    -- sizeof malloc
    (SizeofExpr 1 (Name 1 71), None) ∷
    -- sizeof malloc(1)
    (SizeofExpr 1 (Call 1 (Name 1 71) (Argument NoArguments (Number 1 1 true false 0))), Some (Node (IntTy kind.ULong) 1 true (typed.Sizeof 8))) ∷
    -- (malloc)(4ul)
    (Call 1 (Paren 1 (Name 1 71)) (Argument NoArguments (Number 1 4 true true 1)), Some (Node (PointerTo VoidTy) 1 true (typed.LibraryCall library.Malloc (More (Node (IntTy kind.ULong) 1 true (typed.Constant (pos 4))) NoMore)))) ∷
    -- (*malloc)(4)
    (Call 1 (Paren 1 (Unary 1 uop.Indirection (Name 1 71))) (Argument NoArguments (Number 1 4 true false 0)), None) ∷
    -- *malloc(1)
    (Unary 1 uop.Indirection (Call 1 (Name 1 71) (Argument NoArguments (Number 1 1 true false 0))), Some (Node VoidTy 1 true (typed.Indirection (Node (PointerTo VoidTy) 1 true (typed.LibraryCall library.Malloc (More (Node (IntTy kind.ULong) 1 false (typed.Convert (int_constant 1))) NoMore)))))) ∷
    -- malloc(1)[0]
    (Index 1 (Call 1 (Name 1 71) (Argument NoArguments (Number 1 1 true false 0))) (Number 1 0 false false 0), None) ∷
    -- ((int *)malloc(8))[1]
    (Index 1 (Paren 1 (Cast 1 (TypeName 1 (Then NoTrees (OfSpecifier (Keyword 1 word.Int))) (Present (OfDeclarator (AbstractPointer 1 0 Absent)))) (Call 1 (Name 1 71) (Argument NoArguments (Number 1 8 true false 0))))) (Number 1 1 true false 0), Some (Node (IntTy kind.Int) 1 true (typed.Subscript (Node (PointerTo (IntTy kind.Int)) 1 true (typed.Cast (Node (PointerTo VoidTy) 1 true (typed.LibraryCall library.Malloc (More (Node (IntTy kind.ULong) 1 false (typed.Convert (int_constant 8))) NoMore))))) (int_constant 1)))) ∷
    -- pi = malloc(sizeof *pi)
    (Assign 1 aop.Assign (Name 1 21) (Call 1 (Name 1 71) (Argument NoArguments (SizeofExpr 1 (Unary 1 uop.Indirection (Name 1 21))))), Some (Node (PointerTo (IntTy kind.Int)) 1 true (typed.Assign (object (PointerTo (IntTy kind.Int)) 14) (Node (PointerTo (IntTy kind.Int)) 1 false (typed.Convert (Node (PointerTo VoidTy) 1 true (typed.LibraryCall library.Malloc (More (Node (IntTy kind.ULong) 1 true (typed.Sizeof 4)) NoMore)))))))) ∷
    -- pcn = malloc(16)
    (Assign 1 aop.Assign (Name 1 47) (Call 1 (Name 1 71) (Argument NoArguments (Number 1 16 true false 0))), Some (Node (PointerTo (ConstOf (StructTag 1))) 1 true (typed.Assign (object (PointerTo (ConstOf (StructTag 1))) 40) (Node (PointerTo (ConstOf (StructTag 1))) 1 false (typed.Convert (Node (PointerTo VoidTy) 1 true (typed.LibraryCall library.Malloc (More (Node (IntTy kind.ULong) 1 false (typed.Convert (int_constant 16))) NoMore)))))))) ∷
    -- calloc(2, sizeof (int))
    (Call 1 (Name 1 72) (Argument (Argument NoArguments (Number 1 2 true false 0)) (SizeofType 1 (TypeName 1 (Then NoTrees (OfSpecifier (Keyword 1 word.Int))) Absent))), Some (Node (PointerTo VoidTy) 1 true (typed.LibraryCall library.Calloc (More (Node (IntTy kind.ULong) 1 false (typed.Convert (int_constant 2))) (More (Node (IntTy kind.ULong) 1 true (typed.Sizeof 4)) NoMore))))) ∷
    -- calloc(2)
    (Call 1 (Name 1 72) (Argument NoArguments (Number 1 2 true false 0)), None) ∷
    -- free(0)
    (Call 1 (Name 1 73) (Argument NoArguments (Number 1 0 false false 0)), Some (Node VoidTy 1 true (typed.LibraryCall library.Free (More (Node (PointerTo VoidTy) 1 false (typed.Convert (int_constant 0))) NoMore)))) ∷
    -- free(a)
    (Call 1 (Name 1 73) (Argument NoArguments (Name 1 32)), Some (Node VoidTy 1 true (typed.LibraryCall library.Free (More (Node (PointerTo VoidTy) 1 false (typed.Convert (Node (PointerTo (IntTy kind.Int)) 1 false (typed.ArrayPointer (object (ArrayOf (IntTy kind.Int) (Some 3)) 25))))) NoMore)))) ∷
    -- free(i)
    (Call 1 (Name 1 73) (Argument NoArguments (Name 1 13)), None) ∷
    -- free(pci)
    (Call 1 (Name 1 73) (Argument NoArguments (Name 1 22)), None) ∷
    -- free(pv), i
    (Comma 1 (Call 1 (Name 1 73) (Argument NoArguments (Name 1 24))) (Name 1 13), Some (Node (IntTy kind.Int) 1 true (typed.Comma (Node VoidTy 1 true (typed.LibraryCall library.Free (More (value_of_object (PointerTo VoidTy) 17) NoMore))) (value_of_object (IntTy kind.Int) 6)))) ∷
    -- free(pv) + 1
    (Binary 1 bop.Add (Call 1 (Name 1 73) (Argument NoArguments (Name 1 24))) (Number 1 1 true false 0), None) ∷
    -- realloc(pv, 8)
    (Call 1 (Name 1 74) (Argument (Argument NoArguments (Name 1 24)) (Number 1 8 true false 0)), Some (Node (PointerTo VoidTy) 1 true (typed.LibraryCall library.Realloc (More (value_of_object (PointerTo VoidTy) 17) (More (Node (IntTy kind.ULong) 1 false (typed.Convert (int_constant 8))) NoMore))))) ∷
    -- realloc(0, us)
    (Call 1 (Name 1 74) (Argument (Argument NoArguments (Number 1 0 false false 0)) (Name 1 12)), Some (Node (PointerTo VoidTy) 1 true (typed.LibraryCall library.Realloc (More (Node (PointerTo VoidTy) 1 false (typed.Convert (int_constant 0))) (More (Node (IntTy kind.ULong) 1 false (typed.Convert (value_of_object (IntTy kind.UShort) 5))) NoMore))))) ∷
    -- realloc(pcv, 8)
    (Call 1 (Name 1 74) (Argument (Argument NoArguments (Name 1 25)) (Number 1 8 true false 0)), None) ∷
    [])
unfolding type_of_words layouts_of are_compatible library_named
memory_function_rows = refl

-- Functions on blocks of bytes (C17 7.24.2.1, 7.24.2.2, 7.24.4.1, 7.24.6.1).
block_function_rows : AreTyped context (
    -- memcpy(a, ca, sizeof a)
    (Call 1 (Name 1 75) (Argument (Argument (Argument NoArguments (Name 1 32)) (Name 1 33)) (SizeofExpr 1 (Name 1 32))), Some (Node (PointerTo VoidTy) 1 true (typed.LibraryCall library.Memcpy (More (Node (PointerTo VoidTy) 1 false (typed.Convert (Node (PointerTo (IntTy kind.Int)) 1 false (typed.ArrayPointer (object (ArrayOf (IntTy kind.Int) (Some 3)) 25))))) (More (Node (PointerTo (ConstOf VoidTy)) 1 false (typed.Convert (Node (PointerTo (ConstOf (IntTy kind.Int))) 1 false (typed.ArrayPointer (object (ArrayOf (ConstOf (IntTy kind.Int)) (Some 2)) 26))))) (More (Node (IntTy kind.ULong) 1 true (typed.Sizeof 12)) NoMore)))))) ∷
    -- memcpy(ca, a, 8)
    (Call 1 (Name 1 75) (Argument (Argument (Argument NoArguments (Name 1 33)) (Name 1 32)) (Number 1 8 true false 0)), None) ∷
    -- memcpy(&node, &cnode, sizeof node)
    (Call 1 (Name 1 75) (Argument (Argument (Argument NoArguments (Unary 1 uop.Address (Name 1 44))) (Unary 1 uop.Address (Name 1 45))) (SizeofExpr 1 (Name 1 44))), Some (Node (PointerTo VoidTy) 1 true (typed.LibraryCall library.Memcpy (More (Node (PointerTo VoidTy) 1 false (typed.Convert (Node (PointerTo (StructTag 1)) 1 true (typed.Address (object (StructTag 1) 37))))) (More (Node (PointerTo (ConstOf VoidTy)) 1 false (typed.Convert (Node (PointerTo (ConstOf (StructTag 1))) 1 true (typed.Address (object (ConstOf (StructTag 1)) 38))))) (More (Node (IntTy kind.ULong) 1 true (typed.Sizeof 16)) NoMore)))))) ∷
    -- memmove(pv, pcv, l)
    (Call 1 (Name 1 76) (Argument (Argument (Argument NoArguments (Name 1 24)) (Name 1 25)) (Name 1 15)), Some (Node (PointerTo VoidTy) 1 true (typed.LibraryCall library.Memmove (More (value_of_object (PointerTo VoidTy) 17) (More (value_of_object (PointerTo (ConstOf VoidTy)) 18) (More (Node (IntTy kind.ULong) 1 false (typed.Convert (value_of_object (IntTy kind.Long) 8))) NoMore)))))) ∷
    -- memmove(pv, pcv, pv)
    (Call 1 (Name 1 76) (Argument (Argument (Argument NoArguments (Name 1 24)) (Name 1 25)) (Name 1 24)), None) ∷
    -- memset(a, 'x', 3u)
    (Call 1 (Name 1 77) (Argument (Argument (Argument NoArguments (Name 1 32)) (Character 1 (pos 120))) (Number 1 3 true true 0)), Some (Node (PointerTo VoidTy) 1 true (typed.LibraryCall library.Memset (More (Node (PointerTo VoidTy) 1 false (typed.Convert (Node (PointerTo (IntTy kind.Int)) 1 false (typed.ArrayPointer (object (ArrayOf (IntTy kind.Int) (Some 3)) 25))))) (More (int_constant 120) (More (Node (IntTy kind.ULong) 1 false (typed.Convert (Node (IntTy kind.UInt) 1 true (typed.Constant (pos 3))))) NoMore)))))) ∷
    -- memset(a, pi, 3)
    (Call 1 (Name 1 77) (Argument (Argument (Argument NoArguments (Name 1 32)) (Name 1 21)) (Number 1 3 true false 0)), None) ∷
    -- memset("abc", 0, 1)
    (Call 1 (Name 1 77) (Argument (Argument (Argument NoArguments (Text 1 4 0)) (Number 1 0 false false 0)) (Number 1 1 true false 0)), Some (Node (PointerTo VoidTy) 1 true (typed.LibraryCall library.Memset (More (Node (PointerTo VoidTy) 1 false (typed.Convert (Node (PointerTo (IntTy kind.Char)) 1 false (typed.ArrayPointer (Node (ArrayOf (IntTy kind.Char) (Some 4)) 1 true (typed.String 0)))))) (More (int_constant 0) (More (Node (IntTy kind.ULong) 1 false (typed.Convert (int_constant 1))) NoMore)))))) ∷
    -- memcmp(a, text, 3)
    (Call 1 (Name 1 78) (Argument (Argument (Argument NoArguments (Name 1 32)) (Name 1 36)) (Number 1 3 true false 0)), Some (Node (IntTy kind.Int) 1 true (typed.LibraryCall library.Memcmp (More (Node (PointerTo (ConstOf VoidTy)) 1 false (typed.Convert (Node (PointerTo (IntTy kind.Int)) 1 false (typed.ArrayPointer (object (ArrayOf (IntTy kind.Int) (Some 3)) 25))))) (More (Node (PointerTo (ConstOf VoidTy)) 1 false (typed.Convert (Node (PointerTo (IntTy kind.Char)) 1 false (typed.ArrayPointer (object (ArrayOf (IntTy kind.Char) (Some 4)) 29))))) (More (Node (IntTy kind.ULong) 1 false (typed.Convert (int_constant 3))) NoMore)))))) ∷
    -- memcmp(st, st, 1)
    (Call 1 (Name 1 78) (Argument (Argument (Argument NoArguments (Name 1 41)) (Name 1 41)) (Number 1 1 true false 0)), None) ∷
    [])
unfolding layouts_of are_compatible library_named
block_function_rows = refl

-- Functions on strings (C17 7.24.2.3, 7.24.4.2, 7.24.6.3).
string_function_rows : AreTyped context (
    -- strlen("abc")
    (Call 1 (Name 1 79) (Argument NoArguments (Text 1 4 0)), Some (Node (IntTy kind.ULong) 1 true (typed.LibraryCall library.Strlen (More (Node (PointerTo (ConstOf (IntTy kind.Char))) 1 false (typed.Convert (Node (PointerTo (IntTy kind.Char)) 1 false (typed.ArrayPointer (Node (ArrayOf (IntTy kind.Char) (Some 4)) 1 true (typed.String 0)))))) NoMore)))) ∷
    -- strlen(text)
    (Call 1 (Name 1 79) (Argument NoArguments (Name 1 36)), Some (Node (IntTy kind.ULong) 1 true (typed.LibraryCall library.Strlen (More (Node (PointerTo (ConstOf (IntTy kind.Char))) 1 false (typed.Convert (Node (PointerTo (IntTy kind.Char)) 1 false (typed.ArrayPointer (object (ArrayOf (IntTy kind.Char) (Some 4)) 29))))) NoMore)))) ∷
    -- strlen(pi)
    (Call 1 (Name 1 79) (Argument NoArguments (Name 1 21)), None) ∷
    -- strlen((char *)pi)
    (Call 1 (Name 1 79) (Argument NoArguments (Cast 1 (TypeName 1 (Then NoTrees (OfSpecifier (Keyword 1 word.Char))) (Present (OfDeclarator (AbstractPointer 1 0 Absent)))) (Name 1 21))), Some (Node (IntTy kind.ULong) 1 true (typed.LibraryCall library.Strlen (More (Node (PointerTo (ConstOf (IntTy kind.Char))) 1 false (typed.Convert (Node (PointerTo (IntTy kind.Char)) 1 true (typed.Cast (value_of_object (PointerTo (IntTy kind.Int)) 14))))) NoMore)))) ∷
    -- strlen(uc)
    (Call 1 (Name 1 79) (Argument NoArguments (Name 1 10)), None) ∷
    -- strcmp(pc, "b")
    (Call 1 (Name 1 80) (Argument (Argument NoArguments (Name 1 26)) (Text 1 5 0)), Some (Node (IntTy kind.Int) 1 true (typed.LibraryCall library.Strcmp (More (Node (PointerTo (ConstOf (IntTy kind.Char))) 1 false (typed.Convert (value_of_object (PointerTo (IntTy kind.Char)) 19))) (More (Node (PointerTo (ConstOf (IntTy kind.Char))) 1 false (typed.Convert (Node (PointerTo (IntTy kind.Char)) 1 false (typed.ArrayPointer (Node (ArrayOf (IntTy kind.Char) (Some 2)) 1 true (typed.String 0)))))) NoMore))))) ∷
    -- strcmp(pc, 1)
    (Call 1 (Name 1 80) (Argument (Argument NoArguments (Name 1 26)) (Number 1 1 true false 0)), None) ∷
    -- strcmp(pcc, 0)
    (Call 1 (Name 1 80) (Argument (Argument NoArguments (Name 1 27)) (Number 1 0 false false 0)), Some (Node (IntTy kind.Int) 1 true (typed.LibraryCall library.Strcmp (More (value_of_object (PointerTo (ConstOf (IntTy kind.Char))) 20) (More (Node (PointerTo (ConstOf (IntTy kind.Char))) 1 false (typed.Convert (int_constant 0))) NoMore))))) ∷
    -- strcpy(text, "abc")
    (Call 1 (Name 1 81) (Argument (Argument NoArguments (Name 1 36)) (Text 1 4 0)), Some (Node (PointerTo (IntTy kind.Char)) 1 true (typed.LibraryCall library.Strcpy (More (Node (PointerTo (IntTy kind.Char)) 1 false (typed.ArrayPointer (object (ArrayOf (IntTy kind.Char) (Some 4)) 29))) (More (Node (PointerTo (ConstOf (IntTy kind.Char))) 1 false (typed.Convert (Node (PointerTo (IntTy kind.Char)) 1 false (typed.ArrayPointer (Node (ArrayOf (IntTy kind.Char) (Some 4)) 1 true (typed.String 0)))))) NoMore))))) ∷
    -- strcpy(pcc, text)
    (Call 1 (Name 1 81) (Argument (Argument NoArguments (Name 1 27)) (Name 1 36)), None) ∷
    -- strcpy(pv, pcv)
    (Call 1 (Name 1 81) (Argument (Argument NoArguments (Name 1 24)) (Name 1 25)), Some (Node (PointerTo (IntTy kind.Char)) 1 true (typed.LibraryCall library.Strcpy (More (Node (PointerTo (IntTy kind.Char)) 1 false (typed.Convert (value_of_object (PointerTo VoidTy) 17))) (More (Node (PointerTo (ConstOf (IntTy kind.Char))) 1 false (typed.Convert (value_of_object (PointerTo (ConstOf VoidTy)) 18))) NoMore))))) ∷
    [])
unfolding type_of_words layouts_of are_compatible library_named
string_function_rows = refl

-- Functions that end the program (C17 7.22.4).
ending_function_rows : AreTyped context (
    -- exit(0)
    (Call 1 (Name 1 82) (Argument NoArguments (Number 1 0 false false 0)), Some (Node VoidTy 1 true (typed.LibraryCall library.Exit (More (int_constant 0) NoMore)))) ∷
    -- exit(ch)
    (Call 1 (Name 1 82) (Argument NoArguments (Name 1 8)), Some (Node VoidTy 1 true (typed.LibraryCall library.Exit (More (Node (IntTy kind.Int) 1 false (typed.Convert (value_of_object (IntTy kind.Char) 1))) NoMore)))) ∷
    -- exit()
    (Call 1 (Name 1 82) NoArguments, None) ∷
    -- exit(pi)
    (Call 1 (Name 1 82) (Argument NoArguments (Name 1 21)), None) ∷
    -- i ? exit(1) : abort()
    (Conditional 1 (Name 1 13) (Call 1 (Name 1 82) (Argument NoArguments (Number 1 1 true false 0))) (Call 1 (Name 1 83) NoArguments), Some (Node VoidTy 1 true (typed.Conditional (value_of_object (IntTy kind.Int) 6) (Node VoidTy 1 true (typed.LibraryCall library.Exit (More (int_constant 1) NoMore))) (Node VoidTy 1 true (typed.LibraryCall library.Abort NoMore))))) ∷
    -- abort()
    (Call 1 (Name 1 83) NoArguments, Some (Node VoidTy 1 true (typed.LibraryCall library.Abort NoMore))) ∷
    -- abort(1)
    (Call 1 (Name 1 83) (Argument NoArguments (Number 1 1 true false 0)), None) ∷
    -- abort
    (Name 1 83, None) ∷
    [])
unfolding layouts_of are_compatible library_named
ending_function_rows = refl

-- Names that no declaration shows (C17 6.5.1p2), and what is no callee (6.5.2.2p1).
other_function_rows : AreTyped context (
    -- puts("x")
    (Call 1 (Name 1 103) (Argument NoArguments (Text 1 6 0)), None) ∷
    -- strncpy(pc, pcc, 1)
    (Call 1 (Name 1 104) (Argument (Argument (Argument NoArguments (Name 1 26)) (Name 1 27)) (Number 1 1 true false 0)), None) ∷
    -- main()
    (Call 1 (Name 1 105) NoArguments, None) ∷
    -- exit = 1
    (Assign 1 aop.Assign (Name 1 82) (Number 1 1 true false 0), None) ∷
    [])
unfolding layouts_of are_compatible library_named
other_function_rows = refl
