-- Calls of `printf` (C17 7.21.6.1): the format is a string literal of conversions that are known, and further arguments are promoted.
use Rattle.std.specs.Prelude.{refl, pos, true, false, Some, None, [], ◌∷◌}
use Rattle.pv_num.specs.declared.kinds.IntKind.TheVariants as kind
use Rattle.pv_num.specs.declared.operators.BinOp.TheVariants as arithmetic
use Rattle.pv_token.specs.declared.words.Word.TheVariants as word
use Rattle.pv_library.specs.declared.library.Library.TheVariants as library
use Rattle.pv_tree.specs.declared.operators.UnaryOperator.TheVariants as uop
use Rattle.pv_tree.specs.declared.operators.BinaryOperator.TheVariants as bop
use Rattle.pv_tree.specs.declared.operators.AssignOperator.TheVariants as aop
use Rattle.pv_typed.specs.TypedTree as typed
use Rattle.pv_tree.specs.Syntax.{Name, Number, Character, Text, Paren, Index, Call, Unary, SizeofExpr, Cast, Binary, Conditional, Assign, Comma, NoArguments, Argument, TypeName, AbstractPointer, Keyword, OfDeclarator, OfSpecifier, NoTrees, Then, Absent, Present}
use Rattle.pv_types.specs.Ty.{VoidTy, IntTy, PointerTo, ArrayOf, StructTag, UnionTag, ConstOf}
use Rattle.pv_types.specs.Layouts.{layouts_of}
use Rattle.pv_types.specs.Compatible.{are_compatible}
use Rattle.pv_check.specs.Words.{type_of_words}
use Rattle.pv_library.specs.LibraryNames.{library_named}
use Rattle.pv_typed.specs.TypedTree.{Node, NoArguments as NoMore, MoreArguments as More}
use Rattle.pv_check.proofs.MoreExamples.{context}
use Rattle.pv_check.proofs.ExampleRows.{AreTyped, object, value_of_object, int_constant}

-- Formats with the arguments that they ask for (C17 7.21.6.1p8).
format_argument_rows : AreTyped context (
    -- printf()
    (Call 1 (Name 1 84) NoArguments, None) ∷
    -- printf("")
    (Call 1 (Name 1 84) (Argument NoArguments (Text 1 7 0)), Some (Node (IntTy kind.Int) 1 true (typed.LibraryCall library.Printf (More (Node (PointerTo (ConstOf (IntTy kind.Char))) 1 false (typed.Convert (Node (PointerTo (IntTy kind.Char)) 1 false (typed.ArrayPointer (Node (ArrayOf (IntTy kind.Char) (Some 1)) 1 true (typed.String 0)))))) NoMore)))) ∷
    -- printf("abc")
    (Call 1 (Name 1 84) (Argument NoArguments (Text 1 4 0)), Some (Node (IntTy kind.Int) 1 true (typed.LibraryCall library.Printf (More (Node (PointerTo (ConstOf (IntTy kind.Char))) 1 false (typed.Convert (Node (PointerTo (IntTy kind.Char)) 1 false (typed.ArrayPointer (Node (ArrayOf (IntTy kind.Char) (Some 4)) 1 true (typed.String 0)))))) NoMore)))) ∷
    -- printf("%d", i)
    (Call 1 (Name 1 84) (Argument (Argument NoArguments (Text 1 8 0)) (Name 1 13)), Some (Node (IntTy kind.Int) 1 true (typed.LibraryCall library.Printf (More (Node (PointerTo (ConstOf (IntTy kind.Char))) 1 false (typed.Convert (Node (PointerTo (IntTy kind.Char)) 1 false (typed.ArrayPointer (Node (ArrayOf (IntTy kind.Char) (Some 3)) 1 true (typed.String 0)))))) (More (value_of_object (IntTy kind.Int) 6) NoMore))))) ∷
    -- printf("%d", ch)
    (Call 1 (Name 1 84) (Argument (Argument NoArguments (Text 1 8 0)) (Name 1 8)), Some (Node (IntTy kind.Int) 1 true (typed.LibraryCall library.Printf (More (Node (PointerTo (ConstOf (IntTy kind.Char))) 1 false (typed.Convert (Node (PointerTo (IntTy kind.Char)) 1 false (typed.ArrayPointer (Node (ArrayOf (IntTy kind.Char) (Some 3)) 1 true (typed.String 0)))))) (More (Node (IntTy kind.Int) 1 false (typed.Convert (value_of_object (IntTy kind.Char) 1))) NoMore))))) ∷
    -- printf("%d")
    (Call 1 (Name 1 84) (Argument NoArguments (Text 1 8 0)), Some (Node (IntTy kind.Int) 1 true (typed.LibraryCall library.Printf (More (Node (PointerTo (ConstOf (IntTy kind.Char))) 1 false (typed.Convert (Node (PointerTo (IntTy kind.Char)) 1 false (typed.ArrayPointer (Node (ArrayOf (IntTy kind.Char) (Some 3)) 1 true (typed.String 0)))))) NoMore)))) ∷
    -- printf("%d", i, l, pi)
    (Call 1 (Name 1 84) (Argument (Argument (Argument (Argument NoArguments (Text 1 8 0)) (Name 1 13)) (Name 1 15)) (Name 1 21)), Some (Node (IntTy kind.Int) 1 true (typed.LibraryCall library.Printf (More (Node (PointerTo (ConstOf (IntTy kind.Char))) 1 false (typed.Convert (Node (PointerTo (IntTy kind.Char)) 1 false (typed.ArrayPointer (Node (ArrayOf (IntTy kind.Char) (Some 3)) 1 true (typed.String 0)))))) (More (value_of_object (IntTy kind.Int) 6) (More (value_of_object (IntTy kind.Long) 8) (More (value_of_object (PointerTo (IntTy kind.Int)) 14) NoMore))))))) ∷
    -- printf("%u %x", uc, us)
    (Call 1 (Name 1 84) (Argument (Argument (Argument NoArguments (Text 1 9 0)) (Name 1 10)) (Name 1 12)), Some (Node (IntTy kind.Int) 1 true (typed.LibraryCall library.Printf (More (Node (PointerTo (ConstOf (IntTy kind.Char))) 1 false (typed.Convert (Node (PointerTo (IntTy kind.Char)) 1 false (typed.ArrayPointer (Node (ArrayOf (IntTy kind.Char) (Some 6)) 1 true (typed.String 0)))))) (More (Node (IntTy kind.Int) 1 false (typed.Convert (value_of_object (IntTy kind.UChar) 3))) (More (Node (IntTy kind.Int) 1 false (typed.Convert (value_of_object (IntTy kind.UShort) 5))) NoMore)))))) ∷
    -- printf("%ld %lu %lx", l, ul, ull)
    (Call 1 (Name 1 84) (Argument (Argument (Argument (Argument NoArguments (Text 1 10 0)) (Name 1 15)) (Name 1 16)) (Name 1 18)), Some (Node (IntTy kind.Int) 1 true (typed.LibraryCall library.Printf (More (Node (PointerTo (ConstOf (IntTy kind.Char))) 1 false (typed.Convert (Node (PointerTo (IntTy kind.Char)) 1 false (typed.ArrayPointer (Node (ArrayOf (IntTy kind.Char) (Some 12)) 1 true (typed.String 0)))))) (More (value_of_object (IntTy kind.Long) 8) (More (value_of_object (IntTy kind.ULong) 9) (More (value_of_object (IntTy kind.ULLong) 11) NoMore))))))) ∷
    -- printf("%c", 'a')
    (Call 1 (Name 1 84) (Argument (Argument NoArguments (Text 1 11 0)) (Character 1 (pos 97))), Some (Node (IntTy kind.Int) 1 true (typed.LibraryCall library.Printf (More (Node (PointerTo (ConstOf (IntTy kind.Char))) 1 false (typed.Convert (Node (PointerTo (IntTy kind.Char)) 1 false (typed.ArrayPointer (Node (ArrayOf (IntTy kind.Char) (Some 3)) 1 true (typed.String 0)))))) (More (int_constant 97) NoMore))))) ∷
    -- printf("%s", text)
    (Call 1 (Name 1 84) (Argument (Argument NoArguments (Text 1 12 0)) (Name 1 36)), Some (Node (IntTy kind.Int) 1 true (typed.LibraryCall library.Printf (More (Node (PointerTo (ConstOf (IntTy kind.Char))) 1 false (typed.Convert (Node (PointerTo (IntTy kind.Char)) 1 false (typed.ArrayPointer (Node (ArrayOf (IntTy kind.Char) (Some 3)) 1 true (typed.String 0)))))) (More (Node (PointerTo (IntTy kind.Char)) 1 false (typed.ArrayPointer (object (ArrayOf (IntTy kind.Char) (Some 4)) 29))) NoMore))))) ∷
    -- printf("%s", "abc")
    (Call 1 (Name 1 84) (Argument (Argument NoArguments (Text 1 12 0)) (Text 1 4 0)), Some (Node (IntTy kind.Int) 1 true (typed.LibraryCall library.Printf (More (Node (PointerTo (ConstOf (IntTy kind.Char))) 1 false (typed.Convert (Node (PointerTo (IntTy kind.Char)) 1 false (typed.ArrayPointer (Node (ArrayOf (IntTy kind.Char) (Some 3)) 1 true (typed.String 0)))))) (More (Node (PointerTo (IntTy kind.Char)) 1 false (typed.ArrayPointer (Node (ArrayOf (IntTy kind.Char) (Some 4)) 1 true (typed.String 1)))) NoMore))))) ∷
    -- printf("%p", pv)
    (Call 1 (Name 1 84) (Argument (Argument NoArguments (Text 1 13 0)) (Name 1 24)), Some (Node (IntTy kind.Int) 1 true (typed.LibraryCall library.Printf (More (Node (PointerTo (ConstOf (IntTy kind.Char))) 1 false (typed.Convert (Node (PointerTo (IntTy kind.Char)) 1 false (typed.ArrayPointer (Node (ArrayOf (IntTy kind.Char) (Some 3)) 1 true (typed.String 0)))))) (More (value_of_object (PointerTo VoidTy) 17) NoMore))))) ∷
    -- printf("%p", &node)
    (Call 1 (Name 1 84) (Argument (Argument NoArguments (Text 1 13 0)) (Unary 1 uop.Address (Name 1 44))), Some (Node (IntTy kind.Int) 1 true (typed.LibraryCall library.Printf (More (Node (PointerTo (ConstOf (IntTy kind.Char))) 1 false (typed.Convert (Node (PointerTo (IntTy kind.Char)) 1 false (typed.ArrayPointer (Node (ArrayOf (IntTy kind.Char) (Some 3)) 1 true (typed.String 0)))))) (More (Node (PointerTo (StructTag 1)) 1 true (typed.Address (object (StructTag 1) 37))) NoMore))))) ∷
    -- printf("%%")
    (Call 1 (Name 1 84) (Argument NoArguments (Text 1 14 0)), Some (Node (IntTy kind.Int) 1 true (typed.LibraryCall library.Printf (More (Node (PointerTo (ConstOf (IntTy kind.Char))) 1 false (typed.Convert (Node (PointerTo (IntTy kind.Char)) 1 false (typed.ArrayPointer (Node (ArrayOf (IntTy kind.Char) (Some 3)) 1 true (typed.String 0)))))) NoMore)))) ∷
    -- printf("100%%, %d%%", bo)
    (Call 1 (Name 1 84) (Argument (Argument NoArguments (Text 1 15 0)) (Name 1 7)), Some (Node (IntTy kind.Int) 1 true (typed.LibraryCall library.Printf (More (Node (PointerTo (ConstOf (IntTy kind.Char))) 1 false (typed.Convert (Node (PointerTo (IntTy kind.Char)) 1 false (typed.ArrayPointer (Node (ArrayOf (IntTy kind.Char) (Some 12)) 1 true (typed.String 0)))))) (More (Node (IntTy kind.Int) 1 false (typed.Convert (value_of_object (IntTy kind.Bool) 0))) NoMore))))) ∷
    [])
unfolding layouts_of are_compatible library_named
format_argument_rows = refl

-- Further arguments, promoted (C17 6.5.2.2p7).
further_argument_rows : AreTyped context (
    -- printf("%d", pi)
    (Call 1 (Name 1 84) (Argument (Argument NoArguments (Text 1 8 0)) (Name 1 21)), Some (Node (IntTy kind.Int) 1 true (typed.LibraryCall library.Printf (More (Node (PointerTo (ConstOf (IntTy kind.Char))) 1 false (typed.Convert (Node (PointerTo (IntTy kind.Char)) 1 false (typed.ArrayPointer (Node (ArrayOf (IntTy kind.Char) (Some 3)) 1 true (typed.String 0)))))) (More (value_of_object (PointerTo (IntTy kind.Int)) 14) NoMore))))) ∷
    -- printf("%d", node)
    (Call 1 (Name 1 84) (Argument (Argument NoArguments (Text 1 8 0)) (Name 1 44)), Some (Node (IntTy kind.Int) 1 true (typed.LibraryCall library.Printf (More (Node (PointerTo (ConstOf (IntTy kind.Char))) 1 false (typed.Convert (Node (PointerTo (IntTy kind.Char)) 1 false (typed.ArrayPointer (Node (ArrayOf (IntTy kind.Char) (Some 3)) 1 true (typed.String 0)))))) (More (value_of_object (StructTag 1) 37) NoMore))))) ∷
    -- printf("%d", cnode)
    (Call 1 (Name 1 84) (Argument (Argument NoArguments (Text 1 8 0)) (Name 1 45)), Some (Node (IntTy kind.Int) 1 true (typed.LibraryCall library.Printf (More (Node (PointerTo (ConstOf (IntTy kind.Char))) 1 false (typed.Convert (Node (PointerTo (IntTy kind.Char)) 1 false (typed.ArrayPointer (Node (ArrayOf (IntTy kind.Char) (Some 3)) 1 true (typed.String 0)))))) (More (Node (StructTag 1) 1 false (typed.Read (object (ConstOf (StructTag 1)) 38))) NoMore))))) ∷
    -- printf("%d", un)
    (Call 1 (Name 1 84) (Argument (Argument NoArguments (Text 1 8 0)) (Name 1 48)), Some (Node (IntTy kind.Int) 1 true (typed.LibraryCall library.Printf (More (Node (PointerTo (ConstOf (IntTy kind.Char))) 1 false (typed.Convert (Node (PointerTo (IntTy kind.Char)) 1 false (typed.ArrayPointer (Node (ArrayOf (IntTy kind.Char) (Some 3)) 1 true (typed.String 0)))))) (More (value_of_object (UnionTag 5) 41) NoMore))))) ∷
    -- printf("%d", nothing())
    (Call 1 (Name 1 84) (Argument (Argument NoArguments (Text 1 8 0)) (Call 1 (Name 1 64) NoArguments)), None) ∷
    -- printf("%d", (void)0)
    (Call 1 (Name 1 84) (Argument (Argument NoArguments (Text 1 8 0)) (Cast 1 (TypeName 1 (Then NoTrees (OfSpecifier (Keyword 1 word.Void))) Absent) (Number 1 0 false false 0))), None) ∷
    -- printf("%d", lt)
    (Call 1 (Name 1 84) (Argument (Argument NoArguments (Text 1 8 0)) (Name 1 54)), None) ∷
    -- printf("%d", &lt)
    (Call 1 (Name 1 84) (Argument (Argument NoArguments (Text 1 8 0)) (Unary 1 uop.Address (Name 1 54))), Some (Node (IntTy kind.Int) 1 true (typed.LibraryCall library.Printf (More (Node (PointerTo (ConstOf (IntTy kind.Char))) 1 false (typed.Convert (Node (PointerTo (IntTy kind.Char)) 1 false (typed.ArrayPointer (Node (ArrayOf (IntTy kind.Char) (Some 3)) 1 true (typed.String 0)))))) (More (Node (PointerTo (StructTag 4)) 1 true (typed.Address (object (StructTag 4) 47))) NoMore))))) ∷
    -- printf("%d", *pv)
    (Call 1 (Name 1 84) (Argument (Argument NoArguments (Text 1 8 0)) (Unary 1 uop.Indirection (Name 1 24))), None) ∷
    -- printf("%d", open)
    (Call 1 (Name 1 84) (Argument (Argument NoArguments (Text 1 8 0)) (Name 1 56)), Some (Node (IntTy kind.Int) 1 true (typed.LibraryCall library.Printf (More (Node (PointerTo (ConstOf (IntTy kind.Char))) 1 false (typed.Convert (Node (PointerTo (IntTy kind.Char)) 1 false (typed.ArrayPointer (Node (ArrayOf (IntTy kind.Char) (Some 3)) 1 true (typed.String 0)))))) (More (Node (PointerTo (IntTy kind.Int)) 1 false (typed.ArrayPointer (object (ArrayOf (IntTy kind.Int) None) 49))) NoMore))))) ∷
    -- printf("%d", cpi)
    (Call 1 (Name 1 84) (Argument (Argument NoArguments (Text 1 8 0)) (Name 1 23)), Some (Node (IntTy kind.Int) 1 true (typed.LibraryCall library.Printf (More (Node (PointerTo (ConstOf (IntTy kind.Char))) 1 false (typed.Convert (Node (PointerTo (IntTy kind.Char)) 1 false (typed.ArrayPointer (Node (ArrayOf (IntTy kind.Char) (Some 3)) 1 true (typed.String 0)))))) (More (Node (PointerTo (IntTy kind.Int)) 1 false (typed.Read (object (ConstOf (PointerTo (IntTy kind.Int))) 16))) NoMore))))) ∷
    -- printf("%d", nope)
    (Call 1 (Name 1 84) (Argument (Argument NoArguments (Text 1 8 0)) (Name 1 106)), None) ∷
    [])
unfolding type_of_words layouts_of are_compatible library_named
further_argument_rows = refl

-- Conversions that are known, and others (C17 7.21.6.1p4).
conversion_rows : AreTyped context (
    -- printf("%i", i)
    (Call 1 (Name 1 84) (Argument (Argument NoArguments (Text 1 16 0)) (Name 1 13)), None) ∷
    -- printf("%5d", i)
    (Call 1 (Name 1 84) (Argument (Argument NoArguments (Text 1 17 0)) (Name 1 13)), None) ∷
    -- printf("%-d", i)
    (Call 1 (Name 1 84) (Argument (Argument NoArguments (Text 1 18 0)) (Name 1 13)), None) ∷
    -- printf("%.3s", pc)
    (Call 1 (Name 1 84) (Argument (Argument NoArguments (Text 1 19 0)) (Name 1 26)), None) ∷
    -- printf("%*d", 1, i)
    (Call 1 (Name 1 84) (Argument (Argument (Argument NoArguments (Text 1 20 0)) (Number 1 1 true false 0)) (Name 1 13)), None) ∷
    -- printf("%l", l)
    (Call 1 (Name 1 84) (Argument (Argument NoArguments (Text 1 21 0)) (Name 1 15)), None) ∷
    -- printf("%lc", l)
    (Call 1 (Name 1 84) (Argument (Argument NoArguments (Text 1 22 0)) (Name 1 15)), None) ∷
    -- printf("%ls", pc)
    (Call 1 (Name 1 84) (Argument (Argument NoArguments (Text 1 23 0)) (Name 1 26)), None) ∷
    -- printf("%lld", ll)
    (Call 1 (Name 1 84) (Argument (Argument NoArguments (Text 1 24 0)) (Name 1 17)), None) ∷
    -- printf("%hd", sh)
    (Call 1 (Name 1 84) (Argument (Argument NoArguments (Text 1 25 0)) (Name 1 11)), None) ∷
    -- printf("%zu", ul)
    (Call 1 (Name 1 84) (Argument (Argument NoArguments (Text 1 26 0)) (Name 1 16)), None) ∷
    -- printf("%X", ui)
    (Call 1 (Name 1 84) (Argument (Argument NoArguments (Text 1 27 0)) (Name 1 14)), None) ∷
    -- printf("%n", pi)
    (Call 1 (Name 1 84) (Argument (Argument NoArguments (Text 1 28 0)) (Name 1 21)), None) ∷
    -- printf("%o", ui)
    (Call 1 (Name 1 84) (Argument (Argument NoArguments (Text 1 29 0)) (Name 1 14)), None) ∷
    -- printf("%d%", i)
    (Call 1 (Name 1 84) (Argument (Argument NoArguments (Text 1 30 0)) (Name 1 13)), None) ∷
    -- printf("% d", i)
    (Call 1 (Name 1 84) (Argument (Argument NoArguments (Text 1 31 0)) (Name 1 13)), None) ∷
    -- printf("a\0%d", i)
    (Call 1 (Name 1 84) (Argument (Argument NoArguments (Text 1 32 0)) (Name 1 13)), Some (Node (IntTy kind.Int) 1 true (typed.LibraryCall library.Printf (More (Node (PointerTo (ConstOf (IntTy kind.Char))) 1 false (typed.Convert (Node (PointerTo (IntTy kind.Char)) 1 false (typed.ArrayPointer (Node (ArrayOf (IntTy kind.Char) (Some 5)) 1 true (typed.String 0)))))) (More (value_of_object (IntTy kind.Int) 6) NoMore))))) ∷
    -- printf("a\0%f", i)
    (Call 1 (Name 1 84) (Argument (Argument NoArguments (Text 1 33 0)) (Name 1 13)), None) ∷
    [])
unfolding layouts_of are_compatible library_named
conversion_rows = refl

-- What stands in the place of the format (C17 7.21.6.1).
format_literal_rows : AreTyped context (
    -- printf(("%d"), i)
    (Call 1 (Name 1 84) (Argument (Argument NoArguments (Paren 1 (Text 1 8 0))) (Name 1 13)), Some (Node (IntTy kind.Int) 1 true (typed.LibraryCall library.Printf (More (Node (PointerTo (ConstOf (IntTy kind.Char))) 1 false (typed.Convert (Node (PointerTo (IntTy kind.Char)) 1 false (typed.ArrayPointer (Node (ArrayOf (IntTy kind.Char) (Some 3)) 1 true (typed.String 0)))))) (More (value_of_object (IntTy kind.Int) 6) NoMore))))) ∷
    -- printf((("%s")), pc)
    (Call 1 (Name 1 84) (Argument (Argument NoArguments (Paren 1 (Paren 1 (Text 1 12 0)))) (Name 1 26)), Some (Node (IntTy kind.Int) 1 true (typed.LibraryCall library.Printf (More (Node (PointerTo (ConstOf (IntTy kind.Char))) 1 false (typed.Convert (Node (PointerTo (IntTy kind.Char)) 1 false (typed.ArrayPointer (Node (ArrayOf (IntTy kind.Char) (Some 3)) 1 true (typed.String 0)))))) (More (value_of_object (PointerTo (IntTy kind.Char)) 19) NoMore))))) ∷
    -- printf(pc)
    (Call 1 (Name 1 84) (Argument NoArguments (Name 1 26)), None) ∷
    -- printf(pcc, 1)
    (Call 1 (Name 1 84) (Argument (Argument NoArguments (Name 1 27)) (Number 1 1 true false 0)), None) ∷
    -- printf(text)
    (Call 1 (Name 1 84) (Argument NoArguments (Name 1 36)), None) ∷
    -- printf(0)
    (Call 1 (Name 1 84) (Argument NoArguments (Number 1 0 false false 0)), None) ∷
    -- printf(1)
    (Call 1 (Name 1 84) (Argument NoArguments (Number 1 1 true false 0)), None) ∷
    -- printf(i ? "a" : "b")
    (Call 1 (Name 1 84) (Argument NoArguments (Conditional 1 (Name 1 13) (Text 1 1 0) (Text 1 5 0))), None) ∷
    -- printf((const char *)"a")
    (Call 1 (Name 1 84) (Argument NoArguments (Cast 1 (TypeName 1 (Then (Then NoTrees (OfSpecifier (Keyword 1 word.Const))) (OfSpecifier (Keyword 1 word.Char))) (Present (OfDeclarator (AbstractPointer 1 0 Absent)))) (Text 1 1 0))), None) ∷
    -- printf("a" + 0)
    (Call 1 (Name 1 84) (Argument NoArguments (Binary 1 bop.Add (Text 1 1 0) (Number 1 0 false false 0))), None) ∷
    -- printf(&"a"[0])
    (Call 1 (Name 1 84) (Argument NoArguments (Unary 1 uop.Address (Index 1 (Text 1 1 0) (Number 1 0 false false 0)))), None) ∷
    -- printf(("a", "b"))
    (Call 1 (Name 1 84) (Argument NoArguments (Paren 1 (Comma 1 (Text 1 1 0) (Text 1 5 0)))), None) ∷
    [])
unfolding type_of_words layouts_of are_compatible library_named
format_literal_rows = refl

-- Ways to call `printf` (C17 6.5.2.2p1).
called_printf_rows : AreTyped context (
    -- (printf)("%d", i)
    (Call 1 (Paren 1 (Name 1 84)) (Argument (Argument NoArguments (Text 1 8 0)) (Name 1 13)), Some (Node (IntTy kind.Int) 1 true (typed.LibraryCall library.Printf (More (Node (PointerTo (ConstOf (IntTy kind.Char))) 1 false (typed.Convert (Node (PointerTo (IntTy kind.Char)) 1 false (typed.ArrayPointer (Node (ArrayOf (IntTy kind.Char) (Some 3)) 1 true (typed.String 0)))))) (More (value_of_object (IntTy kind.Int) 6) NoMore))))) ∷
    -- (*printf)("a")
    (Call 1 (Paren 1 (Unary 1 uop.Indirection (Name 1 84))) (Argument NoArguments (Text 1 1 0)), None) ∷
    -- sizeof printf("%d", i)
    (SizeofExpr 1 (Call 1 (Name 1 84) (Argument (Argument NoArguments (Text 1 8 0)) (Name 1 13))), Some (Node (IntTy kind.ULong) 1 true (typed.Sizeof 4))) ∷
    -- sizeof printf("%f", i)
    (SizeofExpr 1 (Call 1 (Name 1 84) (Argument (Argument NoArguments (Text 1 34 0)) (Name 1 13))), None) ∷
    -- printf("a") + printf("b")
    (Binary 1 bop.Add (Call 1 (Name 1 84) (Argument NoArguments (Text 1 1 0))) (Call 1 (Name 1 84) (Argument NoArguments (Text 1 5 0))), Some (Node (IntTy kind.Int) 1 true (typed.Arithmetic arithmetic.Add (Node (IntTy kind.Int) 1 true (typed.LibraryCall library.Printf (More (Node (PointerTo (ConstOf (IntTy kind.Char))) 1 false (typed.Convert (Node (PointerTo (IntTy kind.Char)) 1 false (typed.ArrayPointer (Node (ArrayOf (IntTy kind.Char) (Some 2)) 1 true (typed.String 0)))))) NoMore))) (Node (IntTy kind.Int) 1 true (typed.LibraryCall library.Printf (More (Node (PointerTo (ConstOf (IntTy kind.Char))) 1 false (typed.Convert (Node (PointerTo (IntTy kind.Char)) 1 false (typed.ArrayPointer (Node (ArrayOf (IntTy kind.Char) (Some 2)) 1 true (typed.String 1)))))) NoMore)))))) ∷
    -- printf
    (Name 1 84, None) ∷
    -- &printf
    (Unary 1 uop.Address (Name 1 84), None) ∷
    -- printf = 0
    (Assign 1 aop.Assign (Name 1 84) (Number 1 0 false false 0), None) ∷
    [])
unfolding layouts_of are_compatible library_named
called_printf_rows = refl
