-- The operator `?:` (C17 6.5.15): integers, void, structures, pointers with the composite type (6.2.7p3) and the qualifiers of both,
-- pointers to void and null pointer constants, and operands that don't go together.
use Rattle.std.specs.Prelude.{refl, pos, true, false, Some, None, [], ◌∷◌}
use Rattle.pv_num.specs.declared.kinds.IntKind.TheVariants as kind
use Rattle.pv_token.specs.declared.words.Word.TheVariants as word
use Rattle.pv_tree.specs.declared.operators.UnaryOperator.TheVariants as uop
use Rattle.pv_tree.specs.declared.operators.BinaryOperator.TheVariants as bop
use Rattle.pv_tree.specs.declared.operators.AssignOperator.TheVariants as aop
use Rattle.pv_typed.specs.TypedTree as typed
use Rattle.pv_tree.specs.Syntax.{Name, Number, Text, Paren, Index, Call, Member, Unary, SizeofExpr, Cast, Binary, Conditional, Assign, NoArguments, TypeName, AbstractPointer, Keyword, OfDeclarator, OfSpecifier, NoTrees, Then, Absent, Present}
use Rattle.pv_types.specs.Ty.{VoidTy, IntTy, PointerTo, ArrayOf, StructTag, UnionTag, ConstOf}
use Rattle.pv_types.specs.Layouts.{layouts_of}
use Rattle.pv_types.specs.Compatible.{are_compatible}
use Rattle.pv_check.specs.Words.{type_of_words}
use Rattle.pv_library.specs.LibraryNames.{library_named}
use Rattle.pv_typed.specs.TypedTree.{Node, NoArguments as NoMore}
use Rattle.pv_check.proofs.MoreExamples.{context}
use Rattle.pv_check.proofs.ExampleRows.{AreTyped, object, value_of_object, int_constant}

-- Integers, under conditions that are scalar or not (C17 6.5.15p2, p5).
chosen_integer_rows : AreTyped context (
    -- i ? bo : bo
    (Conditional 1 (Name 1 13) (Name 1 7) (Name 1 7), Some (Node (IntTy kind.Int) 1 true (typed.Conditional (value_of_object (IntTy kind.Int) 6) (Node (IntTy kind.Int) 1 false (typed.Convert (value_of_object (IntTy kind.Bool) 0))) (Node (IntTy kind.Int) 1 false (typed.Convert (value_of_object (IntTy kind.Bool) 0)))))) ∷
    -- i ? ch : uc
    (Conditional 1 (Name 1 13) (Name 1 8) (Name 1 10), Some (Node (IntTy kind.Int) 1 true (typed.Conditional (value_of_object (IntTy kind.Int) 6) (Node (IntTy kind.Int) 1 false (typed.Convert (value_of_object (IntTy kind.Char) 1))) (Node (IntTy kind.Int) 1 false (typed.Convert (value_of_object (IntTy kind.UChar) 3)))))) ∷
    -- i ? ui : l
    (Conditional 1 (Name 1 13) (Name 1 14) (Name 1 15), Some (Node (IntTy kind.Long) 1 true (typed.Conditional (value_of_object (IntTy kind.Int) 6) (Node (IntTy kind.Long) 1 false (typed.Convert (value_of_object (IntTy kind.UInt) 7))) (value_of_object (IntTy kind.Long) 8)))) ∷
    -- i ? ul : ll
    (Conditional 1 (Name 1 13) (Name 1 16) (Name 1 17), Some (Node (IntTy kind.ULLong) 1 true (typed.Conditional (value_of_object (IntTy kind.Int) 6) (Node (IntTy kind.ULLong) 1 false (typed.Convert (value_of_object (IntTy kind.ULong) 9))) (Node (IntTy kind.ULLong) 1 false (typed.Convert (value_of_object (IntTy kind.LLong) 10)))))) ∷
    -- pi ? i : sh
    (Conditional 1 (Name 1 21) (Name 1 13) (Name 1 11), Some (Node (IntTy kind.Int) 1 true (typed.Conditional (value_of_object (PointerTo (IntTy kind.Int)) 14) (value_of_object (IntTy kind.Int) 6) (Node (IntTy kind.Int) 1 false (typed.Convert (value_of_object (IntTy kind.Short) 4)))))) ∷
    -- a ? 1 : 2
    (Conditional 1 (Name 1 32) (Number 1 1 true false 0) (Number 1 2 true false 0), Some (Node (IntTy kind.Int) 1 true (typed.Conditional (Node (PointerTo (IntTy kind.Int)) 1 false (typed.ArrayPointer (object (ArrayOf (IntTy kind.Int) (Some 3)) 25))) (int_constant 1) (int_constant 2)))) ∷
    -- "s" ? 1u : 2
    (Conditional 1 (Text 1 0 0) (Number 1 1 true true 0) (Number 1 2 true false 0), Some (Node (IntTy kind.UInt) 1 true (typed.Conditional (Node (PointerTo (IntTy kind.Char)) 1 false (typed.ArrayPointer (Node (ArrayOf (IntTy kind.Char) (Some 2)) 1 true (typed.String 0)))) (Node (IntTy kind.UInt) 1 true (typed.Constant (pos 1))) (Node (IntTy kind.UInt) 1 false (typed.Convert (int_constant 2)))))) ∷
    -- node ? 1 : 2
    (Conditional 1 (Name 1 44) (Number 1 1 true false 0) (Number 1 2 true false 0), None) ∷
    -- nothing() ? 1 : 2
    (Conditional 1 (Call 1 (Name 1 64) NoArguments) (Number 1 1 true false 0) (Number 1 2 true false 0), None) ∷
    [])
unfolding layouts_of are_compatible library_named
chosen_integer_rows = refl

-- Void expressions, structures and unions (C17 6.5.15p3, p5).
chosen_structure_rows : AreTyped context (
    -- i ? i : nothing()
    (Conditional 1 (Name 1 13) (Name 1 13) (Call 1 (Name 1 64) NoArguments), None) ∷
    -- i ? i : node
    (Conditional 1 (Name 1 13) (Name 1 13) (Name 1 44), None) ∷
    -- i ? nothing() : *pv
    (Conditional 1 (Name 1 13) (Call 1 (Name 1 64) NoArguments) (Unary 1 uop.Indirection (Name 1 24)), Some (Node VoidTy 1 true (typed.Conditional (value_of_object (IntTy kind.Int) 6) (Node VoidTy 1 true (typed.Call 6 NoMore)) (Node VoidTy 1 true (typed.Indirection (value_of_object (PointerTo VoidTy) 17)))))) ∷
    -- i ? (void)0 : nothing()
    (Conditional 1 (Name 1 13) (Cast 1 (TypeName 1 (Then NoTrees (OfSpecifier (Keyword 1 word.Void))) Absent) (Number 1 0 false false 0)) (Call 1 (Name 1 64) NoArguments), Some (Node VoidTy 1 true (typed.Conditional (value_of_object (IntTy kind.Int) 6) (Node VoidTy 1 true (typed.Cast (int_constant 0))) (Node VoidTy 1 true (typed.Call 6 NoMore))))) ∷
    -- i ? node : cnode
    (Conditional 1 (Name 1 13) (Name 1 44) (Name 1 45), Some (Node (StructTag 1) 1 true (typed.Conditional (value_of_object (IntTy kind.Int) 6) (value_of_object (StructTag 1) 37) (Node (StructTag 1) 1 false (typed.Read (object (ConstOf (StructTag 1)) 38)))))) ∷
    -- i ? cnode : cnode
    (Conditional 1 (Name 1 13) (Name 1 45) (Name 1 45), Some (Node (StructTag 1) 1 true (typed.Conditional (value_of_object (IntTy kind.Int) 6) (Node (StructTag 1) 1 false (typed.Read (object (ConstOf (StructTag 1)) 38))) (Node (StructTag 1) 1 false (typed.Read (object (ConstOf (StructTag 1)) 38)))))) ∷
    -- i ? un : cun
    (Conditional 1 (Name 1 13) (Name 1 48) (Name 1 49), Some (Node (UnionTag 5) 1 true (typed.Conditional (value_of_object (IntTy kind.Int) 6) (value_of_object (UnionTag 5) 41) (Node (UnionTag 5) 1 false (typed.Read (object (ConstOf (UnionTag 5)) 42)))))) ∷
    -- i ? st : node
    (Conditional 1 (Name 1 13) (Name 1 41) (Name 1 44), None) ∷
    -- i ? node : un
    (Conditional 1 (Name 1 13) (Name 1 44) (Name 1 48), None) ∷
    -- (i ? node : cnode).x
    (Member 1 (Paren 1 (Conditional 1 (Name 1 13) (Name 1 44) (Name 1 45))) 95, Some (Node (IntTy kind.Int) 1 true (typed.MemberOfValue (Node (StructTag 1) 1 true (typed.Conditional (value_of_object (IntTy kind.Int) 6) (value_of_object (StructTag 1) 37) (Node (StructTag 1) 1 false (typed.Read (object (ConstOf (StructTag 1)) 38))))) 0))) ∷
    -- (i ? node : cnode).x = 1
    (Assign 1 aop.Assign (Member 1 (Paren 1 (Conditional 1 (Name 1 13) (Name 1 44) (Name 1 45))) 95) (Number 1 1 true false 0), None) ∷
    -- (i ? st : st).b
    (Member 1 (Paren 1 (Conditional 1 (Name 1 13) (Name 1 41) (Name 1 41))) 93, None) ∷
    -- &(i ? node : node)
    (Unary 1 uop.Address (Paren 1 (Conditional 1 (Name 1 13) (Name 1 44) (Name 1 44))), None) ∷
    -- i ? lt : lt
    (Conditional 1 (Name 1 13) (Name 1 54) (Name 1 54), None) ∷
    -- i ? *plt : *plt
    (Conditional 1 (Name 1 13) (Unary 1 uop.Indirection (Name 1 55)) (Unary 1 uop.Indirection (Name 1 55)), None) ∷
    -- i ? lt : 0
    (Conditional 1 (Name 1 13) (Name 1 54) (Number 1 0 false false 0), None) ∷
    [])
unfolding type_of_words layouts_of are_compatible library_named
chosen_structure_rows = refl

-- Pointers to compatible types, with the qualifiers of both (C17 6.5.15p6).
chosen_pointer_rows : AreTyped context (
    -- i ? pi : a
    (Conditional 1 (Name 1 13) (Name 1 21) (Name 1 32), Some (Node (PointerTo (IntTy kind.Int)) 1 true (typed.Conditional (value_of_object (IntTy kind.Int) 6) (value_of_object (PointerTo (IntTy kind.Int)) 14) (Node (PointerTo (IntTy kind.Int)) 1 false (typed.ArrayPointer (object (ArrayOf (IntTy kind.Int) (Some 3)) 25)))))) ∷
    -- i ? a : ca
    (Conditional 1 (Name 1 13) (Name 1 32) (Name 1 33), Some (Node (PointerTo (ConstOf (IntTy kind.Int))) 1 true (typed.Conditional (value_of_object (IntTy kind.Int) 6) (Node (PointerTo (ConstOf (IntTy kind.Int))) 1 false (typed.Convert (Node (PointerTo (IntTy kind.Int)) 1 false (typed.ArrayPointer (object (ArrayOf (IntTy kind.Int) (Some 3)) 25))))) (Node (PointerTo (ConstOf (IntTy kind.Int))) 1 false (typed.ArrayPointer (object (ArrayOf (ConstOf (IntTy kind.Int)) (Some 2)) 26)))))) ∷
    -- i ? pci : pi
    (Conditional 1 (Name 1 13) (Name 1 22) (Name 1 21), Some (Node (PointerTo (ConstOf (IntTy kind.Int))) 1 true (typed.Conditional (value_of_object (IntTy kind.Int) 6) (value_of_object (PointerTo (ConstOf (IntTy kind.Int))) 15) (Node (PointerTo (ConstOf (IntTy kind.Int))) 1 false (typed.Convert (value_of_object (PointerTo (IntTy kind.Int)) 14)))))) ∷
    -- i ? &ci : cpi
    (Conditional 1 (Name 1 13) (Unary 1 uop.Address (Name 1 19)) (Name 1 23), Some (Node (PointerTo (ConstOf (IntTy kind.Int))) 1 true (typed.Conditional (value_of_object (IntTy kind.Int) 6) (Node (PointerTo (ConstOf (IntTy kind.Int))) 1 true (typed.Address (object (ConstOf (IntTy kind.Int)) 12))) (Node (PointerTo (ConstOf (IntTy kind.Int))) 1 false (typed.Convert (Node (PointerTo (IntTy kind.Int)) 1 false (typed.Read (object (ConstOf (PointerTo (IntTy kind.Int))) 16)))))))) ∷
    -- i ? cpi : cpi
    (Conditional 1 (Name 1 13) (Name 1 23) (Name 1 23), Some (Node (PointerTo (IntTy kind.Int)) 1 true (typed.Conditional (value_of_object (IntTy kind.Int) 6) (Node (PointerTo (IntTy kind.Int)) 1 false (typed.Read (object (ConstOf (PointerTo (IntTy kind.Int))) 16))) (Node (PointerTo (IntTy kind.Int)) 1 false (typed.Read (object (ConstOf (PointerTo (IntTy kind.Int))) 16)))))) ∷
    -- i ? pi : pui
    (Conditional 1 (Name 1 13) (Name 1 21) (Name 1 28), None) ∷
    -- i ? ppi : ppci
    (Conditional 1 (Name 1 13) (Name 1 29) (Name 1 30), None) ∷
    -- i ? ppi : pcpi
    (Conditional 1 (Name 1 13) (Name 1 29) (Name 1 31), Some (Node (PointerTo (ConstOf (PointerTo (IntTy kind.Int)))) 1 true (typed.Conditional (value_of_object (IntTy kind.Int) 6) (Node (PointerTo (ConstOf (PointerTo (IntTy kind.Int)))) 1 false (typed.Convert (value_of_object (PointerTo (PointerTo (IntTy kind.Int))) 22))) (value_of_object (PointerTo (ConstOf (PointerTo (IntTy kind.Int)))) 24)))) ∷
    -- i ? plt : plt
    (Conditional 1 (Name 1 13) (Name 1 55) (Name 1 55), Some (Node (PointerTo (StructTag 4)) 1 true (typed.Conditional (value_of_object (IntTy kind.Int) 6) (value_of_object (PointerTo (StructTag 4)) 48) (value_of_object (PointerTo (StructTag 4)) 48)))) ∷
    [])
unfolding layouts_of are_compatible
chosen_pointer_rows = refl

-- Pointers to arrays, of which one says its size: the composite type (C17 6.5.15p6, 6.2.7p3).
composite_of_pointers_rows : AreTyped context (
    -- i ? pa3 : &open
    (Conditional 1 (Name 1 13) (Name 1 38) (Unary 1 uop.Address (Name 1 56)), Some (Node (PointerTo (ArrayOf (IntTy kind.Int) (Some 3))) 1 true (typed.Conditional (value_of_object (IntTy kind.Int) 6) (value_of_object (PointerTo (ArrayOf (IntTy kind.Int) (Some 3))) 31) (Node (PointerTo (ArrayOf (IntTy kind.Int) (Some 3))) 1 false (typed.Convert (Node (PointerTo (ArrayOf (IntTy kind.Int) None)) 1 true (typed.Address (object (ArrayOf (IntTy kind.Int) None) 49)))))))) ∷
    -- i ? &open : pa3
    (Conditional 1 (Name 1 13) (Unary 1 uop.Address (Name 1 56)) (Name 1 38), Some (Node (PointerTo (ArrayOf (IntTy kind.Int) (Some 3))) 1 true (typed.Conditional (value_of_object (IntTy kind.Int) 6) (Node (PointerTo (ArrayOf (IntTy kind.Int) (Some 3))) 1 false (typed.Convert (Node (PointerTo (ArrayOf (IntTy kind.Int) None)) 1 true (typed.Address (object (ArrayOf (IntTy kind.Int) None) 49))))) (value_of_object (PointerTo (ArrayOf (IntTy kind.Int) (Some 3))) 31)))) ∷
    -- i ? &open : pa4
    (Conditional 1 (Name 1 13) (Unary 1 uop.Address (Name 1 56)) (Name 1 39), Some (Node (PointerTo (ArrayOf (IntTy kind.Int) (Some 4))) 1 true (typed.Conditional (value_of_object (IntTy kind.Int) 6) (Node (PointerTo (ArrayOf (IntTy kind.Int) (Some 4))) 1 false (typed.Convert (Node (PointerTo (ArrayOf (IntTy kind.Int) None)) 1 true (typed.Address (object (ArrayOf (IntTy kind.Int) None) 49))))) (value_of_object (PointerTo (ArrayOf (IntTy kind.Int) (Some 4))) 32)))) ∷
    -- i ? &open : &open
    (Conditional 1 (Name 1 13) (Unary 1 uop.Address (Name 1 56)) (Unary 1 uop.Address (Name 1 56)), Some (Node (PointerTo (ArrayOf (IntTy kind.Int) None)) 1 true (typed.Conditional (value_of_object (IntTy kind.Int) 6) (Node (PointerTo (ArrayOf (IntTy kind.Int) None)) 1 true (typed.Address (object (ArrayOf (IntTy kind.Int) None) 49))) (Node (PointerTo (ArrayOf (IntTy kind.Int) None)) 1 true (typed.Address (object (ArrayOf (IntTy kind.Int) None) 49)))))) ∷
    -- i ? pa3 : pa4
    (Conditional 1 (Name 1 13) (Name 1 38) (Name 1 39), None) ∷
    -- i ? pa3 : &a
    (Conditional 1 (Name 1 13) (Name 1 38) (Unary 1 uop.Address (Name 1 32)), Some (Node (PointerTo (ArrayOf (IntTy kind.Int) (Some 3))) 1 true (typed.Conditional (value_of_object (IntTy kind.Int) 6) (value_of_object (PointerTo (ArrayOf (IntTy kind.Int) (Some 3))) 31) (Node (PointerTo (ArrayOf (IntTy kind.Int) (Some 3))) 1 true (typed.Address (object (ArrayOf (IntTy kind.Int) (Some 3)) 25)))))) ∷
    -- i ? pca3 : pa3
    (Conditional 1 (Name 1 13) (Name 1 40) (Name 1 38), None) ∷
    -- i ? m : rows
    (Conditional 1 (Name 1 13) (Name 1 34) (Name 1 57), Some (Node (PointerTo (ArrayOf (IntTy kind.Int) (Some 3))) 1 true (typed.Conditional (value_of_object (IntTy kind.Int) 6) (Node (PointerTo (ArrayOf (IntTy kind.Int) (Some 3))) 1 false (typed.ArrayPointer (object (ArrayOf (ArrayOf (IntTy kind.Int) (Some 3)) (Some 2)) 27))) (Node (PointerTo (ArrayOf (IntTy kind.Int) (Some 3))) 1 false (typed.ArrayPointer (object (ArrayOf (ArrayOf (IntTy kind.Int) (Some 3)) None) 50)))))) ∷
    -- i ? &m : &rows
    (Conditional 1 (Name 1 13) (Unary 1 uop.Address (Name 1 34)) (Unary 1 uop.Address (Name 1 57)), Some (Node (PointerTo (ArrayOf (ArrayOf (IntTy kind.Int) (Some 3)) (Some 2))) 1 true (typed.Conditional (value_of_object (IntTy kind.Int) 6) (Node (PointerTo (ArrayOf (ArrayOf (IntTy kind.Int) (Some 3)) (Some 2))) 1 true (typed.Address (object (ArrayOf (ArrayOf (IntTy kind.Int) (Some 3)) (Some 2)) 27))) (Node (PointerTo (ArrayOf (ArrayOf (IntTy kind.Int) (Some 3)) (Some 2))) 1 false (typed.Convert (Node (PointerTo (ArrayOf (ArrayOf (IntTy kind.Int) (Some 3)) None)) 1 true (typed.Address (object (ArrayOf (ArrayOf (IntTy kind.Int) (Some 3)) None) 50)))))))) ∷
    -- i ? &rows : &m
    (Conditional 1 (Name 1 13) (Unary 1 uop.Address (Name 1 57)) (Unary 1 uop.Address (Name 1 34)), Some (Node (PointerTo (ArrayOf (ArrayOf (IntTy kind.Int) (Some 3)) (Some 2))) 1 true (typed.Conditional (value_of_object (IntTy kind.Int) 6) (Node (PointerTo (ArrayOf (ArrayOf (IntTy kind.Int) (Some 3)) (Some 2))) 1 false (typed.Convert (Node (PointerTo (ArrayOf (ArrayOf (IntTy kind.Int) (Some 3)) None)) 1 true (typed.Address (object (ArrayOf (ArrayOf (IntTy kind.Int) (Some 3)) None) 50))))) (Node (PointerTo (ArrayOf (ArrayOf (IntTy kind.Int) (Some 3)) (Some 2))) 1 true (typed.Address (object (ArrayOf (ArrayOf (IntTy kind.Int) (Some 3)) (Some 2)) 27)))))) ∷
    -- i ? &rows : &rows
    (Conditional 1 (Name 1 13) (Unary 1 uop.Address (Name 1 57)) (Unary 1 uop.Address (Name 1 57)), Some (Node (PointerTo (ArrayOf (ArrayOf (IntTy kind.Int) (Some 3)) None)) 1 true (typed.Conditional (value_of_object (IntTy kind.Int) 6) (Node (PointerTo (ArrayOf (ArrayOf (IntTy kind.Int) (Some 3)) None)) 1 true (typed.Address (object (ArrayOf (ArrayOf (IntTy kind.Int) (Some 3)) None) 50))) (Node (PointerTo (ArrayOf (ArrayOf (IntTy kind.Int) (Some 3)) None)) 1 true (typed.Address (object (ArrayOf (ArrayOf (IntTy kind.Int) (Some 3)) None) 50)))))) ∷
    -- i ? "a" : "bcd"
    (Conditional 1 (Name 1 13) (Text 1 1 0) (Text 1 2 0), Some (Node (PointerTo (IntTy kind.Char)) 1 true (typed.Conditional (value_of_object (IntTy kind.Int) 6) (Node (PointerTo (IntTy kind.Char)) 1 false (typed.ArrayPointer (Node (ArrayOf (IntTy kind.Char) (Some 2)) 1 true (typed.String 0)))) (Node (PointerTo (IntTy kind.Char)) 1 false (typed.ArrayPointer (Node (ArrayOf (IntTy kind.Char) (Some 4)) 1 true (typed.String 1))))))) ∷
    -- i ? text : "bcd"
    (Conditional 1 (Name 1 13) (Name 1 36) (Text 1 2 0), Some (Node (PointerTo (IntTy kind.Char)) 1 true (typed.Conditional (value_of_object (IntTy kind.Int) 6) (Node (PointerTo (IntTy kind.Char)) 1 false (typed.ArrayPointer (object (ArrayOf (IntTy kind.Char) (Some 4)) 29))) (Node (PointerTo (IntTy kind.Char)) 1 false (typed.ArrayPointer (Node (ArrayOf (IntTy kind.Char) (Some 4)) 1 true (typed.String 0))))))) ∷
    -- i ? &text : &"bcd"
    (Conditional 1 (Name 1 13) (Unary 1 uop.Address (Name 1 36)) (Unary 1 uop.Address (Text 1 2 0)), Some (Node (PointerTo (ArrayOf (IntTy kind.Char) (Some 4))) 1 true (typed.Conditional (value_of_object (IntTy kind.Int) 6) (Node (PointerTo (ArrayOf (IntTy kind.Char) (Some 4))) 1 true (typed.Address (object (ArrayOf (IntTy kind.Char) (Some 4)) 29))) (Node (PointerTo (ArrayOf (IntTy kind.Char) (Some 4))) 1 true (typed.Address (Node (ArrayOf (IntTy kind.Char) (Some 4)) 1 true (typed.String 0))))))) ∷
    -- i ? &text : &"bc"
    (Conditional 1 (Name 1 13) (Unary 1 uop.Address (Name 1 36)) (Unary 1 uop.Address (Text 1 3 0)), None) ∷
    -- sizeof *(i ? &open : pa3)
    (SizeofExpr 1 (Unary 1 uop.Indirection (Paren 1 (Conditional 1 (Name 1 13) (Unary 1 uop.Address (Name 1 56)) (Name 1 38)))), Some (Node (IntTy kind.ULong) 1 true (typed.Sizeof 12))) ∷
    -- sizeof *(i ? &open : &open)
    (SizeofExpr 1 (Unary 1 uop.Indirection (Paren 1 (Conditional 1 (Name 1 13) (Unary 1 uop.Address (Name 1 56)) (Unary 1 uop.Address (Name 1 56))))), None) ∷
    -- sizeof *(i ? &rows : &m)
    (SizeofExpr 1 (Unary 1 uop.Indirection (Paren 1 (Conditional 1 (Name 1 13) (Unary 1 uop.Address (Name 1 57)) (Unary 1 uop.Address (Name 1 34))))), Some (Node (IntTy kind.ULong) 1 true (typed.Sizeof 24))) ∷
    -- (i ? &open : pa3)[1]
    (Index 1 (Paren 1 (Conditional 1 (Name 1 13) (Unary 1 uop.Address (Name 1 56)) (Name 1 38))) (Number 1 1 true false 0), Some (Node (ArrayOf (IntTy kind.Int) (Some 3)) 1 true (typed.Subscript (Node (PointerTo (ArrayOf (IntTy kind.Int) (Some 3))) 1 true (typed.Conditional (value_of_object (IntTy kind.Int) 6) (Node (PointerTo (ArrayOf (IntTy kind.Int) (Some 3))) 1 false (typed.Convert (Node (PointerTo (ArrayOf (IntTy kind.Int) None)) 1 true (typed.Address (object (ArrayOf (IntTy kind.Int) None) 49))))) (value_of_object (PointerTo (ArrayOf (IntTy kind.Int) (Some 3))) 31))) (int_constant 1)))) ∷
    -- (i ? &open : &open) + 1
    (Binary 1 bop.Add (Paren 1 (Conditional 1 (Name 1 13) (Unary 1 uop.Address (Name 1 56)) (Unary 1 uop.Address (Name 1 56)))) (Number 1 1 true false 0), None) ∷
    -- *(i ? pa3 : &open)
    (Unary 1 uop.Indirection (Paren 1 (Conditional 1 (Name 1 13) (Name 1 38) (Unary 1 uop.Address (Name 1 56)))), Some (Node (ArrayOf (IntTy kind.Int) (Some 3)) 1 true (typed.Indirection (Node (PointerTo (ArrayOf (IntTy kind.Int) (Some 3))) 1 true (typed.Conditional (value_of_object (IntTy kind.Int) 6) (value_of_object (PointerTo (ArrayOf (IntTy kind.Int) (Some 3))) 31) (Node (PointerTo (ArrayOf (IntTy kind.Int) (Some 3))) 1 false (typed.Convert (Node (PointerTo (ArrayOf (IntTy kind.Int) None)) 1 true (typed.Address (object (ArrayOf (IntTy kind.Int) None) 49)))))))))) ∷
    [])
unfolding layouts_of are_compatible
composite_of_pointers_rows = refl

-- A pointer to void beside another pointer (C17 6.5.15p6).
chosen_void_pointer_rows : AreTyped context (
    -- i ? pv : pi
    (Conditional 1 (Name 1 13) (Name 1 24) (Name 1 21), Some (Node (PointerTo VoidTy) 1 true (typed.Conditional (value_of_object (IntTy kind.Int) 6) (value_of_object (PointerTo VoidTy) 17) (Node (PointerTo VoidTy) 1 false (typed.Convert (value_of_object (PointerTo (IntTy kind.Int)) 14)))))) ∷
    -- i ? pci : pv
    (Conditional 1 (Name 1 13) (Name 1 22) (Name 1 24), Some (Node (PointerTo (ConstOf VoidTy)) 1 true (typed.Conditional (value_of_object (IntTy kind.Int) 6) (Node (PointerTo (ConstOf VoidTy)) 1 false (typed.Convert (value_of_object (PointerTo (ConstOf (IntTy kind.Int))) 15))) (Node (PointerTo (ConstOf VoidTy)) 1 false (typed.Convert (value_of_object (PointerTo VoidTy) 17)))))) ∷
    -- i ? pv : pcv
    (Conditional 1 (Name 1 13) (Name 1 24) (Name 1 25), Some (Node (PointerTo (ConstOf VoidTy)) 1 true (typed.Conditional (value_of_object (IntTy kind.Int) 6) (Node (PointerTo (ConstOf VoidTy)) 1 false (typed.Convert (value_of_object (PointerTo VoidTy) 17))) (value_of_object (PointerTo (ConstOf VoidTy)) 18)))) ∷
    -- i ? pcv : pcv
    (Conditional 1 (Name 1 13) (Name 1 25) (Name 1 25), Some (Node (PointerTo (ConstOf VoidTy)) 1 true (typed.Conditional (value_of_object (IntTy kind.Int) 6) (value_of_object (PointerTo (ConstOf VoidTy)) 18) (value_of_object (PointerTo (ConstOf VoidTy)) 18)))) ∷
    -- i ? plt : pv
    (Conditional 1 (Name 1 13) (Name 1 55) (Name 1 24), Some (Node (PointerTo VoidTy) 1 true (typed.Conditional (value_of_object (IntTy kind.Int) 6) (Node (PointerTo VoidTy) 1 false (typed.Convert (value_of_object (PointerTo (StructTag 4)) 48))) (value_of_object (PointerTo VoidTy) 17)))) ∷
    -- *(i ? pv : pi)
    (Unary 1 uop.Indirection (Paren 1 (Conditional 1 (Name 1 13) (Name 1 24) (Name 1 21))), Some (Node VoidTy 1 true (typed.Indirection (Node (PointerTo VoidTy) 1 true (typed.Conditional (value_of_object (IntTy kind.Int) 6) (value_of_object (PointerTo VoidTy) 17) (Node (PointerTo VoidTy) 1 false (typed.Convert (value_of_object (PointerTo (IntTy kind.Int)) 14)))))))) ∷
    [])
unfolding layouts_of are_compatible
chosen_void_pointer_rows = refl

-- A pointer beside a null pointer constant (C17 6.5.15p6, 6.3.2.3p3).
chosen_null_pointer_rows : AreTyped context (
    -- i ? pi : A
    (Conditional 1 (Name 1 13) (Name 1 21) (Name 1 0), Some (Node (PointerTo (IntTy kind.Int)) 1 true (typed.Conditional (value_of_object (IntTy kind.Int) 6) (value_of_object (PointerTo (IntTy kind.Int)) 14) (Node (PointerTo (IntTy kind.Int)) 1 false (typed.Convert (int_constant 0)))))) ∷
    -- i ? 0L : pci
    (Conditional 1 (Name 1 13) (Number 1 0 false false 1) (Name 1 22), Some (Node (PointerTo (ConstOf (IntTy kind.Int))) 1 true (typed.Conditional (value_of_object (IntTy kind.Int) 6) (Node (PointerTo (ConstOf (IntTy kind.Int))) 1 false (typed.Convert (Node (IntTy kind.Long) 1 true (typed.Constant (pos 0))))) (value_of_object (PointerTo (ConstOf (IntTy kind.Int))) 15)))) ∷
    -- i ? (void *)0 : pi
    (Conditional 1 (Name 1 13) (Cast 1 (TypeName 1 (Then NoTrees (OfSpecifier (Keyword 1 word.Void))) (Present (OfDeclarator (AbstractPointer 1 0 Absent)))) (Number 1 0 false false 0)) (Name 1 21), Some (Node (PointerTo (IntTy kind.Int)) 1 true (typed.Conditional (value_of_object (IntTy kind.Int) 6) (Node (PointerTo (IntTy kind.Int)) 1 false (typed.Convert (Node (PointerTo VoidTy) 1 true (typed.Cast (int_constant 0))))) (value_of_object (PointerTo (IntTy kind.Int)) 14)))) ∷
    -- i ? pi : (const void *)0
    (Conditional 1 (Name 1 13) (Name 1 21) (Cast 1 (TypeName 1 (Then (Then NoTrees (OfSpecifier (Keyword 1 word.Const))) (OfSpecifier (Keyword 1 word.Void))) (Present (OfDeclarator (AbstractPointer 1 0 Absent)))) (Number 1 0 false false 0)), Some (Node (PointerTo (ConstOf VoidTy)) 1 true (typed.Conditional (value_of_object (IntTy kind.Int) 6) (Node (PointerTo (ConstOf VoidTy)) 1 false (typed.Convert (value_of_object (PointerTo (IntTy kind.Int)) 14))) (Node (PointerTo (ConstOf VoidTy)) 1 true (typed.Cast (int_constant 0)))))) ∷
    -- i ? pi : (void *)pv
    (Conditional 1 (Name 1 13) (Name 1 21) (Cast 1 (TypeName 1 (Then NoTrees (OfSpecifier (Keyword 1 word.Void))) (Present (OfDeclarator (AbstractPointer 1 0 Absent)))) (Name 1 24)), Some (Node (PointerTo VoidTy) 1 true (typed.Conditional (value_of_object (IntTy kind.Int) 6) (Node (PointerTo VoidTy) 1 false (typed.Convert (value_of_object (PointerTo (IntTy kind.Int)) 14))) (Node (PointerTo VoidTy) 1 true (typed.Cast (value_of_object (PointerTo VoidTy) 17)))))) ∷
    -- i ? (void *)0 : (void *)0
    (Conditional 1 (Name 1 13) (Cast 1 (TypeName 1 (Then NoTrees (OfSpecifier (Keyword 1 word.Void))) (Present (OfDeclarator (AbstractPointer 1 0 Absent)))) (Number 1 0 false false 0)) (Cast 1 (TypeName 1 (Then NoTrees (OfSpecifier (Keyword 1 word.Void))) (Present (OfDeclarator (AbstractPointer 1 0 Absent)))) (Number 1 0 false false 0)), Some (Node (PointerTo VoidTy) 1 true (typed.Conditional (value_of_object (IntTy kind.Int) 6) (Node (PointerTo VoidTy) 1 true (typed.Cast (int_constant 0))) (Node (PointerTo VoidTy) 1 true (typed.Cast (int_constant 0)))))) ∷
    -- i ? 0 : (void *)0
    (Conditional 1 (Name 1 13) (Number 1 0 false false 0) (Cast 1 (TypeName 1 (Then NoTrees (OfSpecifier (Keyword 1 word.Void))) (Present (OfDeclarator (AbstractPointer 1 0 Absent)))) (Number 1 0 false false 0)), Some (Node (PointerTo VoidTy) 1 true (typed.Conditional (value_of_object (IntTy kind.Int) 6) (Node (PointerTo VoidTy) 1 false (typed.Convert (int_constant 0))) (Node (PointerTo VoidTy) 1 true (typed.Cast (int_constant 0)))))) ∷
    -- i ? pi : 1
    (Conditional 1 (Name 1 13) (Name 1 21) (Number 1 1 true false 0), None) ∷
    -- i ? 0 : node
    (Conditional 1 (Name 1 13) (Number 1 0 false false 0) (Name 1 44), None) ∷
    [])
unfolding type_of_words layouts_of are_compatible
chosen_null_pointer_rows = refl
