-- Function designators and pointers to functions (C17 6.3.2.1p4, 6.5.2.2, 6.5.3.2, 6.5.4, 6.5.9, 6.5.15, 6.5.16) in one context, with
-- their typed trees, or none.
use Rattle.std.specs.Prelude.{refl, true, false, Some, None, [], ◌∷◌}
use Rattle.pv_num.specs.declared.kinds.IntKind.TheVariants as kind
use Rattle.pv_num.specs.declared.operators.BinOp.TheVariants as arithmetic
use Rattle.pv_token.specs.declared.words.Word.TheVariants as word
use Rattle.pv_tree.specs.declared.operators.UnaryOperator.TheVariants as uop
use Rattle.pv_tree.specs.declared.operators.BinaryOperator.TheVariants as bop
use Rattle.pv_tree.specs.declared.operators.AssignOperator.TheVariants as aop
use Rattle.pv_tree.specs.Syntax.{Name, Number, Paren, Call, Unary, Cast, SizeofExpr, PostIncrement, Binary, Conditional, Assign, Comma, NoArguments, Argument, TypeName, AbstractPointer, Keyword, OfDeclarator, OfSpecifier, NoTrees, Then, Absent, Present}
use Rattle.pv_types.specs.Ty.{Ty, VoidTy, IntTy, PointerTo, FunctionTy, MoreTys, NoTys}
use Rattle.pv_types.specs.Layouts.{layouts_of}
use Rattle.pv_types.specs.Compatible.{are_compatible}
use Rattle.pv_typed.specs.TypedTree as typed
use Rattle.pv_typed.specs.TypedTree.{TypedTree, Node, Arguments, NoArguments as NoMore, MoreArguments as More}
use Rattle.pv_check.specs.Words.{type_of_words}
use Rattle.pv_library.specs.LibraryNames.{library_named}
use Rattle.pv_check.proofs.ExampleContext.{context}
use Rattle.pv_check.proofs.ExampleRows.{AreTyped, object, value_of_object, int_constant}

-- the type of `int add(int, long)`
abbrev adds : Ty
adds = FunctionTy (IntTy kind.Int) (MoreTys (IntTy kind.Int) (MoreTys (IntTy kind.Long) NoTys)) false

-- its designator, and the pointer to it
abbrev add : TypedTree
add = Node adds 1 true (typed.Function 1)

abbrev to_add : TypedTree
to_add = Node (PointerTo adds) 1 false (typed.ArrayPointer add)

-- the arguments `(1, 2)`
abbrev one_two : Arguments
one_two = More (int_constant 1) (More (Node (IntTy kind.Long) 1 false (typed.Convert (int_constant 2))) NoMore)

-- What a designator is, and what stands for it (C17 6.3.2.1p4, 6.5.3.2p3, p4, 6.5.3.4p1).
designator_rows : AreTyped context (
    -- add
    (Name 1 39, Some add) ∷
    -- (add)
    (Paren 1 (Name 1 39), Some add) ∷
    -- &add
    (Unary 1 uop.Address (Name 1 39), Some (Node (PointerTo adds) 1 true (typed.Address add))) ∷
    -- *add
    (Unary 1 uop.Indirection (Name 1 39), Some (Node adds 1 true (typed.Indirection to_add))) ∷
    -- &*add
    (Unary 1 uop.Address (Unary 1 uop.Indirection (Name 1 39)), Some (Node (PointerTo adds) 1 true (typed.Address (Node adds 1 false (typed.Indirection to_add))))) ∷
    -- &&add
    (Unary 1 uop.Address (Unary 1 uop.Address (Name 1 39)), None) ∷
    -- sizeof add
    (SizeofExpr 1 (Name 1 39), None) ∷
    -- sizeof *add
    (SizeofExpr 1 (Unary 1 uop.Indirection (Name 1 39)), None) ∷
    -- sizeof &add
    (SizeofExpr 1 (Unary 1 uop.Address (Name 1 39)), Some (Node (IntTy kind.ULong) 1 true (typed.Sizeof 8))) ∷
    -- malloc
    (Name 1 43, None) ∷
    -- &free
    (Unary 1 uop.Address (Name 1 44), None) ∷
    -- !add
    (Unary 1 uop.Not (Name 1 39), Some (Node (IntTy kind.Int) 1 true (typed.Not to_add))) ∷
    -- -add
    (Unary 1 uop.Minus (Name 1 39), None) ∷
    -- add++
    (PostIncrement 1 (Name 1 39), None) ∷
    -- i, add
    (Comma 1 (Name 1 9) (Name 1 39), Some (Node (PointerTo adds) 1 true (typed.Comma (value_of_object (IntTy kind.Int) 5) to_add))) ∷
    [])
unfolding layouts_of are_compatible library_named
designator_rows = refl

-- Calls by a name and by a value (C17 6.5.2.2p1, p2).
pointer_call_rows : AreTyped context (
    -- add(1, 2)
    (Call 1 (Name 1 39) (Argument (Argument NoArguments (Number 1 1 true false 0)) (Number 1 2 true false 0)), Some (Node (IntTy kind.Int) 1 true (typed.Call 1 one_two))) ∷
    -- ((add))(1, 2)
    (Call 1 (Paren 1 (Paren 1 (Name 1 39))) (Argument (Argument NoArguments (Number 1 1 true false 0)) (Number 1 2 true false 0)), Some (Node (IntTy kind.Int) 1 true (typed.Call 1 one_two))) ∷
    -- (&add)(1, 2)
    (Call 1 (Paren 1 (Unary 1 uop.Address (Name 1 39))) (Argument (Argument NoArguments (Number 1 1 true false 0)) (Number 1 2 true false 0)), Some (Node (IntTy kind.Int) 1 true (typed.CallPointer (Node (PointerTo adds) 1 true (typed.Address add)) one_two))) ∷
    -- (*add)(1, 2)
    (Call 1 (Paren 1 (Unary 1 uop.Indirection (Name 1 39))) (Argument (Argument NoArguments (Number 1 1 true false 0)) (Number 1 2 true false 0)), Some (Node (IntTy kind.Int) 1 true (typed.CallPointer (Node (PointerTo adds) 1 false (typed.ArrayPointer (Node adds 1 true (typed.Indirection to_add)))) one_two))) ∷
    -- (*add)(1)
    (Call 1 (Paren 1 (Unary 1 uop.Indirection (Name 1 39))) (Argument NoArguments (Number 1 1 true false 0)), None) ∷
    -- (&add)(pi, 2)
    (Call 1 (Paren 1 (Unary 1 uop.Address (Name 1 39))) (Argument (Argument NoArguments (Name 1 17)) (Number 1 2 true false 0)), None) ∷
    -- (*free)(pv)
    (Call 1 (Paren 1 (Unary 1 uop.Indirection (Name 1 44))) (Argument NoArguments (Name 1 20)), None) ∷
    -- i()
    (Call 1 (Name 1 9) NoArguments, None) ∷
    -- pi()
    (Call 1 (Name 1 17) NoArguments, None) ∷
    -- *nothing
    (Unary 1 uop.Indirection (Call 1 (Name 1 40) NoArguments), None) ∷
    -- (*nothing)()
    (Call 1 (Paren 1 (Unary 1 uop.Indirection (Name 1 40))) NoArguments, Some (Node VoidTy 1 true (typed.CallPointer (Node (PointerTo (FunctionTy VoidTy NoTys false)) 1 false (typed.ArrayPointer (Node (FunctionTy VoidTy NoTys false) 1 true (typed.Indirection (Node (PointerTo (FunctionTy VoidTy NoTys false)) 1 false (typed.ArrayPointer (Node (FunctionTy VoidTy NoTys false) 1 true (typed.Function 2)))))))) NoMore))) ∷
    [])
unfolding layouts_of are_compatible library_named
pointer_call_rows = refl

-- Comparisons, sums and order (C17 6.5.6p2, 6.5.8p2, 6.5.9p2, p5).
function_operand_rows : AreTyped context (
    -- add == add
    (Binary 1 bop.Equal (Name 1 39) (Name 1 39), Some (Node (IntTy kind.Int) 1 true (typed.PointerEquality arithmetic.Eq to_add to_add))) ∷
    -- add != 0
    (Binary 1 bop.NotEqual (Name 1 39) (Number 1 0 false false 0), Some (Node (IntTy kind.Int) 1 true (typed.PointerEquality arithmetic.Ne to_add (Node (PointerTo adds) 1 false (typed.Convert (int_constant 0)))))) ∷
    -- (void *)0 == add
    (Binary 1 bop.Equal (Cast 1 (TypeName 1 (Then NoTrees (OfSpecifier (Keyword 1 word.Void))) (Present (OfDeclarator (AbstractPointer 1 0 Absent)))) (Number 1 0 false false 0)) (Name 1 39), Some (Node (IntTy kind.Int) 1 true (typed.PointerEquality arithmetic.Eq (Node (PointerTo adds) 1 false (typed.Convert (Node (PointerTo VoidTy) 1 true (typed.Cast (int_constant 0))))) to_add))) ∷
    -- add == nothing
    (Binary 1 bop.Equal (Name 1 39) (Name 1 40), None) ∷
    -- add == pv
    (Binary 1 bop.Equal (Name 1 39) (Name 1 20), None) ∷
    -- pv == add
    (Binary 1 bop.Equal (Name 1 20) (Name 1 39), None) ∷
    -- add < add
    (Binary 1 bop.Less (Name 1 39) (Name 1 39), None) ∷
    -- add + 1
    (Binary 1 bop.Add (Name 1 39) (Number 1 1 true false 0), None) ∷
    -- add - add
    (Binary 1 bop.Subtract (Name 1 39) (Name 1 39), None) ∷
    [])
unfolding type_of_words layouts_of are_compatible library_named
function_operand_rows = refl

-- Casts, conditionals and assignments (C17 6.5.4p2, 6.5.15p3, p6, 6.5.16.1p1; our choice on casts).
function_conversion_rows : AreTyped context (
    -- (void)add
    (Cast 1 (TypeName 1 (Then NoTrees (OfSpecifier (Keyword 1 word.Void))) Absent) (Name 1 39), Some (Node VoidTy 1 true (typed.Cast to_add))) ∷
    -- (_Bool)add
    (Cast 1 (TypeName 1 (Then NoTrees (OfSpecifier (Keyword 1 word.Bool))) Absent) (Name 1 39), Some (Node (IntTy kind.Bool) 1 true (typed.Cast to_add))) ∷
    -- (long)add
    (Cast 1 (TypeName 1 (Then NoTrees (OfSpecifier (Keyword 1 word.Long))) Absent) (Name 1 39), None) ∷
    -- (void *)add
    (Cast 1 (TypeName 1 (Then NoTrees (OfSpecifier (Keyword 1 word.Void))) (Present (OfDeclarator (AbstractPointer 1 0 Absent)))) (Name 1 39), None) ∷
    -- i ? add : 0
    (Conditional 1 (Name 1 9) (Name 1 39) (Number 1 0 false false 0), Some (Node (PointerTo adds) 1 true (typed.Conditional (value_of_object (IntTy kind.Int) 5) to_add (Node (PointerTo adds) 1 false (typed.Convert (int_constant 0)))))) ∷
    -- i ? add : pv
    (Conditional 1 (Name 1 9) (Name 1 39) (Name 1 20), None) ∷
    -- i ? add : nothing
    (Conditional 1 (Name 1 9) (Name 1 39) (Name 1 40), None) ∷
    -- bo = add
    (Assign 1 aop.Assign (Name 1 15) (Name 1 39), Some (Node (IntTy kind.Bool) 1 true (typed.Assign (object (IntTy kind.Bool) 11) (Node (IntTy kind.Bool) 1 false (typed.Convert to_add))))) ∷
    -- pv = add
    (Assign 1 aop.Assign (Name 1 20) (Name 1 39), None) ∷
    -- i = add
    (Assign 1 aop.Assign (Name 1 9) (Name 1 39), None) ∷
    -- add = 0
    (Assign 1 aop.Assign (Name 1 39) (Number 1 0 false false 0), None) ∷
    [])
unfolding type_of_words layouts_of are_compatible library_named
function_conversion_rows = refl
