-- Postfix and unary operators (C17 6.5.2, 6.5.3), each with operands that it takes and operands that it doesn't.
use Rattle.std.specs.Prelude.{refl, pos, true, false, Some, None, [], ◌∷◌}
use Rattle.pv_num.specs.declared.kinds.IntKind.TheVariants as kind
use Rattle.pv_num.specs.declared.operators.BinOp.TheVariants as arithmetic
use Rattle.pv_num.specs.declared.operators.UnOp.TheVariants as numeric
use Rattle.pv_token.specs.declared.words.Word.TheVariants as word
use Rattle.pv_library.specs.declared.library.Library.TheVariants as library
use Rattle.pv_tree.specs.declared.operators.UnaryOperator.TheVariants as uop
use Rattle.pv_tree.specs.declared.operators.BinaryOperator.TheVariants as bop
use Rattle.pv_tree.specs.declared.operators.AssignOperator.TheVariants as aop
use Rattle.pv_typed.specs.declared.nodes.IncrementOperator.TheVariants as step
use Rattle.pv_typed.specs.TypedTree as typed
use Rattle.pv_tree.specs.Syntax.{Name, Number, Text, Paren, Index, Call, Member, Arrow, PostIncrement, PostDecrement, PreIncrement, PreDecrement, Unary, SizeofExpr, Cast, Binary, Conditional, Assign, Comma, NoArguments, Argument, TypeName, Keyword, OfSpecifier, NoTrees, Then, Absent}
use Rattle.pv_types.specs.Ty.{Ty, IntTy, PointerTo, ArrayOf, StructTag, UnionTag, ConstOf, FunctionTy, MoreTys, NoTys}
use Rattle.pv_types.specs.Layouts.{layouts_of}
use Rattle.pv_types.specs.Compatible.{are_compatible}
use Rattle.pv_check.specs.Words.{type_of_words}
use Rattle.pv_library.specs.LibraryNames.{library_named}
use Rattle.pv_typed.specs.TypedTree.{TypedTree, Node, Arguments, NoArguments as NoMore, MoreArguments as More}
use Rattle.pv_check.proofs.MoreExamples.{context}
use Rattle.pv_check.proofs.ExampleRows.{AreTyped, object, value_of_object, int_constant}

-- the type of `int add(int x, long y)`, its designator, the pointer to it, and the arguments `(1, 2)`
abbrev adds : Ty
adds = FunctionTy (IntTy kind.Int) (MoreTys (IntTy kind.Int) (MoreTys (IntTy kind.Long) NoTys)) false

abbrev add : TypedTree
add = Node adds 1 true (typed.Function 5)

abbrev to_add : TypedTree
to_add = Node (PointerTo adds) 1 false (typed.ArrayPointer add)

abbrev one_two : Arguments
one_two = More (int_constant 1) (More (Node (IntTy kind.Long) 1 false (typed.Convert (int_constant 2))) NoMore)

-- Subscripts (C17 6.5.2.1).
subscript_operand_rows : AreTyped context (
    -- a[ch]
    (Index 1 (Name 1 32) (Name 1 8), Some (Node (IntTy kind.Int) 1 true (typed.Subscript (Node (PointerTo (IntTy kind.Int)) 1 false (typed.ArrayPointer (object (ArrayOf (IntTy kind.Int) (Some 3)) 25))) (value_of_object (IntTy kind.Char) 1)))) ∷
    -- ch[a]
    (Index 1 (Name 1 8) (Name 1 32), Some (Node (IntTy kind.Int) 1 true (typed.Subscript (value_of_object (IntTy kind.Char) 1) (Node (PointerTo (IntTy kind.Int)) 1 false (typed.ArrayPointer (object (ArrayOf (IntTy kind.Int) (Some 3)) 25)))))) ∷
    -- a[a]
    (Index 1 (Name 1 32) (Name 1 32), None) ∷
    -- i[i]
    (Index 1 (Name 1 13) (Name 1 13), None) ∷
    -- m[1]
    (Index 1 (Name 1 34) (Number 1 1 true false 0), Some (Node (ArrayOf (IntTy kind.Int) (Some 3)) 1 true (typed.Subscript (Node (PointerTo (ArrayOf (IntTy kind.Int) (Some 3))) 1 false (typed.ArrayPointer (object (ArrayOf (ArrayOf (IntTy kind.Int) (Some 3)) (Some 2)) 27))) (int_constant 1)))) ∷
    -- 2[m][1]
    (Index 1 (Index 1 (Number 1 2 true false 0) (Name 1 34)) (Number 1 1 true false 0), Some (Node (IntTy kind.Int) 1 true (typed.Subscript (Node (PointerTo (IntTy kind.Int)) 1 false (typed.ArrayPointer (Node (ArrayOf (IntTy kind.Int) (Some 3)) 1 true (typed.Subscript (int_constant 2) (Node (PointerTo (ArrayOf (IntTy kind.Int) (Some 3))) 1 false (typed.ArrayPointer (object (ArrayOf (ArrayOf (IntTy kind.Int) (Some 3)) (Some 2)) 27))))))) (int_constant 1)))) ∷
    -- ap[1][0]
    (Index 1 (Index 1 (Name 1 37) (Number 1 1 true false 0)) (Number 1 0 false false 0), Some (Node (IntTy kind.Int) 1 true (typed.Subscript (Node (PointerTo (IntTy kind.Int)) 1 false (typed.Read (Node (PointerTo (IntTy kind.Int)) 1 true (typed.Subscript (Node (PointerTo (PointerTo (IntTy kind.Int))) 1 false (typed.ArrayPointer (object (ArrayOf (PointerTo (IntTy kind.Int)) (Some 2)) 30))) (int_constant 1))))) (int_constant 0)))) ∷
    -- "abc"[i]
    (Index 1 (Text 1 4 0) (Name 1 13), Some (Node (IntTy kind.Char) 1 true (typed.Subscript (Node (PointerTo (IntTy kind.Char)) 1 false (typed.ArrayPointer (Node (ArrayOf (IntTy kind.Char) (Some 4)) 1 true (typed.String 0)))) (value_of_object (IntTy kind.Int) 6)))) ∷
    -- node[0]
    (Index 1 (Name 1 44) (Number 1 0 false false 0), None) ∷
    -- a[pi]
    (Index 1 (Name 1 32) (Name 1 21), None) ∷
    -- a[nothing()]
    (Index 1 (Name 1 32) (Call 1 (Name 1 64) NoArguments), None) ∷
    [])
unfolding layouts_of are_compatible library_named
subscript_operand_rows = refl

-- Calls (C17 6.5.2.2).
call_operand_rows : AreTyped context (
    -- add(1, 2, 3)
    (Call 1 (Name 1 63) (Argument (Argument (Argument NoArguments (Number 1 1 true false 0)) (Number 1 2 true false 0)) (Number 1 3 true false 0)), None) ∷
    -- add(i)
    (Call 1 (Name 1 63) (Argument NoArguments (Name 1 13)), None) ∷
    -- add(pi, 1)
    (Call 1 (Name 1 63) (Argument (Argument NoArguments (Name 1 21)) (Number 1 1 true false 0)), None) ∷
    -- add(bo, ull)
    (Call 1 (Name 1 63) (Argument (Argument NoArguments (Name 1 7)) (Name 1 18)), Some (Node (IntTy kind.Int) 1 true (typed.Call 5 (More (Node (IntTy kind.Int) 1 false (typed.Convert (value_of_object (IntTy kind.Bool) 0))) (More (Node (IntTy kind.Long) 1 false (typed.Convert (value_of_object (IntTy kind.ULLong) 11))) NoMore))))) ∷
    -- add(add(1, 2), 3)
    (Call 1 (Name 1 63) (Argument (Argument NoArguments (Call 1 (Name 1 63) (Argument (Argument NoArguments (Number 1 1 true false 0)) (Number 1 2 true false 0)))) (Number 1 3 true false 0)), Some (Node (IntTy kind.Int) 1 true (typed.Call 5 (More (Node (IntTy kind.Int) 1 true (typed.Call 5 (More (int_constant 1) (More (Node (IntTy kind.Long) 1 false (typed.Convert (int_constant 2))) NoMore)))) (More (Node (IntTy kind.Long) 1 false (typed.Convert (int_constant 3))) NoMore))))) ∷
    -- modify(node, un)
    (Call 1 (Name 1 66) (Argument (Argument NoArguments (Name 1 44)) (Name 1 48)), Some (Node (StructTag 1) 1 true (typed.Call 8 (More (value_of_object (StructTag 1) 37) (More (value_of_object (UnionTag 5) 41) NoMore))))) ∷
    -- modify(cnode, cun)
    (Call 1 (Name 1 66) (Argument (Argument NoArguments (Name 1 45)) (Name 1 49)), Some (Node (StructTag 1) 1 true (typed.Call 8 (More (Node (StructTag 1) 1 false (typed.Read (object (ConstOf (StructTag 1)) 38))) (More (Node (UnionTag 5) 1 false (typed.Read (object (ConstOf (UnionTag 5)) 42))) NoMore))))) ∷
    -- modify(un, node)
    (Call 1 (Name 1 66) (Argument (Argument NoArguments (Name 1 48)) (Name 1 44)), None) ∷
    -- modify(make(1), unite())
    (Call 1 (Name 1 66) (Argument (Argument NoArguments (Call 1 (Name 1 58) (Argument NoArguments (Number 1 1 true false 0)))) (Call 1 (Name 1 60) NoArguments)), Some (Node (StructTag 1) 1 true (typed.Call 8 (More (Node (StructTag 1) 1 true (typed.Call 0 (More (int_constant 1) NoMore))) (More (Node (UnionTag 5) 1 true (typed.Call 2 NoMore)) NoMore))))) ∷
    -- truth(a, pi)
    (Call 1 (Name 1 67) (Argument (Argument NoArguments (Name 1 32)) (Name 1 21)), Some (Node (IntTy kind.Bool) 1 true (typed.Call 9 (More (Node (PointerTo (IntTy kind.Int)) 1 false (typed.ArrayPointer (object (ArrayOf (IntTy kind.Int) (Some 3)) 25))) (More (Node (IntTy kind.Bool) 1 false (typed.Convert (value_of_object (PointerTo (IntTy kind.Int)) 14))) NoMore))))) ∷
    -- truth(a, node)
    (Call 1 (Name 1 67) (Argument (Argument NoArguments (Name 1 32)) (Name 1 44)), None) ∷
    -- truth(0, 2)
    (Call 1 (Name 1 67) (Argument (Argument NoArguments (Number 1 0 false false 0)) (Number 1 2 true false 0)), Some (Node (IntTy kind.Bool) 1 true (typed.Call 9 (More (Node (PointerTo (IntTy kind.Int)) 1 false (typed.Convert (int_constant 0))) (More (Node (IntTy kind.Bool) 1 false (typed.Convert (int_constant 2))) NoMore))))) ∷
    -- make(1)(2)
    (Call 1 (Call 1 (Name 1 58) (Argument NoArguments (Number 1 1 true false 0))) (Argument NoArguments (Number 1 2 true false 0)), None) ∷
    -- pi(1)
    (Call 1 (Name 1 21) (Argument NoArguments (Number 1 1 true false 0)), None) ∷
    -- A(1)
    (Call 1 (Name 1 0) (Argument NoArguments (Number 1 1 true false 0)), None) ∷
    -- a[0](1)
    (Call 1 (Index 1 (Name 1 32) (Number 1 0 false false 0)) (Argument NoArguments (Number 1 1 true false 0)), None) ∷
    -- ((make))(1).x
    (Member 1 (Call 1 (Paren 1 (Paren 1 (Name 1 58))) (Argument NoArguments (Number 1 1 true false 0))) 95, Some (Node (IntTy kind.Int) 1 true (typed.MemberOfValue (Node (StructTag 1) 1 true (typed.Call 0 (More (int_constant 1) NoMore))) 0))) ∷
    -- (i, add)(1, 2)
    (Call 1 (Paren 1 (Comma 1 (Name 1 13) (Name 1 63))) (Argument (Argument NoArguments (Number 1 1 true false 0)) (Number 1 2 true false 0)), Some (Node (IntTy kind.Int) 1 true (typed.CallPointer (Node (PointerTo adds) 1 true (typed.Comma (value_of_object (IntTy kind.Int) 6) to_add)) one_two))) ∷
    -- (1 ? add : add)(1, 2)
    (Call 1 (Paren 1 (Conditional 1 (Number 1 1 true false 0) (Name 1 63) (Name 1 63))) (Argument (Argument NoArguments (Number 1 1 true false 0)) (Number 1 2 true false 0)), Some (Node (IntTy kind.Int) 1 true (typed.CallPointer (Node (PointerTo adds) 1 true (typed.Conditional (int_constant 1) to_add to_add)) one_two))) ∷
    -- total(m)
    (Call 1 (Name 1 69) (Argument NoArguments (Name 1 34)), None) ∷
    -- total(m[0])
    (Call 1 (Name 1 69) (Argument NoArguments (Index 1 (Name 1 34) (Number 1 0 false false 0))), Some (Node (IntTy kind.Int) 1 true (typed.Call 11 (More (Node (PointerTo (IntTy kind.Int)) 1 false (typed.ArrayPointer (Node (ArrayOf (IntTy kind.Int) (Some 3)) 1 true (typed.Subscript (Node (PointerTo (ArrayOf (IntTy kind.Int) (Some 3))) 1 false (typed.ArrayPointer (object (ArrayOf (ArrayOf (IntTy kind.Int) (Some 3)) (Some 2)) 27))) (int_constant 0))))) NoMore)))) ∷
    -- total(text)
    (Call 1 (Name 1 69) (Argument NoArguments (Name 1 36)), None) ∷
    [])
unfolding layouts_of are_compatible library_named
call_operand_rows = refl

-- Members (C17 6.5.2.3).
member_operand_rows : AreTyped context (
    -- node.x
    (Member 1 (Name 1 44) 95, Some (Node (IntTy kind.Int) 1 true (typed.Member (object (StructTag 1) 37) 0))) ∷
    -- node.nope
    (Member 1 (Name 1 44) 106, None) ∷
    -- node->x
    (Arrow 1 (Name 1 44) 95, None) ∷
    -- pn->x
    (Arrow 1 (Name 1 46) 95, Some (Node (IntTy kind.Int) 1 true (typed.Arrow (value_of_object (PointerTo (StructTag 1)) 39) 0))) ∷
    -- pn.x
    (Member 1 (Name 1 46) 95, None) ∷
    -- i.x
    (Member 1 (Name 1 13) 95, None) ∷
    -- pi->x
    (Arrow 1 (Name 1 21) 95, None) ∷
    -- un.bytes
    (Member 1 (Name 1 48) 100, Some (Node (ArrayOf (IntTy kind.UChar) (Some 8)) 1 true (typed.Member (object (UnionTag 5) 41) 0))) ∷
    -- un.bytes[3]
    (Index 1 (Member 1 (Name 1 48) 100) (Number 1 3 true false 0), Some (Node (IntTy kind.UChar) 1 true (typed.Subscript (Node (PointerTo (IntTy kind.UChar)) 1 false (typed.ArrayPointer (Node (ArrayOf (IntTy kind.UChar) (Some 8)) 1 true (typed.Member (object (UnionTag 5) 41) 0)))) (int_constant 3)))) ∷
    -- ho.q[1].next->x
    (Arrow 1 (Member 1 (Index 1 (Member 1 (Name 1 52) 99) (Number 1 1 true false 0)) 96) 95, Some (Node (IntTy kind.Int) 1 true (typed.Arrow (Node (PointerTo (StructTag 1)) 1 false (typed.Read (Node (PointerTo (StructTag 1)) 1 true (typed.Member (Node (StructTag 1) 1 true (typed.Subscript (Node (PointerTo (StructTag 1)) 1 false (typed.ArrayPointer (Node (ArrayOf (StructTag 1) (Some 2)) 1 true (typed.Member (object (StructTag 3) 45) 0)))) (int_constant 1))) 8)))) 0))) ∷
    -- (*pn).x
    (Member 1 (Paren 1 (Unary 1 uop.Indirection (Name 1 46))) 95, Some (Node (IntTy kind.Int) 1 true (typed.Member (Node (StructTag 1) 1 true (typed.Indirection (value_of_object (PointerTo (StructTag 1)) 39))) 0))) ∷
    -- (&node)->x
    (Arrow 1 (Paren 1 (Unary 1 uop.Address (Name 1 44))) 95, Some (Node (IntTy kind.Int) 1 true (typed.Arrow (Node (PointerTo (StructTag 1)) 1 true (typed.Address (object (StructTag 1) 37))) 0))) ∷
    -- (&node).x
    (Member 1 (Paren 1 (Unary 1 uop.Address (Name 1 44))) 95, None) ∷
    -- make(1).next->next
    (Arrow 1 (Member 1 (Call 1 (Name 1 58) (Argument NoArguments (Number 1 1 true false 0))) 96) 96, Some (Node (PointerTo (StructTag 1)) 1 true (typed.Arrow (Node (PointerTo (StructTag 1)) 1 true (typed.MemberOfValue (Node (StructTag 1) 1 true (typed.Call 0 (More (int_constant 1) NoMore))) 8)) 8))) ∷
    -- nodes.x
    (Member 1 (Name 1 113) 95, None) ∷
    [])
unfolding layouts_of are_compatible library_named
member_operand_rows = refl

-- Increments and decrements (C17 6.5.2.4, 6.5.3.1).
increment_operand_rows : AreTyped context (
    -- i++
    (PostIncrement 1 (Name 1 13), Some (Node (IntTy kind.Int) 1 true (typed.Increment step.PostIncrement (object (IntTy kind.Int) 6)))) ∷
    -- ++bo
    (PreIncrement 1 (Name 1 7), Some (Node (IntTy kind.Bool) 1 true (typed.Increment step.PreIncrement (object (IntTy kind.Bool) 0)))) ∷
    -- ch--
    (PostDecrement 1 (Name 1 8), Some (Node (IntTy kind.Char) 1 true (typed.Increment step.PostDecrement (object (IntTy kind.Char) 1)))) ∷
    -- ul--
    (PostDecrement 1 (Name 1 16), Some (Node (IntTy kind.ULong) 1 true (typed.Increment step.PostDecrement (object (IntTy kind.ULong) 9)))) ∷
    -- pn++
    (PostIncrement 1 (Name 1 46), Some (Node (PointerTo (StructTag 1)) 1 true (typed.Increment step.PostIncrement (object (PointerTo (StructTag 1)) 39)))) ∷
    -- ++ppi
    (PreIncrement 1 (Name 1 29), Some (Node (PointerTo (PointerTo (IntTy kind.Int))) 1 true (typed.Increment step.PreIncrement (object (PointerTo (PointerTo (IntTy kind.Int))) 22)))) ∷
    -- --pa3
    (PreDecrement 1 (Name 1 38), Some (Node (PointerTo (ArrayOf (IntTy kind.Int) (Some 3))) 1 true (typed.Increment step.PreDecrement (object (PointerTo (ArrayOf (IntTy kind.Int) (Some 3))) 31)))) ∷
    -- a++
    (PostIncrement 1 (Name 1 32), None) ∷
    -- node++
    (PostIncrement 1 (Name 1 44), None) ∷
    -- A++
    (PostIncrement 1 (Name 1 0), None) ∷
    -- 1++
    (PostIncrement 1 (Number 1 1 true false 0), None) ∷
    -- make(1)++
    (PostIncrement 1 (Call 1 (Name 1 58) (Argument NoArguments (Number 1 1 true false 0))), None) ∷
    -- i++ ++
    (PostIncrement 1 (PostIncrement 1 (Name 1 13)), None) ∷
    -- (i++)--
    (PostDecrement 1 (Paren 1 (PostIncrement 1 (Name 1 13))), None) ∷
    -- ++i++
    (PreIncrement 1 (PostIncrement 1 (Name 1 13)), None) ∷
    -- pi++->x
    (Arrow 1 (PostIncrement 1 (Name 1 21)) 95, None) ∷
    -- *pi++
    (Unary 1 uop.Indirection (PostIncrement 1 (Name 1 21)), Some (Node (IntTy kind.Int) 1 true (typed.Indirection (Node (PointerTo (IntTy kind.Int)) 1 true (typed.Increment step.PostIncrement (object (PointerTo (IntTy kind.Int)) 14)))))) ∷
    -- (*pi)++
    (PostIncrement 1 (Paren 1 (Unary 1 uop.Indirection (Name 1 21))), Some (Node (IntTy kind.Int) 1 true (typed.Increment step.PostIncrement (Node (IntTy kind.Int) 1 true (typed.Indirection (value_of_object (PointerTo (IntTy kind.Int)) 14)))))) ∷
    [])
unfolding layouts_of are_compatible library_named
increment_operand_rows = refl

-- The operators `&` and `*` (C17 6.5.3.2).
address_operand_rows : AreTyped context (
    -- &node.x
    (Unary 1 uop.Address (Member 1 (Name 1 44) 95), Some (Node (PointerTo (IntTy kind.Int)) 1 true (typed.Address (Node (IntTy kind.Int) 1 true (typed.Member (object (StructTag 1) 37) 0))))) ∷
    -- &pn->next
    (Unary 1 uop.Address (Arrow 1 (Name 1 46) 96), Some (Node (PointerTo (PointerTo (StructTag 1))) 1 true (typed.Address (Node (PointerTo (StructTag 1)) 1 true (typed.Arrow (value_of_object (PointerTo (StructTag 1)) 39) 8))))) ∷
    -- &a
    (Unary 1 uop.Address (Name 1 32), Some (Node (PointerTo (ArrayOf (IntTy kind.Int) (Some 3))) 1 true (typed.Address (object (ArrayOf (IntTy kind.Int) (Some 3)) 25)))) ∷
    -- &m[1]
    (Unary 1 uop.Address (Index 1 (Name 1 34) (Number 1 1 true false 0)), Some (Node (PointerTo (ArrayOf (IntTy kind.Int) (Some 3))) 1 true (typed.Address (Node (ArrayOf (IntTy kind.Int) (Some 3)) 1 false (typed.Subscript (Node (PointerTo (ArrayOf (IntTy kind.Int) (Some 3))) 1 false (typed.ArrayPointer (object (ArrayOf (ArrayOf (IntTy kind.Int) (Some 3)) (Some 2)) 27))) (int_constant 1)))))) ∷
    -- &"abc"
    (Unary 1 uop.Address (Text 1 4 0), Some (Node (PointerTo (ArrayOf (IntTy kind.Char) (Some 4))) 1 true (typed.Address (Node (ArrayOf (IntTy kind.Char) (Some 4)) 1 true (typed.String 0))))) ∷
    -- &i++
    (Unary 1 uop.Address (PostIncrement 1 (Name 1 13)), None) ∷
    -- &(i)
    (Unary 1 uop.Address (Paren 1 (Name 1 13)), Some (Node (PointerTo (IntTy kind.Int)) 1 true (typed.Address (object (IntTy kind.Int) 6)))) ∷
    -- &(i + 1)
    (Unary 1 uop.Address (Paren 1 (Binary 1 bop.Add (Name 1 13) (Number 1 1 true false 0))), None) ∷
    -- &A
    (Unary 1 uop.Address (Name 1 0), None) ∷
    -- &add
    (Unary 1 uop.Address (Name 1 63), Some (Node (PointerTo adds) 1 true (typed.Address add))) ∷
    -- *&a
    (Unary 1 uop.Indirection (Unary 1 uop.Address (Name 1 32)), Some (Node (ArrayOf (IntTy kind.Int) (Some 3)) 1 true (typed.Indirection (Node (PointerTo (ArrayOf (IntTy kind.Int) (Some 3))) 1 true (typed.Address (object (ArrayOf (IntTy kind.Int) (Some 3)) 25)))))) ∷
    -- **m
    (Unary 1 uop.Indirection (Unary 1 uop.Indirection (Name 1 34)), Some (Node (IntTy kind.Int) 1 true (typed.Indirection (Node (PointerTo (IntTy kind.Int)) 1 false (typed.ArrayPointer (Node (ArrayOf (IntTy kind.Int) (Some 3)) 1 true (typed.Indirection (Node (PointerTo (ArrayOf (IntTy kind.Int) (Some 3))) 1 false (typed.ArrayPointer (object (ArrayOf (ArrayOf (IntTy kind.Int) (Some 3)) (Some 2)) 27)))))))))) ∷
    -- *"abc"
    (Unary 1 uop.Indirection (Text 1 4 0), Some (Node (IntTy kind.Char) 1 true (typed.Indirection (Node (PointerTo (IntTy kind.Char)) 1 false (typed.ArrayPointer (Node (ArrayOf (IntTy kind.Char) (Some 4)) 1 true (typed.String 0))))))) ∷
    -- *1
    (Unary 1 uop.Indirection (Number 1 1 true false 0), None) ∷
    -- *node
    (Unary 1 uop.Indirection (Name 1 44), None) ∷
    -- *add
    (Unary 1 uop.Indirection (Name 1 63), Some (Node adds 1 true (typed.Indirection to_add))) ∷
    -- (add)
    (Paren 1 (Name 1 63), Some add) ∷
    [])
unfolding layouts_of are_compatible library_named
address_operand_rows = refl

-- The operators `+`, `-`, `~` and `!` (C17 6.5.3.3).
sign_operand_rows : AreTyped context (
    -- +bo
    (Unary 1 uop.Plus (Name 1 7), Some (Node (IntTy kind.Int) 1 true (typed.Unary numeric.Plus (Node (IntTy kind.Int) 1 false (typed.Convert (value_of_object (IntTy kind.Bool) 0)))))) ∷
    -- -ch
    (Unary 1 uop.Minus (Name 1 8), Some (Node (IntTy kind.Int) 1 true (typed.Unary numeric.Minus (Node (IntTy kind.Int) 1 false (typed.Convert (value_of_object (IntTy kind.Char) 1)))))) ∷
    -- -ui
    (Unary 1 uop.Minus (Name 1 14), Some (Node (IntTy kind.UInt) 1 true (typed.Unary numeric.Minus (value_of_object (IntTy kind.UInt) 7)))) ∷
    -- ~sh
    (Unary 1 uop.Complement (Name 1 11), Some (Node (IntTy kind.Int) 1 true (typed.Unary numeric.Flip (Node (IntTy kind.Int) 1 false (typed.Convert (value_of_object (IntTy kind.Short) 4)))))) ∷
    -- ~ull
    (Unary 1 uop.Complement (Name 1 18), Some (Node (IntTy kind.ULLong) 1 true (typed.Unary numeric.Flip (value_of_object (IntTy kind.ULLong) 11)))) ∷
    -- +pi
    (Unary 1 uop.Plus (Name 1 21), None) ∷
    -- -node
    (Unary 1 uop.Minus (Name 1 44), None) ∷
    -- ~a
    (Unary 1 uop.Complement (Name 1 32), None) ∷
    -- !ull
    (Unary 1 uop.Not (Name 1 18), Some (Node (IntTy kind.Int) 1 true (typed.Not (value_of_object (IntTy kind.ULLong) 11)))) ∷
    -- !a
    (Unary 1 uop.Not (Name 1 32), Some (Node (IntTy kind.Int) 1 true (typed.Not (Node (PointerTo (IntTy kind.Int)) 1 false (typed.ArrayPointer (object (ArrayOf (IntTy kind.Int) (Some 3)) 25)))))) ∷
    -- !node
    (Unary 1 uop.Not (Name 1 44), None) ∷
    -- -"a"
    (Unary 1 uop.Minus (Text 1 1 0), None) ∷
    -- - -1
    (Unary 1 uop.Minus (Unary 1 uop.Minus (Number 1 1 true false 0)), Some (Node (IntTy kind.Int) 1 true (typed.Unary numeric.Minus (Node (IntTy kind.Int) 1 true (typed.Unary numeric.Minus (int_constant 1)))))) ∷
    [])
unfolding layouts_of are_compatible
sign_operand_rows = refl

-- Each node has the line of its first token.
line_rows : AreTyped context (
    -- i ↵ + ch
    (Binary 1 bop.Add (Name 1 13) (Name 2 8), Some (Node (IntTy kind.Int) 1 true (typed.Arithmetic arithmetic.Add (value_of_object (IntTy kind.Int) 6) (Node (IntTy kind.Int) 2 false (typed.Convert (Node (IntTy kind.Char) 2 false (typed.Read (Node (IntTy kind.Char) 2 true (typed.Object 1))))))))) ∷
    -- ↵ ch ↵ * ↵ ul
    (Binary 2 bop.Multiply (Name 2 8) (Name 4 16), Some (Node (IntTy kind.ULong) 2 true (typed.Arithmetic arithmetic.Mul (Node (IntTy kind.ULong) 2 false (typed.Convert (Node (IntTy kind.Char) 2 false (typed.Read (Node (IntTy kind.Char) 2 true (typed.Object 1)))))) (Node (IntTy kind.ULong) 4 false (typed.Read (Node (IntTy kind.ULong) 4 true (typed.Object 9))))))) ∷
    -- ( ↵ i ↵ )
    (Paren 1 (Name 2 13), Some (Node (IntTy kind.Int) 2 true (typed.Object 6))) ∷
    -- - ↵ ( ↵ sh ↵ )
    (Unary 1 uop.Minus (Paren 2 (Name 3 11)), Some (Node (IntTy kind.Int) 1 true (typed.Unary numeric.Minus (Node (IntTy kind.Int) 3 false (typed.Convert (Node (IntTy kind.Short) 3 false (typed.Read (Node (IntTy kind.Short) 3 true (typed.Object 4))))))))) ∷
    -- ( ↵ int ↵ ) ↵ l
    (Cast 1 (TypeName 2 (Then NoTrees (OfSpecifier (Keyword 2 word.Int))) Absent) (Name 4 15), Some (Node (IntTy kind.Int) 1 true (typed.Cast (Node (IntTy kind.Long) 4 false (typed.Read (Node (IntTy kind.Long) 4 true (typed.Object 8))))))) ∷
    -- a ↵ [ ↵ ch ↵ ]
    (Index 1 (Name 1 32) (Name 3 8), Some (Node (IntTy kind.Int) 1 true (typed.Subscript (Node (PointerTo (IntTy kind.Int)) 1 false (typed.ArrayPointer (object (ArrayOf (IntTy kind.Int) (Some 3)) 25))) (Node (IntTy kind.Char) 3 false (typed.Read (Node (IntTy kind.Char) 3 true (typed.Object 1))))))) ∷
    -- add ↵ ( ↵ 1, ↵ ch)
    (Call 1 (Name 1 63) (Argument (Argument NoArguments (Number 3 1 true false 0)) (Name 4 8)), Some (Node (IntTy kind.Int) 1 true (typed.Call 5 (More (Node (IntTy kind.Int) 3 true (typed.Constant (pos 1))) (More (Node (IntTy kind.Long) 4 false (typed.Convert (Node (IntTy kind.Char) 4 false (typed.Read (Node (IntTy kind.Char) 4 true (typed.Object 1)))))) NoMore))))) ∷
    -- sizeof ↵ i
    (SizeofExpr 1 (Name 2 13), Some (Node (IntTy kind.ULong) 1 true (typed.Sizeof 4))) ∷
    -- i ↵ ? ch ↵ : ul
    (Conditional 1 (Name 1 13) (Name 2 8) (Name 3 16), Some (Node (IntTy kind.ULong) 1 true (typed.Conditional (value_of_object (IntTy kind.Int) 6) (Node (IntTy kind.ULong) 2 false (typed.Convert (Node (IntTy kind.Char) 2 false (typed.Read (Node (IntTy kind.Char) 2 true (typed.Object 1)))))) (Node (IntTy kind.ULong) 3 false (typed.Read (Node (IntTy kind.ULong) 3 true (typed.Object 9))))))) ∷
    -- pn ↵ -> next ↵ -> x
    (Arrow 1 (Arrow 1 (Name 1 46) 96) 95, Some (Node (IntTy kind.Int) 1 true (typed.Arrow (Node (PointerTo (StructTag 1)) 1 false (typed.Read (Node (PointerTo (StructTag 1)) 1 true (typed.Arrow (value_of_object (PointerTo (StructTag 1)) 39) 8)))) 0))) ∷
    -- i ↵ ++
    (PostIncrement 1 (Name 1 13), Some (Node (IntTy kind.Int) 1 true (typed.Increment step.PostIncrement (object (IntTy kind.Int) 6)))) ∷
    -- ch ↵ = ↵ i, ↵ ch
    (Comma 1 (Assign 1 aop.Assign (Name 1 8) (Name 3 13)) (Name 4 8), Some (Node (IntTy kind.Char) 1 true (typed.Comma (Node (IntTy kind.Char) 1 true (typed.Assign (object (IntTy kind.Char) 1) (Node (IntTy kind.Char) 3 false (typed.Convert (Node (IntTy kind.Int) 3 false (typed.Read (Node (IntTy kind.Int) 3 true (typed.Object 6)))))))) (Node (IntTy kind.Char) 4 false (typed.Read (Node (IntTy kind.Char) 4 true (typed.Object 1))))))) ∷
    [])
unfolding type_of_words layouts_of are_compatible library_named
line_rows = refl

-- Adjacent string literals are one (C17 6.4.5p5).
adjacent_literal_rows : AreTyped context (
    -- "a" ↵ "b"
    (Text 1 35 1, Some (Node (ArrayOf (IntTy kind.Char) (Some 3)) 1 true (typed.String 0))) ∷
    -- "ab" "cd"
    (Text 1 37 1, Some (Node (ArrayOf (IntTy kind.Char) (Some 5)) 1 true (typed.String 0))) ∷
    -- sizeof ("ab" "cd" "")
    (SizeofExpr 1 (Paren 1 (Text 1 39 2)), Some (Node (IntTy kind.ULong) 1 true (typed.Sizeof 5))) ∷
    -- "ab" "" [1]
    (Index 1 (Text 1 42 1) (Number 1 1 true false 0), Some (Node (IntTy kind.Char) 1 true (typed.Subscript (Node (PointerTo (IntTy kind.Char)) 1 false (typed.ArrayPointer (Node (ArrayOf (IntTy kind.Char) (Some 3)) 1 true (typed.String 0)))) (int_constant 1)))) ∷
    -- &("ab" "c")
    (Unary 1 uop.Address (Paren 1 (Text 1 44 1)), Some (Node (PointerTo (ArrayOf (IntTy kind.Char) (Some 4))) 1 true (typed.Address (Node (ArrayOf (IntTy kind.Char) (Some 4)) 1 true (typed.String 0))))) ∷
    -- printf("%d" " %s", i, pc)
    (Call 1 (Name 1 84) (Argument (Argument (Argument NoArguments (Text 1 46 1)) (Name 1 13)) (Name 1 26)), Some (Node (IntTy kind.Int) 1 true (typed.LibraryCall library.Printf (More (Node (PointerTo (ConstOf (IntTy kind.Char))) 1 false (typed.Convert (Node (PointerTo (IntTy kind.Char)) 1 false (typed.ArrayPointer (Node (ArrayOf (IntTy kind.Char) (Some 6)) 1 true (typed.String 0)))))) (More (value_of_object (IntTy kind.Int) 6) (More (value_of_object (PointerTo (IntTy kind.Char)) 19) NoMore)))))) ∷
    -- printf("%" "d", i)
    (Call 1 (Name 1 84) (Argument (Argument NoArguments (Text 1 48 1)) (Name 1 13)), Some (Node (IntTy kind.Int) 1 true (typed.LibraryCall library.Printf (More (Node (PointerTo (ConstOf (IntTy kind.Char))) 1 false (typed.Convert (Node (PointerTo (IntTy kind.Char)) 1 false (typed.ArrayPointer (Node (ArrayOf (IntTy kind.Char) (Some 3)) 1 true (typed.String 0)))))) (More (value_of_object (IntTy kind.Int) 6) NoMore))))) ∷
    -- printf("%" "f", i)
    (Call 1 (Name 1 84) (Argument (Argument NoArguments (Text 1 50 1)) (Name 1 13)), None) ∷
    [])
unfolding layouts_of are_compatible library_named
adjacent_literal_rows = refl

-- The operator `sizeof` (C17 6.5.3.4).
sizeof_operand_rows : AreTyped context (
    -- sizeof ch
    (SizeofExpr 1 (Name 1 8), Some (Node (IntTy kind.ULong) 1 true (typed.Sizeof 1))) ∷
    -- sizeof +ch
    (SizeofExpr 1 (Unary 1 uop.Plus (Name 1 8)), Some (Node (IntTy kind.ULong) 1 true (typed.Sizeof 4))) ∷
    -- sizeof (ch, ch)
    (SizeofExpr 1 (Paren 1 (Comma 1 (Name 1 8) (Name 1 8))), Some (Node (IntTy kind.ULong) 1 true (typed.Sizeof 1))) ∷
    -- sizeof (i ? ch : ch)
    (SizeofExpr 1 (Paren 1 (Conditional 1 (Name 1 13) (Name 1 8) (Name 1 8))), Some (Node (IntTy kind.ULong) 1 true (typed.Sizeof 4))) ∷
    -- sizeof ca
    (SizeofExpr 1 (Name 1 33), Some (Node (IntTy kind.ULong) 1 true (typed.Sizeof 8))) ∷
    -- sizeof *m
    (SizeofExpr 1 (Unary 1 uop.Indirection (Name 1 34)), Some (Node (IntTy kind.ULong) 1 true (typed.Sizeof 12))) ∷
    -- sizeof &a
    (SizeofExpr 1 (Unary 1 uop.Address (Name 1 32)), Some (Node (IntTy kind.ULong) 1 true (typed.Sizeof 8))) ∷
    -- sizeof st.b
    (SizeofExpr 1 (Member 1 (Name 1 41) 93), Some (Node (IntTy kind.ULong) 1 true (typed.Sizeof 4))) ∷
    -- sizeof build().a
    (SizeofExpr 1 (Member 1 (Call 1 (Name 1 59) NoArguments) 32), Some (Node (IntTy kind.ULong) 1 true (typed.Sizeof 4))) ∷
    -- sizeof make(1)
    (SizeofExpr 1 (Call 1 (Name 1 58) (Argument NoArguments (Number 1 1 true false 0))), Some (Node (IntTy kind.ULong) 1 true (typed.Sizeof 16))) ∷
    -- sizeof add(1, 2)
    (SizeofExpr 1 (Call 1 (Name 1 63) (Argument (Argument NoArguments (Number 1 1 true false 0)) (Number 1 2 true false 0))), Some (Node (IntTy kind.ULong) 1 true (typed.Sizeof 4))) ∷
    -- sizeof add
    (SizeofExpr 1 (Name 1 63), None) ∷
    -- sizeof (add)
    (SizeofExpr 1 (Paren 1 (Name 1 63)), None) ∷
    -- sizeof nope
    (SizeofExpr 1 (Name 1 106), None) ∷
    -- sizeof sizeof i
    (SizeofExpr 1 (SizeofExpr 1 (Name 1 13)), Some (Node (IntTy kind.ULong) 1 true (typed.Sizeof 8))) ∷
    -- sizeof "abc"[0]
    (SizeofExpr 1 (Index 1 (Text 1 4 0) (Number 1 0 false false 0)), Some (Node (IntTy kind.ULong) 1 true (typed.Sizeof 1))) ∷
    -- sizeof i++
    (SizeofExpr 1 (PostIncrement 1 (Name 1 13)), Some (Node (IntTy kind.ULong) 1 true (typed.Sizeof 4))) ∷
    -- sizeof (i = pi)
    (SizeofExpr 1 (Paren 1 (Assign 1 aop.Assign (Name 1 13) (Name 1 21))), None) ∷
    [])
unfolding layouts_of are_compatible library_named
sizeof_operand_rows = refl
