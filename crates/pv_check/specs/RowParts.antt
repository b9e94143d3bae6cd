-- A bridge: what functions answer that do a part of what Rows says.
use Rattle.std.specs.Prelude.{Option, ℕ, Some, [], List, ◌++◌, ◌∷◌, ℤ, false, true, nat_lt, Bool}
use Rattle.pv_typed.specs.TypedTree.{TypedTree, type_of}
use Rattle.pv_typed.specs.declared.nodes.IncrementOperator.{IncrementOperator}
use Rattle.pv_check.specs.State.{give, After, env, State, UsedFunction, ◌>>=◌}
use Rattle.pv_typed.specs.Constants.{and_then}
use Rattle.pv_check.specs.Postfix.{subscript_of, member_from, arrow_from, increment_of}
use Rattle.pv_check.specs.Unary.{unary_of, sizeof_type, cast_of}
use Rattle.pv_check.specs.Rows.{after_sizeof, Callee, call_by, ByValue}
use Rattle.pv_check.specs.Binary.{binary_of}
use Rattle.pv_check.specs.Conditional.{conditional_of}
use Rattle.pv_check.specs.Assignment.{assign_of, comma_of}
use Rattle.pv_check.specs.Derivations.{size_of, Steps, derived_type, adjustment_of, Parameter, with_parameter, with_step, ByPointer, ByArray, with_function, signature}
use Rattle.pv_check.specs.Primary.{with_use}
use Rattle.pv_tree.specs.declared.operators.UnaryOperator.{UnaryOperator}
use Rattle.pv_tree.specs.declared.operators.BinaryOperator.{BinaryOperator}
use Rattle.pv_tree.specs.declared.operators.AssignOperator.{AssignOperator}
use Rattle.pv_types.specs.Ty.{Ty}

-- 6.5.2.1: of two values, the state after them
abbrev pub subscript : ℕ → TypedTree → After TypedTree → Option (After TypedTree)
subscript line a b = give (subscript_of (env b.state) line a b.value) b.state

-- 6.5.2.3: of one operand and a name, the state after it
abbrev pub member : ℕ → ℕ → After TypedTree → Option (After TypedTree)
member line name a = give (member_from a.state.unit.completed line name a.value) a.state

-- 6.5.2.3: of one value and a name, the state after it
abbrev pub arrow : ℕ → ℕ → After TypedTree → Option (After TypedTree)
arrow line name a = give (arrow_from a.state.unit.completed line name a.value) a.state

-- 6.5.2.4, 6.5.3.1: of one operand, the state after it
abbrev pub increment : ℕ → IncrementOperator → After TypedTree → Option (After TypedTree)
increment line op a = give (increment_of (env a.state) line op a.value) a.state

-- 6.5.3: of one operand, the state after it
abbrev pub unary : ℕ → UnaryOperator → After TypedTree → Option (After TypedTree)
unary line op a = give (unary_of (env a.state) line op a.value) a.state

-- 6.5.3.4: of a type name
abbrev pub sizeof_named : ℕ → State → After Ty → Option (After TypedTree)
sizeof_named line before t = give (sizeof_type (env t.state) line t.value) (after_sizeof before t.state)

-- 6.5.3.4: of an expression, whose value is not taken
abbrev pub operand_size : ℕ → State → After TypedTree → Option (After TypedTree)
operand_size line before a = give (sizeof_type (env a.state) line (type_of a.value)) (after_sizeof before a.state)

-- 6.5.4: of one value
abbrev pub cast : ℕ → Ty → After TypedTree → Option (After TypedTree)
cast line t a = give (cast_of line t a.value) a.state

-- 6.5.5 to 6.5.14: of two values
abbrev pub binary : ℕ → BinaryOperator → TypedTree → After TypedTree → Option (After TypedTree)
binary line op a b = give (binary_of (env b.state) line op a b.value) b.state

-- 6.5.15: of three values
abbrev pub conditional : ℕ → TypedTree → TypedTree → After TypedTree → Option (After TypedTree)
conditional line a b c = give (conditional_of line a b c.value) c.state

-- 6.5.16: of an lvalue and a value
abbrev pub assignment : ℕ → AssignOperator → TypedTree → After TypedTree → Option (After TypedTree)
assignment line op a b = give (assign_of (env b.state) line op a b.value) b.state

-- 6.5.17: of two values
abbrev pub comma : ℕ → TypedTree → After TypedTree → Option (After TypedTree)
comma line a b = give (Some (comma_of line a b.value)) b.state

-- 6.5.2.2p4: one argument more
abbrev pub with_argument : List TypedTree → After TypedTree → Option (After (List TypedTree))
with_argument before a = give (Some (before ++ a.value ∷ [])) a.state

-- 6.5.2.2: of what is called and the values of the arguments
abbrev pub call : ℕ → Callee → After (List TypedTree) → Option (After TypedTree)
call line c args = give (call_by args.state.unit line c args.value) args.state

-- 6.7.6.2p1: the size of an array, where it is one
abbrev pub known_size : After ℤ → Option (After (Option ℕ))
known_size a = and_then (size_of a.value) (λ n. give (Some (Some n)) a.state)

-- 6.7.7p2: the type that specifiers and an abstract declarator name
abbrev pub named_type : Ty → After Steps → Option (After Ty)
named_type t a = give (derived_type false (env a.state) a.value.list t) a.state

-- 6.7.6.3p7: one more parameter
abbrev pub parameter_of : Option (ℕ × ℕ) → Ty → List Parameter → After Steps → Option (After (List Parameter))
parameter_of n t ps a = and_then (and_then (derived_type true (env a.state) a.value.list t) adjustment_of) (with_parameter ps n a.state)

-- 6.9p5: the function that a call names
abbrev pub with_callee : State → ℕ → State
with_callee s f = with_use s (UsedFunction f)

-- 6.7.6.1p1: one step more of a declarator, a pointer, perhaps `const`
abbrev pub by_pointer : ℕ → After Steps → Option (After Steps)
by_pointer consts a = give (Some (with_step a.value (ByPointer (nat_lt 0 consts)))) a.state

-- 6.7.6.2p3: one step more, an array
abbrev pub by_array : Steps → After (Option ℕ) → Option (After Steps)
by_array x n = give (Some (with_step x (ByArray n.value))) n.state

-- 6.7.6.3p5: one step more, a function
abbrev pub by_function : Bool → Steps → After (List Parameter) → Option (After Steps)
by_function variadic x ps = and_then (signature variadic ps) (λ g. give (Some (with_function x g.value)) g.state)

-- 6.5.2.2p1: the value by which a function is called
abbrev pub pointed_callee : Option (After TypedTree) → Option (After Callee)
pointed_callee a = a >>= λ (a : After TypedTree). give (Some (ByValue a.value)) a.state
