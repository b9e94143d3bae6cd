-- A bridge: expressions as the code types them: by the numbers of the nodes that their operands are.
use Rattle.std.specs.Prelude.{ℕ, Bool, Option}
use Rattle.pv_tree.specs.declared.nodes.NodeId.{NodeId}
use Rattle.pv_tree.specs.declared.nodes.ListId.{ListId}
use Rattle.pv_tree.specs.Syntax.{ExpressionTree, TypeName}
use Rattle.pv_tree.specs.Tables.{Forest, expression_at, declaration_at, arguments_at, trees_at, optional_at}
use Rattle.pv_types.specs.Ty.{Ty}
use Rattle.pv_typed.specs.TypedTree.{TypedTree}
use Rattle.pv_check.specs.declared.arms.Two.{Two}
use Rattle.pv_check.specs.Arms.{first_operand, row_of_two}
use Rattle.pv_check.specs.Derivations.{Steps}
use Rattle.pv_check.specs.Rows.{operand, within_sizeof, callee, Callee, called_by}
use Rattle.pv_check.specs.RowParts.{sizeof_named, operand_size, cast, conditional, call, by_function}
use Rattle.pv_check.specs.State.{State, After}
use Rattle.pv_check.specs.Scopes.{in_new_scope}
use Rattle.pv_typed.specs.Constants.{and_then}
use Rattle.pv_check.specs.Typing.{types, type_named, arguments, parameters}

-- 6.5.2.1, 6.5.5 to 6.5.14, 6.5.16, 6.5.17: of two operands, from left to right
abbrev pub of_two_operands : Forest → Two → ℕ → NodeId → NodeId → State → Option (After TypedTree)
of_two_operands f what line a b s =
    and_then (first_operand what (types (expression_at f a) s)) (λ l. and_then (operand (types (expression_at f b) l.state)) (row_of_two what line l.value))

-- 6.5.15: of three operands, from left to right
abbrev pub of_three_operands : Forest → ℕ → NodeId → NodeId → NodeId → State → Option (After TypedTree)
of_three_operands f line a b c s =
    and_then (operand (types (expression_at f a) s)) (λ l. and_then (operand (types (expression_at f b) l.state)) (λ m.
    and_then (operand (types (expression_at f c) m.state)) (conditional line l.value m.value)))

-- 6.5.3.4: the size of an expression, which is not evaluated
abbrev pub size_of_operand : Forest → ℕ → NodeId → State → Option (After TypedTree)
size_of_operand f line a s = and_then (types (expression_at f a) (within_sizeof s)) (operand_size line s)

-- 6.5.3.4: the size of a type
abbrev pub size_of_named_type : Forest → ℕ → NodeId → State → Option (After TypedTree)
size_of_named_type f line n s = and_then (type_named (declaration_at f n) (within_sizeof s)) (sizeof_named line s)

-- 6.5.4: a cast to a type that is named
abbrev pub cast_to_type : Forest → ℕ → NodeId → NodeId → State → Option (After TypedTree)
cast_to_type f line n a s =
    and_then (type_named (declaration_at f n) s) (λ x. and_then (operand (types (expression_at f a) x.state)) (cast line x.value))

-- 6.5.2.2p1: what is called: the function by its name, which is used so (6.9p5), or the value of the callee
abbrev pub callee_of : ExpressionTree → State → Option (After Callee)
callee_of e s = called_by (callee s.scopes e) s (operand (types e s))

-- 6.5.2.2p4: a call with a list of arguments
abbrev pub call_with_list : Forest → ℕ → NodeId → ListId → State → Option (After TypedTree)
call_with_list f line g args s =
    and_then (callee_of (expression_at f g) s) (λ c. and_then (arguments (arguments_at f args) c.state) (call line c.value))

-- 6.7.7p2: the type that specifiers and an abstract declarator name
abbrev pub type_of_name : Forest → ℕ → ListId → Option NodeId → State → Option (After Ty)
type_of_name f line specs d s = type_named (TypeName line (trees_at f specs) (optional_at f d)) s

-- 6.7.6.3p5: one step more of a declarator, a function with a list of parameters
abbrev pub with_parameter_list : Forest → ListId → Bool → Steps → State → Option (After Steps)
with_parameter_list f l variadic x s = and_then (parameters (trees_at f l) (in_new_scope s)) (by_function variadic x)
