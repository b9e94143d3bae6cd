-- The value that is taken of an operand (6.3.2.1), conversions (6.3), and what may be assigned (6.5.16.1).
use Rattle.std.specs.Prelude.{ℕ, Bool, true, false, not, ◌&&◌, ◌||◌, if◌then◌else◌, Option, Some, None, List}
use Rattle.pv_num.specs.declared.kinds.IntKind.TheVariants.{Bool as BoolKind}
use Rattle.pv_types.specs.Layouts.{Entry, is_complete_in}
use Rattle.pv_types.specs.Ty.{Ty, IntTy, PointerTo, ArrayOf, StructTag, UnionTag, FunctionTy}
use Rattle.pv_typed.specs.TypedTree.{TypedTree, Form, Node, Convert, Read, ArrayPointer, type_of, line_of, is_lvalue}
use Rattle.pv_num.specs.Kinds.{promotion_of}
use Rattle.pv_types.specs.Sorts.{bare_type}
use Rattle.pv_types.specs.SameTypes.{same_type}
use Rattle.pv_check.specs.Sorts.{is_array, are_alike, has_void}
use Rattle.pv_types.specs.Qualifiers.{has_const, is_const}
use Rattle.pv_typed.specs.Addresses.{is_null_constant}

-- a node of the source (6.5), which takes a turn
-- worked: line_rows (proofs/OperandExamples)
abbrev pub source_node : ℕ → Ty → Form → TypedTree
source_node line t x = Node t line true x

-- a node that typing adds (6.3), which takes none
abbrev pub implied_node : ℕ → Ty → Form → TypedTree
implied_node line t x = Node t line false x

-- 6.3.2.1p2 to p4: of an array the pointer to its first element, of a function designator the pointer to the function, of another
-- lvalue what it holds; 6.3.2.1p2: an incomplete type has no value
abbrev pub read_at : List Entry → TypedTree → Ty → Option TypedTree
read_at env a (ArrayOf t n) = Some (implied_node (line_of a) (PointerTo t) (ArrayPointer a))
read_at env a (FunctionTy t ts v) = Some (implied_node (line_of a) (PointerTo (FunctionTy t ts v)) (ArrayPointer a))
read_at env a t = if is_complete_in env t then Some (implied_node (line_of a) (bare_type t) (Read a)) else None

-- 6.3.2.1p2 to p4: the value of an lvalue or a designator, or the expression itself
-- worked: unqualified_value_rows (proofs/QualifierExamples); incomplete_structure_rows, unknown_size_rows, void_expression_rows
--   (proofs/IncompleteExamples)
abbrev pub value_of : List Entry → TypedTree → Option TypedTree
value_of env a = if is_lvalue a then read_at env a (type_of a) else Some a

-- 6.3.2.1p1: an lvalue that may be changed
-- worked: modifiable_scalar_rows, modifiable_structure_rows (proofs/QualifierExamples)
abbrev pub is_modifiable : List Entry → TypedTree → Bool
is_modifiable env a = is_lvalue a && (not (is_array (type_of a)) && (is_complete_in env (type_of a) && not (has_const env (type_of a))))

-- 6.3: converted to a type that is not qualified; a value that has the type stays as it is
abbrev pub conversion_to : Ty → TypedTree → TypedTree
conversion_to t a = if same_type (type_of a) t then a else implied_node (line_of a) t (Convert a)

-- 6.3.1.1p2: an integer converted to its promoted type, by its type
abbrev pub promotion : TypedTree → Ty → TypedTree
promotion a (IntTy k) = conversion_to (IntTy (promotion_of k)) a
promotion a t = a

-- 6.3.1.1p2, 6.5.2.2p6: a value that is promoted, where it is an integer
abbrev pub promoted_value : TypedTree → TypedTree
promoted_value a = promotion a (type_of a)

-- 6.5.16.1p1: the left one of two types pointed to has the qualifiers of the right one, and they are compatible, or one is void and
-- the other no function
-- worked: assigned_pointer_rows (proofs/QualifierExamples)
abbrev pub may_point : Ty → Ty → Bool
may_point t u = (is_const t || not (is_const u)) && (are_alike t u || has_void t u)

-- 6.5.16.1p1: a value of the right type may be assigned where the left one is wanted; here null says that it is a null pointer constant
abbrev pub may_assign : Ty → Ty → (null : Bool) → Bool
may_assign (IntTy k) (IntTy l) null = true
may_assign (IntTy BoolKind) (PointerTo u) null = true
may_assign (PointerTo t) (PointerTo u) null = null || may_point t u
may_assign (PointerTo t) u null = null
may_assign (StructTag n) u null = same_type (StructTag n) u
may_assign (UnionTag n) u null = same_type (UnionTag n) u
may_assign _ _ null = false

-- 6.5.16.1p2: a value converted to the bare type of what it is assigned to, where it may be; a null pointer constant to any pointer (6.3.2.3p3)
-- worked: null_integer_rows, null_void_pointer_rows (proofs/ConstantExamples)
abbrev pub as_if_assigned : Ty → TypedTree → Option TypedTree
as_if_assigned t a = if may_assign (bare_type t) (type_of a) (is_null_constant a) then Some (conversion_to (bare_type t) a) else None
