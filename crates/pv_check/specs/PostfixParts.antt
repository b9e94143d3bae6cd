-- A bridge: what functions answer that do a part of what Postfix says.
use Rattle.pv_typed.specs.TypedTree.{type_of, Increment, TypedTree, Subscript, Arrow}
use Rattle.pv_typed.specs.declared.nodes.IncrementOperator.{IncrementOperator}
use Rattle.std.specs.Prelude.{None, Bool, ◌&&◌, ℕ, List, if◌then◌else◌, Some, Option}
use Rattle.std.specs.Option.{option_map}
use Rattle.pv_check.specs.Postfix.{may_step, complete_member}
use Rattle.pv_check.specs.Values.{source_node}
use Rattle.pv_check.specs.Qualified.{qualified_if}
use Rattle.pv_types.specs.Sorts.{bare_type}
use Rattle.pv_types.specs.Layouts.{Entry, Part, Completed}
use Rattle.pv_types.specs.Ty.{Ty}
use Rattle.pv_types.specs.Qualifiers.{is_const}
use Rattle.pv_check.specs.State.{◌>>=◌}

-- 6.5.2.4p1, 6.5.3.1p1: a step of a modifiable lvalue, or of an operand that is none
abbrev pub increment_with : (modifiable : Bool) → List Entry → ℕ → IncrementOperator → TypedTree → Option TypedTree
increment_with modifiable env line op a =
    if modifiable && may_step env (type_of a) then Some (source_node line (bare_type (type_of a)) (Increment op a)) else None

-- 6.5.2.1p2: a subscript by the type of the element; an lvalue
abbrev pub subscript_to : ℕ → TypedTree → TypedTree → Option Ty → Option TypedTree
subscript_to line a b t = option_map (λ t. source_node line t (Subscript a b)) t

-- 6.5.2.3p4: an lvalue with the qualifiers of what is pointed to
abbrev pub arrow_at : ℕ → TypedTree → Ty → Option Part → Option TypedTree
arrow_at line a t p = do p ← p; Some (source_node line (qualified_if (is_const t) p.t) (Arrow a p.offset))

-- 6.5.2.3p4: a member by a pointer, where there is a type that is pointed to
abbrev pub arrow_to : List Completed → ℕ → ℕ → TypedTree → Option Ty → Option TypedTree
arrow_to ds line name a t = do t ← t; arrow_at line a t (complete_member ds name t)
