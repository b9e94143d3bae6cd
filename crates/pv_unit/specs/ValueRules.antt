-- How initializers are typed over the state of expressions.
use Rattle.std.specs.Prelude.{ℕ, Bool, false, Option, Some, None, is_some, List, ◌++◌, length, set}
use Rattle.pv_tree.specs.Syntax.{InitializerTree}
use Rattle.pv_types.specs.Ty.{Ty}
use Rattle.pv_typed.specs.TypedUnits.{object_at}
use Rattle.pv_typed.specs.Adding.{with_literal}
use Rattle.pv_typed.specs.Addresses.{constant_of}
use Rattle.pv_check.specs.State.{State}
use Rattle.pv_check.specs.State as check
use Rattle.pv_check.specs.Typing.{types}
use Rattle.pv_check.specs.Rows.{operand}
use Rattle.pv_check.specs.Values.{as_if_assigned}
use Rattle.pv_check.specs.StringLiterals.{bytes_of_text}
use Rattle.pv_unit.specs.Rules.{Rules, After, StringLiteral}
use Rattle.pv_unit.specs.Initializers.{Given, initialized_object}

-- an answer of the typing of expressions (6.5) as one of initializers (6.7.9)
abbrev pub to_initializers : {A : Type 0} → Option (check.After A) → Option (After State A)
to_initializers None = None
to_initializers (Some x) = Some (record { value = x.value; state = x.state })

-- an answer of the typing of initializers (6.7.9) as one of expressions (6.5)
abbrev pub to_expressions : {A : Type 0} → Option (After State A) → Option (check.After A)
to_expressions None = None
to_expressions (Some x) = Some (record { value = x.value; state = x.state })

-- 6.7.9p14: string literals that fill an array make no object of their own
abbrev pub filling_text : ℕ → List ℕ → State → After State StringLiteral
filling_text line bytes s = record { value = record { number = length s.unit.literals; characters = bytes }; state = record s { unit = with_literal s.unit (record { bytes = bytes; line = line }) false } }

-- 6.7.9, 6.5.16.1p1, 6.6p7: as expressions are typed, over the state that they thread
-- worked: constant_initializers (proofs/WorkedUnits); array_addresses, member_addresses, cast_addresses, text_addresses, incomplete_arrays, booleans, no_constants,
-- integer_constants, unevaluated, sizes_and_casts, aggregates, case_constants (proofs/WorkedConstants)
unfoldable pub values : Rules State
values = record {
  operand = λ a s. to_initializers (operand (types a s));
  assigned = λ s t e. as_if_assigned t e;
  constant = λ s e. is_some (constant_of s.unit e);
  string = λ line first more s. filling_text line (bytes_of_text s.texts first more) s;
  completed = λ s. s.unit.completed;
}

-- 6.7.9: the initializer of an object of this type
abbrev pub typed_initializer : (lasting : Bool) → Ty → InitializerTree → State → Option (check.After Given)
typed_initializer lasting t i s = to_expressions (initialized_object values lasting t i s)

-- 6.7.9: the object has its type, and the stores of its initializer behind those that it has: none, since it is initialized once
abbrev pub with_given : ℕ → Given → State → State
with_given o x s = record s { unit = record s.unit { objects = set s.unit.objects o (record (object_at s.unit o) { t = x.t; braced = x.braced; inits = (object_at s.unit o).inits ++ x.stores }) } }
