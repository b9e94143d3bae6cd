-- A bridge: what functions answer that do a part of what Primary says.
use Rattle.pv_check.specs.Primary.{with_use}
use Rattle.pv_check.specs.State.{After, State, Used, UsedFunction, PointedFunction}
use Rattle.pv_check.specs.Values.{source_node}
use Rattle.pv_library.specs.LibraryNames.{library_named}
use Rattle.pv_typed.specs.TypedTree.{TypedTree, Function, Constant}
use Rattle.pv_typed.specs.TypedUnits.{function_at, name_at}
use Rattle.std.specs.Prelude.{ℕ, ℤ, is_some, Bool, Option, pos, if◌then◌else◌}
use Rattle.pv_num.specs.declared.kinds.IntKind.TheVariants.{Int}
use Rattle.pv_num.specs.declared.kinds.IntKind.{IntKind}
use Rattle.pv_types.specs.Ty.{IntTy}
use Rattle.std.specs.Option.{option_map}

-- 6.3.2.1p4, 6.5.3.4p2: a function whose name is no callee is pointed to, but in the operand of sizeof
abbrev pub used_function : (unevaluated : Bool) → ℕ → Used
used_function unevaluated f = if unevaluated then UsedFunction f else PointedFunction f

-- 6.5.1p2: the function is a designator of its type
abbrev pub designator_of : ℕ → ℕ → State → After TypedTree
designator_of line f s = record { value = source_node line (function_at s.unit f).t (Function f); state = with_use s (used_function s.unevaluated f) }

-- 6.4.4.4p10, 6.5.1p3: a character constant is an `int`
abbrev pub character_of : ℕ → ℤ → TypedTree
character_of line value = source_node line (IntTy Int) (Constant value)

-- 7.1.4p1: a function of the library
abbrev pub is_of_library : State → ℕ → Bool
is_of_library s f = is_some (library_named (name_at s.unit (function_at s.unit f).name))

-- 6.4.4.1p5: a constant of its kind, where there is one that has its value
abbrev pub constant_of_kind : ℕ → ℕ → Option IntKind → Option TypedTree
constant_of_kind line value k = option_map (λ k. source_node line (IntTy k) (Constant (pos value))) k
