-- Objects and functions that declarations at file scope declare (C17 6.7, 6.9): once, or several times with compatible types.
use Rattle.std.specs.Prelude.{ℕ, ◌+◌, ◌==◌, Bool, true, false, ◌&&◌, ◌||◌, not, if◌then◌else◌, Some, None, List, [], ◌∷◌, ◌++◌, length, set, slice_index_or}
use Rattle.std.specs.declared.option.Option.{Option}
use Rattle.std.specs.Bool.{beq}
use Rattle.pv_types.specs.Ty.{Ty, FunctionTy}
use Rattle.pv_types.specs.Compatible.{are_compatible}
use Rattle.pv_typed.specs.Mains.{named_main}
use Rattle.pv_typed.specs.TypedUnits.{TypedFunction, object_at, function_at}
use Rattle.pv_check.specs.State.{State, Meaning, ObjectName, FunctionName}
use Rattle.pv_check.specs.Scopes.{innermost_scope, find, bind}
use Rattle.pv_check.specs.Composite.{composite_of}
use Rattle.pv_library.specs.LibraryNames.{library_named}
use Rattle.pv_check.specs.PrintfFormats.{is_printf}
use Rattle.pv_library.specs.LibraryTypes.{prototype}
use Rattle.pv_unit.specs.MainType.{main_type}
use Rattle.std.specs.Option.{option_map_or}

-- 6.7p4, 6.9p5: an object or a function with a declaration at file scope, in the order of their first ones: whether it is defined
-- (6.9.1, 6.9.2p1, p2), whether it has an initializer or a body, and whether it was declared with an array of no size
pub record Entity : Type 0 where
  pub name : ℕ
  pub function : Bool
  pub number : ℕ
  pub defined : Bool
  pub initialized : Bool
  pub unsized : Bool

-- what is known behind some external declarations (6.9p1)
pub record UnitState : Type 0 where
  pub state : State
  pub entities : List Entity
  pub unsized_typedef : Bool

-- 6.2.7p4: the object of this number has this type from here on
abbrev pub with_object_type : ℕ → Ty → State → State
with_object_type o t s = record s { unit = record s.unit { objects = set s.unit.objects o (record (object_at s.unit o) { t = t }) } }

-- the unit with another function of this number (6.2.7p4, 6.9.1)
abbrev pub with_function : ℕ → TypedFunction → State → State
with_function f x s = record s { unit = record s.unit { functions = set s.unit.functions f x } }

-- 6.2.7p4: the function has this type from here on
abbrev pub with_function_type : ℕ → Ty → State → State
with_function_type f t s = with_function f (record (function_at s.unit f) { t = t }) s

-- a name of the source (6.4.2.1) has a number among the unit's names, behind two that no source has
abbrev pub unit_name : ℕ → ℕ
unit_name n = n + 2

-- 6.7p4: the object or the function of this number
abbrev pub is_entity : Bool → ℕ → Entity → Bool
is_entity function k e = beq e.function function && (e.number == k)

-- 6.9p5: the objects and functions, of which one has what a declaration says, beside what others said
abbrev pub entities_after : Bool → ℕ → (defined initialized unsized : Bool) → List Entity → List Entity
entities_after function k d i b [] = []
entities_after function k d i b (e ∷ es) =
    if is_entity function k e
    then record e { defined = e.defined || d; initialized = e.initialized || i; unsized = e.unsized || b } ∷ es
    else e ∷ entities_after function k d i b es

-- 6.9p5: it has an initializer or a body already
abbrev pub is_initialized : Bool → ℕ → List Entity → Bool
is_initialized function k [] = false
is_initialized function k (e ∷ es) = if is_entity function k e then e.initialized else is_initialized function k es

-- 6.7p4: an object or a function before its first declaration says more
abbrev pub entity : ℕ → Bool → ℕ → Entity
entity n function k = record { name = n; function = function; number = k; defined = false; initialized = false; unsized = false }

-- ---- an object

-- 6.2.1p7: a new object, whose name stands from here on, with the number and the name that the next object gets
abbrev pub new_object : ℕ → ℕ → Ty → Bool → State → State
new_object n line t lasting s =
    bind n (ObjectName (length s.unit.objects))
    (record s { unit = record s.unit { objects = s.unit.objects ++ (record { name = unit_name n; t = t; line = line; lasting = lasting; braced = false; inits = [] } ∷ []) } })

-- 6.9.2p1, 6.2.4p3: a new object of file scope, with static storage
abbrev pub with_new_object : ℕ → ℕ → Ty → UnitState → ℕ × UnitState
with_new_object n line t u =
    (length u.state.unit.objects, record u { state = new_object n line t true u.state; entities = u.entities ++ (entity n false (length u.state.unit.objects) ∷ []) })

-- 6.7p4: all its declarations have compatible types; 6.2.7p4: its type is then the composite one; 6.2.3p1: the name stands for
-- nothing else
abbrev pub object_again : Option Meaning → ℕ → ℕ → Ty → UnitState → Option (ℕ × UnitState)
object_again None n line t u = Some (with_new_object n line t u)
object_again (Some (ObjectName o)) n line t u =
    if are_compatible (object_at u.state.unit o).t t
    then Some (o, record u { state = with_object_type o (composite_of (object_at u.state.unit o).t t) u.state })
    else None
object_again (Some _) n line t u = None

-- 6.7p4, 5.1.2.2.1p1: an object of file scope; `main` is a function
-- worked: redeclared_objects (proofs/WorkedDeclarations)
abbrev pub object_declared : ℕ → ℕ → Ty → UnitState → Option (ℕ × UnitState)
object_declared n line t u = if named_main u.state.unit.names (unit_name n) then None else object_again (find (innermost_scope u.state.scopes).names n) n line t u

-- ---- a function

-- 6.2.1p7: a new function, whose name stands from here on
abbrev pub new_function : ℕ → ℕ → Ty → State → State
new_function n line t s =
    bind n (FunctionName (length s.unit.functions))
    (record s { unit = record s.unit { functions = s.unit.functions ++ (record { name = unit_name n; t = t; line = line; params = []; body = None } ∷ []) } })

-- 6.9p1, 6.7p4: a new function of file scope
abbrev pub with_new_function : ℕ → ℕ → Ty → UnitState → ℕ × UnitState
with_new_function n line t u = (
  length u.state.unit.functions,
  record u { state = new_function n line t u.state; entities = u.entities ++ (entity n true (length u.state.unit.functions) ∷ []) },
)

-- 6.7p4: all its declarations have compatible types; 6.2.7p4: its type is then the composite one
abbrev pub function_again : Option Meaning → ℕ → ℕ → Ty → UnitState → Option (ℕ × UnitState)
function_again None n line t u = Some (with_new_function n line t u)
function_again (Some (FunctionName f)) n line t u =
    if are_compatible (function_at u.state.unit f).t t
    then Some (f, record u { state = with_function_type f (composite_of (function_at u.state.unit f).t t) u.state })
    else None
function_again (Some _) n line t u = None

-- 6.7.6.3p9: a function type with `...`
abbrev pub is_variadic : Ty → Bool
is_variadic (FunctionTy t ts v) = v
is_variadic _ = false

-- what its name asks of a function's type: `main` is `int (void)` (5.1.2.2.1p1), a library function's is that of the library
-- (7.1.4p2), and `...` is `printf`'s alone
-- worked: library_functions, main_functions (proofs/WorkedDeclarations)
abbrev pub may_have : List (List ℕ) → ℕ → Ty → Bool
may_have texts n t =
    (not (named_main texts n) || are_compatible t main_type)
    && option_map_or (λ f. are_compatible t (prototype f)) (library_named (slice_index_or texts n [])) true
    && (not (is_variadic t) || is_printf texts n)

-- 6.7p4: a function of file scope, with a type that its name may have, by what the name stands for
-- worked: function_types (proofs/WorkedDeclarations)
abbrev pub function_declared : ℕ → ℕ → Ty → UnitState → Option (ℕ × UnitState)
function_declared n line t u =
    if may_have u.state.unit.names (unit_name n) t then function_again (find (innermost_scope u.state.scopes).names n) n line t u else None
