-- A bridge: the head of a function definition (C17 6.9.1), cut as its functions are.
use Rattle.std.specs.Prelude.{ℕ, false, if◌then◌else◌, None, List, is_some, Bool, ◌&&◌, ◌||◌}
use Rattle.std.specs.declared.option.Option.{Option}
use Rattle.std.specs.List.{list_all}
use Rattle.pv_types.specs.Ty.{Ty}
use Rattle.pv_types.specs.Layouts.{Entry, is_complete_in}
use Rattle.pv_tree.specs.Syntax.{DeclaratorTree}
use Rattle.pv_check.specs.State.{◌>>=◌, env, State}
use Rattle.pv_typed.specs.Constants.{and_then}
use Rattle.pv_check.specs.Derivations.{Derivation, Signature, Steps, declared_name, derived_type, Parameter}
use Rattle.pv_check.specs.Specifiers.{Specified}
use Rattle.pv_check.specs.Typing.{steps}
use Rattle.pv_types.specs.Sorts.{is_void}
use Rattle.pv_unit.specs.Redeclarations.{UnitState, function_declared, Entity}
use Rattle.pv_unit.specs.Definitions.{Head, may_head, head_of, defined_once, is_finished}

-- 6.7.6p4, 6.7.6.2p1: the type that the declarator gives, in which `[]` stands in parameters alone (our choice)
abbrev pub head_derived : Ty → List Derivation → Signature → ℕ × ℕ → UnitState → Option (Head × UnitState)
head_derived t ds g n u = and_then (derived_type false (env u.state) ds t) (λ made. head_of made g n u)

-- 6.9.1p2, p5: a list of parameters stands next to the name, and no typedef name gives the type
abbrev pub head_signed : Ty → Steps → ℕ × ℕ → UnitState → Option (Head × UnitState)
head_signed t x n u = and_then x.signature (λ g. head_derived t x.list g n u)

-- 6.9.1p1: the declarator, behind the specifiers
abbrev pub head_stepped : Ty → DeclaratorTree → UnitState → ℕ × ℕ → Option (Head × UnitState)
head_stepped t d u n = do a ← steps d u.state; head_signed t a.value n (record u { state = a.state })

-- 6.9.1p1: by what the specifiers say
abbrev pub head_specified : Specified → DeclaratorTree → UnitState → Option (Head × UnitState)
head_specified x d u = if may_head x.storage then and_then (declared_name d) (head_stepped x.t d u) else None

-- 6.9.1p5: a parameter has a name; p7: and a complete type (6.7.6.3p4)
abbrev pub is_definable : List Entry → Parameter → Bool
is_definable env p = is_some p.name && is_complete_in env p.t

-- 6.9.1p1: the function of this type is declared, and defined
abbrev pub head_function : (t result : Ty) → ℕ × ℕ → Signature → UnitState → Option (Head × UnitState)
head_function t r n g u = and_then (function_declared n.0 n.1 t u) (defined_once r g)

-- 6.9.1p5, p7, 6.7.6.3p4: each parameter has a name and a complete type
abbrev pub may_define : List Entry → List Parameter → Bool
may_define env ps = list_all (λ (p : Parameter). is_some p.name && is_complete_in env p.t) ps

-- 6.9.2p2, p3: all objects and functions of file scope are finished
abbrev pub are_finished : State → List Entity → Bool
are_finished s es = list_all (is_finished s) es

-- 6.9.1p3: the result is `void` or a complete object type
abbrev pub may_return : List Entry → Ty → Bool
may_return env t = is_void t || is_complete_in env t
