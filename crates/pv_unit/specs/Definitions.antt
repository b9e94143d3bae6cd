-- Function definitions without their bodies (C17 6.9.1), which objects are defined, tentative definitions with them (6.9.2), and what breaks a
-- constraint of a unit's last external declaration.
use Rattle.std.specs.Prelude.{ℕ, Bool, true, false, ◌&&◌, ◌||◌, not, if◌then◌else◌, Some, None, is_some, List, [], ◌∷◌}
use Rattle.std.specs.declared.option.Option.{Option}
use Rattle.pv_types.specs.Ty.{Ty, PointerTo, ArrayOf, FunctionTy, ConstOf}
use Rattle.pv_types.specs.Layouts.{is_complete_in}
use Rattle.pv_tree.specs.Syntax.{DeclaratorTree, Trees}
use Rattle.pv_typed.specs.TypedUnits.{object_at, function_at, name_at}
use Rattle.pv_types.specs.Sorts.{is_void}
use Rattle.pv_library.specs.LibraryNames.{library_named}
use Rattle.pv_check.specs.State.{State, ◌>>=◌, must, env, ◌>>◌}
use Rattle.pv_typed.specs.Constants.{and_then}
use Rattle.pv_check.specs.declared.specifiers.Storage.{Storage}
use Rattle.pv_check.specs.declared.specifiers.Storage.TheVariants as storage
use Rattle.pv_check.specs.Derivations.{Parameter, Signature, declared_name, derived_type}
use Rattle.pv_check.specs.Typing.{steps}
use Rattle.pv_unit.specs.Redeclarations.{Entity, UnitState, unit_name, is_initialized, function_declared, is_entity}
use Rattle.pv_unit.specs.Declarations.{specified_by, after_declaration}
use Rattle.std.specs.List.{list_all}

-- 6.9.1p2, p7: the function that is defined, the type of its result, and its parameters with the scope that they leave
pub record Head : Type 0 where
  pub function : ℕ
  pub result : Ty
  pub signature : Signature

-- 6.9.1p3, p5, p7, 6.7.6.3p4: what a definition asks of its function beyond what a declaration does: its name is none of the library's (7.1.3p1), and
-- its result is `void` or a complete object type
abbrev pub may_be_defined : State → ℕ → Ty → Bool → List Parameter → Bool
may_be_defined s n t variadic ps =
    not variadic && not (is_some (library_named (name_at s.unit (unit_name n)))) && (is_void t || is_complete_in (env s) t)
    && list_all (λ (p : Parameter). is_some p.name && is_complete_in (env s) p.t) ps

-- 6.9p5, 6.9p3: it is defined once
abbrev pub defined_once : Ty → Signature → ℕ × UnitState → Option (Head × UnitState)
defined_once t g a =
    if is_initialized true a.0 a.1.entities then None
    else Some (record { function = a.0; result = t; signature = g }, after_declaration true a.0 true true false a.1)

-- 6.9.1p1, p2: the type of what is defined is a function type; the function is declared with it, and defined
abbrev pub head_of : Ty → Signature → ℕ × ℕ → UnitState → Option (Head × UnitState)
head_of (FunctionTy t ts v) g n u =
    if may_be_defined u.state n.0 t v g.parameters
    then and_then (function_declared n.0 n.1 (FunctionTy t ts v) u) (defined_once t g)
    else None
head_of _ g n u = None

-- 6.9.1p4: no `typedef`; of a function definition `extern` and `static` are the only storage classes
abbrev pub may_head : Storage → Bool
may_head storage.Typedef = false
may_head _ = true

-- 6.9.1p1: specifiers and a declarator before a body, whose `[]` stands in parameters alone (6.7.6.2p1; our choice)
-- worked: function_definitions (proofs/WorkedDeclarations)
abbrev pub head : Trees → DeclaratorTree → UnitState → Option (Head × UnitState)
head specs d u = do
  x ← specified_by specs u.state
  must (may_head x.value.storage)
  n ← declared_name d
  a ← steps d x.state
  g ← a.value.signature
  t ← derived_type false (env a.state) a.value.list x.value.t
  head_of t g n (record u { state = a.state })

-- ---- at the end of the unit

-- 6.7.6.2p4: no array of no size, parameters aside
abbrev pub is_sized : Ty → Bool
is_sized (ArrayOf t None) = false
is_sized (ArrayOf t (Some n)) = is_sized t
is_sized (PointerTo t) = is_sized t
is_sized (ConstOf t) = is_sized t
is_sized (FunctionTy t ts v) = is_sized t
is_sized _ = true

-- 6.2.7p4: the type of an object or a function, as its last declaration left it
abbrev pub entity_type : State → Entity → Ty
entity_type s e = if e.function then (function_at s.unit e.number).t else (object_at s.unit e.number).t

-- 6.7.6.2p4: a later declaration gives the size (our choice: always); 6.9.2p3: an object that is defined has a complete type
abbrev pub is_finished : State → Entity → Bool
is_finished s e = (not e.unsized || is_sized (entity_type s e)) && (e.function || not e.defined || is_complete_in (env s) (entity_type s e))

-- 6.9.2p2, p3: what the end of a unit asks of all objects and functions of file scope; a typedef of an array without a size is refused there, too (our
-- choice)
-- worked: ends (proofs/WorkedUnits)
abbrev pub may_end : UnitState → Bool
may_end u = not u.unsized_typedef && list_all (is_finished u.state) u.entities

-- 6.9.2p1, p2: an object of a block is defined where it is declared; one of file scope may be declared alone
abbrev pub is_defined : ℕ → List Entity → Bool
is_defined k [] = true
is_defined k (e ∷ es) = if is_entity false k e then e.defined else is_defined k es
