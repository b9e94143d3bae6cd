-- A bridge: what functions answer that do a part of what Declarations says.
use Rattle.pv_unit.specs.Declarations.{bound_in, has_list, DeclaredType, after_declaration, is_extern, file_declarators, specified_by, is_unsized}
use Rattle.pv_unit.specs.Redeclarations.{UnitState, function_declared, object_declared}
use Rattle.pv_check.specs.State.{State, ◌>>=◌}
use Rattle.pv_check.specs.Scopes.{innermost_scope}
use Rattle.pv_typed.specs.Constants.{and_then}
use Rattle.pv_check.specs.declared.specifiers.Storage.{Storage}
use Rattle.pv_check.specs.Derivations.{Derivation}
use Rattle.std.specs.Prelude.{nat_lt, Bool, ◌||◌, Some, ℕ, false, not, true, List}
use Rattle.std.specs.declared.option.Option.{Option}
use Rattle.std.specs.List.{list_any}
use Rattle.pv_tree.specs.Syntax.{Trees}
use Rattle.pv_types.specs.Ty.{Ty}

-- 6.7p2: it declares a tag or enumerators, or completes a tag
abbrev pub declares_something : Trees → State → State → Bool
declares_something specs before after = nat_lt (bound_in (innermost_scope before.scopes)) (bound_in (innermost_scope after.scopes)) || has_list specs

-- 6.7.6.2p4: the type of a declarator, made of its parts
abbrev pub with_unsized : Bool → Ty → Option DeclaredType
with_unsized b t = Some (record { t = t; unsized = b })

-- 6.9.2p1, p2: without initializer it is defined where it is not `extern`
abbrev pub object_noted : Storage → Bool → ℕ × UnitState → UnitState
object_noted x unsized a = after_declaration false a.0 (not (is_extern x)) false unsized a.1

-- 6.7.6.3: a function without a body: it is declared
abbrev pub plain_function : Ty → ℕ × ℕ → Bool → UnitState → Option UnitState
plain_function t n unsized u = and_then (function_declared n.0 n.1 t u) (λ a. Some (after_declaration true a.0 false false unsized a.1))

-- 6.9.2p1, p2: an object without an initializer: it is declared, and defined where it is not `extern`; without initializer it is defined where
-- it is not `extern`
abbrev pub plain_object : Storage → Ty → ℕ × ℕ → Bool → UnitState → Option UnitState
plain_object x t n unsized u = and_then (object_declared n.0 n.1 t u) (λ a. Some (after_declaration false a.0 (not (is_extern x)) false unsized a.1))

-- 6.7p1: specifiers and declarators
abbrev pub file_declared : Trees → Trees → UnitState → Option UnitState
file_declared specs ds u = do a ← specified_by specs u.state; file_declarators ds a.value (record u { state = a.state })

-- 6.7.6.2p4: one of the steps is so
abbrev pub has_unsized : List Derivation → Bool
has_unsized ds = list_any is_unsized ds
