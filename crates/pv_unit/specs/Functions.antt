-- Typing function definitions (C17 6.9.1), and external declarations (6.9p1).
use Rattle.std.specs.Prelude.{ℕ, false, Option, Some, None, List, [], ◌∷◌, ◌++◌, ◌+◌}
use Rattle.pv_tree.specs.Syntax.{DeclarationTree, Function, StatementTree, Block}
use Rattle.pv_typed.specs.TypedStatement.{TypedStatement}
use Rattle.pv_typed.specs.TypedUnits.{function_at}
use Rattle.pv_typed.specs.Adding.{with_param}
use Rattle.pv_check.specs.Derivations.{Parameter}
use Rattle.pv_check.specs.State.{State, Scope, After}
use Rattle.pv_check.specs.Scopes.{behind_scope}
use Rattle.pv_typed.specs.Constants.{and_then}
use Rattle.pv_unit.specs.Declarations.{file_declaration}
use Rattle.pv_unit.specs.Definitions.{Head, head}
use Rattle.pv_unit.specs.Redeclarations.{UnitState, with_function}
use Rattle.pv_unit.specs.Statements.{block_of}
use Rattle.pv_unit.specs.TypedStatements.{typed_items}
use Rattle.std.specs.List.{fold}

-- 6.2.1p4: a scope within the others
abbrev pub within : Scope → State → State
within x s = record s { scopes = s.scopes ++ (x ∷ []) }

-- 6.9.1p9: the object of a parameter
abbrev pub with_parameter : ℕ → Option ℕ → State → State
with_parameter f None s = s
with_parameter f (Some o) s = record s { unit = with_param s.unit f o }

-- 6.9.1p9: the objects of the parameters, in order
abbrev pub with_parameters : ℕ → List Parameter → State → State
with_parameters f ps s = fold (λ s (p : Parameter). with_parameter f p.object s) s ps

-- 6.9.1: the function has its parameters, and as its body the block of what was typed
abbrev pub defined_with : Head → (line : ℕ) → UnitState → After (List TypedStatement) → Option UnitState
defined_with h line u x =
    let s = with_parameters h.function h.signature.parameters (behind_scope x.state) in
    Some (record u { state = with_function h.function (record (function_at s.unit h.function) { body = Some (block_of line x.value) }) s })

-- 6.2.1p4: the scope of the parameters is that of the body's block
abbrev pub typed_body : StatementTree → Head × UnitState → Option UnitState
typed_body (Block line items) h =
    and_then (typed_items (record { result = h.0.result; breaks = false; continues = false }) items (within h.0.signature.scope h.1.state)) (defined_with h.0 line h.1)
typed_body _ h = None

-- ---- external declarations

-- 6.9p1: a function definition or a declaration
abbrev pub typed_declaration : DeclarationTree → UnitState → Option UnitState
typed_declaration (Function line specs declarator block) u = and_then (head specs declarator u) (typed_body block)
typed_declaration d u = file_declaration d u

-- 6.9p1: one external declaration more, and their count, which `check` prints
-- worked: programs, definitions, lines (proofs/WorkedUnits); layouts_at_file_scope (proofs/WorkedLayouts)
abbrev pub typed_external : DeclarationTree → UnitState → Option UnitState
typed_external d u =
    and_then (typed_declaration d u) (λ (u : UnitState).
    Some (record u { state = record u.state { unit = record u.state.unit { declarations = u.state.unit.declarations + 1 } } }))
