-- A bridge: 6.7.6, 6.7.7: the steps of a declarator by what stands outermost in it, abstract or not.
use Rattle.std.specs.Prelude.{ℕ, Bool, Some, None}
use Rattle.std.specs.declared.option.Option.{Option}
use Rattle.pv_tree.specs.Tables.{Forest, Has, HasList, HasOptional, declarator_at, is_declaration, is_declarator, is_expression, optional_at, trees_at}
use Rattle.pv_check.specs.declared.forms.Form.{Form}
use Rattle.pv_check.specs.declared.forms.Form.TheVariants as form
use Rattle.pv_check.specs.Derivations.{Steps, ByPointer, no_steps, with_step}
use Rattle.pv_check.specs.RowParts.{by_array, by_function}
use Rattle.pv_check.specs.State.{State, After, give}
use Rattle.pv_check.specs.Scopes.{in_new_scope}
use Rattle.pv_typed.specs.Constants.{and_then}
use Rattle.pv_check.specs.Typing.{steps, optional_steps, array_size, parameters}

-- 6.7.6.1: with a pointer more
abbrev pub with_pointer : Bool → After Steps → Option (After Steps)
with_pointer constant a = give (Some (with_step a.value (ByPointer constant))) a.state

-- the steps of a declarator (6.7.6), as the code takes it apart
abbrev pub form_steps : Forest → Form → State → Option (After Steps)
form_steps f form.Name s = give (Some no_steps) s
form_steps f (form.Paren d) s = steps (declarator_at f d) s
form_steps f (form.Pointer d constant) s = and_then (optional_steps (optional_at f d) s) (with_pointer constant)
form_steps f (form.Array d size) s = and_then (optional_steps (optional_at f d) s) (λ a. and_then (array_size (optional_at f size) a.state) (by_array a.value))
form_steps f (form.Function d list variadic) s =
    and_then (optional_steps (optional_at f d) s) (λ a. and_then (parameters (trees_at f list) (in_new_scope a.state)) (by_function variadic a.value))
form_steps f form.Misplaced s = None

-- its parts are nodes and lists of the tree, below it (6.7.6)
abbrev pub HasFormParts : Forest → (count : ℕ) → Form → Type 0
HasFormParts f count form.Name = Unit {0}
HasFormParts f count (form.Paren d) = Has f count is_declarator d
HasFormParts f count (form.Pointer d constant) = HasOptional f count is_declarator d
HasFormParts f count (form.Array d size) = (HasOptional f count is_declarator d) × (HasOptional f count is_expression size)
HasFormParts f count (form.Function d list variadic) = (HasOptional f count is_declarator d) × (HasList f count is_declaration list)
HasFormParts f count form.Misplaced = Unit {0}
