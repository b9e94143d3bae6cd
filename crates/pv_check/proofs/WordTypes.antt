-- A type name of one keyword.
use Rattle.std.proofs.Common.{◌≡◌, ℕ, Bool, List, Option, Some, ap, ◌∙◌}
use Rattle.pv_num.specs.declared.kinds.IntKind.{IntKind}
use Rattle.pv_tree.specs.declared.nodes.Spec.{Spec}
use Rattle.pv_tree.specs.Nodes.{specifier_of}
use Rattle.pv_tree.specs.Syntax.{OfSpecifier, NoTrees, Then}
use Rattle.pv_tree.specs.Tables.{Forest}
use Rattle.pv_types.specs.declared.terms.TypeId.{TypeId}
use Rattle.pv_types.specs.Known.{tree}
use Rattle.pv_types.specs.Ty.{Ty}
use Rattle.pv_typed.specs.Tables.{Stored, whole_unit}
use Rattle.pv_check.specs.Open.{state_of, IsOpen, Goes, after_type}
use Rattle.pv_check.specs.Raw.{Raw}
use Rattle.pv_check.specs.Rows.{type_without_storage}
use Rattle.pv_check.specs.State.{State, give}
use Rattle.pv_typed.specs.Constants.{and_then}
use Rattle.pv_check.specs.Typing.{specifiers}
use Rattle.pv_check.specs.WordRows.{base_of}
use Rattle.pv_check.proofs.Opening.{state_stays}

-- a specifier that stands by itself names this type
abbrev pub NamedBy : Spec → Option IntKind → Type 0
NamedBy s x = (f : Forest) (line : ℕ) (z : State) → and_then (specifiers (Then NoTrees (OfSpecifier (specifier_of f line s))) z) type_without_storage ≡ give (Some (base_of x)) z

pub same_word : (s t : Spec) (x : Option IntKind) → s ≡ t → NamedBy t x → NamedBy s x
same_word s t x e h = rw e h

-- a type beside scopes that stay as they are. a: where it is looked for; b: where it is made
pub made_after : (texts : List (List ℕ)) (u : Bool) (a b : Stored) (s : Raw) (t : TypeId) (x : Ty) → IsOpen a s → Goes a b → whole_unit b ≡ whole_unit a → tree b.known t.0 ≡ x
    → after_type texts u s b (Some t) ≡ give (Some x) (state_of texts u s a)
made_after texts u a b s t x h g same e =
    ap (λ y. give (Some y) (state_of texts u s b)) e
    ∙ ap (λ z. give (Some x) z) (state_stays texts u a b s h g same)
