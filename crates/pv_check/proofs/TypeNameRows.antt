-- A type name, of its specifiers and its declarator.
use Rattle.std.proofs.Common.{◌≡◌, ℕ, ◌<◌, Bool, false, Some, None, List, Option, length, refl, ap, ◌∙◌}
use Rattle.pv_types.specs.declared.terms.TypeId.{TypeId}
use Rattle.pv_types.specs.Known.{tree, env}
use Rattle.pv_types.specs.Ty.{Ty}
use Rattle.pv_tree.specs.Syntax.{TypeName, Trees, OptionalTree}
use Rattle.pv_typed.specs.Tables.{Stored, whole_unit}
use Rattle.pv_check.specs.declared.declarators.Steps.{Steps}
use Rattle.pv_check.specs.declared.specifiers.Seen.{Seen}
use Rattle.pv_check.specs.Declarators.{steps_shown}
use Rattle.pv_check.specs.Derivations.{derived_type, Steps as WholeSteps}
use Rattle.pv_check.specs.Growing.{type_if}
use Rattle.pv_check.specs.Open.{state_of, IsOpen, Goes, after_type}
use Rattle.pv_check.specs.Raw.{Raw}
use Rattle.pv_check.specs.Rows.{type_without_storage}
use Rattle.pv_check.specs.RowParts.{named_type}
use Rattle.pv_check.specs.Seeing.{seen_in}
use Rattle.pv_check.specs.Specifiers.{specification_of, Seen as WhatIsSeen}
use Rattle.pv_check.specs.SpecifierParts.{without_storage}
use Rattle.pv_check.specs.State.{State, After, give}
use Rattle.pv_typed.specs.Constants.{and_then}
use Rattle.pv_check.specs.Stepping.{steps_in}
use Rattle.pv_check.specs.Typing.{specifiers, optional_steps, type_named}
use Rattle.pv_check.proofs.Opening.{state_stays}

type_gives : (texts : List (List ℕ)) (u : Bool) (s : Raw) (m : Stored) (r : Option TypeId) → after_type texts u s m r ≡ give (type_if m.known r) (state_of texts u s m)
type_gives texts u s m None = refl
type_gives texts u s m (Some t) = refl

-- a: where the specifiers were read; b: where their type is made
pub specified_after : (specs : Trees) (start : State) (texts : List (List ℕ)) (u : Bool) (a b : Stored) (s : Raw) (seen : Seen) (r : Option TypeId) → IsOpen a s → Goes a b → whole_unit b ≡ whole_unit a
    → Some (record { value = seen_in a.known seen; state = state_of texts u s a }) ≡ specifiers specs start
    → type_if b.known r ≡ and_then (specification_of (seen_in a.known seen)) without_storage
    → after_type texts u s b r ≡ and_then (specifiers specs start) type_without_storage
specified_after specs start texts u a b s seen r h g same first second =
    type_gives texts u s b r
    ∙ ap (λ o. give o (state_of texts u s b)) second
    ∙ ap (give (and_then (specification_of (seen_in a.known seen)) without_storage)) (state_stays texts u a b s h g same)
    ∙ ap (λ (o : Option (After WhatIsSeen)). and_then o type_without_storage) first

-- specifiers, their type, and what follows
then_plain : {B : Type 0} (o : Option (After WhatIsSeen)) (f : After Ty → Option (After B)) → and_then (and_then o type_without_storage) f ≡ and_then o (λ a. and_then (type_without_storage a) f)
then_plain None f = refl
then_plain (Some a) f = refl

module _ {B : Type 0} (specs : Trees) (start : State) (f : After Ty → Option (After B)) where
  -- where specifiers have no type, nothing that begins with them is typed
  pub no_type : None ≡ and_then (specifiers specs start) type_without_storage → None ≡ and_then (specifiers specs start) (λ a. and_then (type_without_storage a) f)
  no_type e = ap (λ (o : Option (After Ty)). and_then o f) e ∙ then_plain (specifiers specs start) f

  -- and else what follows goes on from their type
  pub with_type_then : (x : After Ty) → Some x ≡ and_then (specifiers specs start) type_without_storage → f x ≡ and_then (specifiers specs start) (λ a. and_then (type_without_storage a) f)
  with_type_then x e = ap (λ (o : Option (After Ty)). and_then o f) e ∙ then_plain (specifiers specs start) f

module _ (specs : Trees) (d : OptionalTree) (line : ℕ) (start : State) where
  abbrev behind : After Ty → Option (After Ty)
  behind b = and_then (optional_steps d b.state) (named_type b.value)

  pub no_base : None ≡ and_then (specifiers specs start) type_without_storage → None ≡ type_named (TypeName line specs d) start
  no_base e = no_type specs start behind e

  pub none_named : (base : After Ty) → Some base ≡ and_then (specifiers specs start) type_without_storage → None ≡ optional_steps d base.state → None ≡ type_named (TypeName line specs d) start
  none_named base h e = ap (λ (o : Option (After WholeSteps)). and_then o (named_type base.value)) e ∙ with_type_then specs start behind base h

  pub some_named : (texts : List (List ℕ)) (u : Bool) (a b e : Stored) (z w : Raw) (base : TypeId) (x : Steps) (r : Option TypeId)
      → base.0 < length a.known.terms → Goes a b → IsOpen b z → Goes b e → whole_unit e ≡ whole_unit b
      → Some (record { value = tree a.known base.0; state = state_of texts u w a }) ≡ and_then (specifiers specs start) type_without_storage
      → Some (record { value = steps_shown b.known x; state = state_of texts u z b }) ≡ optional_steps d (state_of texts u w a)
      → type_if e.known r ≡ derived_type false (env b.known) (steps_in b.known x.list.items) (tree b.known base.0)
      → after_type texts u z e r ≡ type_named (TypeName line specs d) start
  some_named texts u a b e z w base x r here k opened l still first third fourth =
      type_gives texts u z e r
      ∙ ap (λ o. give o (state_of texts u z e)) fourth
      ∙ ap (give (derived_type false (env b.known) (steps_in b.known x.list.items) (tree b.known base.0))) (state_stays texts u b e z opened l still)
      ∙ ap (λ t. give (derived_type false (env b.known) (steps_in b.known x.list.items) t) (state_of texts u z b)) (k.grown.types base.0 here)
      ∙ ap (λ (o : Option (After WholeSteps)). and_then o (named_type (tree a.known base.0))) third
      ∙ with_type_then specs start behind (record { value = tree a.known base.0; state = state_of texts u w a }) first
