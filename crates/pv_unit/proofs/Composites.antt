-- One declaration more of an object or a function: the composite of its types.
use Rattle.std.proofs.Common.{◌≡◌, ℕ, Bool, true, false, List, Option, Some, None, option_map, refl, sym, ◌∙◌, ap}
use Rattle.std.specs.Prelude.{if◌then◌else◌}
use Rattle.pv_types.specs.Ty.{Ty}
use Rattle.pv_types.specs.Compatible.{are_compatible}
use Rattle.pv_typed.specs.Tables.{Stored, whole_unit}
use Rattle.pv_typed.specs.TypedUnits.{object_at, function_at}
use Rattle.pv_check.specs.Composite.{composite_of}
use Rattle.pv_check.specs.Raw.{Raw}
use Rattle.pv_check.specs.Open.{state_of, IsOpen, Goes}
use Rattle.pv_check.specs.State.{State}
use Rattle.pv_check.proofs.Opening.{state_stays}
use Rattle.pv_unit.specs.Redeclarations.{with_object_type, with_function_type}

either : {A B : Type 0} (f : A → B) (b : Bool) (x : A) → option_map f (if b then Some x else None) ≡ (if b then Some (f x) else None)
either f true x = refl
either f false x = refl

-- the composite of two types, if they are compatible, and what becomes of it
abbrev with_both : (Ty → State) → Ty → Ty → Option State
with_both f t u = if are_compatible t u then Some (f (composite_of t u)) else None

abbrev both : Ty → Ty → Option Ty
both t u = if are_compatible t u then Some (composite_of t u) else None

made : (f : Ty → State) (t u old : Ty) (o : Option Ty) → t ≡ old → o ≡ both old u → option_map f o ≡ with_both f t u
made f t u old o same h = ap (option_map f) h ∙ either f (are_compatible old u) (composite_of old u) ∙ ap (λ x. with_both f x u) (sym same)

pub object_none : (texts : List (List ℕ)) (u : Bool) (a : Stored) (s : Raw) (o : ℕ) (ty old : Ty) → (object_at (whole_unit a) o).t ≡ old → None ≡ both old ty
    → None ≡ with_both (λ t. with_object_type o t (state_of texts u s a)) (object_at (whole_unit a) o).t ty
object_none texts u a s o ty old same h = made (λ t. with_object_type o t (state_of texts u s a)) (object_at (whole_unit a) o).t ty old None same h

pub object_some : (texts : List (List ℕ)) (u : Bool) (a b e : Stored) (s : Raw) (o : ℕ) (ty old t : Ty) → (object_at (whole_unit a) o).t ≡ old → Some t ≡ both old ty
    → IsOpen a s → Goes a b → whole_unit b ≡ whole_unit a → state_of texts u s e ≡ with_object_type o t (state_of texts u s b)
    → Some (state_of texts u s e) ≡ with_both (λ x. with_object_type o x (state_of texts u s a)) (object_at (whole_unit a) o).t ty
object_some texts u a b e s o ty old t same h opened g still is =
    ap Some (is ∙ ap (with_object_type o t) (state_stays texts u a b s opened g still))
    ∙ made (λ x. with_object_type o x (state_of texts u s a)) (object_at (whole_unit a) o).t ty old (Some t) same h

pub function_none : (texts : List (List ℕ)) (u : Bool) (a : Stored) (s : Raw) (f : ℕ) (ty old : Ty) → (function_at (whole_unit a) f).t ≡ old → None ≡ both old ty
    → None ≡ with_both (λ t. with_function_type f t (state_of texts u s a)) (function_at (whole_unit a) f).t ty
function_none texts u a s f ty old same h = made (λ t. with_function_type f t (state_of texts u s a)) (function_at (whole_unit a) f).t ty old None same h

pub function_some : (texts : List (List ℕ)) (u : Bool) (a b e : Stored) (s : Raw) (f : ℕ) (ty old t : Ty) → (function_at (whole_unit a) f).t ≡ old → Some t ≡ both old ty
    → IsOpen a s → Goes a b → whole_unit b ≡ whole_unit a → state_of texts u s e ≡ with_function_type f t (state_of texts u s b)
    → Some (state_of texts u s e) ≡ with_both (λ x. with_function_type f x (state_of texts u s a)) (function_at (whole_unit a) f).t ty
function_some texts u a b e s f ty old t same h opened g still is =
    ap Some (is ∙ ap (with_function_type f t) (state_stays texts u a b s opened g still))
    ∙ made (λ x. with_function_type f x (state_of texts u s a)) (function_at (whole_unit a) f).t ty old (Some t) same h
