-- Enumerators, one by one.
use Rattle.std.proofs.Common.{◌≡◌, ℕ, ℤ, pos, ◌+ℤ◌, Bool, true, false, not, is_some, Some, None, Option, List, sym, ap, refl, ◌∙◌}
use Rattle.std.specs.Prelude.{if◌then◌else◌}
use Rattle.pv_typed.specs.Tables.{Stored, whole_unit}
use Rattle.pv_check.specs.declared.scopes.Entry.TheVariants as entry
use Rattle.pv_check.specs.Open.{state_of, IsOpen}
use Rattle.pv_check.specs.Raw.{Raw, raw_innermost, with_name}
use Rattle.pv_check.specs.State.{State, After, ConstantOf, give}
use Rattle.pv_check.specs.Scopes.{declare, bind, find}
use Rattle.pv_typed.specs.Constants.{and_then}
use Rattle.pv_check.specs.Tags.{may_enumerate, enumerator_step}
use Rattle.pv_check.proofs.ParameterRows.{has_name, state_named}

abbrev declared : ℕ → ℤ → State → Bool → Option (After ℤ)
declared n k s has = and_then (if has then None else Some (bind n (ConstantOf k) s)) (give (Some (k +ℤ pos 1)))

pub may_not : (n : ℕ) (k : ℤ) (s : State) → false ≡ may_enumerate n k s → None ≡ enumerator_step n k s
may_not n k s e = ap (λ b. if b then and_then (declare n (ConstantOf k) s) (give (Some (k +ℤ pos 1))) else None) e

module _ (texts : List (List ℕ)) (u : Bool) (m : Stored) (s : Raw) (n : ℕ) (k : ℤ) (h : IsOpen m s) (may : true ≡ may_enumerate n k (state_of texts u s m)) where
  abbrev start : State
  start = state_of texts u s m

  begun : declared n k start (is_some (find (raw_innermost s.scopes).names n)) ≡ enumerator_step n k start
  begun =
      ap (declared n k start) (sym (has_name texts u m s n h))
      ∙ ap (λ b. if b then and_then (declare n (ConstantOf k) start) (give (Some (k +ℤ pos 1))) else None) may

  pub is_there : false ≡ not (is_some (find (raw_innermost s.scopes).names n)) → None ≡ enumerator_step n k start
  is_there miss = here (is_some (find (raw_innermost s.scopes).names n)) miss ∙ begun
    where
      here : (b : Bool) → false ≡ not b → None ≡ declared n k start b
      here true e = refl
      here false e = absurd cc

  pub constant_after : (t : Raw) → true ≡ not (is_some (find (raw_innermost s.scopes).names n)) → t ≡ with_name s n (entry.Constant k)
      → Some (record { value = k +ℤ pos 1; state = state_of texts u t m }) ≡ enumerator_step n k start
  constant_after t fresh e =
      ap (λ (z : State). Some (record { value = k +ℤ pos 1; state = z })) (state_named texts u m m s t n (entry.Constant k) (whole_unit m) h e refl refl)
      ∙ here (is_some (find (raw_innermost s.scopes).names n)) fresh ∙ begun
    where
      here : (b : Bool) → true ≡ not b → declared n k start false ≡ declared n k start b
      here true e' = absurd cc
      here false e' = refl
