-- One more literal in the tables.
use Rattle.std.proofs.Common.{◌≡◌, ℕ, Bool, List, sym, ◌∙◌, ap, subst}
use Rattle.pv_types.specs.Known.{Known, env, heading_at}
use Rattle.pv_types.specs.Formed.{parameters_at}
use Rattle.pv_typed.specs.TypedUnits.{WholeUnit}
use Rattle.pv_typed.specs.Tables.{Stored, whole_unit}
use Rattle.pv_typed.specs.Formed.{Grown}
use Rattle.pv_check.specs.Growing.{AreSized}
use Rattle.pv_check.specs.Raw.{Raw, scopes_shown}
use Rattle.pv_check.specs.Open.{state_of, Goes}
use Rattle.pv_check.proofs.Opening.{lengthens_same}

pub goes_same_types : (a b : Stored) → Grown a b → b.known ≡ a.known → Goes a b
goes_same_types a b grown e = record {
  grown = grown;
  headings = λ n lt. ap (λ (k : Known). heading_at k.tags n) e;
  parameters = λ p lt. ap (λ (k : Known). parameters_at k p) e;
  sized = λ h. subst AreSized (sym e) h;
  completed = lengthens_same (env a.known) (env b.known) (ap env e);
}

pub state_same_types : (texts : List (List ℕ)) (u : Bool) (a b : Stored) (s : Raw) (w : WholeUnit) → b.known ≡ a.known → whole_unit b ≡ w → state_of texts u s b ≡ record (state_of texts u s a) { unit = w }
state_same_types texts u a b s w e f =
    ap (λ (k : Known). record (state_of texts u s b) { scopes = scopes_shown k s.scopes }) e
    ∙ ap (λ x. record (state_of texts u s a) { unit = x }) f
