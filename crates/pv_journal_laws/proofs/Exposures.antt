-- What becomes exposed is told, and passes.
use Rattle.std.proofs.Common.{◌≡◌, ℕ, Bool, true, false, ◌&&◌, not, cond, List, [], ◌∷◌, ◌++◌, Option, Some, None, refl, sym, ap, ◌∙◌, append-nil}
use Rattle.std.specs.Option.{option_and_then, option_map}
use Rattle.pv_journal_laws.specs.Naming.{AreDistinct}
use Rattle.pv_inst.specs.declared.values.Instance.{Instance}
use Rattle.pv_inst.specs.Table.{Table, instance_at, with_instance}
use Rattle.pv_inst.specs.Exposure.{exposing, expose_one}
use Rattle.pv_inst.specs.ExposureParts.{exposure_from}
use Rattle.pv_inst.specs.Ending.{after_end}
use Rattle.pv_inst.specs.EndingParts.{ending}
use Rattle.std.proofs.lemmas.Option.{none-some, same_Some}
use Rattle.pv_inst.proofs.Rows.{row_found}
use Rattle.pv_watch.specs.declared.event.What.{What}
use Rattle.pv_watch.specs.declared.event.What.TheVariants as what
use Rattle.pv_world.specs.Telling.{each_exposed}
use Rattle.pv_journal.specs.Journals.{Exposed, Ended}
use Rattle.pv_journal.specs.Obeying.{State, after_fact}
use Rattle.pv_journal_laws.proofs.Telling.{told_from, after_what, AreCalled}
use Rattle.pv_journal_laws.proofs.Uses.{at_table}
use Rattle.pv_journal_laws.proofs.Rows.{known_as, expose_passes, end_passes}

step_some : {A B : Type 0} (f g : A → Option B) (o : Option A) (b : B) (r : Option B) → ((a : A) → f a ≡ Some b → g a ≡ r) → option_and_then f o ≡ Some b → option_and_then g o ≡ r
step_some f g None b r k h = absurd (none-some b h)
step_some f g (Some a) b r k h = k a h

-- one behind another
pub told-append : (names : List (List ℕ)) (es fs : List What) (s t : State) → told_from names s es ≡ Some t → told_from names s (es ++ fs) ≡ told_from names t fs
told-append names [] fs s t h = ap (λ s. told_from names s fs) (same_Some s t h)
told-append names (e ∷ es) fs s t h = step_some _ _ (after_what names s e) t (told_from names t fs) (λ u g. told-append names es fs u t g) h

module _ (names : List (List ℕ)) (distinct : AreDistinct names) (turn : ℕ) (past : Bool) where
  -- one candidate becomes exposed: those that are still to be told are one more, or the same
  pub record Exposes (T U : Table) : Type 0 where
    pub new : List ℕ
    pub pending : U.pending ≡ T.pending ++ new
    pub told : AreCalled names T → told_from names (at_table names turn past T) (each_exposed new) ≡ Some (at_table names turn past U)

  none_exposed : (T : Table) → Exposes T T
  none_exposed T = record { new = []; pending = sym (append-nil T.pending); told = λ c. refl }

  pub expose_passes_told : (T : Table) (o : Option ℕ) → Exposes T (expose_one T o)
  expose_passes_told T None = none_exposed T
  expose_passes_told T (Some i) = by (instance_at T.instances i) refl
    where
      at : (x : Instance) → instance_at T.instances i ≡ Some x → (b : Bool) → (x.live && not x.exposed) ≡ b
          → Exposes T (cond b (record T { instances = with_instance T.instances i (exposure_from x); pending = T.pending ++ i ∷ [] }) T)
      at x e true new = record {
        new = i ∷ [];
        pending = refl;
        told = λ called.
            ap (λ o. option_and_then (λ t. Some t) (option_and_then (after_fact (at_table names turn past T)) (option_map Exposed o))) (known_as names T.instances i x e)
            ∙ ap (option_and_then (λ t. Some t)) (expose_passes names distinct turn past T i x called e (row_found T.instances i x (sym e)) new);
      }
      at x e false new = none_exposed T

      by : (o : Option Instance) → instance_at T.instances i ≡ o → Exposes T (exposing T i o)
      by None e = none_exposed T
      by (Some x) e = at x e (x.live && not x.exposed) refl

  -- an end
  pub end_passes_told : (T : Table) (i : ℕ) (x : Instance) → AreCalled names T → instance_at T.instances i ≡ Some x → x.live ≡ true
      → told_from names (at_table names turn past T) (what.Ended i ∷ []) ≡ Some (at_table names turn past (after_end T i))
  end_passes_told T i x called at live =
      ap (λ o. option_and_then (λ t. Some t) (option_and_then (after_fact (at_table names turn past T)) (option_map Ended o))) (known_as names T.instances i x at)
      ∙ ap (option_and_then (λ t. Some t)) (end_passes names distinct turn past T i x called at (row_found T.instances i x (sym at)) live)
      ∙ ap (λ o. Some (at_table names turn past (ending T i o))) (sym at)
