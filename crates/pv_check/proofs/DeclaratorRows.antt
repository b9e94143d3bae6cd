-- One step more of a declarator.
use Rattle.std.proofs.Common.{◌≡◌, Some, List, [], ◌∷◌, ◌++◌, Option, IfSome, sym, subst, ap, ◌∙◌}
use Rattle.pv_types.specs.Known.{Known}
use Rattle.pv_typed.specs.Tables.{Stored}
use Rattle.pv_check.specs.declared.declarators.Steps.{Steps}
use Rattle.pv_check.specs.declared.derivations.Step.{Step}
use Rattle.pv_check.specs.declared.parameters.Signature.{Signature}
use Rattle.pv_check.specs.Declarators.{steps_shown, signature_if, SignatureKnown, StepsKnown}
use Rattle.pv_check.specs.Derivations.{Derivation, Steps as WholeSteps, Signature as WholeSignature, with_step}
use Rattle.pv_check.specs.Open.{Goes}
use Rattle.pv_check.specs.State.{State, After}
use Rattle.pv_check.specs.Stepping.{step_in, steps_in, IsStep, AreSteps}
use Rattle.pv_check.proofs.ParameterRows.{if_stays, if_known}
use Rattle.pv_check.proofs.Stepped.{steps_append, known_append, steps_stay, steps_known}

pub more_known : (m : Stored) (x r : Steps) (one : Step) → StepsKnown m x → IsStep m.known one → r.list.items ≡ x.list.items ++ (one ∷ []) → r.signature ≡ x.signature → StepsKnown m r
more_known m x r one h k e same =
    (subst (AreSteps m.known) (sym e) (known_append m.known x.list.items one h.0 k), subst (λ (o : Option Signature). IfSome o (SignatureKnown m)) (sym same) h.1)

-- what steps stand for, with one more
pub shown_more : (m : Known) (x r : Steps) (one : Step) → r.list.items ≡ x.list.items ++ (one ∷ []) → r.signature ≡ x.signature → steps_shown m r ≡ with_step (steps_shown m x) (step_in m one)
shown_more m x r one e same =
    ap (λ (ds : List Derivation). record { list = ds; signature = signature_if m r.signature }) (ap (steps_in m) e ∙ steps_append m x.list.items one)
    ∙ ap (λ (o : Option Signature). record { list = steps_in m x.list.items ++ (step_in m one ∷ []); signature = signature_if m o }) same

-- in tables that have more
pub shown_kept : (a b : Stored) (x : Steps) → Goes a b → StepsKnown a x → steps_shown b.known x ≡ steps_shown a.known x
shown_kept a b x g h =
    ap (λ (ds : List Derivation). record { list = ds; signature = signature_if b.known x.signature }) (steps_stay a b x.list.items g h.0)
    ∙ ap (λ (o : Option WholeSignature). record { list = steps_in a.known x.list.items; signature = o }) (if_stays a b x.signature g h.1)

pub known_kept : (a b : Stored) (x : Steps) → Goes a b → StepsKnown a x → StepsKnown b x
known_kept a b x g h = (steps_known a b x.list.items g h.0, if_known a b x.signature g h.1)

abbrev pub given : WholeSteps → State → Option (After WholeSteps)
given x s = Some (record { value = x; state = s })
