use Rattle.std.proofs.Common.{◌≡◌, ◌<◌, length, sym, ap, subst, arith, ◌∙◌, refl, List, [], ◌∷◌, Option}
use Rattle.pv_types.specs.Known.{Known}
use Rattle.pv_check.specs.declared.derivations.Step.{Step}
use Rattle.pv_check.specs.Declarators.{signature_if, signature_shown}
use Rattle.pv_check.specs.Derivations.{Signature, nearest_parameters}
use Rattle.pv_check.specs.Stepping.{steps_in}
use Rattle.pv_check.proofs.parameters.with_signature.Goals as goal

nearest_other : (m : Known) (xs : List Step) (o : Option Signature) (g : Signature) → 0 < length xs → o ≡ nearest_parameters (steps_in m xs) o g
nearest_other m [] o g h = absurd (omega (arith, h))
nearest_other m (x ∷ xs) o g h = refl

pub returns-then-nearest-clause-signature : goal.returns-then-nearest-clause-signature
returns-then-nearest-clause-signature c = λ m.
    let e : c.args.x.list.items ≡ [] = sym c.deref.ensures.value ∙ c.is_first-nearest.ensures.none c.if-nearest.true in
    ap (λ (xs : List Step). nearest_parameters (steps_in m xs) (signature_if m c.args.x.signature) (signature_shown m c.args.g)) (sym e)

pub returns-else-nearest-clause-signature : goal.returns-else-nearest-clause-signature
returns-else-nearest-clause-signature c = λ m.
    let some : 0 < length c.args.x.list.items = subst (λ (xs : List Step). 0 < length xs) c.deref.ensures.value (c.is_first-nearest.ensures.some c.if-nearest.false) in
    ap (signature_if m) c.in_ok-more.ensures.signature ∙ nearest_other m c.args.x.list.items (signature_if m c.args.x.signature) _ some
