use Rattle.std.proofs.Common.{◌≡◌, [], ◌∷◌, ◌∙◌, ap, arith, length}
use Rattle.std.proofs.lemmas.Grind.{common_steps}
use Rattle.std.specs.Prelude.{List}
use Rattle.pv_seq.specs.Sequencing.{Open, open_against}
use Rattle.pv_eval.proofs.Machining.{below-one}
use Rattle.pv_eval.proofs.started.keep.Goals as goal

pub invariant_of-push : goal.invariant_of-push
invariant_of-push c =
    let one = ap (λ h. length h.journal) c.deref_mut.ensures.value ∙ c.requires.journal in
    let empty = ap (λ h. h.journal) c.deref_mut-2.ensures.value ∙ c.close.ensures ∙ below-one c.deref_mut.result.now.journal one in
    let begun : c.full.new.self ≡ open_against [] ∷ c.deref_mut-2.result.now.journal = grind (arith, common_steps) in (
      ap (λ h. h.frames.items) c.deref_mut-2.ensures.value ∙ ap (λ h. h.frames.items) c.deref_mut.ensures.value ∙ c.requires.frames,
      begun ∙ ap (λ (js : List Open). open_against [] ∷ js) empty,
    )
