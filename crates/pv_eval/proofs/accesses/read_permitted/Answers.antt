use Rattle.std.proofs.Common.{ℕ, sym, ap, ◌∙◌, subst}
use Rattle.pv_types.specs.Known.{Known, tree}
use Rattle.pv_world.specs.declared.got.Shape.{Shape}
use Rattle.pv_world.specs.Preconditions.{HasSizeOf}
use Rattle.pv_eval.specs.TypeForms.{shape_of}
use Rattle.pv_eval.specs.Sizes.{size_in}
use Rattle.pv_eval.proofs.Settings.{scalar_sized}
use Rattle.pv_eval.proofs.accesses.read_permitted.Goals as goal

pub value-requires-clause-size : goal.value-requires-clause-size
value-requires-clause-size c =
    let m = c.types.result.now in
    let T = tree m c.args.l.t.0 in
    let size = c.requires.complete.size ∙ ap (λ (k : Known). size_in k (tree k c.args.l.t.0)) (sym c.types.ensures) in
    let P : Shape → Type 0 = λ s. HasSizeOf s c.args.l.size in
    let Q : ℕ → Type 0 = λ n. HasSizeOf (shape_of T) n in
    subst P (sym c.shape.ensures) (subst Q (sym size) (scalar_sized m T))
