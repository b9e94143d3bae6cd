use Rattle.std.proofs.Common.{ℕ, length, sym, ap, ◌∙◌, subst}
use Rattle.pv_shadow.proofs.Ranges.{length-read}
use Rattle.pv_world.specs.Preconditions.{HasSizeOf}
use Rattle.pv_world.proofs.world.World.value.Goals as goal

pub valued-requires-clause-size : goal.valued-requires-clause-size
valued-requires-clause-size c =
    let P : ℕ → Type 0 = λ n. HasSizeOf c.args.shape n in
    let long = ap length (c.deref-2.ensures.value ∙ c.in-Ok.ensures.bytes) ∙ length-read _ _ c.args.n in
    subst P (sym long) c.requires.size
