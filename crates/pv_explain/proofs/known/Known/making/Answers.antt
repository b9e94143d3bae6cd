use Rattle.std.proofs.Common.{ap, ◌∙◌}
use Rattle.pv_watch.specs.Lines.{first_told, making_of}
use Rattle.pv_explain.specs.Told.{Told}
use Rattle.pv_explain.proofs.known.Known.making.Goals as goal

pub returns : goal.returns
returns c = c.copied.ensures ∙ c.get.ensures.value ∙ c.self.invariant.0 c.args.i ∙ ap (λ (t : Told). first_told (making_of c.args.i) t.seen) c.self.view_is
