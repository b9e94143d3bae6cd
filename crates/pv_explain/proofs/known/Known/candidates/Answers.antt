use Rattle.std.proofs.Common.{ap, ◌∙◌}
use Rattle.pv_watch.specs.Lines.{first_told, making_of_pair}
use Rattle.pv_explain.specs.Told.{Told}
use Rattle.pv_explain.proofs.known.Known.candidates.Goals as goal

pub returns : goal.returns
returns c = c.copied.ensures ∙ c.get.ensures.value ∙ c.self.invariant.1 c.args.pair ∙ ap (λ (t : Told). first_told (making_of_pair c.args.pair) t.seen) c.self.view_is
