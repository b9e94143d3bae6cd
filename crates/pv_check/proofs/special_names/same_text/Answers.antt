use Rattle.std.proofs.Common.{◌∙◌}
use Rattle.pv_check.proofs.SameTexts.{pointwise_same}
use Rattle.pv_check.proofs.special_names.same_text.Goals as goal

pub returns : goal.returns
returns c = c.eq.ensures ∙ pointwise_same c.args.a.now c.args.b.now
