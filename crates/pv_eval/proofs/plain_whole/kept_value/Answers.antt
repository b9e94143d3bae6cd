use Rattle.std.proofs.Common.{ap, ◌∙◌}
use Rattle.pv_world.specs.Coming.{worth_of}
use Rattle.pv_eval.proofs.plain_whole.kept_value.Goals as goal

pub returns : goal.returns
returns c = ap worth_of c.in-Ok.ensures.value ∙ c.got.ensures
