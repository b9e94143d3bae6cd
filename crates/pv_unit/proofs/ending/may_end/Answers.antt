use Rattle.std.proofs.Common.{◌∙◌, ap, not}
use Rattle.std.specs.Prelude.{◌&&◌}
use Rattle.pv_unit.proofs.ending.may_end.Goals as goal

pub returns : goal.returns
returns c = λ texts s. c.both.ensures ∙ ap (λ b. not c.args.outer.now.unsized_typedef && b) (c.are_finished-finished.ensures texts s)
