use Rattle.std.proofs.Common.{false, ◌∙◌}
use Rattle.pv_unit.proofs.DeclaredRows.{bound_shown}
use Rattle.pv_unit.proofs.declarators.bound.Goals as goal

pub returns : goal.returns
returns c = λ texts. c.bound.ensures ∙ bound_shown texts false c.args.into.now c.args.s.now c.requires
