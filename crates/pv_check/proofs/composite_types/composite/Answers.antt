use Rattle.pv_types.specs.Known.{tree}
use Rattle.pv_types.proofs.Matched.{matching}
use Rattle.pv_check.proofs.composite_types.composite.Goals as goal

pub joined-requires-clause-matching : goal.joined-requires-clause-matching
joined-requires-clause-matching c = matching (tree c.args.types.now c.args.a.0) (tree c.args.types.now c.args.b.0) c.requires.compatible
