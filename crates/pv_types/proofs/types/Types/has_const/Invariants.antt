use Rattle.std.proofs.Common.{◌≡◌, ◌<◌, length}
use Rattle.pv_types.specs.Known.{tree, env}
use Rattle.pv_types.specs.Qualifiers.{has_const}
use Rattle.pv_types.proofs.types.Types.has_const.Given as goal

abbrev pub invariant-loop-tag : goal.invariant-loop-tag
invariant-loop-tag l = (l.at.0 < length l.self.terms) × (has_const (env l.self) (tree l.self l.at.0) ≡ has_const (env l.self) (tree l.self l.initial.at.0))

abbrev pub decreases-loop-tag : goal.decreases-loop-tag
decreases-loop-tag l = l.at.0
