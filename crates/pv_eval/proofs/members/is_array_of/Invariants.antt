use Rattle.std.proofs.Common.{◌<◌, IsTrue, length}
use Rattle.pv_types.specs.Known.{tree, env}
use Rattle.pv_types.specs.Layouts.{is_complete_in}
use Rattle.pv_eval.specs.Designated.{IsUniform}
use Rattle.pv_eval.proofs.members.is_array_of.Given as goal

abbrev pub invariant-layers : goal.invariant-layers
invariant-layers l =
    (l.at.0 < length l.types.terms)
    × IsTrue (is_complete_in (env l.types) (tree l.types l.at.0))
    × (IsUniform l.types (tree l.types l.fn.t.0) (tree l.types l.at.0) → IsUniform l.types (tree l.types l.fn.t.0) (tree l.types l.fn.whole.0))

abbrev pub decreases-layers : goal.decreases-layers
decreases-layers l = l.at.0
