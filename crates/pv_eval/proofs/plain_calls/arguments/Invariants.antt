use Rattle.std.proofs.Common.{◌<◌, ◌≤◌, ◌-◌}
use Rattle.std.specs.Prelude.{length, map}
use Rattle.pv_typed.specs.Nodes.{arguments_in}
use Rattle.pv_typed.specs.Tables.{nodes}
use Rattle.pv_typed.specs.NodeTrees.{expression_at}
use Rattle.pv_world.specs.Coming.{worth_of}
use Rattle.pv_eval.specs.Frames.{arguments_from}
use Rattle.pv_eval.specs.Plainly.{ComesToArguments}
use Rattle.pv_eval.proofs.plain_calls.arguments.Given as goal

-- the call has come to its arguments from this one on
abbrev pub invariant-each : goal.invariant-each
invariant-each l = record {
  comes : ComesToArguments l.unit l.world (expression_at l.unit l.fn.n) l.fn.f (map worth_of l.values.items) (arguments_from (arguments_in (nodes l.unit) l.children) l.i) l.notes.items l.fn.taken l.at;
  more : l.fn.taken < l.at;
  within : l.at ≤ l.bound;
}

abbrev pub decreases-each : goal.decreases-each
decreases-each l = length l.children - l.i
