use Rattle.std.proofs.Common.{subst, ◌≤◌}
use Rattle.pv_typed.specs.Tables.{nodes}
use Rattle.pv_eval.proofs.Replies.{all_given}
use Rattle.pv_eval.proofs.asking.arguments.Goals as goal

pub returns : goal.returns
returns c = all_given (nodes c.args.unit.now) c.args.children.now c.args.got.now c.loop-i.i c.loop-i.args.items _ (subst (λ n. n ≤ c.loop-i.i) c.min-many.ensures c.loop-i-test.false) c.loop-i.invariant
