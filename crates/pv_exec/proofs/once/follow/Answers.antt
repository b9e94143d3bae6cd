use Rattle.std.proofs.Common.{length, sym, subst, Err}
use Rattle.std.specs.Prelude.{Result}
use Rattle.pv_eval.specs.declared.failure.Failure.{Failure}
use Rattle.pv_exec.specs.declared.task.Way.{Way}
use Rattle.pv_exec.specs.Leading.{LeadsOr}
use Rattle.pv_exec.specs.Fits.{WayFitsOr}
use Rattle.pv_exec.specs.Pace.{FollowedPace}
use Rattle.pv_exec.proofs.Following.{followed-pace}
use Rattle.pv_exec.proofs.once.follow.Goals as goal

pub returns-in-Ok-clause-holds : goal.returns-in-Ok-clause-holds
returns-in-Ok-clause-holds c = λ b u all next stand es s h l. c.follow_way.ensures.holds b u all next stand es s h (subst (λ r. LeadsOr b u next stand r es s) c.in-Ok.is l)

pub returns-in-Ok-clause-runs : goal.returns-in-Ok-clause-runs
returns-in-Ok-clause-runs c = λ u stand es fits st w. c.follow_way.ensures.runs u stand es fits st (subst (WayFitsOr u stand es) c.in-Ok.is w)

pub returns-in-Ok-clause-pace : goal.returns-in-Ok-clause-pace
returns-in-Ok-clause-pace c = λ es.
    let k = length c.args.tasks.now.items in
    let j = length c.follow_way.new.tasks.items in
    subst (λ (w : Result Way Failure). FollowedPace es w k c.follow_way.result j) (sym c.in-Ok.is) (followed-pace es c.in-Ok.way c.follow_way.result k j (c.follow_way.ensures.pace es))

pub returns-in-Err-clause-pace : goal.returns-in-Err-clause-pace
returns-in-Err-clause-pace c = λ es. subst (λ (w : Result Way Failure). FollowedPace es w (length c.args.tasks.now.items) (Err c.in-Err.e) (length c.args.tasks.now.items)) (sym c.in-Err.is) tt
