use Rattle.std.proofs.Common.{[], subst}
use Rattle.pv_world.specs.Coming.{Did, worth_of}
use Rattle.pv_eval.proofs.Sides.{closed_value, closed_side}
use Rattle.pv_eval.proofs.moment.Moment.close.Goals as goal

pub returns-in-Ok-conclude-clause-acted : goal.returns-in-Ok-conclude-clause-acted
returns-in-Ok-conclude-clause-acted c = λ b w op out es sides few h did.
    let old = c.args.self.now in
    let gave = subst (λ r. Did worth_of op r w old.world [] c.args.told.now) c.in-Ok.is did in
    closed_value b c.args.line old c.conclude.new.self w op c.args.told.now out es c.in-Ok.g gave (c.in-Ok-conclude.ensures.settled (worth_of c.in-Ok.g) b w out es sides few h)

pub returns-in-Err-clause-acted : goal.returns-in-Err-clause-acted
returns-in-Err-clause-acted c = λ b w op out es sides few h did.
    let old = c.args.self.now in
    let gave = subst (λ r. Did worth_of op r w old.world [] c.args.told.now) c.in-Ok.is did in
    closed_side b c.args.line old c.conclude.new.self w op c.args.told.now out es c.in-Ok.g c.in-Err.e gave (c.in-Err.ensures.settled (worth_of c.in-Ok.g) b w out es sides few h)
