use Rattle.std.proofs.Common.{◌≡◌, ◌++◌, ◌∷◌, [], length, ap, ◌∙◌, sym, subst, arith, List}
use Rattle.std.proofs.lemmas.Grind.{common_steps}
use Rattle.std.proofs.lemmas.List.{length_push}
use Rattle.pv_exec.specs.declared.task.Way.{Way}
use Rattle.pv_exec.specs.declared.task.Task.{Task}
use Rattle.pv_exec.specs.Works.{Holds}
use Rattle.pv_exec.specs.Leading.{Leads}
use Rattle.pv_exec.specs.Fits.{Runs, WayFits}
use Rattle.pv_exec.specs.Pace.{doing_ops, way_ops}
use Rattle.pv_exec.proofs.Works.{followed-do, followed-with}
use Rattle.pv_exec.proofs.Following.{runs-do, runs-with}
use Rattle.pv_exec.proofs.once.follow_way.Goals as goal

pub returns-in-Do-clause-holds : goal.returns-in-Do-clause-holds
returns-in-Do-clause-holds c = λ b u all next stand es s h l. followed-do b u all next c.args.tasks.now.items stand es c.in-Do.doing s h (subst (λ (w : Way). Leads b u next stand w es s) c.in-Do.is l)

pub returns-in-Do-clause-runs : goal.returns-in-Do-clause-runs
returns-in-Do-clause-runs c = λ u stand es fits st w. runs-do u c.args.tasks.now.items stand es c.in-Do.doing fits st (subst (WayFits u stand es) c.in-Do.is w)

pub returns-in-Do-clause-pace : goal.returns-in-Do-clause-pace
returns-in-Do-clause-pace c = λ es. sym (ap (λ (w : Way). way_ops es w (length c.args.tasks.now.items)) c.in-Do.is)

pub returns-else-is_err-clause-holds : goal.returns-else-is_err-clause-holds
returns-else-is_err-clause-holds c = λ b u all next stand es s h l.
    let old = c.args.tasks.now.items in
    let items : c.push.new.self.items ≡ old ++ c.in-With.task ∷ [] = grind (arith, common_steps) in
    subst (λ (ts : List Task). Holds b u all ts es c.in-With.doing s) (sym items)
    (followed-with b u all next old stand es c.in-With.task c.in-With.doing s h (subst (λ (w : Way). Leads b u next stand w es s) c.in-With.is l))

pub returns-else-is_err-clause-runs : goal.returns-else-is_err-clause-runs
returns-else-is_err-clause-runs c = λ u stand es fits st w.
    let old = c.args.tasks.now.items in
    let items : c.push.new.self.items ≡ old ++ c.in-With.task ∷ [] = grind (arith, common_steps) in
    subst (λ (ts : List Task). Runs u ts es c.in-With.doing) (sym items)
    (runs-with u old stand es c.in-With.task c.in-With.doing fits st (subst (WayFits u stand es) c.in-With.is w))

pub returns-else-is_err-clause-pace : goal.returns-else-is_err-clause-pace
returns-else-is_err-clause-pace c = λ es.
    let old = c.args.tasks.now.items in
    let items : c.push.new.self.items ≡ old ++ c.in-With.task ∷ [] = grind (arith, common_steps) in
    ap (λ (ts : List Task). doing_ops es c.in-With.doing (length ts)) items
    ∙ ap (doing_ops es c.in-With.doing) (length_push old c.in-With.task)
    ∙ sym (ap (λ (w : Way). way_ops es w (length old)) c.in-With.is)
