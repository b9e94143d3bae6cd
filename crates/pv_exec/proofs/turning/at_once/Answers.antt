use Rattle.std.proofs.Common.{sym, subst}
use Rattle.std.specs.Prelude.{IfSome}
use Rattle.pv_exec.specs.declared.task.Doing.{Doing}
use Rattle.pv_exec.specs.Fits.{DoingFits}
use Rattle.pv_exec.specs.Turning.{ComesAtOnce}
use Rattle.pv_exec.proofs.Rounding.{again-fits, round-fits}
use Rattle.pv_exec.proofs.turning.at_once.Goals as goal

pub returns-in-Evaluate-clause-some : goal.returns-in-Evaluate-clause-some
returns-in-Evaluate-clause-some c =
    let r = c.expression_at_once.result in
    let new = c.expression_at_once.new.machine in
    subst (λ (d : Doing). IfSome r (λ e. ComesAtOnce c.args.unit.now c.args.bound d e c.args.machine.now new)) (sym c.in-Evaluate.is) c.expression_at_once.ensures.some

pub statement_at_once-requires-clause-there : goal.statement_at_once-requires-clause-there
statement_at_once-requires-clause-there c = subst (λ (d : Doing). DoingFits c.args.unit.now c.args.machine.now.started d) c.in-Enter.is c.requires.fits

pub returns-in-Enter-clause-some : goal.returns-in-Enter-clause-some
returns-in-Enter-clause-some c =
    let r = c.statement_at_once.result in
    let new = c.statement_at_once.new.machine in
    subst (λ (d : Doing). IfSome r (λ e. ComesAtOnce c.args.unit.now c.args.bound d e c.args.machine.now new)) (sym c.in-Enter.is) c.statement_at_once.ensures.some

pub step_at_once-requires-clause-fits : goal.step_at_once-requires-clause-fits
step_at_once-requires-clause-fits c = again-fits c.args.unit.now c.args.machine.now.started _ _ c.args.doing.now c.in-Again.is c.requires.fits

pub returns-in-Again-clause-some : goal.returns-in-Again-clause-some
returns-in-Again-clause-some c =
    let r = c.step_at_once.result in
    let new = c.step_at_once.new.machine in
    subst (λ (d : Doing). IfSome r (λ e. ComesAtOnce c.args.unit.now c.args.bound d e c.args.machine.now new)) (sym c.in-Again.is) c.step_at_once.ensures.some

pub round_at_once-requires-clause-fits : goal.round_at_once-requires-clause-fits
round_at_once-requires-clause-fits c = round-fits c.args.unit.now c.args.machine.now.started _ c.args.doing.now c.in-Round.is c.requires.fits

pub returns-in-Round-clause-some : goal.returns-in-Round-clause-some
returns-in-Round-clause-some c =
    let r = c.round_at_once.result in
    let new = c.round_at_once.new.machine in
    subst (λ (d : Doing). IfSome r (λ e. ComesAtOnce c.args.unit.now c.args.bound d e c.args.machine.now new)) (sym c.in-Round.is) c.round_at_once.ensures.some
