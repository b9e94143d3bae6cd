use Rattle.std.proofs.Common.{sym, ap, subst}
use Rattle.pv_typed.specs.NodeTrees.{statement_at}
use Rattle.pv_exec.specs.declared.parts.RoundParts.{RoundParts}
use Rattle.pv_exec.specs.declared.task.Doing.{Doing}
use Rattle.pv_exec.specs.declared.task.Way.TheVariants as way
use Rattle.pv_exec.specs.OfRuns.{below}
use Rattle.pv_exec.specs.Parts.{Loop, loop_of, stepped_on}
use Rattle.pv_exec.specs.Tasks.{left_flow}
use Rattle.pv_exec.specs.Leading.{Leads}
use Rattle.pv_exec.specs.Fits.{WayFits}
use Rattle.pv_exec.specs.Quickness.{Quick}
use Rattle.pv_exec.proofs.Loops.{behind-goes, behind-fits, behind-quick}
use Rattle.pv_exec.proofs.Rounding.{is-round}
use Rattle.pv_exec.proofs.rounds.go_round.Goals as goal

pub returns-in-Some-clause-led : goal.returns-in-Some-clause-led
returns-in-Some-clause-led c = λ b k s le lt.
    let u = c.args.unit.now in
    let es = c.args.machine.now.started in
    let parts = c.loop_parts-parts.result in
    let p : RoundParts = record { statement = c.args.n; condition = c.in-Some.condition; body = parts.body } in
    subst (λ (d : Doing). Leads b u (left_flow (stepped_on b (below b k) (loop_of (statement_at u c.args.n)) s)) es (way.Do d) es s) (sym c.behind_body.ensures)
    (behind-goes b u k parts.step p es s lt (ap (λ (l : Loop). l.step) c.loop_parts-parts.ensures.value))

pub returns-in-Some-clause-ways : goal.returns-in-Some-clause-ways
returns-in-Some-clause-ways c =
    let u = c.args.unit.now in
    let es = c.args.machine.now.started in
    let parts = c.loop_parts-parts.result in
    let is = c.loop_parts-parts.ensures in
    let p : RoundParts = record { statement = c.args.n; condition = c.in-Some.condition; body = parts.body } in
    subst (λ (d : Doing). WayFits u es es (way.Do d)) (sym c.behind_body.ensures)
    (behind-fits u es parts.step p (is-round u c.args.n parts c.in-Some.condition c.requires.there is.value is.condition is.body c.in-Some.ensures) (ap (λ (l : Loop). l.step) is.value) is.step)

pub returns-in-Some-clause-quick : goal.returns-in-Some-clause-quick
returns-in-Some-clause-quick c =
    let es = c.args.machine.now.started in
    let p : RoundParts = record { statement = c.args.n; condition = c.in-Some.condition; body = c.loop_parts-parts.result.body } in
    subst (λ (d : Doing). Quick es (way.Do d)) (sym c.behind_body.ensures) (behind-quick es c.loop_parts-parts.result.step p)
