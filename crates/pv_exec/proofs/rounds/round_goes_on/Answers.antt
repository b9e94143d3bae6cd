use Rattle.std.proofs.Common.{◌∙◌, ap, arith}
use Rattle.pv_typed.specs.Nodes.{optional_in}
use Rattle.pv_typed.specs.Tables.{nodes}
use Rattle.pv_exec.specs.Parts.{Loop}
use Rattle.pv_exec.proofs.Loops.{step-none, step-some}
use Rattle.pv_exec.proofs.rounds.round_goes_on.Goals as goal

pub returns-in-None-clause-led : goal.returns-in-None-clause-led
returns-in-None-clause-led c = λ b k s le lt.
    let u = c.args.unit.now in
    step-none b u k c.args.n s c.args.machine.now.started c.begin_again.new.machine.started c.begin_again.result (ap (λ (l : Loop). l.step) c.loop_parts-parts.ensures.value ∙ ap (optional_in (nodes u)) c.in-None.is) (c.begin_again.ensures.led b k s le lt)

pub returns-in-Some-clause-led : goal.returns-in-Some-clause-led
returns-in-Some-clause-led c = λ b k s le lt.
    let u = c.args.unit.now in
    c.evaluate.ensures.led b u k s _ (omega (arith, lt)) (step-some b u k c.args.n c.in-Some.x s (ap (λ (l : Loop). l.step) c.loop_parts-parts.ensures.value ∙ ap (optional_in (nodes u)) c.in-Some.is))
