use Rattle.std.proofs.Common.{◌∙◌, ap}
use Rattle.pv_typed.specs.Nodes.{optional_in}
use Rattle.pv_typed.specs.Tables.{nodes}
use Rattle.pv_exec.specs.Parts.{Loop}
use Rattle.pv_exec.proofs.Loops.{round-body, round-condition}
use Rattle.pv_exec.proofs.statements.begin_round.Goals as goal

pub returns-in-None-clause-led : goal.returns-in-None-clause-led
returns-in-None-clause-led c = λ b k s lt.
    let u = c.args.unit.now in
    let v = c.loop_parts-parts.ensures.value in
    round-body b u k c.args.n c.loop_parts-parts.result.body c.args.machine.now.started s lt (ap (λ (l : Loop). l.condition) v ∙ ap (optional_in (nodes u)) c.in-None.is) (ap (λ (l : Loop). l.body) v)

pub returns-in-Some-clause-led : goal.returns-in-Some-clause-led
returns-in-Some-clause-led c = λ b k s lt.
    let u = c.args.unit.now in
    let v = c.loop_parts-parts.ensures.value in
    c.evaluate.ensures.led b u k s _ lt (round-condition b u k c.args.n c.in-Some.c s (ap (λ (l : Loop). l.condition) v ∙ ap (optional_in (nodes u)) c.in-Some.is))
