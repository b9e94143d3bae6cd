use Rattle.std.proofs.Common.{refl}
use Rattle.pv_exec.proofs.Loops.{round-goes}
use Rattle.pv_exec.proofs.Rounding.{is-round}
use Rattle.pv_exec.proofs.rounds.round_again.Goals as goal

pub returns-in-Some-clause-led : goal.returns-in-Some-clause-led
returns-in-Some-clause-led c = λ b k s le lt.
    round-goes b c.args.unit.now k (record { statement = c.args.n; condition = c.in-Some.condition; body = c.loop_parts-parts.result.body }) c.args.machine.now.started s lt

pub returns-in-Some-clause-ways : goal.returns-in-Some-clause-ways
returns-in-Some-clause-ways c =
    let is = c.loop_parts-parts.ensures in
    (is-round c.args.unit.now c.args.n c.loop_parts-parts.result c.in-Some.condition c.requires.there is.value is.condition is.body c.in-Some.ensures, refl)
