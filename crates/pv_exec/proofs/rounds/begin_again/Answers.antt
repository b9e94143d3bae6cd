use Rattle.pv_exec.proofs.Loops.{again-leads}
use Rattle.pv_exec.proofs.rounds.begin_again.Goals as goal

pub returns-clause-led : goal.returns-clause-led
returns-clause-led c = λ b k s le lt. again-leads b c.args.unit.now k c.args.n s c.args.machine.now.started c.begin_round.new.machine.started c.begin_round.result le lt (λ k lt. c.begin_round.ensures.led b k s lt)
