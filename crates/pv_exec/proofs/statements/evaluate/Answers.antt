use Rattle.pv_exec.proofs.Loops.{started}
use Rattle.pv_exec.proofs.statements.evaluate.Goals as goal

pub returns-in-Ok-clause-led : goal.returns-in-Ok-clause-led
returns-in-Ok-clause-led c = λ b u k s all lt e. started b u k c.args.task c.args.e c.args.machine.now.started c.start.new.self.started s all c.requires.task c.requires.value c.in-Ok.ensures.begun lt e
