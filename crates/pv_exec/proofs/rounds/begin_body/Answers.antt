use Rattle.std.proofs.Common.{refl, arith}
use Rattle.pv_eval.specs.Moments.{state_of}
use Rattle.pv_exec.proofs.Loops.{body-leads}
use Rattle.pv_exec.proofs.rounds.begin_body.Goals as goal

pub returns-clause-led : goal.returns-clause-led
returns-clause-led c = λ b out es hs hl k le tu lt.
    body-leads b c.args.unit.now k c.args.parts c.args.machine.now.started (state_of c.args.machine.now.moment out es) (omega (arith, lt)) c.requires.fits.body

pub returns-clause-ways : goal.returns-clause-ways
returns-clause-ways c = (c.requires.fits.there, c.requires.fits.has_body, refl, tt)
