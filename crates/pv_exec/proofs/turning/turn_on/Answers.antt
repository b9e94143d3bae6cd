use Rattle.std.proofs.Common.{arith}
use Rattle.pv_exec.specs.Works.{due}
use Rattle.pv_exec.proofs.Turns.{is-due, pace-of}
use Rattle.pv_exec.proofs.turning.turn_on.Goals as goal

pub turn-requires-clause-due : goal.turn-requires-clause-due
turn-requires-clause-due c = is-due (due c.args.machine.now.started c.args.doing) c.is_due.result c.is_due.ensures c.if-is_due.true

pub returns-then-is_due-clause-few : goal.returns-then-is_due-clause-few
returns-then-is_due-clause-few c = omega (arith, c.turn.ensures.taken)

pub returns-then-is_due-clause-pace : goal.returns-then-is_due-clause-pace
returns-then-is_due-clause-pace c = pace-of c.args.bound c.args.machine.now.moment.taken c.turn.new.machine.moment.taken c.turn.result (omega (arith, c.turn.ensures.taken)) (omega (arith, c.turn.ensures.taken, c.requires.room))
