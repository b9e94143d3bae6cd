use Rattle.std.proofs.Common.{◌∙◌}
use Rattle.pv_exec.proofs.Mains.{main-in}
use Rattle.pv_exec.proofs.MainPieces.{piece-whole, piece-unprepared, cause-same}
use Rattle.pv_exec.proofs.running.run_unit.Goals as goal

pub run_main-requires-clause-there : goal.run_main-requires-clause-there
run_main-requires-clause-there g c = main-in c.args.unit.now c.main.result c.main.ensures

pub returns-in-Ok-clause-ended : goal.returns-in-Ok-clause-ended
returns-in-Ok-clause-ended g c = piece-whole c.args.unit.now c.args.bound c.main.result c.run_main.result c.args.machine.now c.prepare.new.machine c.run_main.new.machine c.in-Ok.ensures.made c.main.ensures c.in-Ok.ensures.stays c.run_main.ensures.ended

pub returns-in-Err-clause-ended : goal.returns-in-Err-clause-ended
returns-in-Err-clause-ended g c =
    piece-unprepared _ c.args.unit.now c.args.bound c.args.machine.now c.prepare.new.machine c.in-Err.e c.in-Err.ensures.made (c.in-Err.ensures.stays.taken ∙ c.requires.fresh)

pub returns-in-Err-clause-cause : goal.returns-in-Err-clause-cause
returns-in-Err-clause-cause g c = cause-same c.in-Err.e _
