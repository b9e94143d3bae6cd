use Rattle.pv_eval.proofs.Sides.{closed_done}
use Rattle.pv_eval.proofs.moment.Moment.close_done.Goals as goal

pub returns-clause-made : goal.returns-clause-made
returns-clause-made c = λ b w op out es sides many h did line.
    closed_done b line c.args.self.now c.mark.new.self w op c.args.told.now out es c.mark.result many h did c.mark.ensures.marked c.mark.ensures.memory
