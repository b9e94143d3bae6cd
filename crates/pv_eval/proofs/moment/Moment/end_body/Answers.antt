use Rattle.std.proofs.Common.{refl}
use Rattle.pv_eval.proofs.Printing.{body_ended}
use Rattle.pv_eval.proofs.moment.Moment.end_body.Goals as goal

pub returns-clause-made : goal.returns-clause-made
returns-clause-made c = λ u b out es hs hf line. body_ended b line _ _ c.args.self.now _ out es c.self.view_is c.end_body.ensures refl
