use Rattle.std.proofs.Common.{sym, ◌∙◌}
use Rattle.pv_eval.proofs.Replies.{known_wrote, unknown_wrote}
use Rattle.pv_eval.proofs.asking.ask_in.Goals as goal

pub returns-then-knows_arguments : goal.returns-then-knows_arguments
returns-then-knows_arguments c = λ b. known_wrote b c.args.f c.args.args.now c.args.world.now c.ask_known.result _ _ _ _ _ (sym c.knows_arguments.ensures.value ∙ c.if-knows_arguments.true) c.ask_known.ensures

pub returns-else-knows_arguments : goal.returns-else-knows_arguments
returns-else-knows_arguments c = λ b. unknown_wrote b c.args.f c.args.args.now c.args.world.now c.unfit.result _ _ _ (sym c.knows_arguments.ensures.value ∙ c.if-knows_arguments.false) c.unfit.ensures
