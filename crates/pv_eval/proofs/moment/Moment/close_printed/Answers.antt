use Rattle.pv_eval.specs.Moments.{state_of}
use Rattle.pv_eval.specs.Texts.{silent}
use Rattle.pv_eval.proofs.Printing.{said, closed_text, stays_both, stays_marked}
use Rattle.pv_eval.proofs.moment.Moment.close_printed.Goals as goal

pub returns-clause-acted : goal.returns-clause-acted
returns-clause-acted c = λ b w op out es sides few follows made.
    closed_text b c.args.line (op w) _ (state_of c.print_with.new.self out es) c.print_with.result c.args.text.now
    (said c.args.answer _ made.wrote (c.is_without_memory.ensures.no c.if-is_without_memory.false))
    (c.print_with.ensures.came _ out es (c.close-came.ensures.acted b w (λ w. silent (op w)) out es sides few follows made.did))

pub returns-clause-stays : goal.returns-clause-stays
returns-clause-stays c = stays_both _ _ _ (stays_marked c.args.self.now c.close-came.new.self c.close-came.ensures.kept) c.print_with.ensures.stays
