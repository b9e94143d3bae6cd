use Rattle.std.proofs.Common.{ap, sym, ◌∙◌}
use Rattle.pv_seq.specs.Rivals.{top}
use Rattle.pv_world.specs.Coming.{worth_of}
use Rattle.pv_eval.specs.Moments.{state_of}
use Rattle.pv_eval.specs.declared.frames.Stage.TheVariants.{First, Second, Both, Later, Argument}
use Rattle.pv_eval.proofs.Cases.{resumed}
use Rattle.pv_eval.proofs.running.resume.Goals as goal

pub returns-in-First-clause-led : goal.returns-in-First-clause-led
returns-in-First-clause-led c = λ b out es hs hl call. resumed b call c.args.unit.now c.args.frame c.node-x.result First _ _ _ c.resume_first.result c.resume_first.new.journal _ c.node-x.ensures.form c.in-First.is (c.resume_first.ensures.led b out es hs hl call)

pub returns-in-Second-clause-led : goal.returns-in-Second-clause-led
returns-in-Second-clause-led c = λ b out es hs hl call. resumed b call c.args.unit.now c.args.frame c.node-x.result _ (top c.args.journal.now) (worth_of c.args.v) (state_of c.args.moment.now out es) c.resume_second.result c.resume_second.new.journal (state_of c.resume_second.new.moment out es) c.node-x.ensures.form (c.in-Second.is ∙ ap Second (sym c.in-Second.first-is)) (c.resume_second.ensures.led b out es hs hl call)

pub returns-in-Later-clause-led : goal.returns-in-Later-clause-led
returns-in-Later-clause-led c = λ b out es hs hl call. resumed b call c.args.unit.now c.args.frame c.node-x.result (Later c.in-Later.side) _ _ _ c.resume_later.result c.args.journal.now _ c.node-x.ensures.form c.in-Later.is (c.resume_later.ensures.led b out es hs hl call c.args.journal.now)

pub returns-in-Argument-clause-led : goal.returns-in-Argument-clause-led
returns-in-Argument-clause-led c = λ b out es hs hl call. resumed b call c.args.unit.now c.args.frame c.node-x.result _ (top c.args.journal.now) (worth_of c.args.v) (state_of c.args.moment.now out es) c.resume_argument.result c.resume_argument.new.journal (state_of c.resume_argument.new.moment out es) c.node-x.ensures.form (c.in-Argument.is ∙ ap Argument (sym c.in-Argument.got-is)) (c.resume_argument.ensures.led b out es hs hl call)

pub returns-in-Both-clause-led : goal.returns-in-Both-clause-led
returns-in-Both-clause-led c = λ b out es hs hl call. resumed b call c.args.unit.now c.args.frame c.node-x.result _ (top c.args.journal.now) (worth_of c.args.v) (state_of c.args.moment.now out es) c.resume_both.result c.resume_both.new.journal (state_of c.resume_both.new.moment out es) c.node-x.ensures.form (c.in-Both.is ∙ ap Both (sym c.in-Both.read-is) ∙ ap Both (sym c.take.ensures)) (c.resume_both.ensures.led b out es hs hl call)
