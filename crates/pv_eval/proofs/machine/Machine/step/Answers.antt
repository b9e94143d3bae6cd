use Rattle.std.proofs.Common.{◌<◌, ap, sym, ◌∙◌, subst, length}
use Rattle.pv_eval.specs.Moments.{IsSetting, Follows, state_of}
use Rattle.pv_eval.specs.Machines.{left_of, is_going, is_due}
use Rattle.pv_eval.specs.MachineSteps.{Stepped}
use Rattle.pv_eval.proofs.Machining.{stepped-first, due-first}
use Rattle.std.specs.Prelude.{slice_set}
use Rattle.pv_eval.proofs.machine.Machine.step.Goals as goal

pub returns-clause-rest : goal.returns-clause-rest
returns-clause-rest c = λ b out es hs hl call lt.
    let u = c.args.unit.now in
    let items = c.self.inside.started.items in
    let going = ap (λ m. is_going m.started) c.self.view_is ∙ c.requires.going in
    subst (λ m. Stepped b call u (left_of b call u m.started (state_of m.moment out es)) c.step.result (slice_set items 0 c.step.new.self) (state_of c.step.new.moment out es)) c.self.view_is
    (stepped-first b call u items c.in-Some.e.now c.step.new.self c.step.result (state_of c.self.inside.moment out es) (state_of c.step.new.moment out es) going c.in-Some.ensures.value
    (λ others. c.step.ensures.rest b out es (subst (λ m. IsSetting b u m.moment) (sym c.self.view_is) hs) (subst (λ m. Follows m.moment (length out)) (sym c.self.view_is) hl) call others
    (λ d. subst (λ m. m.moment.taken < b.bound) (sym c.self.view_is) (lt (ap (λ m. is_due m.started) (sym c.self.view_is) ∙ due-first items c.in-Some.e.now going c.in-Some.ensures.value ∙ d)))))
