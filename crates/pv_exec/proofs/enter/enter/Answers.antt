use Rattle.std.proofs.Common.{List, length, sym, subst, ap, ◌∙◌, ◌+◌, ◌≡◌, arith}
use Rattle.pv_typed.specs.NodeTrees.{statement_at}
use Rattle.pv_eval.specs.Moments.{Moment, IsSetting, Follows, state_of}
use Rattle.pv_exec.specs.OfRuns.{below}
use Rattle.pv_eval.specs.Machines.{Started}
use Rattle.pv_exec.specs.Tasks.{left_flow}
use Rattle.pv_exec.specs.Leading.{LeadsOr}
use Rattle.pv_exec.specs.Entering.{behind_turn}
use Rattle.pv_exec.proofs.Enters.{turn-taken}
use Rattle.pv_exec.proofs.Ticking.{ticked-keeps}
use Rattle.pv_exec.proofs.enter.enter.Goals as goal

pub returns-clause-led : goal.returns-clause-led
returns-clause-led c = λ b out es hs hl k lb lt.
    let u = c.args.unit.now in
    let old = c.args.machine.now in
    let new = c.tick.new.self in
    let r = c.begin.result in
    let last = c.begin.new.machine in
    let e = c.tick.ensures.moment in
    let taken : new.moment.taken ≡ old.moment.taken + 1 = ap (λ (m : Moment). m.taken) e in
    let hs' : IsSetting b u new.moment = record { unit = hs.unit; types = hs.types; sides = hs.sides ∙ sym (ap (λ (m : Moment). m.sides) e) } in
    let hl' = subst (λ (m : Moment). Follows m (length out)) (sym e) hl in
    let y = statement_at u c.unlabelled-n.result in
    let is = ap left_flow (turn-taken b (state_of old.moment out es) (below b k) (statement_at u c.args.n) y lb c.unlabelled-n.ensures.same c.unlabelled-n.ensures.plain ∙ sym (ap (λ (m : Moment). behind_turn b (below b k) y (state_of m out es)) e)) in
    subst (λ q. LeadsOr b u q old.started r last.started (state_of last.moment out es)) (sym is)
    (subst (λ (v : List Started). LeadsOr b u (left_flow (behind_turn b (below b k) y (state_of new.moment out es))) v r last.started (state_of last.moment out es)) c.tick.ensures.started
    (c.begin.ensures.led b out es hs' hl' k (omega (arith, taken, lt))))

pub returns-clause-setting : goal.returns-clause-setting
returns-clause-setting c = ticked-keeps c.args.machine.now.moment c.tick.new.self.moment c.begin.new.machine.moment c.tick.ensures.moment c.begin.ensures.stays
