use Rattle.std.proofs.Common.{◌≡◌, arith, subst}
use Rattle.pv_eval.specs.Moments.{state_of}
use Rattle.pv_exec.specs.declared.lists.Item.{Item}
use Rattle.pv_exec.specs.declared.task.Flow.TheVariants as flow
use Rattle.pv_exec.specs.declared.task.Doing.TheVariants as doing
use Rattle.pv_exec.specs.OfRuns.{exs, below}
use Rattle.pv_exec.specs.Tasks.{statements_from}
use Rattle.pv_exec.specs.Items.{item_does}
use Rattle.pv_exec.specs.Works.{does}
use Rattle.pv_exec.proofs.Leaving.{leaves-at}
use Rattle.pv_exec.proofs.Listing.{end-leads, statement-leads, stores-lead}
use Rattle.pv_exec.proofs.lists.next_statement.Goals as goal

pub returns-in-Ok-End-clause-led : goal.returns-in-Ok-End-clause-led
returns-in-Ok-End-clause-led c = λ b out es hs hl k le tu lt.
    let u = c.args.unit.now in
    let old = c.args.machine.now in
    let new = c.next_item.new.machine in
    let s = state_of old.moment out es in
    let s' = state_of new.moment out es in
    leaves-at b u k (does b u k old.started (doing.Statements c.args.l c.args.i) s) flow.Falls old.started new.started s' (omega (arith, lt, c.in-Ok-End.ensures.stays.taken)) (end-leads b u k c.args.l c.args.i old.started s s' (subst (λ (x : Item). exs b (below b k) (statements_from u c.args.l c.args.i) (state_of old.moment out es) ≡ item_does b (below b k) u c.args.l x (state_of new.moment out es)) c.in-Ok-End.field-0-is (c.in-Ok-End.ensures.item b out es hs hl (below b k)))) c.in-Ok-End.ensures.started

pub returns-in-Ok-Statement-clause-led : goal.returns-in-Ok-Statement-clause-led
returns-in-Ok-Statement-clause-led c = λ b out es hs hl k le tu lt.
    let u = c.args.unit.now in
    let old = c.args.machine.now in
    let new = c.next_item.new.machine in
    statement-leads b u k c.args.l c.args.i c.in-Ok-Statement.next c.in-Ok-Statement.n old.started new.started (state_of old.moment out es) (state_of new.moment out es) (omega (arith, lt, c.in-Ok-Statement.ensures.stays.taken)) (subst (λ (x : Item). exs b (below b k) (statements_from u c.args.l c.args.i) (state_of old.moment out es) ≡ item_does b (below b k) u c.args.l x (state_of new.moment out es)) c.in-Ok-Statement.field-0-is (c.in-Ok-Statement.ensures.item b out es hs hl (below b k))) c.in-Ok-Statement.ensures.started

pub returns-in-Ok-Stores-clause-led : goal.returns-in-Ok-Stores-clause-led
returns-in-Ok-Stores-clause-led c = λ b out es hs hl k le tu lt.
    let u = c.args.unit.now in
    let old = c.args.machine.now in
    let new = c.next_item.new.machine in
    stores-lead b u k c.args.l c.args.i c.in-Ok-Stores.next c.in-Ok-Stores.o old.started new.started (state_of old.moment out es) (state_of new.moment out es) (omega (arith, lt, c.in-Ok-Stores.ensures.stays.taken)) (subst (λ (x : Item). exs b (below b k) (statements_from u c.args.l c.args.i) (state_of old.moment out es) ≡ item_does b (below b k) u c.args.l x (state_of new.moment out es)) c.in-Ok-Stores.field-0-is (c.in-Ok-Stores.ensures.item b out es hs hl (below b k))) c.in-Ok-Stores.ensures.started
