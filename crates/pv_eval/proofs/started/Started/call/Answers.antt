use Rattle.std.proofs.Common.{◌≡◌, ℕ, ◌∷◌, List, sym, ap, ◌∙◌, subst, arith}
use Rattle.std.specs.Prelude.{map}
use Rattle.pv_typed.specs.TypedTree.{line_of}
use Rattle.pv_typed.specs.NodeTrees.{expression_at}
use Rattle.pv_seq.specs.Sequencing.{Access, sequence_point}
use Rattle.pv_seq.specs.Frames.{AllRead, with_reads}
use Rattle.pv_seq.specs.Rivals.{top, below}
use Rattle.pv_world.specs.Coming.{worth_of}
use Rattle.pv_eval.specs.declared.frames.Frame.{Frame}
use Rattle.pv_eval.specs.declared.frames.Now.{Now}
use Rattle.pv_eval.specs.declared.frames.Now.TheVariants.{Due, Asked}
use Rattle.pv_eval.specs.States.{then_do}
use Rattle.pv_eval.specs.Sequenced.{node_value}
use Rattle.pv_eval.specs.Evaluation.{ev}
use Rattle.pv_eval.specs.Moments.{Moment, state_of}
use Rattle.pv_eval.specs.Ahead.{ahead, NowFits}
use Rattle.pv_eval.specs.Machines.{Started, is_call_at}
use Rattle.pv_eval.specs.MachineSteps.{StartedFits}
use Rattle.pv_eval.specs.Plainly.{has_read}
use Rattle.pv_eval.proofs.PlainCalls.{goes_call}
use Rattle.pv_eval.proofs.Wholes.{stops_among}
use Rattle.pv_eval.proofs.started.Started.call.Goals as goal

pub call_arguments-requires-clause-form : goal.call_arguments-requires-clause-form
call_arguments-requires-clause-form c = c.in-Call.ensures.form

pub call_arguments-requires-clause-list : goal.call_arguments-requires-clause-list
call_arguments-requires-clause-list c = c.in-Call.ensures.operands.1.0

pub line_of-requires : goal.line_of-requires
line_of-requires c =
    let old = c.args.self.now in
    let at : old.place ≡ Due c.in-Due.n = ap (λ (e : Started). e.place) (sym c.self.view_is) ∙ c.in-Due.is in
    (subst (λ (p : Now). NowFits c.args.unit.now p old.opens) at c.requires.fits.place).0.0

pub has_asked-requires-clause-matched : goal.has_asked-requires-clause-matched
has_asked-requires-clause-matched c = c.requires.fits.matched

pub has_asked-requires-clause-reads : goal.has_asked-requires-clause-reads
has_asked-requires-clause-reads c = subst AllRead (sym c.as_slice.ensures.value) c.in-Some.ensures.reads

pub returns-in-Err-clause-fits : goal.returns-in-Err-clause-fits
returns-in-Err-clause-fits c = subst (λ (e : Started). StartedFits c.args.unit.now e) (sym c.in-Err.ensures.unchanged) c.requires.fits

pub returns-in-Err-clause-same : goal.returns-in-Err-clause-same
returns-in-Err-clause-same c = λ t. c.in-Err.ensures.unchanged

pub returns-clause-goes : goal.returns-clause-goes
returns-clause-goes c = λ t b out es hs hl call room.
    let u = c.args.unit.now in
    let old = c.args.self.now in
    let new = c.has_asked.new.self in
    let js = old.opens in
    let all = c.call_arguments.new.notes.items in
    let n = c.in-Due.n in
    let x = expression_at u n in
    let f = c.in-Call.f in
    let got = c.in-Some.got in
    let line = c.line_of.result in
    let s = state_of c.args.moment.now out es in
    let s' = state_of c.take_up_to.new.self out es in
    let at : old.place ≡ Due n = ap (λ (e : Started). e.place) (sym c.self.view_is) ∙ c.in-Due.is in
    let fits = subst (λ (p : Now). NowFits u p js) at c.requires.fits.place in
    let is = c.in-Ok.ensures.opens ∙ ap (λ (rs : List Access). with_reads rs (top js) ∷ below js) c.as_slice.ensures.value in
    let taken = ap (λ (m : Moment). m.taken) c.take_up_to.ensures in
    goes_call b call u old.frames js new.opens old.place n f got line all s s' at fits.1 is
    (subst (λ (k : ℕ). ev b call x (top js).foes s ≡ then_do (call f (map worth_of got.items) k s') (node_value (sequence_point (has_read (top js).foes all)))) (sym (c.line_of.ensures.expression fits.0))
    (subst (λ (m : Moment). ev b call x (top js).foes s ≡ then_do (call f (map worth_of got.items) (line_of x) (state_of m out es)) (node_value (sequence_point (has_read (top js).foes all)))) (sym c.take_up_to.ensures)
    (c.in-Some.ensures.some b out es hs hl call (top js).foes (c.only_reads.ensures c.if-not-only_reads.false) (omega (arith, taken, room)))))
    ∙ ap (λ (fs : List Frame). ahead b call u fs new.opens (Asked f got line) s') (sym c.has_asked.ensures.frames)
    ∙ ap (λ (p : Now). ahead b call u new.frames new.opens p s') (sym c.in-Ok.ensures.place)

pub returns-clause-cut : goal.returns-clause-cut
returns-clause-cut c = λ t b out es hs hl call low high.
    let u = c.args.unit.now in
    let old = c.args.self.now in
    let js = old.opens in
    let s = state_of c.args.moment.now out es in
    let at : old.place ≡ Due c.in-Due.n = ap (λ (e : Started). e.place) (sym c.self.view_is) ∙ c.in-Due.is in
    let taken = ap (λ (m : Moment). m.taken) c.take_up_to.ensures in
    stops_among b call u old.frames js old.place c.in-Due.n s _ at (c.in-Some.ensures.cut b out es hs hl call (top js).foes (c.only_reads.ensures c.if-not-only_reads.false) low (omega (arith, taken, high)))

pub returns-clause-more : goal.returns-clause-more
returns-clause-more c = λ t. omega (arith, c.in-Some.ensures.more, ap (λ (m : Moment). m.taken) c.take_up_to.ensures)

pub returns-clause-within : goal.returns-clause-within
returns-clause-within c = λ t. omega (arith, c.in-Some.ensures.within, ap (λ (m : Moment). m.taken) c.take_up_to.ensures)

pub returns-clause-called : goal.returns-clause-called
returns-clause-called c = λ t. ap is_call_at c.in-Ok.ensures.place

pub returns-clause-fits : goal.returns-clause-fits
returns-clause-fits c = c.in-Ok.ensures.fits c.args.unit.now c.requires.fits c.in-Call.ensures.named
