use Rattle.std.proofs.Common.{◌≡◌, ◌∷◌, List, [], sym, ap, ◌∙◌, subst, arith}
use Rattle.pv_typed.specs.NodeTrees.{expression_at}
use Rattle.pv_seq.specs.Sequencing.{Access}
use Rattle.pv_seq.specs.Frames.{AllRead, with_reads}
use Rattle.pv_seq.specs.Rivals.{top, below}
use Rattle.pv_world.specs.Coming.{worth_of}
use Rattle.pv_eval.specs.declared.frames.Frame.{Frame}
use Rattle.pv_eval.specs.declared.frames.Now.{Now}
use Rattle.pv_eval.specs.declared.frames.Now.TheVariants.{Due, Value}
use Rattle.pv_eval.specs.States.{Gives}
use Rattle.pv_eval.specs.Evaluation.{ev}
use Rattle.pv_eval.specs.Moments.{Moment, state_of}
use Rattle.pv_eval.specs.Ahead.{ahead, NowFits}
use Rattle.pv_eval.specs.Machines.{Started, is_value}
use Rattle.pv_eval.specs.MachineSteps.{StartedFits}
use Rattle.pv_eval.proofs.Wholes.{goes_among, stops_among}
use Rattle.pv_eval.proofs.started.Started.operand.Goals as goal

pub has_read-requires-clause-matched : goal.has_read-requires-clause-matched
has_read-requires-clause-matched c = c.requires.fits.matched

pub has_read-requires-clause-reads : goal.has_read-requires-clause-reads
has_read-requires-clause-reads c = subst AllRead (sym c.as_slice.ensures.value) c.in-Some.ensures.reads

pub returns-in-Err-clause-fits : goal.returns-in-Err-clause-fits
returns-in-Err-clause-fits c = subst (λ (e : Started). StartedFits c.args.unit.now e) (sym c.in-Err.ensures.unchanged) c.requires.fits

pub returns-in-Err-clause-same : goal.returns-in-Err-clause-same
returns-in-Err-clause-same c = λ t. c.in-Err.ensures.unchanged

pub returns-clause-goes : goal.returns-clause-goes
returns-clause-goes c = λ t b out es hs hl call room.
    let u = c.args.unit.now in
    let old = c.args.self.now in
    let new = c.has_read.new.self in
    let js = old.opens in
    let all = c.operand.new.notes.items in
    let n = c.in-Due.n in
    let v = c.in-Some.v in
    let s = state_of c.args.moment.now out es in
    let s' = state_of c.take.new.self out es in
    let at : old.place ≡ Due n = ap (λ (e : Started). e.place) (sym c.self.view_is) ∙ c.in-Due.is in
    let begun = (subst (λ (p : Now). NowFits u p js) at c.requires.fits.place).1 in
    let is = c.in-Ok.ensures.opens ∙ ap (λ (rs : List Access). with_reads rs (top js) ∷ below js) c.as_slice.ensures.value in
    let taken = ap (λ (m : Moment). m.taken) c.take.ensures in
    goes_among b call u old.frames js new.opens old.place n v all s s' at begun is
    (subst (λ (m : Moment). ev b call (expression_at u n) (top js).foes s ≡ Gives (record { value = worth_of v; all = all; loose = [] }) (state_of m out es)) (sym c.take.ensures)
    (c.in-Some.ensures.some b out es hs hl call (top js).foes (c.only_reads.ensures c.if-not-only_reads.false) (omega (arith, taken, room))))
    ∙ ap (λ (fs : List Frame). ahead b call u fs new.opens (Value v) s') (sym c.has_read.ensures.frames)
    ∙ ap (λ (p : Now). ahead b call u new.frames new.opens p s') (sym c.in-Ok.ensures.place)

pub returns-clause-cut : goal.returns-clause-cut
returns-clause-cut c = λ t b out es hs hl call low high.
    let u = c.args.unit.now in
    let old = c.args.self.now in
    let js = old.opens in
    let s = state_of c.args.moment.now out es in
    let at : old.place ≡ Due c.in-Due.n = ap (λ (e : Started). e.place) (sym c.self.view_is) ∙ c.in-Due.is in
    let taken = ap (λ (m : Moment). m.taken) c.take.ensures in
    stops_among b call u old.frames js old.place c.in-Due.n s _ at (c.in-Some.ensures.cut b out es hs hl call (top js).foes (c.only_reads.ensures c.if-not-only_reads.false) low (omega (arith, taken, high)))

pub returns-clause-more : goal.returns-clause-more
returns-clause-more c = λ t. omega (arith, c.in-Some.ensures.more, ap (λ (m : Moment). m.taken) c.take.ensures)

pub returns-clause-within : goal.returns-clause-within
returns-clause-within c = λ t. omega (arith, c.in-Some.ensures.within, ap (λ (m : Moment). m.taken) c.take.ensures)

pub returns-clause-ended : goal.returns-clause-ended
returns-clause-ended c = λ t. ap is_value c.in-Ok.ensures.place

pub returns-clause-fits : goal.returns-clause-fits
returns-clause-fits c = c.in-Ok.ensures.fits c.args.unit.now c.requires.fits
