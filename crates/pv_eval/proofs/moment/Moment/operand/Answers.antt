use Rattle.std.proofs.Common.{◌+◌, ◌++◌, List, refl, sym, ap, ◌∙◌, subst}
use Rattle.pv_seq.specs.Sequencing.{Access}
use Rattle.pv_seq.specs.Frames.{AllRead}
use Rattle.pv_world.specs.Worlds.{Worth}
use Rattle.pv_eval.specs.Moments.{Moment, sides_of}
use Rattle.pv_eval.specs.Plainly.{found_worth}
use Rattle.pv_eval.specs.AtOnce.{EvaluatedAmong, CutAmong}
use Rattle.pv_eval.proofs.Wholes.{evaluated_among, cut_among}
use Rattle.pv_eval.proofs.moment.Moment.operand.Goals as goal

pub returns-clause-some : goal.returns-clause-some
returns-clause-some c =
    let u = c.args.unit.now in
    let n = c.args.n in
    let m = c.self.inside in
    let k = c.in_ok-taking.taking in
    let v = found_worth c.in_ok-v.v in
    let all = c.value_by.new.notes.items in
    let y = c.in_ok-v.ensures in
    let noted = y.noted refl ∙ ap (λ (qs : List Access). qs ++ y.yields.accesses) c.clear.ensures.items in
    let was : Moment = record { world = m.world; printed = m.printed.items; total = m.total; waiting = m.waiting.items; taken = m.taken; sides = sides_of m.sides } in
    subst (λ (w : Worth). EvaluatedAmong u n w all c.args.self.now (record c.args.self.now { taken = c.args.self.now.taken + k })) (sym c.got.ensures)
    (subst (λ (o : Moment). EvaluatedAmong u n v all o (record o { taken = o.taken + k })) c.self.view_is (evaluated_among u n k v all was (record was { taken = was.taken + k }) y.yields c.in_ok-taking.ensures noted refl))

pub returns-clause-cut : goal.returns-clause-cut
returns-clause-cut c =
    let u = c.args.unit.now in
    let n = c.args.n in
    let m = c.self.inside in
    let k = c.in_ok-taking.taking in
    let was : Moment = record { world = m.world; printed = m.printed.items; total = m.total; waiting = m.waiting.items; taken = m.taken; sides = sides_of m.sides } in
    subst (λ (o : Moment). CutAmong u n o (record o { taken = o.taken + k })) c.self.view_is (cut_among u n k (found_worth c.in_ok-v.v) was (record was { taken = was.taken + k }) c.in_ok-v.ensures.yields c.in_ok-taking.ensures refl)

pub returns-clause-reads : goal.returns-clause-reads
returns-clause-reads c =
    let y = c.in_ok-v.ensures in
    let noted = y.noted refl ∙ ap (λ (qs : List Access). qs ++ y.yields.accesses) c.clear.ensures.items in
    subst AllRead (sym noted) y.yields.only
