use Rattle.std.proofs.Common.{◌+◌, refl, sym, subst}
use Rattle.pv_world.specs.Worlds.{Worth}
use Rattle.pv_eval.specs.Moments.{Moment, sides_of}
use Rattle.pv_eval.specs.Plainly.{found_worth}
use Rattle.pv_eval.specs.AtOnce.{Evaluated, Cut}
use Rattle.pv_eval.proofs.Wholes.{evaluated, cut_off}
use Rattle.pv_eval.proofs.moment.Moment.whole.Goals as goal

pub returns-clause-some : goal.returns-clause-some
returns-clause-some c =
    let u = c.args.unit.now in
    let n = c.args.n in
    let m = c.self.inside in
    let k = c.in_ok-turns.turns in
    let was : Moment = record { world = m.world; printed = m.printed.items; total = m.total; waiting = m.waiting.items; taken = m.taken; sides = sides_of m.sides } in
    let new : Moment = record { world = c.perform.new.world; printed = m.printed.items; total = m.total; waiting = m.waiting.items; taken = m.taken + k; sides = sides_of m.sides } in
    subst (λ (v : Worth). Evaluated u n v c.args.self.now new) (sym c.got.ensures)
    (subst (λ (o : Moment). Evaluated u n (found_worth c.in_ok-v.v) o new) c.self.view_is (evaluated u n k (found_worth c.in_ok-v.v) was new c.in_ok-v.ensures.some c.in_ok-turns.ensures refl))

pub returns-clause-cut : goal.returns-clause-cut
returns-clause-cut c =
    let u = c.args.unit.now in
    let n = c.args.n in
    let m = c.self.inside in
    let k = c.in_ok-turns.turns in
    let was : Moment = record { world = m.world; printed = m.printed.items; total = m.total; waiting = m.waiting.items; taken = m.taken; sides = sides_of m.sides } in
    let new : Moment = record { world = c.perform.new.world; printed = m.printed.items; total = m.total; waiting = m.waiting.items; taken = m.taken + k; sides = sides_of m.sides } in
    subst (λ (o : Moment). Cut u n o new) c.self.view_is (cut_off u n k (found_worth c.in_ok-v.v) was new c.in_ok-v.ensures.some c.in_ok-turns.ensures refl)
