use Rattle.std.proofs.Common.{◌++◌, ◌+◌, refl, sym, subst}
use Rattle.pv_typed.specs.NodeTrees.{expression_at}
use Rattle.pv_world.specs.Worlds.{Worth}
use Rattle.pv_eval.specs.Moments.{Moment, sides_of}
use Rattle.pv_eval.specs.Plainly.{found_worth}
use Rattle.pv_eval.specs.AtOnce.{HandedNext, CutNext, with_turn_taken}
use Rattle.pv_eval.proofs.PlainStores.{turns_plain, performs_plain}
use Rattle.pv_eval.proofs.Wholes.{evaluated, cut_off}
use Rattle.pv_eval.proofs.Handed.{handed_found}
use Rattle.pv_eval.proofs.moment.Moment.hand_next.Goals as goal

pub returns-clause-some : goal.returns-clause-some
returns-clause-some c =
    let u = c.args.unit.now in
    let n = c.args.n in
    let x = expression_at u n in
    let m = c.self.inside in
    let k = c.in_ok-turns.turns in
    let v = found_worth c.in_ok-v.v in
    let z = found_worth c.in_ok-z.z in
    let was : Moment = record { world = m.world; printed = m.printed.items; total = m.total; waiting = m.waiting.items; taken = m.taken; sides = sides_of m.sides } in
    let new : Moment = record { world = m.world; printed = m.printed.items; total = m.total; waiting = m.waiting.items; taken = m.taken + 1 + k; sides = sides_of m.sides } in
    subst (λ (w : Worth). HandedNext u n w c.args.self.now new) (sym c.in_ok-kept.ensures)
    (subst (λ (o : Moment). HandedNext u n z o new) c.self.view_is (record {
      worth = v;
      has = evaluated u n k v (with_turn_taken was) new (performs_plain u m.world m.world x v refl c.in_ok-v.ensures) (turns_plain x k c.in_ok-turns.ensures) refl;
      hands = λ b line out es. handed_found u n c.in_ok-v.v c.in_ok-z.z m.world (out ++ m.printed.items) (es ++ m.waiting.items) (m.taken + 1 + k) b line c.in_ok-z.ensures;
    }))

pub returns-clause-cut : goal.returns-clause-cut
returns-clause-cut c =
    let u = c.args.unit.now in
    let n = c.args.n in
    let x = expression_at u n in
    let m = c.self.inside in
    let k = c.in_ok-turns.turns in
    let v = found_worth c.in_ok-v.v in
    let was : Moment = record { world = m.world; printed = m.printed.items; total = m.total; waiting = m.waiting.items; taken = m.taken; sides = sides_of m.sides } in
    let new : Moment = record { world = m.world; printed = m.printed.items; total = m.total; waiting = m.waiting.items; taken = m.taken + 1 + k; sides = sides_of m.sides } in
    subst (λ (o : Moment). CutNext u n o new) c.self.view_is (cut_off u n k v (with_turn_taken was) new (performs_plain u m.world m.world x v refl c.in_ok-v.ensures) (turns_plain x k c.in_ok-turns.ensures) refl)
