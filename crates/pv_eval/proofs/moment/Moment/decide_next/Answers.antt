use Rattle.std.proofs.Common.{◌++◌, ◌+◌, refl, subst}
use Rattle.pv_typed.specs.NodeTrees.{expression_at}
use Rattle.pv_world.specs.Worths.{truth_int}
use Rattle.pv_eval.specs.Operations.{Tests}
use Rattle.pv_eval.specs.Moments.{Moment, sides_of}
use Rattle.pv_eval.specs.Plainly.{found_worth}
use Rattle.pv_eval.specs.AtOnce.{TestedNext, CutNext, with_turn_taken}
use Rattle.pv_eval.proofs.PlainNumbers.{act_gives}
use Rattle.pv_eval.proofs.PlainStores.{turns_plain, performs_plain}
use Rattle.pv_eval.proofs.Wholes.{evaluated, cut_off}
use Rattle.pv_eval.proofs.moment.Moment.decide_next.Goals as goal

pub returns-clause-some : goal.returns-clause-some
returns-clause-some c =
    let u = c.args.unit.now in
    let n = c.args.n in
    let x = expression_at u n in
    let m = c.self.inside in
    let k = c.in_ok-turns.turns in
    let v = found_worth c.in_ok-v.v in
    let t = c.in_ok-t.t in
    let was : Moment = record { world = m.world; printed = m.printed.items; total = m.total; waiting = m.waiting.items; taken = m.taken; sides = sides_of m.sides } in
    let new : Moment = record { world = m.world; printed = m.printed.items; total = m.total; waiting = m.waiting.items; taken = m.taken + 1 + k; sides = sides_of m.sides } in
    subst (λ (o : Moment). TestedNext u n t o new) c.self.view_is (record {
      worth = v;
      has = evaluated u n k v (with_turn_taken was) new (performs_plain u m.world m.world x v refl c.in_ok-v.ensures) (turns_plain x k c.in_ok-turns.ensures) refl;
      tests = λ b line out es. act_gives m.world (out ++ m.printed.items) (es ++ m.waiting.items) (m.taken + 1 + k) b line (Tests v) (truth_int t) (c.in_ok-t.ensures b);
    })

pub returns-clause-cut : goal.returns-clause-cut
returns-clause-cut c =
    let u = c.args.unit.now in
    let n = c.args.n in
    let x = expression_at u n in
    let m = c.self.inside in
    let k = c.in_ok-turns.turns in
    let v = found_worth c.in_ok-v.v in
    let was : Moment = record { world = m.world; printed = m.printed.items; total = m.total; waiting = m.waiting.items; taken = m.taken; sides = sides_of m.sides } in
    let new : Moment = record { world = m.world; printed = m.printed.items; total = m.total; waiting = m.waiting.items; taken = m.taken + 1 + k; sides = sides_of m.sides } in
    subst (λ (o : Moment). CutNext u n o new) c.self.view_is (cut_off u n k v (with_turn_taken was) new (performs_plain u m.world m.world x v refl c.in_ok-v.ensures) (turns_plain x k c.in_ok-turns.ensures) refl)
