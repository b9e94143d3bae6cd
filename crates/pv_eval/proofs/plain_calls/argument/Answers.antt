use Rattle.std.proofs.Common.{◌≡◌, ◌+◌, refl, sym, ap, ◌∙◌, subst}
use Rattle.pv_typed.specs.TypedTree.{line_of}
use Rattle.pv_typed.specs.NodeTrees.{expression_at}
use Rattle.pv_world.specs.Worlds.{Worth}
use Rattle.pv_eval.specs.Plainly.{HandsNoting, found_worth}
use Rattle.pv_eval.proofs.Handed.{handed_found}
use Rattle.pv_eval.proofs.PlainCalls.{same_turns}
use Rattle.pv_eval.proofs.plain_calls.argument.Goals as goal

pub returns-clause-some : goal.returns-clause-some
returns-clause-some c =
    let u = c.args.unit.now in
    let a = c.args.a in
    let x = expression_at u a in
    let k = c.in_ok-turns.turns in
    let v = c.in_ok-v.v in
    let z = c.in_ok-z.z in
    let y = c.in_ok-v.ensures in
    let count : y.yields.turns ≡ k = same_turns y.yields.turns k (sym y.yields.are ∙ c.in_ok-turns.ensures) in
    subst (λ (q : Worth). HandsNoting u c.args.world.now x c.args.taken (c.args.taken + k) q c.args.notes.now.items c.value_by.new.notes.items) (sym c.got.ensures) (record {
      worth = found_worth v;
      yields = y.yields;
      are = ap (λ n. c.args.taken + n) (sym count);
      noted = y.noted refl;
      hands = λ b out es n. handed_found u a v z c.args.world.now out es n b (line_of x) c.in_ok-z.ensures;
    })
