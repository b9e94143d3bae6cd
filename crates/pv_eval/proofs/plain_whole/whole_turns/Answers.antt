use Rattle.std.proofs.Common.{◌≡◌, refl, true, ap, ◌∙◌, arith, Some}
use Rattle.pv_typed.specs.NodeTrees.{expression_at}
use Rattle.pv_typed.specs.Plain.{with_own_turn, sum_of_turns, turns_of}
use Rattle.pv_eval.proofs.PlainStores.{plain_whole, root_some}
use Rattle.pv_eval.proofs.plain_whole.whole_turns.Goals as goal

pub returns-in-Assign : goal.returns-in-Assign
returns-in-Assign c =
    let u = c.args.unit.now in
    root_some (expression_at u c.args.n) _ (with_own_turn true (sum_of_turns (turns_of (expression_at u c.in-Assign.a)) (turns_of (expression_at u c.in-Assign.d)))) c.turns_of_both.result c.in-Assign.ensures.form (λ t line turn. refl) c.turns_of_both.ensures

pub returns-in-CompoundAssign : goal.returns-in-CompoundAssign
returns-in-CompoundAssign c =
    let u = c.args.unit.now in
    root_some (expression_at u c.args.n) _ (with_own_turn true (sum_of_turns (turns_of (expression_at u c.in-CompoundAssign.a)) (turns_of (expression_at u c.in-CompoundAssign.d)))) c.turns_of_both-in-CompoundAssign.result c.in-CompoundAssign.ensures.form (λ t line turn. refl) c.turns_of_both-in-CompoundAssign.ensures

pub returns-in-PointerAssign : goal.returns-in-PointerAssign
returns-in-PointerAssign c =
    let u = c.args.unit.now in
    root_some (expression_at u c.args.n) _ (with_own_turn true (sum_of_turns (turns_of (expression_at u c.in-PointerAssign.a)) (turns_of (expression_at u c.in-PointerAssign.d)))) c.turns_of_both-in-PointerAssign.result c.in-PointerAssign.ensures.form (λ t line turn. refl) c.turns_of_both-in-PointerAssign.ensures

pub returns-in-Increment : goal.returns-in-Increment
returns-in-Increment c =
    let u = c.args.unit.now in
    root_some (expression_at u c.args.n) _ (with_own_turn true (turns_of (expression_at u c.in-Increment.a))) c.turns_of_one.result c.in-Increment.ensures.form (λ t line turn. refl) c.turns_of_one.ensures

pub returns-in_ok-turns-in_default : goal.returns-in_ok-turns-in_default
returns-in_ok-turns-in_default c =
    let same : c.in_ok-turns-in_default.turns ≡ c.from.result = omega (arith, c.from.ensures) in
    plain_whole (expression_at c.args.unit.now c.args.n) c.in_ok-turns-in_default.turns c.in_ok-turns-in_default.ensures ∙ ap Some same
