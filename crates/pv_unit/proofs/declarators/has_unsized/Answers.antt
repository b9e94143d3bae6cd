use Rattle.std.proofs.Common.{rules, ◌≡◌, ◌<◌, length, get_or, true, false, ◌∙◌, sym, arith}
use Rattle.pv_types.specs.Known.{Known}
use Rattle.pv_check.specs.Stepping.{step_in}
use Rattle.pv_unit.specs.Declarations.{is_unsized}
use Rattle.pv_unit.proofs.DeclaredRows.{no_step, unsized_at, unsized_next}
use Rattle.pv_unit.proofs.declarators.has_unsized.Goals as goal

pub returns-then-is_unsized : goal.returns-then-is_unsized
returns-then-is_unsized c = λ (m : Known).
    let lt : c.loop-x.x-index < length c.args.steps.now = omega arith in
    let here : is_unsized (step_in m (get_or c.args.steps.now c.loop-x.x-index no_step)) ≡ true = search rules in
    sym (c.loop-x.invariant m) ∙ unsized_at m c.args.steps.now c.loop-x.x-index lt here

pub loop-x-preserved : goal.loop-x-preserved
loop-x-preserved c = λ (m : Known).
    let lt : c.loop-x.x-index < length c.args.steps.now = omega arith in
    let here : is_unsized (step_in m (get_or c.args.steps.now c.loop-x.x-index no_step)) ≡ false = search rules in
    unsized_next m c.args.steps.now c.loop-x.x-index lt here ∙ c.loop-x.invariant m
