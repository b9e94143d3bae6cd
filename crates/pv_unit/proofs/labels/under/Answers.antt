use Rattle.std.proofs.Common.{rules, ◌≡◌, ◌∙◌, ◌<◌, arith}
use Rattle.pv_typed.specs.NodeTrees.{statement_at}
use Rattle.pv_typed.specs.TypedStatement as typed
use Rattle.pv_unit.proofs.LabelRows.{case_step, default_step}
use Rattle.pv_unit.proofs.Moving.{moves_on}
use Rattle.pv_unit.proofs.labels.under.Goals as goal

pub loop-at-preserved-in_ok-node-in-Case : goal.loop-at-preserved-in_ok-node-in-Case
loop-at-preserved-in_ok-node-in-Case c =
    let first = c.args.into.now in
    let now = c.loop-at.into in
    let new = c.add.new.into in
    let above : c.args.from < c.loop-at.at = c.loop-at-test.true in
    let positive : 0 < c.loop-at.at = omega (arith, above) in
    let le = c.loop-at.invariant.1 in
    let tree : statement_at new c.in_ok-node-in-Case.node ≡ typed.Case c.in-Case.line c.in-Case.value (statement_at now c.loop-at.node) = search rules in (
      c.in_ok-node-in-Case.ensures.there,
      omega (arith, le),
      omega (arith, above),
      tree ∙ case_step c.args.labels.now c.loop-at.at c.in-Case.line c.in-Case.value _ (statement_at first c.args.body) (statement_at now c.loop-at.node) positive le c.in-Case.is c.loop-at.invariant.3,
      λ texts. c.in_ok-node-in-Case.ensures.state texts ∙ c.loop-at.invariant.4 texts,
      moves_on first now new c.args.s.now c.args.s.now c.args.s.now c.loop-at.invariant.5 c.in_ok-node-in-Case.ensures.moves,
    )

pub loop-at-preserved : goal.loop-at-preserved
loop-at-preserved c =
    let first = c.args.into.now in
    let now = c.loop-at.into in
    let new = c.add-in-Default.new.into in
    let above : c.args.from < c.loop-at.at = c.loop-at-test.true in
    let positive : 0 < c.loop-at.at = omega (arith, above) in
    let le = c.loop-at.invariant.1 in (
      c.in_ok-node-in-Default.ensures.there,
      omega (arith, le),
      omega (arith, above),
      c.in_ok-node-in-Default.ensures.tree ∙ default_step c.args.labels.now c.loop-at.at c.in-Default.line _ (statement_at first c.args.body) (statement_at now c.loop-at.node) positive le c.in-Default.is c.loop-at.invariant.3,
      λ texts. c.in_ok-node-in-Default.ensures.state texts ∙ c.loop-at.invariant.4 texts,
      moves_on first now new c.args.s.now c.args.s.now c.args.s.now c.loop-at.invariant.5 c.in_ok-node-in-Default.ensures.moves,
    )
