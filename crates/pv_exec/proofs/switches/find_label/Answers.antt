use Rattle.std.proofs.Common.{◌+◌, ◌∙◌, sym, arith}
use Rattle.std.specs.Prelude.{slice_index_or}
use Rattle.pv_typed.specs.NodeTrees.{list_at}
use Rattle.pv_exec.specs.Switches.{target}
use Rattle.pv_exec.proofs.Elements.{item-at, items-end}
use Rattle.pv_exec.proofs.Finding.{some-no, some-yes, some-end, at-no, at-yes}
use Rattle.pv_exec.proofs.switches.find_label.Goals as goal

pub returns-then-has_label-clause-some : goal.returns-then-has_label-clause-some
returns-then-has_label-clause-some c =
    let u = c.args.unit.now in
    let l = c.args.l in
    let at = target c.args.label in
    let i = c.items.i in
    let xs = c.children-items.result.now in
    let n = slice_index_or xs i (record { 0 = 0 }) in
    let e = item-at xs (list_at u l) i c.children-items.ensures c.items-test.true in
    let h = sym c.has_label.ensures ∙ c.if-has_label.true in
    record {
      some = c.items.invariant.some ∙ some-yes u l at i (i + 1) n e h;
      from = λ b w s. c.items.invariant.from b w s ∙ at-yes b w u l at i (i + 1) n s e h;
    }

pub items-preserved : goal.items-preserved
items-preserved c =
    let u = c.args.unit.now in
    let l = c.args.l in
    let at = target c.args.label in
    let i = c.items.i in
    let xs = c.children-items.result.now in
    let n = slice_index_or xs i (record { 0 = 0 }) in
    let e = item-at xs (list_at u l) i c.children-items.ensures c.items-test.true in
    let h = sym c.has_label.ensures ∙ c.if-has_label.false in
    record {
      within = omega (arith, c.items-test.true);
      some = c.items.invariant.some ∙ some-no u l at i (i + 1) n e h;
      from = λ b w s. c.items.invariant.from b w s ∙ at-no b w u l at i (i + 1) n s e h;
    }

pub returns-clause-none : goal.returns-clause-none
returns-clause-none c = λ z.
    let u = c.args.unit.now in
    let l = c.args.l in
    let xs = c.children-items.result.now in
    c.items.invariant.some ∙ some-end u l (target c.args.label) c.items.i (items-end xs (list_at u l) c.items.i c.children-items.ensures (omega (arith, c.items-test.false)))
