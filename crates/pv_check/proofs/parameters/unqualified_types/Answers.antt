use Rattle.std.proofs.Common.{◌<◌, length, sym, ap, subst, arith, ◌∙◌, rules}
use Rattle.pv_types.specs.Known.{trees, tys_in}
use Rattle.pv_types.specs.Formed.{AllBelow}
use Rattle.pv_check.proofs.TypeLists.{below_push, list_more}
use Rattle.pv_check.proofs.parameters.unqualified_types.Goals as goal

pub loop-i-preserved : goal.loop-i-preserved
loop-i-preserved c =
    let lt : c.loop-i.i < length c.args.ps.now = c.loop-i-test.true in
    let m = c.args.types.now in (
      omega (arith, lt),
      subst (AllBelow (length m.terms)) (sym c.in_ok-push.ensures.items) (below_push (length m.terms) c.loop-i.list.items c.bare-t.result c.loop-i.invariant.1 (search rules)),
      ap (tys_in (trees m)) c.in_ok-push.ensures.items ∙ list_more m c.loop-i.list.items c.bare-t.result c.args.ps.now c.loop-i.i _ lt c.bare-t.ensures.tree c.loop-i.invariant.2,
    )
