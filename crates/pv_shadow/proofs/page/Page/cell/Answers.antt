use Rattle.std.proofs.Common.{◌≡◌, ◌≤◌, get_or, subst, arith}
use Rattle.pv_shadow.specs.Packed.{absent}
use Rattle.pv_shadow.proofs.Cells.{cell_seen}
use Rattle.pv_shadow.proofs.page.Page.cell.Goals as goal

pub returns-then-head-ge64-clause-cell : goal.returns-then-head-ge64-clause-cell
returns-then-head-ge64-clause-cell c =
    let xs = c.self.inside.slots.value in
    let high : 64 ≤ (get_or c.deref.result.now c.args.g absent).kind = omega arith in
    let high_inside : 64 ≤ (get_or xs c.args.g absent).kind = subst (λ ys. 64 ≤ (get_or ys c.args.g absent).kind) c.deref.ensures high in
    let pointer_inside : (get_or xs c.args.g absent).index ≡ 1 = subst (λ ys. (get_or ys c.args.g absent).index ≡ 1) c.deref.ensures c.if-head-ne1.false in
    rw (c.whole.ensures.is, ← c.self.view_is, c.deref-then-head-ge64.ensures, c.name_of.ensures, c.deref.ensures) (cell_seen xs c.args.g c.requires.first c.requires.within high_inside pointer_inside)
