use Rattle.std.proofs.Common.{◌+◌, ◌≤◌, List, get_or, sym, subst, arith}
use Rattle.pv_shadow.specs.declared.packed.Packed.{Packed}
use Rattle.pv_shadow.specs.Packed.{absent, page_bytes, IsNumber}
use Rattle.pv_shadow.proofs.Cells.{eight_seen}
use Rattle.pv_shadow.proofs.page.Page.eight_number.Goals as goal

pub returns-clause-number : goal.returns-clause-number
returns-clause-number c =
    let xs = c.self.inside.slots.value in
    let i = c.args.i in
    let high : 64 ≤ (get_or c.deref.result.now i absent).kind = omega arith in
    let low : (get_or c.deref.result.now i absent).kind ≤ 65 = omega arith in
    let high_inside : 64 ≤ (get_or xs i absent).kind = subst (λ ys. 64 ≤ (get_or ys i absent).kind) c.deref.ensures high in
    let low_inside : (get_or xs i absent).kind ≤ 65 = subst (λ ys. (get_or ys i absent).kind ≤ 65) c.deref.ensures low in
    rw (c.whole_number.ensures.is, ← c.self.view_is) (subst (λ (ys : List Packed). IsNumber (page_bytes xs) i 8 (get_or ys (i + 1) absent).name) (sym c.deref-2.ensures)
    (eight_seen xs i c.requires.first c.requires.within high_inside low_inside))
