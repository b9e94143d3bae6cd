use Rattle.std.proofs.Common.{◌≡◌, ℕ, ◌+◌, ◌-◌, ◌%◌, ◌<◌, ◌≤◌, List, get_or, IsSomeAnd, sym, subst, arith}
use Rattle.pv_shadow.specs.declared.byte.Byte.{Byte}
use Rattle.pv_shadow.specs.declared.packed.Packed.{Packed}
use Rattle.pv_shadow.specs.Packed.{absent, pair_if, page_bytes}
use Rattle.pv_shadow.specs.Pages.{slot_at}
use Rattle.pv_shadow.proofs.Cells.{marks_seen}
use Rattle.pv_shadow.proofs.page.Page.eight_at.Goals as goal

pub returns-then-head-ge64-clause-marks : goal.returns-then-head-ge64-clause-marks
returns-then-head-ge64-clause-marks c =
    let xs = c.self.inside.slots.value in
    let i = c.args.i in
    let high : 64 ≤ (get_or c.deref.result.now i absent).kind = omega arith in
    let high_inside : 64 ≤ (get_or xs i absent).kind = subst (λ ys. 64 ≤ (get_or ys i absent).kind) c.deref.ensures high in
    rw (← c.self.view_is) (subst (λ (ys : List Packed). (k : ℕ) → k < 8 → IsSomeAnd (slot_at (page_bytes xs) (i + k)) (λ (b : Byte). b.mark ≡ pair_if (((get_or ys i absent).kind - 64) % 2) (get_or ys i absent).mark k)) (sym c.deref.ensures)
    (marks_seen xs i c.requires.first c.requires.within high_inside))
