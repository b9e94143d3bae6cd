use Rattle.std.proofs.Common.{◌+◌, ◌<◌, ◌≤◌, get_or, Some, sym, ap, subst, ◌∙◌, arith}
use Rattle.pv_shadow.specs.Packed.{absent, first_of, number_byte}
use Rattle.pv_shadow.proofs.Cells.{seen_slot, number_at}
use Rattle.pv_shadow.proofs.page.Page.four_at.Goals as goal

pub returns-then-four-ge48-clause-bytes : goal.returns-then-four-ge48-clause-bytes
returns-then-four-ge48-clause-bytes c =
    let xs = c.self.inside.slots.value in
    let i = c.args.i in
    let low : (get_or c.deref.result.now (first_of i) absent).kind < 64 = omega arith in
    let low_inside : (get_or xs (first_of i) absent).kind < 64 = subst (λ ys. (get_or ys (first_of i) absent).kind < 64) c.deref.ensures low in
    let high : 48 ≤ (get_or c.deref-2.result.now i absent).kind = omega arith in
    let high_inside : 48 ≤ (get_or xs i absent).kind = subst (λ ys. 48 ≤ (get_or ys i absent).kind) c.deref-2.ensures high in
    rw (← c.self.view_is) (λ k h. seen_slot xs (i + k) (omega (arith, h, c.requires.first, c.requires.within)) ∙ number_at xs i k c.requires.first h low_inside high_inside
    ∙ sym (ap (λ ys. Some (number_byte (get_or ys i absent) k)) c.deref-2.ensures))
