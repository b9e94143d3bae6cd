use Rattle.std.proofs.Common.{◌%◌, ◌<◌, ◌≤◌, get_or, refl, sym, ap, subst, ◌∙◌, Some, IfSome, IsSomeAnd, Option, arith}
use Rattle.pv_shadow.specs.declared.byte.Byte.{Byte}
use Rattle.pv_shadow.specs.Packed.{byte_packed, absent, digit_at, first_of, four_of, IsNameless}
use Rattle.pv_shadow.proofs.Cells.{seen_slot, at_loose, loose_number, loose_single}
use Rattle.pv_shadow.proofs.page.Page.nameless_at.Goals as goal

pub returns-then-four-ge48 : goal.returns-then-four-ge48
returns-then-four-ge48 c =
    let xs = c.self.inside.slots.value in
    let i = c.args.i in
    let low : (get_or c.deref.result.now (first_of i) absent).kind < 64 = omega arith in
    let low_inside : (get_or xs (first_of i) absent).kind < 64 = subst (λ ys. (get_or ys (first_of i) absent).kind < 64) c.deref.ensures low in
    let high : 48 ≤ (get_or c.deref-2.result.now (four_of i) absent).kind = omega arith in
    let high_inside : 48 ≤ (get_or xs (four_of i) absent).kind = subst (λ ys. 48 ≤ (get_or ys (four_of i) absent).kind) c.deref-2.ensures high in
    rw (← c.self.view_is) (subst (λ (o : Option Byte). IsSomeAnd o (IsNameless c.digit_at.result)) (sym (seen_slot xs i c.requires ∙ at_loose xs i low_inside ∙ loose_number xs i high_inside))
    (ap Some (sym (c.digit_at.ensures ∙ ap (λ ys. digit_at (get_or ys (four_of i) absent).name (i % 4)) c.deref-2.ensures)), refl))

pub returns-else-four-ge48 : goal.returns-else-four-ge48
returns-else-four-ge48 c =
    let xs = c.self.inside.slots.value in
    let i = c.args.i in
    let low : (get_or c.deref.result.now (first_of i) absent).kind < 64 = omega arith in
    let low_inside : (get_or xs (first_of i) absent).kind < 64 = subst (λ ys. (get_or ys (first_of i) absent).kind < 64) c.deref.ensures low in
    let single : (get_or c.deref-2.result.now (four_of i) absent).kind < 48 = omega arith in
    let single_inside : (get_or xs (four_of i) absent).kind < 48 = subst (λ ys. (get_or ys (four_of i) absent).kind < 48) c.deref-2.ensures single in
    rw (← c.self.view_is) (subst (λ (o : Option Byte). IfSome c.nameless_value.result (λ v. IsSomeAnd o (IsNameless v)))
    (ap (λ ys. byte_packed (get_or ys i absent)) c.deref-else-four-ge48.ensures ∙ sym (seen_slot xs i c.requires ∙ at_loose xs i low_inside ∙ loose_single xs i single_inside)) c.nameless_value.ensures)
