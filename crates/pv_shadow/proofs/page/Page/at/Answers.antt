use Rattle.std.proofs.Common.{◌+◌, ◌%◌, ◌<◌, ◌≤◌, get_or, Some, sym, ap, subst, ◌∙◌, arith}
use Rattle.pv_shadow.specs.Packed.{byte_packed, absent, cell_byte, number_byte, first_of, four_of}
use Rattle.pv_shadow.proofs.Cells.{seen_slot, at_cell, at_loose, loose_number, loose_single}
use Rattle.pv_shadow.proofs.page.Page.at.Goals as goal

pub returns-then-head-ge64 : goal.returns-then-head-ge64
returns-then-head-ge64 c =
    let xs = c.self.inside.slots.value in
    let i = c.args.i in
    let high : 64 ≤ (get_or c.deref.result.now (first_of i) absent).kind = omega arith in
    let high_inside : 64 ≤ (get_or xs (first_of i) absent).kind = subst (λ ys. 64 ≤ (get_or ys (first_of i) absent).kind) c.deref.ensures high in
    rw (← c.self.view_is) (ap Some (c.cell_byte.ensures
    ∙ ap (λ ys. cell_byte (get_or ys (first_of i) absent) (get_or c.deref-then-head-ge64.result.now (first_of i + 1) absent).name (i % 8)) c.deref.ensures
    ∙ ap (λ ys. cell_byte (get_or xs (first_of i) absent) (get_or ys (first_of i + 1) absent).name (i % 8)) c.deref-then-head-ge64.ensures)
    ∙ sym (seen_slot xs i c.requires ∙ at_cell xs i high_inside))

pub returns-then-four-ge48 : goal.returns-then-four-ge48
returns-then-four-ge48 c =
    let xs = c.self.inside.slots.value in
    let i = c.args.i in
    let low : (get_or c.deref.result.now (first_of i) absent).kind < 64 = omega arith in
    let low_inside : (get_or xs (first_of i) absent).kind < 64 = subst (λ ys. (get_or ys (first_of i) absent).kind < 64) c.deref.ensures low in
    let high : 48 ≤ (get_or c.deref-2.result.now (four_of i) absent).kind = omega arith in
    let high_inside : 48 ≤ (get_or xs (four_of i) absent).kind = subst (λ ys. 48 ≤ (get_or ys (four_of i) absent).kind) c.deref-2.ensures high in
    rw (← c.self.view_is) (ap Some (c.number_byte.ensures ∙ ap (λ ys. number_byte (get_or ys (four_of i) absent) (i % 4)) c.deref-2.ensures)
    ∙ sym (seen_slot xs i c.requires ∙ at_loose xs i low_inside ∙ loose_number xs i high_inside))

pub returns-else-four-ge48 : goal.returns-else-four-ge48
returns-else-four-ge48 c =
    let xs = c.self.inside.slots.value in
    let i = c.args.i in
    let low : (get_or c.deref.result.now (first_of i) absent).kind < 64 = omega arith in
    let low_inside : (get_or xs (first_of i) absent).kind < 64 = subst (λ ys. (get_or ys (first_of i) absent).kind < 64) c.deref.ensures low in
    let single : (get_or c.deref-2.result.now (four_of i) absent).kind < 48 = omega arith in
    let single_inside : (get_or xs (four_of i) absent).kind < 48 = subst (λ ys. (get_or ys (four_of i) absent).kind < 48) c.deref-2.ensures single in
    rw (← c.self.view_is) (c.unpack.ensures ∙ ap (λ ys. byte_packed (get_or ys i absent)) c.deref-else-four-ge48.ensures
    ∙ sym (seen_slot xs i c.requires ∙ at_loose xs i low_inside ∙ loose_single xs i single_inside))
