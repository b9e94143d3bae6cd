use Rattle.std.proofs.Common.{◌≡◌, ◌-◌, ◌%◌, ◌<◌, Option, IsSomeAnd, sym, subst, ◌∙◌}
use Rattle.pv_shadow.specs.declared.byte.Byte.{Byte}
use Rattle.pv_shadow.specs.Packed.{pair_if}
use Rattle.pv_shadow.proofs.Numbers.{eight_marked}
use Rattle.pv_shadow.proofs.page.Page.is_eight_marked.Goals as goal

pub returns-in-Some : goal.returns-in-Some
returns-in-Some c = λ bs l f.
    let n = c.are_eight.ensures.eight c.if-not-are_eight.false in
    let h = c.in-Some.head in
    c.eight_is_marked.ensures
    ∙ eight_marked h bs c.args.t (l ∙ n) (λ k lt. subst (λ (o : Option Byte). IsSomeAnd o (λ (b : Byte). b.mark ≡ pair_if ((h.kind - 64) % 2) h.mark k)) (f k (subst (λ m. k < m) (sym n) lt)) (c.in-Some.ensures.marks k lt))
