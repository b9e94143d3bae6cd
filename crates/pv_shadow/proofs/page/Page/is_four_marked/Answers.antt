use Rattle.std.proofs.Common.{◌∙◌, sym, subst, ◌<◌}
use Rattle.pv_shadow.proofs.Numbers.{four_marked}
use Rattle.pv_shadow.proofs.page.Page.is_four_marked.Goals as goal

pub returns-in-Some : goal.returns-in-Some
returns-in-Some c = λ bs l f.
    let n = c.are_four.ensures.four c.if-not-are_four.false in
    c.number_is_marked.ensures
    ∙ four_marked c.in-Some.four bs c.args.t (l ∙ n) (λ k h. sym (c.in-Some.ensures.bytes k h) ∙ f k (subst (λ m. k < m) (sym n) h))
