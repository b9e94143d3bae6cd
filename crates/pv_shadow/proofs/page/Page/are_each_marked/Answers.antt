use Rattle.std.proofs.Common.{sym, ap, ◌∙◌, arith}
use Rattle.std.proofs.lemmas.List.{drop_all}
use Rattle.std.proofs.lemmas.Option.{same_Some, none-some}
use Rattle.pv_shadow.specs.Readings.{are_marked}
use Rattle.pv_shadow.proofs.Numbers.{marked_step, marked_stop}
use Rattle.pv_shadow.proofs.page.Page.are_each_marked.Goals as goal

pub returns-in_default : goal.returns-in_default
returns-in_default c = λ bs l f.
    absurd (none-some _ (c.in_default.ensures ∙ f c.loop-k.k (omega (arith, l))))

pub returns-then-not-has_mark : goal.returns-then-not-has_mark
returns-then-not-has_mark c = λ bs l f.
    let k = c.loop-k.k in
    let same = same_Some _ _ (c.in-Some.ensures ∙ f k (omega (arith, l))) in
    marked_stop bs c.args.t k c.in-Some.b (omega (arith, l)) same (sym c.has_mark.ensures ∙ c.if-not-has_mark.true) ∙ c.loop-k.invariant bs l f

pub loop-k-preserved : goal.loop-k-preserved
loop-k-preserved c = λ bs l f.
    let k = c.loop-k.k in
    let same = same_Some _ _ (c.in-Some.ensures ∙ f k (omega (arith, l))) in
    marked_step bs c.args.t k c.in-Some.b (omega (arith, l)) same (sym c.has_mark.ensures ∙ c.if-not-has_mark.false) ∙ c.loop-k.invariant bs l f

pub returns : goal.returns
returns c = λ bs l f.
    sym (ap (λ xs. are_marked xs c.args.t c.loop-k.k) (drop_all c.loop-k.k bs (omega (arith, l)))) ∙ c.loop-k.invariant bs l f
