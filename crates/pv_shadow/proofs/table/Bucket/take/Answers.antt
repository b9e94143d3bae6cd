use Rattle.std.proofs.Common.{IsSome, ap, sym, subst, ◌∙◌}
use Rattle.pv_shadow.specs.declared.table.Bucket.{Bucket}
use Rattle.pv_shadow.specs.Buckets.{page_in}
use Rattle.pv_shadow.proofs.Buckets.{taken_is}
use Rattle.pv_shadow.proofs.table.Bucket.take.Goals as goal

pub returns-in-Taken-clause-value : goal.returns-in-Taken-clause-value
returns-in-Taken-clause-value c = λ k there.
    let P : Bucket → Type 0 = λ w. IsSome (page_in w k) in
    sym (taken_is c.in-Taken.field-0 k c.in-Taken.page (subst P (sym c.in-Taken.ensures.value) there)) ∙ ap (λ w. page_in w k) c.in-Taken.ensures.value
