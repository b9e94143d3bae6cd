use Rattle.std.proofs.Common.{◌≡◌, ℕ, false, List, IfSome, nat_cmp, subst}
use Rattle.std.specs.List.{slice_get}
use Rattle.std.specs.Ordering.{is_gt}
use Rattle.pv_inst.proofs.Index.{is_less, not_more, is_up_to}
use Rattle.pv_inst.proofs.places.first_within.Goals as goal

pub returns-in-Some-clause-least : goal.returns-in-Some-clause-least
returns-in-Some-clause-least c = λ q from end known.
    let P : List (ℕ × ℕ) → Type 0 = λ es. IfSome (slice_get es 0) (λ e. is_gt (nat_cmp e.0 q) ≡ false) in
    let first = (c.range.ensures.in_range tt).2 q (is_up_to c.args.from q from, is_less q c.args.end end) known in
    not_more c.in-Some.base.now q (subst P c.in-Some.ensures.steps first)
