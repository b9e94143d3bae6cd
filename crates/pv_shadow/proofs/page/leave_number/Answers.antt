use Rattle.std.proofs.Common.{◌≡◌, ◌<◌, get_or, refl, subst, inr, arith}
use Rattle.pv_shadow.specs.Packed.{absent, first_of, four_of}
use Rattle.pv_shadow.proofs.page.leave_number.Goals as goal

pub returns-then-slots-f-ge48-clause-single : goal.returns-then-slots-f-ge48-clause-single
returns-then-slots-f-ge48-clause-single c = c.loosen_number.ensures.single

pub returns-else-slots-f-ge48-clause-single : goal.returns-else-slots-f-ge48-clause-single
returns-else-slots-f-ge48-clause-single c =
    let low : (get_or c.args.slots.now (four_of c.args.i) absent).kind < 48 = omega arith in
    low

pub returns-else-slots-f-ge48-clause-loosened : goal.returns-else-slots-f-ge48-clause-loosened
returns-else-slots-f-ge48-clause-loosened c = λ q. inr refl

pub loosen_number-requires-clause-head : goal.loosen_number-requires-clause-head
loosen_number-requires-clause-head c =
    let e : first_of c.args.i ≡ first_of (four_of c.args.i) = omega arith in
    subst (λ j. (get_or c.args.slots.now j absent).kind < 64) e c.requires.head
