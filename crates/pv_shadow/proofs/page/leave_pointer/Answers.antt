use Rattle.std.proofs.Common.{◌<◌, get_or, refl, inr, arith}
use Rattle.pv_shadow.specs.Packed.{absent, first_of}
use Rattle.pv_shadow.proofs.page.leave_pointer.Goals as goal

pub returns-then-slots-g-ge64-clause-head : goal.returns-then-slots-g-ge64-clause-head
returns-then-slots-g-ge64-clause-head c = let low = c.loosen.ensures.single in omega (arith, low)

pub returns-else-slots-g-ge64-clause-head : goal.returns-else-slots-g-ge64-clause-head
returns-else-slots-g-ge64-clause-head c =
    let low : (get_or c.args.slots.now (first_of c.args.i) absent).kind < 64 = omega arith in
    low

pub returns-else-slots-g-ge64-clause-loosened : goal.returns-else-slots-g-ge64-clause-loosened
returns-else-slots-g-ge64-clause-loosened c = λ q. inr refl
