use Rattle.std.proofs.Common.{refl, inl, inr, arith}
use Rattle.pv_shadow.proofs.page.part.Goals as goal

pub returns-then-i-eq0-clause-parted : goal.returns-then-i-eq0-clause-parted
returns-then-i-eq0-clause-parted c = (inl (omega arith), inl (omega arith))

pub returns-then-i-eq0-clause-loosened : goal.returns-then-i-eq0-clause-loosened
returns-then-i-eq0-clause-loosened c = λ q. inr refl

pub returns-then-i-eq0-2-clause-parted : goal.returns-then-i-eq0-2-clause-parted
returns-then-i-eq0-2-clause-parted c = (inr c.leave_pointer.ensures.head, inl (omega arith))

pub returns-clause-parted : goal.returns-clause-parted
returns-clause-parted c = (inr c.leave_cells.ensures.head, inr c.leave_cells.ensures.single)
