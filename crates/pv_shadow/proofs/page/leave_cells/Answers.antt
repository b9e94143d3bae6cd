use Rattle.std.proofs.Common.{◌∙◌, arith}
use Rattle.pv_shadow.specs.Packed.{first_of}
use Rattle.pv_shadow.proofs.Cells.{still_low, loosened_twice}
use Rattle.pv_shadow.proofs.page.leave_cells.Goals as goal

pub returns-clause-same : goal.returns-clause-same
returns-clause-same c = c.leave_number.ensures.same ∙ c.leave_pointer.ensures.same

pub returns-clause-head : goal.returns-clause-head
returns-clause-head c = still_low c.leave_pointer.new.slots c.leave_number.new.slots (first_of c.args.i) 64 (omega arith) c.leave_number.ensures.loosened c.leave_pointer.ensures.head

pub returns-clause-loosened : goal.returns-clause-loosened
returns-clause-loosened c = loosened_twice c.args.slots.now c.leave_pointer.new.slots c.leave_number.new.slots c.leave_pointer.ensures.loosened c.leave_number.ensures.loosened
