use Rattle.std.proofs.Common.{sym, subst}
use Rattle.pv_script.specs.Names.{name_at as text_of}
use Rattle.pv_inst.specs.declared.values.Kind.TheVariants.{Heap}
use Rattle.pv_inst.specs.Placing.{Request}
use Rattle.pv_inst.specs.Answers.{IsLive}
use Rattle.pv_object.specs.Memory.{Mem}
use Rattle.pv_libc.proofs.Kept.{created_live}
use Rattle.pv_libc.proofs.heap.requested.Goals as goal

pub returns-in-Ok-push-clause-kept : goal.returns-in-Ok-push-clause-kept
returns-in-Ok-push-clause-kept c = λ k h.
    let P : Mem → Type 0 = λ M. IsLive M.table.instances k in
    let wanted : Request = record { text = text_of c.args.names.now 1; name = 1; size = c.args.size; align = 16; kind = Heap } in
    subst P (sym c.in-Ok.ensures.answer.1) (created_live c.args.memory.now wanted k h)
