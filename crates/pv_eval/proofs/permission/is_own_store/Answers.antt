use Rattle.std.proofs.Common.{◌∙◌, sym, ap}
use Rattle.pv_shadow.specs.Bytes.{bytes_from}
use Rattle.pv_shadow.specs.Readings.{are_marked}
use Rattle.pv_shadow.proofs.Ranges.{length-read}
use Rattle.pv_object.specs.Memory.{Mem}
use Rattle.pv_eval.proofs.OwnMarks.{own_store}
use Rattle.pv_eval.proofs.permission.is_own_store.Goals as goal

pub returns : goal.returns
returns c = λ h.
    let m = c.args.unit.now.known in
    let i = c.args.want.0 in
    let w = c.args.world.now in
    let a = c.args.at.now.address in
    let n = c.args.size in
    own_store m i (bytes_from w.memory.bytes a n) c.is_bare_scalar.ensures.built c.requires.want (c.is_bare_scalar.ensures.scalar c.if-not-is_bare_scalar.false)
    (length-read w.memory.bytes a n ∙ c.requires.size)
    (ap (λ (x : Mem). are_marked (bytes_from x.bytes a n) i 0) (sym c.memory.ensures) ∙ sym c.is_marked.ensures ∙ h)
