use Rattle.std.proofs.Common.{◌∙◌, ap}
use Rattle.pv_shadow.specs.Bytes.{bytes_from}
use Rattle.pv_shadow.specs.Readings.{nameless_number}
use Rattle.pv_object.specs.Memory.{Mem}
use Rattle.pv_eval.proofs.PlainBytes.{plain_number}
use Rattle.pv_eval.proofs.plain_reads.number_at.Goals as goal

pub returns : goal.returns
returns c =
    plain_number c.number.result (bytes_from c.args.world.now.memory.bytes c.args.at.now.address c.args.n)
    (c.number.ensures ∙ ap (λ (m : Mem). nameless_number (bytes_from m.bytes c.args.at.now.address c.args.n)) c.memory.ensures)
