use Rattle.std.proofs.Common.{◌≡◌, length, ap, ◌∙◌, arith}
use Rattle.pv_shadow.specs.Bytes.{bytes_from}
use Rattle.pv_shadow.proofs.Ranges.{read_is}
use Rattle.pv_shadow.proofs.bytes.Bytes.read_singly.Goals as goal

pub returns : goal.returns
returns c =
    let l : length c.loop-i.into ≡ length c.args.into.now = c.loop-i.auto.into in
    read_is c.args.self.now c.args.a c.loop-i.into (λ k h. c.loop-i.invariant k (omega arith)) ∙ ap (bytes_from c.args.self.now c.args.a) l
