use Rattle.std.proofs.Common.{◌+◌, drop, length, ap, ◌∙◌, sym, subst, arith}
use Rattle.pv_shadow.specs.Bytes.{Store, with_bytes_at}
use Rattle.pv_shadow.specs.Readings.{HasBytes}
use Rattle.pv_shadow.proofs.Ranges.{written-more, has_insert}
use Rattle.pv_shadow.proofs.bytes.Bytes.write_singly.Goals as goal

pub loop-i-preserved : goal.loop-i-preserved
loop-i-preserved c =
    let P : Store → Type 0 = λ m. HasBytes m c.args.a (length c.args.from.now) in
    record {
      rest = ap (λ m. with_bytes_at m (c.args.a + (c.loop-i.i + 1)) (drop (c.loop-i.i + 1) c.args.from.now)) c.set.ensures
          ∙ written-more c.loop-i.self c.args.a c.loop-i.i c.args.from.now _ (omega arith) ∙ c.loop-i.invariant.rest;
      there = subst P (sym c.set.ensures) (has_insert c.loop-i.self _ _ c.args.a (length c.args.from.now) c.loop-i.invariant.there);
    }
