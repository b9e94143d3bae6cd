use Rattle.std.proofs.Common.{◌+◌, ◌-◌, ◌/◌, ap, ◌∙◌, sym, subst, arith}
use Rattle.std.specs.FinMap.{insert}
use Rattle.pv_shadow.specs.Bytes.{Store, with_bytes_at}
use Rattle.pv_shadow.specs.Readings.{HasBytes}
use Rattle.pv_shadow.specs.Whole.{little_endian, number_bytes}
use Rattle.pv_shadow.proofs.Ranges.{has_insert}
use Rattle.pv_shadow.proofs.Numbers.{written_step}
use Rattle.pv_shadow.proofs.bytes.Bytes.put_singly.Goals as goal

pub loop-k-preserved : goal.loop-k-preserved
loop-k-preserved c =
    let P : Store → Type 0 = λ m. HasBytes m c.args.a c.args.n in
    record {
      left = ap (λ m. with_bytes_at m (c.args.a + (c.loop-k.k + 1)) (number_bytes c.args.mark (c.loop-k.k + 1) (little_endian (c.args.n - (c.loop-k.k + 1)) (c.loop-k.rest / 256)))) (c.set.ensures ∙ ap (insert c.loop-k.self (c.args.a + c.loop-k.k)) c.plain_byte.ensures)
          ∙ written_step c.loop-k.self c.args.a c.args.n c.loop-k.k c.loop-k.rest c.args.mark (omega arith) ∙ c.loop-k.invariant.left;
      there = subst P (sym c.set.ensures) (has_insert c.loop-k.self _ _ c.args.a c.args.n c.loop-k.invariant.there);
    }
