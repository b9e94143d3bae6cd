use Rattle.std.proofs.Common.{◌≡◌, ◌≤◌, ◌+◌, ◌-◌, ℤ, sym, ap, ◌∙◌, arith}
use Rattle.pv_object.specs.declared.values.Value.TheVariants as value
use Rattle.pv_libc.specs.declared.values.Reply.{Reply}
use Rattle.pv_libc.specs.declared.values.Reply.TheVariants as reply
use Rattle.pv_libc.specs.Steps.{answer_now, with_notes}
use Rattle.pv_libc.specs.Blocks.{difference}
use Rattle.pv_libc.specs.Ahead.{sign_or}
use Rattle.pv_libc.proofs.Rows.{row_at, digits_plain, more_plain, rows_plain, difference_from, difference_on, difference_done, sign_last}
use Rattle.pv_libc.proofs.known.plain_difference.Goals as goal

pub loop-i-init : goal.loop-i-init
loop-i-init c = record {
  few = omega arith;
  one = λ j lt. absurd (omega (arith, lt));
  other = λ j lt. absurd (omega (arith, lt));
  same = difference_from c.args.memory.now.bytes c.args.a c.args.b c.args.n;
}

pub loop-i-preserved : goal.loop-i-preserved
loop-i-preserved c =
    let m = c.args.memory.now.bytes in
    let i = c.loop-i.i in
    let a = c.args.a in
    let b = c.args.b in
    let n = c.args.n in
    let k = c.in_both-few.result in
    let x = c.in_ok-x.x in
    let y = c.in_ok-y.y in
    let decided = c.loop-i.decided in
    let within : k ≤ n - i = c.in_both-few.ensures.few in
    record {
      few = omega (arith, within, c.loop-i.invariant.few);
      one = more_plain m a i k c.loop-i.invariant.one (digits_plain m (a + i) k x c.in_ok-x.ensures);
      other = more_plain m b i k c.loop-i.invariant.other (digits_plain m (b + i) k y c.in_ok-y.ensures);
      same =
          c.deciding_number-decided.ensures (difference (row_at m (a + (i + k)) (n - (i + k))) (row_at m (b + (i + k)) (n - (i + k))))
          ∙ ap (sign_or decided.left decided.right) (sym (difference_on m a b n i k x y within c.in_ok-x.ensures c.in_ok-y.ensures))
          ∙ c.loop-i.invariant.same;
    }

pub returns : goal.returns
returns c = λ p q notes.
    let M = c.args.memory.now in
    let m = M.bytes in
    let i = c.loop-i.i in
    let a = c.args.a in
    let b = c.args.b in
    let n = c.args.n in
    let decided = c.loop-i.decided in
    let over : n ≤ i = omega arith in
    let is : difference (row_at m a n) (row_at m b n) ≡ sign_or decided.left decided.right (difference (row_at m (a + i) (n - i)) (row_at m (b + i) (n - i))) = sym c.loop-i.invariant.same in
    rows_plain M a b n (c.is_told.ensures c.if-not-is_told.false)
    (λ j l. c.loop-i.invariant.one j (omega (arith, l, over))) (λ j l. c.loop-i.invariant.other j (omega (arith, l, over))) p q notes
    ∙ ap (λ (z : ℤ). answer_now (reply.Value (value.Int z)) (with_notes M notes)) (is ∙ ap (sign_or decided.left decided.right) (difference_done m a b n i over) ∙ sign_last decided.left decided.right)
    ∙ ap (λ (r : Reply). answer_now r (with_notes M notes)) (sym c.sign_of.ensures)
