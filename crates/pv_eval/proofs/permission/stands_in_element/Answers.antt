use Rattle.std.proofs.Common.{arith}
use Rattle.pv_eval.proofs.permission.stands_in_element.Goals as goal

pub returns : goal.returns
returns c = λ h.
    record {
      within = omega (arith, c.if-offset-size.false);
      many = omega (arith, c.if-n-gt1048576.false);
      small = omega (arith, c.if-size-gt4096.false);
      stands = c.stands_at.ensures h;
    }
