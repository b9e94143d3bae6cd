use Rattle.std.proofs.Common.{◌-◌, ◌%◌, sym, ◌∙◌, arith}
use Rattle.std.proofs.lemmas.Bool.{eqb-true}
use Rattle.pv_eval.proofs.permission.stands_at.Goals as goal

pub returns : goal.returns
returns c = λ h.
    record {
      low = omega (arith, c.if-offset-start.false);
      within = omega (arith, c.if-offset-start.false, c.if-past-length.false);
      begins = eqb-true ((c.args.offset - c.args.p.start) % c.args.width) 0 (sym c.is_multiple.ensures ∙ h);
    }
