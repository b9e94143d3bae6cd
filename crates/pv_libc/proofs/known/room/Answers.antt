use Rattle.std.proofs.Common.{◌≡◌, sym, ap, ◌∙◌, subst, arith, true, Some}
use Rattle.std.specs.Prelude.{◌==◌, if◌then◌else◌}
use Rattle.pv_inst.specs.Table.{Table, instance_at}
use Rattle.pv_inst.specs.Infos.{info_of}
use Rattle.pv_inst.specs.WellFormed.{IsWellFormed}
use Rattle.pv_libc.proofs.Ahead.{told_upto}
use Rattle.pv_libc.proofs.known.room.Goals as goal

pub returns : goal.returns
returns c =
    let T = c.args.memory.now.table in
    let i = c.in-Inst.number in
    let x = c.in_ok-x.x in
    let there : info_of (instance_at T.instances i) ≡ Some x = ap (λ (t : Table). info_of (instance_at t.instances i)) (sym c.instances-table.ensures) ∙ sym c.info.ensures ∙ c.in_ok-x.was in
    let within = told_upto T i x (subst IsWellFormed c.instances-table.ensures c.well_formed-2.ensures) there in
    record {
      number = i;
      info = x;
      name = c.in-Inst.is;
      there = there;
      holding = ap (λ b. if b then 1 == 0 else true) (sym c.is_function.ensures ∙ c.if-is_function.false);
      from = omega (arith, c.if-p-x.false);
      upto = omega (arith, c.if-p-x.false, c.if-offset-x.false);
      far = omega (arith, within, c.if-p-x.false, c.if-offset-x.false);
      few = omega (arith, c.most.ensures);
    }
