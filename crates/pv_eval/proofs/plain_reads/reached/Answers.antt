use Rattle.std.proofs.Common.{◌≡◌, sym, ap, ◌∙◌, arith, true}
use Rattle.std.specs.Prelude.{◌==◌, ◌%◌, if◌then◌else◌}
use Rattle.std.specs.Option.{option_map}
use Rattle.pv_inst.specs.declared.values.Info.{Info}
use Rattle.pv_inst.specs.Table.{Table, instance_at}
use Rattle.pv_inst.specs.Infos.{info_of}
use Rattle.pv_object.specs.Memory.{Mem}
use Rattle.pv_eval.proofs.PlainReads.{has_reached}
use Rattle.pv_eval.proofs.plain_reads.reached.Goals as goal

pub returns-clause-reached : goal.returns-clause-reached
returns-clause-reached c =
    let T = c.args.world.now.memory.table in
    let i = c.args.p.inst in
    let a = c.args.p.address in
    let n = c.args.n in
    let tables : c.instances.result.now ≡ T = c.instances.ensures ∙ ap (λ (m : Mem). m.table) c.memory.ensures in
    let aligned : (a % c.args.align == 0) ≡ true = sym c.is_multiple.ensures ∙ c.if-not-is_multiple.false in
    has_reached T i a n c.args.align c.in_ok-x.x (ap (λ (t : Table). info_of (instance_at t.instances i)) (sym tables) ∙ sym c.info.ensures ∙ c.in_ok-x.was)
    (omega (arith, c.if-p-x.false)) (omega (arith, c.if-p-x.false, c.if-offset-x.false, c.if-n-x.false)) (ap (λ b. if b then n == 0 else true) (sym c.is_function.ensures ∙ c.if-is_function.false)) aligned c.args.write (sym c.is_stopped.ensures ∙ c.if-is_stopped.false)

pub returns-clause-kind : goal.returns-clause-kind
returns-clause-kind c =
    let T = c.args.world.now.memory.table in
    let tables : c.instances.result.now ≡ T = c.instances.ensures ∙ ap (λ (m : Mem). m.table) c.memory.ensures in
    ap (option_map (λ (x : Info). x.kind)) (ap (λ (t : Table). info_of (instance_at t.instances c.args.p.inst)) (sym tables) ∙ sym c.info.ensures ∙ c.in_ok-x.was)
