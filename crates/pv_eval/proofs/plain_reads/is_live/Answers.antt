use Rattle.std.proofs.Common.{◌≡◌, sym, ap, ◌∙◌}
use Rattle.pv_inst.specs.Table.{Table, instance_at}
use Rattle.pv_inst.specs.Infos.{info_of}
use Rattle.pv_object.specs.Memory.{Mem}
use Rattle.pv_eval.proofs.PlainPointers.{live_used, live_is_known}
use Rattle.pv_eval.proofs.plain_reads.is_live.Goals as goal

pub returns-clause-used : goal.returns-clause-used
returns-clause-used c = λ e.
    let T = c.args.world.now.memory.table in
    let tables : c.instances.result.now ≡ T = c.instances.ensures ∙ ap (λ (m : Mem). m.table) c.memory.ensures in
    live_used T c.args.inst c.info.result (c.info.ensures ∙ ap (λ (t : Table). info_of (instance_at t.instances c.args.inst)) tables) (sym c.is_some.ensures ∙ e)

pub returns-clause-known : goal.returns-clause-known
returns-clause-known c = λ e.
    let T = c.args.world.now.memory.table in
    let tables : c.instances.result.now ≡ T = c.instances.ensures ∙ ap (λ (m : Mem). m.table) c.memory.ensures in
    live_is_known T c.args.inst c.info.result (c.info.ensures ∙ ap (λ (t : Table). info_of (instance_at t.instances c.args.inst)) tables) (sym c.is_some.ensures ∙ e)
