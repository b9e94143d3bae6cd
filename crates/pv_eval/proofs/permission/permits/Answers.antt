use Rattle.std.proofs.Common.{◌≡◌, Bool, IfOk, sym, ap, ◌∙◌, subst}
use Rattle.std.specs.Option.{option_map}
use Rattle.pv_inst.specs.declared.values.Info.{Info}
use Rattle.pv_inst.specs.Table.{Table, instance_at}
use Rattle.pv_inst.specs.Infos.{info_of}
use Rattle.pv_object.specs.Memory.{Mem}
use Rattle.pv_types.specs.Known.{tree}
use Rattle.pv_eval.specs.TypeForms.{lvalue}
use Rattle.pv_eval.specs.Sizes.{setting_of}
use Rattle.pv_eval.specs.Plainly.{HasKind}
use Rattle.pv_eval.proofs.Allowing.{permits_kind}
use Rattle.pv_eval.proofs.permission.permits.Goals as goal

pub returns : goal.returns
returns c =
    let w = c.args.world.now in
    let b = setting_of c.args.unit.now in
    let l = lvalue b (tree c.args.unit.now.known c.args.l.t.0) in
    let tables : c.instances.result.now ≡ w.memory.table = c.instances.ensures ∙ ap (λ (m : Mem). m.table) c.memory.ensures in
    let there : HasKind w.memory.table c.args.at.now c.in-Some.x.kind =
    ap (option_map (λ (x : Info). x.kind)) (ap (λ (t : Table). info_of (instance_at t.instances c.args.at.now.inst)) (sym tables) ∙ sym c.info.ensures ∙ c.in-Some.is) in
    subst (λ (q : Bool). IfOk c.permits_in.result (λ p. p ≡ q)) (sym (permits_kind b w l c.args.at.now c.args.write c.in-Some.x.kind there)) c.permits_in.ensures
