use Rattle.std.proofs.Common.{◌≡◌, sym, ap, ◌∙◌, arith, w64}
use Rattle.std.proofs.lemmas.Int.{to_z-of_z}
use Rattle.pv_inst.specs.Table.{Table, instance_at}
use Rattle.pv_inst.specs.Infos.{info_of}
use Rattle.pv_object.specs.Memory.{Mem}
use Rattle.pv_object.specs.OperationParts.{address_on}
use Rattle.pv_eval.proofs.PlainPlaces.{has_moved}
use Rattle.pv_eval.proofs.plain_places.shifted.Goals as goal

pub returns : goal.returns
returns c = λ k.
    let T = c.args.world.now.memory.table in
    let i = c.args.p.inst in
    let tables : c.instances.result.now ≡ T = c.instances.ensures ∙ ap (λ (m : Mem). m.table) c.memory.ensures in
    has_moved T i c.args.p.address c.in_ok-address.address c.args.by c.in_ok-x.x k (ap (λ (t : Table). info_of (instance_at t.instances i)) (sym tables) ∙ sym c.info.ensures ∙ c.in_ok-x.was)
    (ap (address_on c.args.p.address) (sym (to_z-of_z w64 c.args.by c.ranges.by)) ∙ c.in_ok-address.ensures) (omega (arith, c.if-address-x.false)) (omega (arith, c.if-address-x.false, c.if-address-x-2.false))
