use Rattle.std.proofs.Common.{◌∙◌, false, sym, ap}
use Rattle.pv_shadow.specs.Bytes.{bytes_from}
use Rattle.pv_object.specs.Loads.{whole_pointer}
use Rattle.pv_object.specs.Memory.{Mem}
use Rattle.pv_types.specs.Known.{tree}
use Rattle.pv_eval.specs.TypeForms.{lvalue}
use Rattle.pv_eval.specs.Sizes.{setting_of}
use Rattle.pv_eval.specs.Plainly.{pointer_at}
use Rattle.pv_eval.proofs.Allowing.{permits_kind}
use Rattle.pv_eval.proofs.Through.{lvalue_fits}
use Rattle.pv_eval.proofs.PlainPointers.{pointer_some}
use Rattle.pv_eval.proofs.plain_reads.load_pointer.Goals as goal

pub returns : goal.returns
returns c =
    let u = c.args.unit.now in
    let w = c.args.world.now in
    let t = tree u.known c.args.x.l.t.0 in
    let permitted =
    permits_kind (setting_of u) w (lvalue (setting_of u) t) c.in_ok-target.target.reach false c.in_ok-target.target.kind c.in_ok-target.ensures.kind
    ∙ (sym c.in-Ok-true.ensures ∙ c.in-Ok-true.field-0-test) in
    pointer_some u w t (pointer_at c.args.p) c.in_ok-target.target.reach 8 c.args.x.align c.in_ok-there.there c.pointed.result c.requires.form (lvalue_fits u c.args.x.l c.requires.complete)
    (sym c.if-x-ne8.false ∙ c.requires.complete.size) c.requires.align c.in_ok-target.ensures.reached permitted (c.is_told.ensures c.if-not-is_told.false)
    (ap (λ (m : Mem). whole_pointer (bytes_from m.bytes c.in_ok-target.target.reach.address 8)) (sym c.memory.ensures) ∙ sym c.whole_pointer.ensures.answer ∙ c.in_ok-there.was)
    c.pointed.ensures.value c.pointed.ensures.looked
