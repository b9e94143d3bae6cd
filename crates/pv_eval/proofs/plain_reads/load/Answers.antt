use Rattle.std.proofs.Common.{false, refl, sym, ◌∙◌, pos}
use Rattle.pv_num.specs.Kinds.{convert_of}
use Rattle.pv_types.specs.Known.{tree}
use Rattle.pv_eval.specs.TypeForms.{lvalue}
use Rattle.pv_eval.specs.Sizes.{setting_of}
use Rattle.pv_eval.specs.Plainly.{pointer_at}
use Rattle.pv_eval.proofs.Allowing.{permits_kind}
use Rattle.pv_eval.proofs.Through.{lvalue_fits}
use Rattle.pv_eval.proofs.PlainReads.{read_some}
use Rattle.pv_eval.proofs.plain_reads.load.Goals as goal

pub returns : goal.returns
returns c =
    let u = c.args.unit.now in
    let w = c.args.world.now in
    let t = tree u.known c.args.x.l.t.0 in
    let permitted =
    permits_kind (setting_of u) w (lvalue (setting_of u) t) c.in_ok-target.target.reach false c.in_ok-target.target.kind c.in_ok-target.ensures.kind
    ∙ (sym c.in-Ok-true.ensures ∙ c.in-Ok-true.field-0-test) in
    read_some u w t c.args.kind (pointer_at c.args.p) c.in_ok-target.target.reach c.args.x.l.size c.args.x.align c.in_ok-number.number (convert_of c.args.kind (pos c.in_ok-number.number)) c.valued.result c.requires.form
    (lvalue_fits u c.args.x.l c.requires.complete) c.requires.complete.size c.requires.align c.in_ok-target.ensures.reached permitted (c.is_told.ensures c.if-not-is_told.false) c.in_ok-number.ensures (sym c.traps.ensures ∙ c.if-traps.false)
    refl c.valued.ensures
