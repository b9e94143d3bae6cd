use Rattle.std.proofs.Common.{ℕ, true, sym, ap, ◌∙◌, subst}
use Rattle.pv_types.specs.Known.{Known, tree}
use Rattle.pv_world.specs.declared.got.Shape.{Shape}
use Rattle.pv_world.specs.Preconditions.{HasSizeOf}
use Rattle.pv_world.specs.Coming.{worth_of}
use Rattle.pv_eval.specs.TypeForms.{lvalue, shape_of}
use Rattle.pv_eval.specs.Sizes.{setting_of, number_in}
use Rattle.pv_eval.specs.Plainly.{pointer_at}
use Rattle.pv_eval.proofs.Allowing.{permits_kind}
use Rattle.pv_eval.proofs.Settings.{scalar_sized}
use Rattle.pv_eval.proofs.Through.{lvalue_fits}
use Rattle.pv_eval.proofs.PlainStores.{store_given}
use Rattle.pv_eval.proofs.plain_stores.store.Goals as goal

pub store-requires-clause-stored : goal.store-requires-clause-stored
store-requires-clause-stored c =
    let k = c.args.unit.now.known in
    let i = c.args.x.l.t.0 in
    let P : Shape → Type 0 = λ s. HasSizeOf s c.args.x.l.size in
    let Q : ℕ → Type 0 = λ n. HasSizeOf (shape_of (tree k i)) n in
    c.can_write.ensures.stored (subst P (sym c.requires.form) (subst Q (sym c.requires.complete.size) (scalar_sized k (tree k i)))) c.if-not-can_write.false

pub returns-clause-stored : goal.returns-clause-stored
returns-clause-stored c = λ done.
    let u = c.args.unit.now in
    let w = c.args.world.now in
    let i = c.args.x.l.t.0 in
    let t = tree u.known i in
    let permitted =
    permits_kind (setting_of u) w (lvalue (setting_of u) t) c.in-Some.target.reach true c.in-Some.target.kind c.in-Some.ensures.kind
    ∙ (sym c.in-Ok-true.ensures ∙ c.in-Ok-true.field-0-test) in
    store_given u w t (pointer_at c.args.p) c.in-Some.target.reach c.args.v (lvalue_fits u c.args.x.l c.requires.complete) c.args.x.form c.args.x.l.size c.args.x.align c.number-number.result (worth_of c.got-place.result) (worth_of c.got-stored.result) c.store.new.self
    c.requires.form c.requires.complete.size c.requires.align (c.number-number.ensures ∙ ap (λ (m : Known). number_in m (tree m i)) c.types.ensures)
    c.got-place.ensures c.got-stored.ensures c.in-Some.ensures.reached permitted (sym c.can_write.ensures.value ∙ c.if-not-can_write.false) c.store.ensures
