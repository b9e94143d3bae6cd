use Rattle.std.proofs.Common.{◌≡◌, Some, ap, ◌∙◌, subst, arith}
use Rattle.pv_types.specs.Ty.{ArrayOf}
use Rattle.pv_types.specs.Known.{Known, tree}
use Rattle.pv_typed.specs.TypedUnits.{TypedObject, object_at}
use Rattle.pv_typed.specs.Tables.{whole_unit}
use Rattle.pv_eval.proofs.MemberPlaces.{whole_permits, element_permits}
use Rattle.pv_eval.proofs.permission.is_in_object.Goals as goal

pub stands_at-requires : goal.stands_at-requires
stands_at-requires c = c.requires.complete.some

pub stands_in_element-requires-clause-some : goal.stands_in_element-requires-clause-some
stands_in_element-requires-clause-some c = c.requires.complete.some

pub stands_in_element-requires-clause-size : goal.stands_in_element-requires-clause-size
stands_in_element-requires-clause-size c =
    let size = c.requires.place.size in
    let some = c.requires.place.fills.0 in
    omega (arith, size, some)

pub returns-then-whole-p : goal.returns-then-whole-p
returns-then-whole-p c = λ h.
    let u = c.args.unit.now in
    whole_permits u c.args.p c.args.l.t c.requires.place c.args.o c.args.offset c.args.l.size c.requires.complete.size
    (ap (λ (x : TypedObject). x.t) c.object.ensures.object ∙ ap (tree u.known) c.if-whole-p.true) (c.stands_at.ensures h)

pub returns : goal.returns
returns c = λ h.
    let u = c.args.unit.now in
    let e = c.in-Array-default-Some.element.0 in
    let n = c.in-Array-default-Some.n in
    let array : tree u.known c.object.result.t.0 ≡ ArrayOf (tree u.known e) (Some n) =
    subst (λ (m : Known). tree m c.object.result.t.0 ≡ ArrayOf (tree m e) (Some n)) c.types.ensures (c.in-Array-default-Some.ensures.tree ∙ ap (ArrayOf (tree c.types.result.now e)) c.in-Array-default-Some.field-1-is) in
    let same : (object_at (whole_unit u) c.args.o).t ≡ ArrayOf (tree u.known c.args.p.whole.0) (Some n) =
    ap (λ (x : TypedObject). x.t) c.object.ensures.object ∙ array ∙ ap (λ i. ArrayOf (tree u.known i) (Some n)) c.if-element-p.false in
    element_permits u c.args.p c.args.l.t c.requires.place c.args.o c.args.offset c.args.l.size c.requires.complete.size n same (c.stands_in_element.ensures h)
