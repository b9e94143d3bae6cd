use Rattle.std.proofs.Common.{◌≡◌, ℕ, true, Some, sym, ap, ◌∙◌, subst, arith}
use Rattle.std.specs.Prelude.{◌%◌, Option}
use Rattle.std.proofs.lemmas.Bool.{eqb-true}
use Rattle.pv_types.specs.Ty.{IntTy, ArrayOf}
use Rattle.pv_types.specs.Known.{Known, tree}
use Rattle.pv_types.specs.Sorts.{bare_type}
use Rattle.pv_typed.specs.TypedUnits.{TypedObject}
use Rattle.pv_eval.specs.Sizes.{setting_of}
use Rattle.pv_eval.specs.Permission.{permits_object, type_by}
use Rattle.pv_eval.proofs.Allowing.{element_permitted}
use Rattle.pv_eval.proofs.permission.is_element.Goals as goal

pub returns : goal.returns
returns c = λ done.
    let u = c.args.unit.now in
    let b = setting_of u in
    let w = c.args.want.0 in
    let e = c.in-Array-default-Some.element.0 in
    let n = c.in-Array-default-Some.n in
    let s = c.bytes_of-size.result in
    let array : tree u.known c.object.result.t.0 ≡ ArrayOf (tree u.known e) (Some n) =
    subst (λ (m : Known). tree m c.object.result.t.0 ≡ ArrayOf (tree m e) (Some n)) c.types.ensures (c.in-Array-default-Some.ensures.tree ∙ ap (ArrayOf (tree c.types.result.now e)) c.in-Array-default-Some.field-1-is) in
    let integer : tree u.known w ≡ IntTy c.in-Int.kind = subst (λ (m : Known). tree m w ≡ IntTy c.in-Int.kind) c.types-2.ensures c.in-Int.ensures.tree in
    let own : bare_type (tree u.known e) ≡ tree u.known w =
    sym (subst (λ (m : Known). tree m c.bare.result.0 ≡ bare_type (tree m e)) c.types-3.ensures c.bare.ensures.tree) ∙ ap (tree u.known) c.if-bare-want.false in
    let begins : c.args.offset % s ≡ 0 = eqb-true (c.args.offset % s) 0 (sym c.is_multiple.ensures ∙ c.if-not-is_multiple.false) in
    subst (λ (z : Option ℕ). permits_object b (type_by b z) c.args.offset (tree u.known w) ≡ true) (sym c.in-Some.is)
    (element_permitted u c.in-Some.o c.args.offset w (tree u.known e) c.in-Int.kind n s (ap (λ (x : TypedObject). x.t) c.object.ensures.object ∙ array) own integer c.bytes_of-size.ensures.size c.bytes_of-size.ensures.some c.bytes_of-size.ensures.few begins
    (omega (arith, c.if-quotient-n.false, c.quotient.ensures)) (omega (arith, c.if-n-gt536870912.false)))
