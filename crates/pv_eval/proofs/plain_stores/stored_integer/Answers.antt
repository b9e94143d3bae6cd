use Rattle.std.proofs.Common.{◌≡◌, ◌<◌, length, refl, sym, ap, ◌∙◌, subst}
use Rattle.pv_types.specs.declared.terms.TypeId.{TypeId}
use Rattle.pv_types.specs.Ty.{Ty, IntTy}
use Rattle.pv_types.specs.Known.{Known, tree, env}
use Rattle.pv_types.specs.Layouts.{layout_in}
use Rattle.pv_typed.specs.TypedTree.{type_of}
use Rattle.pv_typed.specs.NodeTrees.{expression_at}
use Rattle.pv_world.specs.Worths.{pointer, pointer_of}
use Rattle.pv_eval.specs.declared.plain.Found.{Found}
use Rattle.pv_eval.specs.TypeForms.{shape_of}
use Rattle.pv_eval.specs.Sizes.{IsComplete}
use Rattle.pv_eval.specs.Plainly.{StoresAt, found_worth, pointer_at}
use Rattle.pv_eval.specs.Designated.{IsDesignated}
use Rattle.pv_eval.proofs.plain_stores.stored_integer.Goals as goal

pub accessed_integer-requires-clause-known : goal.accessed_integer-requires-clause-known
accessed_integer-requires-clause-known c = subst (λ (m : Known). c.args.x.t.0 < length m.terms) (sym c.types.ensures) c.requires.there.known

pub accessed_integer-requires-clause-integer : goal.accessed_integer-requires-clause-integer
accessed_integer-requires-clause-integer c = subst (λ (m : Known). tree m c.args.x.t.0 ≡ IntTy c.args.x.kind) (sym c.types.ensures) c.requires.there.integer

pub store-requires-clause-own : goal.store-requires-clause-own
store-requires-clause-own c = subst (λ (q : TypeId). IsDesignated c.args.unit.now c.args.x.own q) (sym c.in-Some.ensures.same) c.requires.there.own

pub store-requires-clause-complete : goal.store-requires-clause-complete
store-requires-clause-complete c = subst (λ (m : Known). IsComplete m c.in-Some.at.l) c.types.ensures c.in-Some.ensures.complete

pub store-requires-clause-align : goal.store-requires-clause-align
store-requires-clause-align c = c.in-Some.ensures.align ∙ ap (λ (m : Known). (layout_in (env m) (tree m c.in-Some.at.l.t.0)).align) c.types.ensures

pub store-requires-clause-form : goal.store-requires-clause-form
store-requires-clause-form c = c.in-Some.ensures.form ∙ ap (λ (m : Known). shape_of (tree m c.in-Some.at.l.t.0)) c.types.ensures

pub returns-clause-stored : goal.returns-clause-stored
returns-clause-stored c = λ done.
    let u = c.args.unit.now in
    let w = c.args.world.now in
    let new = c.store.new.world in
    let v = found_worth c.args.v in
    let same = ap (λ (q : TypeId). tree u.known q.0) c.in-Some.ensures.same ∙ c.requires.there.same in
    subst (λ (q : Found). StoresAt u w (type_of (expression_at u c.args.x.node)) (pointer_of (found_worth q)) v new) (sym c.in-Place.is)
    (subst (λ (t : Ty). StoresAt u w t (pointer_at c.in-Place.p) v new) same (c.store.ensures.stored done))

pub returns-clause-place : goal.returns-clause-place
returns-clause-place c = λ done. subst (λ (q : Found). found_worth q ≡ pointer (pointer_of (found_worth q))) (sym c.in-Place.is) refl
