use Rattle.std.proofs.Common.{sym, ap, ◌∙◌, subst}
use Rattle.std.specs.Prelude.{IfSome}
use Rattle.pv_types.specs.declared.terms.TypeId.{TypeId}
use Rattle.pv_types.specs.Ty.{Ty}
use Rattle.pv_types.specs.Known.{Known, tree, env}
use Rattle.pv_types.specs.Layouts.{layout_in}
use Rattle.pv_typed.specs.TypedTree.{type_of}
use Rattle.pv_typed.specs.NodeTrees.{expression_at}
use Rattle.pv_world.specs.Worths.{pointer_of}
use Rattle.pv_eval.specs.declared.plain.Found.{Found}
use Rattle.pv_eval.specs.TypeForms.{shape_of}
use Rattle.pv_eval.specs.Sizes.{IsComplete}
use Rattle.pv_eval.specs.Plainly.{ReadsFrom, found_worth, pointer_at}
use Rattle.pv_eval.proofs.plain_reads.read_at.Goals as goal

pub load-requires-clause-complete : goal.load-requires-clause-complete
load-requires-clause-complete c = subst (λ (m : Known). IsComplete m c.in_ok-x.x.l) c.types.ensures c.in_ok-x.ensures.complete

pub load-requires-clause-align : goal.load-requires-clause-align
load-requires-clause-align c = c.in_ok-x.ensures.align ∙ ap (λ (m : Known). (layout_in (env m) (tree m c.in_ok-x.x.l.t.0)).align) c.types.ensures

pub load-requires-clause-form : goal.load-requires-clause-form
load-requires-clause-form c = ap (λ (m : Known). shape_of (tree m c.in_ok-x.x.l.t.0)) (sym c.types.ensures) ∙ sym c.in_ok-x.ensures.form ∙ c.in-Int.is

pub load_pointer-requires-clause-complete : goal.load_pointer-requires-clause-complete
load_pointer-requires-clause-complete c = subst (λ (m : Known). IsComplete m c.in_ok-x.x.l) c.types.ensures c.in_ok-x.ensures.complete

pub load_pointer-requires-clause-align : goal.load_pointer-requires-clause-align
load_pointer-requires-clause-align c = c.in_ok-x.ensures.align ∙ ap (λ (m : Known). (layout_in (env m) (tree m c.in_ok-x.x.l.t.0)).align) c.types.ensures

pub load_pointer-requires-clause-form : goal.load_pointer-requires-clause-form
load_pointer-requires-clause-form c = ap (λ (m : Known). shape_of (tree m c.in_ok-x.x.l.t.0)) (sym c.types.ensures) ∙ sym c.in_ok-x.ensures.form ∙ c.in-Pointer.is

pub returns-in-Int-clause-reads : goal.returns-in-Int-clause-reads
returns-in-Int-clause-reads c =
    let u = c.args.unit.now in
    let w = c.args.world.now in
    let r = c.load.result in
    let same = ap (λ (q : TypeId). tree u.known q.0) c.in_ok-x.ensures.same ∙ c.type_of.ensures.tree in
    subst (λ (q : Found). IfSome r (λ v. ReadsFrom u w (type_of (expression_at u c.args.a)) (pointer_of (found_worth q)) (found_worth v))) (sym c.in-Place.is)
    (subst (λ (z : Ty). IfSome r (λ v. ReadsFrom u w z (pointer_at c.in-Place.p) (found_worth v))) same c.load.ensures)

pub returns-in-Pointer-clause-reads : goal.returns-in-Pointer-clause-reads
returns-in-Pointer-clause-reads c =
    let u = c.args.unit.now in
    let w = c.args.world.now in
    let r = c.load_pointer.result in
    let same = ap (λ (q : TypeId). tree u.known q.0) c.in_ok-x.ensures.same ∙ c.type_of.ensures.tree in
    subst (λ (q : Found). IfSome r (λ v. ReadsFrom u w (type_of (expression_at u c.args.a)) (pointer_of (found_worth q)) (found_worth v))) (sym c.in-Place.is)
    (subst (λ (z : Ty). IfSome r (λ v. ReadsFrom u w z (pointer_at c.in-Place.p) (found_worth v))) same c.load_pointer.ensures)
