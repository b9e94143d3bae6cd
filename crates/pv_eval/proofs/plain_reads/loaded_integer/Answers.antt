use Rattle.std.proofs.Common.{◌≡◌, ◌<◌, length, sym, ap, ◌∙◌, subst}
use Rattle.std.specs.Prelude.{IfSome}
use Rattle.pv_types.specs.declared.terms.TypeId.{TypeId}
use Rattle.pv_types.specs.Ty.{Ty, IntTy}
use Rattle.pv_types.specs.Known.{Known, tree, env}
use Rattle.pv_types.specs.Layouts.{layout_in}
use Rattle.pv_typed.specs.TypedTree.{type_of}
use Rattle.pv_typed.specs.NodeTrees.{expression_at}
use Rattle.pv_world.specs.Worths.{pointer_of}
use Rattle.pv_eval.specs.declared.plain.Found.{Found}
use Rattle.pv_eval.specs.TypeForms.{shape_of}
use Rattle.pv_eval.specs.Sizes.{IsComplete}
use Rattle.pv_eval.specs.Plainly.{ReadsFrom, found_worth, pointer_at}
use Rattle.pv_eval.specs.Designated.{IsDesignated}
use Rattle.pv_eval.proofs.plain_reads.loaded_integer.Goals as goal

pub accessed_integer-requires-clause-known : goal.accessed_integer-requires-clause-known
accessed_integer-requires-clause-known c = subst (λ (m : Known). c.args.x.t.0 < length m.terms) (sym c.types.ensures) c.requires.there.known

pub accessed_integer-requires-clause-integer : goal.accessed_integer-requires-clause-integer
accessed_integer-requires-clause-integer c = subst (λ (m : Known). tree m c.args.x.t.0 ≡ IntTy c.args.x.kind) (sym c.types.ensures) c.requires.there.integer

pub load-requires-clause-own : goal.load-requires-clause-own
load-requires-clause-own c = subst (λ (q : TypeId). IsDesignated c.args.unit.now c.args.x.own q) (sym c.in_ok-at.ensures.same) c.requires.there.own

pub load-requires-clause-complete : goal.load-requires-clause-complete
load-requires-clause-complete c = subst (λ (m : Known). IsComplete m c.in_ok-at.at.l) c.types.ensures c.in_ok-at.ensures.complete

pub load-requires-clause-align : goal.load-requires-clause-align
load-requires-clause-align c = c.in_ok-at.ensures.align ∙ ap (λ (m : Known). (layout_in (env m) (tree m c.in_ok-at.at.l.t.0)).align) c.types.ensures

pub load-requires-clause-form : goal.load-requires-clause-form
load-requires-clause-form c = ap (λ (q : TypeId). shape_of (tree c.args.unit.now.known q.0)) c.in_ok-at.ensures.same ∙ ap shape_of c.requires.there.integer

pub returns-clause-reads : goal.returns-clause-reads
returns-clause-reads c =
    let u = c.args.unit.now in
    let w = c.args.world.now in
    let r = c.load.result in
    let same = ap (λ (q : TypeId). tree u.known q.0) c.in_ok-at.ensures.same ∙ c.requires.there.same in
    subst (λ (q : Found). IfSome r (λ v. ReadsFrom u w (type_of (expression_at u c.args.x.node)) (pointer_of (found_worth q)) (found_worth v))) (sym c.in-Place.is)
    (subst (λ (z : Ty). IfSome r (λ v. ReadsFrom u w z (pointer_at c.in-Place.p) (found_worth v))) same c.load.ensures)
