use Rattle.std.proofs.Common.{ap, ◌∙◌, subst, ◌≡◌, ◌<◌, length, sym, true}
use Rattle.std.specs.Prelude.{IfSome}
use Rattle.pv_types.specs.declared.terms.TypeId.{TypeId}
use Rattle.pv_types.specs.Ty.{Ty}
use Rattle.pv_types.specs.Known.{Known, tree, env}
use Rattle.pv_types.specs.Layouts.{layout_in}
use Rattle.pv_layout.proofs.Ahead.{bare_size}
use Rattle.pv_typed.specs.TypedTree.{type_of}
use Rattle.pv_typed.specs.NodeTrees.{expression_at}
use Rattle.pv_typed.specs.declared.nodes.Typed.TheVariants.{Read}
use Rattle.pv_eval.specs.declared.plain.Found.{Found}
use Rattle.pv_eval.specs.TypeForms.{shape_of}
use Rattle.pv_eval.specs.Sizes.{IsComplete, size_in, points}
use Rattle.pv_eval.specs.Plainly.{GivesNoting, ReadsFrom, found_worth, pointer_at}
use Rattle.pv_eval.specs.Designated.{IsDesignated}
use Rattle.pv_eval.proofs.PlainCodes.{pointer_shape}
use Rattle.pv_eval.proofs.PlainReads.{noting_given, reads_bare}
use Rattle.pv_eval.proofs.plain_coded.read_pointer.Goals as goal

pub accessed_pointer-requires-clause-known : goal.accessed_pointer-requires-clause-known
accessed_pointer-requires-clause-known c = subst (λ (m : Known). c.args.t.0 < length m.terms) (sym c.types.ensures) c.requires.number

pub accessed_pointer-requires-clause-pointer : goal.accessed_pointer-requires-clause-pointer
accessed_pointer-requires-clause-pointer c = subst (λ (m : Known). points (tree m c.args.t.0) ≡ true) (sym c.types.ensures) c.requires.pointer

pub load_pointer-requires-clause-own : goal.load_pointer-requires-clause-own
load_pointer-requires-clause-own c = subst (λ (q : TypeId). IsDesignated c.args.unit.now c.args.own q) (sym c.in_ok-x.ensures.same) c.requires.own

pub load_pointer-requires-clause-complete : goal.load_pointer-requires-clause-complete
load_pointer-requires-clause-complete c = subst (λ (m : Known). IsComplete m c.in_ok-x.x.l) c.types.ensures c.in_ok-x.ensures.complete

pub load_pointer-requires-clause-align : goal.load_pointer-requires-clause-align
load_pointer-requires-clause-align c = c.in_ok-x.ensures.align ∙ ap (λ (m : Known). (layout_in (env m) (tree m c.in_ok-x.x.l.t.0)).align) c.types.ensures

pub load_pointer-requires-clause-form : goal.load_pointer-requires-clause-form
load_pointer-requires-clause-form c = ap (λ (q : TypeId). shape_of (tree c.args.unit.now.known q.0)) c.in_ok-x.ensures.same ∙ pointer_shape (tree c.args.unit.now.known c.args.t.0) c.requires.pointer

pub returns : goal.returns
returns c = λ s.
    let u = c.args.unit.now in
    let w = c.args.world.now in
    let r = c.noted.result in
    let v = c.in_ok-v.v in
    let t = type_of (expression_at u c.args.a) in
    let same = ap (λ (q : TypeId). tree u.known q.0) c.in_ok-x.ensures.same ∙ c.requires.same in
    let complete : IsComplete u.known c.in_ok-x.x.l = subst (λ (m : Known). IsComplete m c.in_ok-x.x.l) c.types.ensures c.in_ok-x.ensures.complete in
    subst (λ (q : Found). IfSome r (λ z. GivesNoting u w s (Read c.args.a) (found_worth q) (found_worth z) c.args.noting c.args.notes.now.items c.noted.new.notes.items)) (sym c.in-Place.is)
    (noting_given c.args.noting c.args.notes.now.items c.noted.new.notes.items u w s c.args.a (pointer_at c.in-Place.p) c.in_ok-x.x.l.size v r (complete.size ∙ ap (size_in u.known) same ∙ bare_size (env u.known) t)
    (reads_bare u w t (pointer_at c.in-Place.p) (found_worth v) (subst (λ (z : Ty). ReadsFrom u w z (pointer_at c.in-Place.p) (found_worth v)) same c.in_ok-v.ensures)) c.noted.ensures.same c.noted.ensures.noted)
