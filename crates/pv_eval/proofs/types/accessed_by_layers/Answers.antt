use Rattle.std.proofs.Common.{Bool, sym, ap, ◌∙◌}
use Rattle.std.specs.Prelude.{if◌then◌else◌}
use Rattle.pv_types.specs.declared.terms.TypeId.{TypeId}
use Rattle.pv_types.specs.Known.{tree, env}
use Rattle.pv_types.specs.Layouts.{is_complete_in, layout_in}
use Rattle.pv_eval.specs.TypeForms.{shape_of}
use Rattle.pv_eval.proofs.types.accessed_by_layers.Goals as goal

pub returns-clause-align : goal.returns-clause-align
returns-clause-align c =
    let m = c.args.types.now in
    let t = tree m c.args.t.0 in
    let same = ap (λ (q : TypeId). tree m q.0) (sym c.in_ok-l.ensures.same) in
    c.align_by_layers.ensures.align
    ∙ ap (λ (b : Bool). if b then (layout_in (env m) t).align else 1) (ap (λ (q : TypeId). is_complete_in (env m) (tree m q.0)) (sym c.in_ok-l.ensures.same) ∙ c.in_ok-l.ensures.complete.complete)
    ∙ ap (λ s. (layout_in (env m) s).align) same

pub returns-clause-form : goal.returns-clause-form
returns-clause-form c =
    let m = c.args.types.now in
    c.shape.ensures ∙ ap (λ (q : TypeId). shape_of (tree m q.0)) (sym c.in_ok-l.ensures.same)
