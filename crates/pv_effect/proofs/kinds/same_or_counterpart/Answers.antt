use Rattle.std.proofs.Common.{◌||◌, ◌∙◌, sym, ap}
use Rattle.pv_types.specs.Known.{tree}
use Rattle.pv_layout.specs.Parts.{are_counterparts}
use Rattle.pv_types.specs.Sorts.{bare_type}
use Rattle.pv_types.specs.SameTypes.{same_type}
use Rattle.pv_effect.proofs.Over.{or_none}
use Rattle.pv_effect.proofs.Same.{int_leaf, no_counterpart, same_number}
use Rattle.pv_effect.proofs.kinds.same_or_counterpart.Goals as goal

pub returns-in-Int : goal.returns-in-Int
returns-in-Int c =
    let m = c.args.types.now in
    let u = tree m c.args.u.0 in
    c.leaf_at.ensures
    ∙ int_leaf m c.in-Int.field-0 (tree m c.bare-one.result.0) u c.in-Int.ensures.tree
    ∙ ap (λ x. same_type x (bare_type u) || are_counterparts x (bare_type u)) c.bare-one.ensures.tree

pub returns-in_default : goal.returns-in_default
returns-in_default c =
    let m = c.args.types.now in
    let u = tree m c.args.u.0 in
    same_number m c.bare-one.result.0 c.bare.result.0 c.bare-one.ensures.built c.bare-one.ensures.known c.bare.ensures.known
    ∙ ap (λ x. same_type (tree m c.bare-one.result.0) x) c.bare.ensures.tree
    ∙ sym (ap (λ b. same_type (tree m c.bare-one.result.0) (bare_type u) || b) (no_counterpart m c.view.result (tree m c.bare-one.result.0) (bare_type u) c.view.ensures.tree c.in_default.not-Int)
    ∙ or_none (same_type (tree m c.bare-one.result.0) (bare_type u)))
    ∙ ap (λ x. same_type x (bare_type u) || are_counterparts x (bare_type u)) c.bare-one.ensures.tree
