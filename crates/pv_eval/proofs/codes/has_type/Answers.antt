use Rattle.std.proofs.Common.{◌≡◌, ◌<◌, length, ap, sym, ◌∙◌, subst}
use Rattle.std.proofs.lemmas.Bool.{eqb-true}
use Rattle.pv_types.specs.Known.{Known, tree}
use Rattle.pv_types.specs.Sorts.{bare_type}
use Rattle.pv_typed.specs.TypedUnits.{TypedObject}
use Rattle.pv_eval.proofs.codes.has_type.Goals as goal

pub bare-requires : goal.bare-requires
bare-requires c = subst (λ (m : Known). c.object.result.t.0 < length m.terms) (sym c.types.ensures) (c.object.ensures.known c.requires.known)

pub returns : goal.returns
returns c = λ same.
    let u = c.args.unit.now in
    let whole : tree u.known c.bare.result.0 ≡ bare_type (tree u.known c.object.result.t.0) =
    subst (λ (m : Known). tree m c.bare.result.0 ≡ bare_type (tree m c.object.result.t.0)) c.types.ensures c.bare.ensures.tree in
    ap (λ (x : TypedObject). bare_type x.t) c.object.ensures.object ∙ sym whole ∙ ap (tree u.known) (eqb-true c.bare.result.0 c.args.t.0 same)
