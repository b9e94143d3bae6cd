use Rattle.std.proofs.Common.{◌≡◌, ℕ, ◌<◌, IsTrue, length, sym, subst, arith}
use Rattle.pv_types.specs.Ty.{Ty, ArrayOf}
use Rattle.pv_types.specs.Known.{tree, env}
use Rattle.pv_types.specs.Layouts.{is_complete_in}
use Rattle.pv_types.proofs.Fills.{layout_fills}
use Rattle.pv_eval.specs.Designated.{IsUniform}
use Rattle.pv_eval.proofs.MemberPlaces.{uniform_itself, uniform_array, element_complete}
use Rattle.pv_eval.proofs.members.is_array_of.Goals as goal

pub layers-init : goal.layers-init
layers-init c = (c.requires.known, c.requires.complete, λ u. u)

pub view-requires : goal.view-requires
view-requires c = c.layers.invariant.0

pub returns-then-at-t : goal.returns-then-at-t
returns-then-at-t c = λ h.
    let m = c.args.types.now in
    let want = tree m c.args.t.0 in
    c.layers.invariant.2 (subst (λ (i : ℕ). IsUniform m want (tree m i)) (sym c.if-at-t.true) (uniform_itself m want c.requires.scalar))

pub layers-preserved : goal.layers-preserved
layers-preserved c =
    let m = c.args.types.now in
    let want = tree m c.args.t.0 in
    let e = c.in-Array.element.0 in
    let n = c.in-Array.field-1 in
    let is : tree m c.layers.at.0 ≡ ArrayOf (tree m e) n = c.in-Array.ensures.tree in
    let whole : IsTrue (is_complete_in (env m) (ArrayOf (tree m e) n)) = subst (λ (t : Ty). IsTrue (is_complete_in (env m) t)) is c.layers.invariant.1 in
    let one = element_complete m (tree m e) n whole in
    let below : e < c.layers.at.0 = c.in-Array.ensures.earlier in
    let known : c.layers.at.0 < length m.terms = c.layers.invariant.0 in
    let inside : e < length m.terms = omega (arith, below, known) in
    (inside, one, λ u. c.layers.invariant.2 (subst (IsUniform m want) (sym is) (uniform_array m want (tree m e) n whole (layout_fills (env m) (tree m e) c.in-Array.ensures.built.within one) u)))
