use Rattle.std.proofs.Common.{rules, ◌≡◌, ◌<◌, length, subst, None}
use Rattle.pv_types.specs.Known.{env, tree}
use Rattle.pv_types.specs.Layouts.{layout_in}
use Rattle.pv_types.specs.Ty.{Ty, ArrayOf}
use Rattle.pv_check.proofs.Growth.{sized_small}
use Rattle.pv_unit.specs.Subobjects.{HasSpace}
use Rattle.pv_unit.proofs.Spaces.{small_space}
use Rattle.pv_unit.proofs.giving.sized.Goals as goal

pub array_of-requires-clause-small : goal.array_of-requires-clause-small
array_of-requires-clause-small c =
    let m = c.args.into.now.known in
    let e = c.in-Array-default-None.element.0 in
    let array : tree m c.args.t.0 ≡ ArrayOf (tree m e) None = search rules in
    let earlier : e < length m.terms = search rules in
    small_space c.args.count (layout_in (env m) (tree m e)).size (sized_small (env m) (tree m e) (c.requires.sized.types e earlier)) (subst (λ (t : Ty). HasSpace (env m) t c.args.count) array c.requires.room)
