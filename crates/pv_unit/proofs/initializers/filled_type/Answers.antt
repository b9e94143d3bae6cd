use Rattle.std.proofs.Common.{rules, ◌≡◌, ◌≤◌, ◌^◌, true}
use Rattle.pv_types.specs.Known.{env, tree}
use Rattle.pv_types.specs.Sorts.{bare_type}
use Rattle.pv_unit.specs.PartParts.{character_layer}
use Rattle.pv_unit.proofs.Texts.{small_text}
use Rattle.pv_unit.proofs.initializers.filled_type.Goals as goal

pub array_of-requires-clause-small : goal.array_of-requires-clause-small
array_of-requires-clause-small c =
    let m = c.args.into.now.known in
    let t = tree m c.in-Array-default-None.element.0 in
    let element : character_layer (bare_type t) ≡ true = search rules in
    let small : c.args.count ≤ 2 ^ 32 = search rules in
    small_text (env m) t c.args.count element small
