use Rattle.std.proofs.Common.{rules, ◌≡◌, ◌∙◌, ap, not}
use Rattle.std.specs.Prelude.{◌&&◌, ◌||◌}
use Rattle.pv_types.specs.Known.{env, tree}
use Rattle.pv_types.specs.Ty.{Ty}
use Rattle.pv_types.specs.Layouts.{is_complete_in}
use Rattle.pv_unit.specs.Definitions.{is_sized}
use Rattle.pv_unit.proofs.ending.is_finished.Goals as goal

pub returns : goal.returns
returns c = λ texts s.
    let e = c.args.e in
    let m = c.args.into.now.known in
    let t = c.entity_type-t.result.0 in
    let one : c.is_sized_there-sized.result ≡ (not e.without_size || is_sized (tree m t)) = search rules in
    let two : c.is_complete_there-complete.result ≡ (e.function || not e.defined || is_complete_in (env m) (tree m t)) = search rules in
    c.both.ensures
    ∙ ap (λ b. b && c.is_complete_there-complete.result) one
    ∙ ap (λ b. (not e.without_size || is_sized (tree m t)) && b) two
    ∙ ap (λ (y : Ty). (not e.without_size || is_sized y) && (e.function || not e.defined || is_complete_in (env m) y)) (c.entity_type-t.ensures.tree texts s)
