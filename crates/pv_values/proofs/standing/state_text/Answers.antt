use Rattle.std.proofs.Common.{◌≡◌, ◌∙◌, ◌++◌, ap, length}
use Rattle.std.specs.Prelude.{min}
use Rattle.pv_typed.specs.Tables.{whole_unit}
use Rattle.pv_values.specs.Standing.{texts_from, call_text, more_calls}
use Rattle.pv_values.specs.StandingParts.{lasting_text}
use Rattle.pv_values.proofs.standing.state_text.Goals as goal

pub returns : goal.returns
returns c =
    let U = whole_unit c.args.u.now in
    let w = c.args.world.now in
    let shown = texts_from (call_text U w c.args.all) 0 (min (length w.bodies) 64) in
    let calls : c.add_calls.new.text.items ≡ shown = c.in_ok-add_calls.ensures ∙ ap (λ x. x ++ shown) c.new-text.ensures.items in
    c.in_ok-add_lasting.ensures
    ∙ ap (λ x. x ++ lasting_text U w c.args.all) (c.in_ok-add_more.ensures ∙ (λ i. calls i ++ more_calls (c.depth.ensures i)))
