use Rattle.std.proofs.Common.{◌≡◌, None, false, sym, ap, ◌∙◌}
use Rattle.std.specs.Prelude.{if◌then◌else◌}
use Rattle.pv_types.specs.Known.{tree}
use Rattle.pv_check.specs.Scopes.{find, innermost_scope}
use Rattle.pv_typed.specs.Mains.{named_main}
use Rattle.pv_unit.specs.Redeclarations.{unit_name, object_again}
use Rattle.pv_unit.specs.Outside.{unit_state}
use Rattle.pv_unit.proofs.declaring.object_declared.Goals as goal

pub returns-clause-answer : goal.returns-clause-answer
returns-clause-answer c = λ texts.
    let u = unit_state texts c.args.s.now c.args.into.now c.args.outer.now in
    let ty = tree c.args.into.now.known c.args.t.0 in
    let other : named_main c.args.into.now.names (unit_name c.args.name) ≡ false = sym c.is_main.ensures ∙ c.if-is_main.false in
    c.in_ok-r.ensures.answer texts
    ∙ ap (λ m. object_again m c.args.name c.args.line ty u) (c.found-before.ensures.meaning texts false)
    ∙ sym (ap (λ b. if b then None else object_again (find (innermost_scope u.state.scopes).names c.args.name) c.args.name c.args.line ty u) other)
