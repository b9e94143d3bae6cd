use Rattle.std.proofs.Common.{false, ap, ◌∙◌}
use Rattle.pv_types.specs.Known.{tree}
use Rattle.pv_unit.specs.Redeclarations.{function_again}
use Rattle.pv_unit.specs.Outside.{unit_state}
use Rattle.pv_unit.proofs.declaring.function_found.Goals as goal

pub returns-clause-answer : goal.returns-clause-answer
returns-clause-answer c = λ texts.
    c.in_ok-r.ensures.answer texts
    ∙ ap (λ m. function_again m c.args.name c.args.line (tree c.args.into.now.known c.args.t.0) (unit_state texts c.args.s.now c.args.into.now c.args.outer.now)) (c.found-before.ensures.meaning texts false)
