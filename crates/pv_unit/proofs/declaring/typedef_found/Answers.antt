use Rattle.std.proofs.Common.{false, ap, ◌∙◌}
use Rattle.pv_types.specs.Known.{tree}
use Rattle.pv_unit.specs.Declarations.{typedef_again}
use Rattle.pv_unit.specs.Outside.{unit_state}
use Rattle.pv_unit.proofs.declaring.typedef_found.Goals as goal

pub returns-clause-answer : goal.returns-clause-answer
returns-clause-answer c = λ texts o.
    c.in_ok-b.ensures.answer texts o
    ∙ ap (λ m. typedef_again m c.args.name (tree c.args.into.now.known c.args.t.0) (unit_state texts c.args.s.now c.args.into.now o)) (c.found-before.ensures.meaning texts false)
