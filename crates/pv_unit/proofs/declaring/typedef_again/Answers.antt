use Rattle.std.proofs.Common.{Some, false, sym, ap, ◌∙◌}
use Rattle.pv_types.specs.Known.{tree}
use Rattle.pv_check.specs.Raw.{meaning_if}
use Rattle.pv_unit.specs.Declarations.{typedef_again}
use Rattle.pv_unit.specs.Outside.{unit_state}
use Rattle.pv_unit.proofs.EntityRows.{joined}
use Rattle.pv_unit.proofs.declaring.typedef_again.Goals as goal

pub returns-in_ok-new_typedef-in-None-clause-answer : goal.returns-in_ok-new_typedef-in-None-clause-answer
returns-in_ok-new_typedef-in-None-clause-answer c = λ texts o.
    ap (λ s. Some (joined o s)) (c.in_ok-new_typedef-in-None.ensures.answer texts false)
    ∙ ap (λ x. typedef_again (meaning_if c.args.into.now.known x) c.args.name (tree c.args.into.now.known c.args.t.0) (unit_state texts c.args.s.now c.args.into.now o)) (sym c.in-None.is)
