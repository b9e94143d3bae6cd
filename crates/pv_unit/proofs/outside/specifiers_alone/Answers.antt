use Rattle.pv_check.specs.Open.{Goes}
use Rattle.pv_check.proofs.SpecifierRows.{there}
use Rattle.pv_unit.proofs.Ends.{there_on}
use Rattle.std.proofs.Common.{sym, ap, ◌∙◌}
use Rattle.pv_tree.specs.Tables.{trees_at}
use Rattle.pv_unit.specs.DeclaredIn.{after_specified, specified_in}
use Rattle.pv_unit.proofs.AloneRows.{file_alone_done}
use Rattle.pv_unit.proofs.outside.specifiers_alone.Goals as goal

pub returns-clause-answer : goal.returns-clause-answer
returns-clause-answer c =
    file_alone_done c.args.t.now.texts (trees_at c.args.u.now.forest c.args.specs) c.args.into.now c.specified.new.into c.args.s.now c.specified.new.s c.args.outer.now c.bound-before.result c.tags_alone.result (specified_in c.specified.new.into.known c.in-Some.field-0)
    (ap (after_specified c.args.t.now.texts c.specified.new.s c.specified.new.into) (sym c.in-Some.is) ∙ c.in_ok-specified.ensures.answer) (c.bound-before.ensures c.args.t.now.texts) (c.tags_alone.ensures c.args.t.now.texts)

pub returns-clause-entities : goal.returns-clause-entities
returns-clause-entities c =
    there_on c.args.into.now c.specified.new.into c.args.outer.now.entities c.tags_alone.result (there (λ x. Goes c.args.into.now c.specified.new.into) c.in-Some.is c.in_ok-specified.ensures.goes) c.requires.entities
