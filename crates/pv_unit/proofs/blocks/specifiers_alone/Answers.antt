use Rattle.std.proofs.Common.{◌≡◌, Some, sym, ap, ◌∙◌}
use Rattle.pv_tree.specs.Tables.{trees_at}
use Rattle.pv_unit.specs.Blocks.{block_storage}
use Rattle.pv_unit.specs.DeclaredIn.{after_specified, specified_in}
use Rattle.pv_unit.proofs.BlockRows.{block_alone_done}
use Rattle.pv_unit.proofs.blocks.specifiers_alone.Goals as goal

pub returns-clause-answer : goal.returns-clause-answer
returns-clause-answer c =
    let storage : block_storage c.in-Some.x.storage ≡ Some c.in-Some-block_storage.field-0 = sym c.block_storage.ensures ∙ c.in-Some-block_storage.is in
    block_alone_done c.args.t.now.texts (trees_at c.args.u.now.forest c.args.specs) c.args.into.now c.specified.new.into c.args.s.now c.specified.new.s c.bound-before.result c.tags_alone.result c.in-Some-block_storage.field-0 (specified_in c.specified.new.into.known c.in-Some.x)
    (ap (after_specified c.args.t.now.texts c.specified.new.s c.specified.new.into) (sym c.in-Some.is) ∙ c.in_ok-x.ensures.answer) storage (c.bound-before.ensures c.args.t.now.texts) (c.tags_alone.ensures c.args.t.now.texts)
