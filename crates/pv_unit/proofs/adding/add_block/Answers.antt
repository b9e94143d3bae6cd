use Rattle.std.proofs.Common.{ap, ◌∙◌}
use Rattle.pv_typed.specs.TypedStatement.{Block, statements_of}
use Rattle.pv_unit.specs.Stated.{statements_in}
use Rattle.pv_unit.proofs.BlockMade.{listed_there, objects_there}
use Rattle.pv_unit.proofs.Moving.{moves_on}
use Rattle.pv_unit.proofs.adding.add_block.Goals as goal

pub add-requires-clause-objects : goal.add-requires-clause-objects
add-requires-clause-objects c =
    rw c.as_slice.ensures.value (objects_there c.args.into.now c.add_items.new.into c.in_ok-objects.objects.items c.in_ok-list.ensures.moves.goes c.in_ok-objects.ensures.there)

pub returns-clause-tree : goal.returns-clause-tree
returns-clause-tree c =
    let a = c.args.into.now in
    let b = c.add_items.new.into in
    c.in_ok-n.ensures.tree
    ∙ ap (λ xs. Block c.args.line c.as_slice.result.now xs) (listed_there a b c.in_ok-list.list c.args.items.now c.in_ok-list.ensures.moves.goes c.requires.items c.in_ok-list.ensures.same)
    ∙ ap (λ os. Block c.args.line os (statements_of (statements_in a c.args.items.now))) (c.as_slice.ensures.value ∙ c.in_ok-objects.ensures.objects)

pub returns-clause-state : goal.returns-clause-state
returns-clause-state c = λ texts. c.in_ok-n.ensures.state texts ∙ c.in_ok-list.ensures.state texts

pub returns-clause-moves : goal.returns-clause-moves
returns-clause-moves c = moves_on c.args.into.now c.add_items.new.into c.add.new.into c.args.s.now c.args.s.now c.args.s.now c.in_ok-list.ensures.moves c.in_ok-n.ensures.moves
