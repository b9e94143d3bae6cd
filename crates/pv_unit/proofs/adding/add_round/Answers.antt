use Rattle.std.proofs.Common.{ap, ◌∙◌}
use Rattle.pv_typed.specs.NodeTrees.{statement_at}
use Rattle.pv_typed.specs.TypedStatement.{ForDeclaration, statements_of}
use Rattle.pv_unit.specs.Stated.{statements_in, optional_in}
use Rattle.pv_unit.proofs.BlockMade.{listed_there, objects_there, round_parts, round_form}
use Rattle.pv_unit.proofs.Moving.{moves_on}
use Rattle.pv_unit.proofs.adding.add_round.Goals as goal

pub add-requires-clause-objects : goal.add-requires-clause-objects
add-requires-clause-objects c =
    rw c.as_slice.ensures.value (objects_there c.args.into.now c.add_items.new.into c.in_ok-objects.objects.items c.in_ok-declarations.ensures.moves.goes c.in_ok-objects.ensures.there)

pub add-requires-clause-parts : goal.add-requires-clause-parts
add-requires-clause-parts c =
    round_parts c.args.into.now c.add_items.new.into c.in_ok-declarations.declarations c.args.condition c.args.step c.args.body c.in_ok-declarations.ensures.moves.goes c.in_ok-declarations.ensures.list c.requires.condition c.requires.step c.requires.body

pub returns-clause-tree : goal.returns-clause-tree
returns-clause-tree c =
    let a = c.args.into.now in
    let b = c.add_items.new.into in
    let g = c.in_ok-declarations.ensures.moves.goes in
    c.in_ok-n.ensures.tree
    ∙ round_form a b c.args.line c.as_slice.result.now c.in_ok-declarations.declarations c.args.condition c.args.step c.args.body g c.requires.condition c.requires.step c.requires.body
    ∙ ap (λ xs. ForDeclaration c.args.line c.as_slice.result.now xs (optional_in a c.args.condition) (optional_in a c.args.step) (statement_at a c.args.body)) (listed_there a b c.in_ok-declarations.declarations c.args.items.now g c.requires.items c.in_ok-declarations.ensures.same)
    ∙ ap (λ os. ForDeclaration c.args.line os (statements_of (statements_in a c.args.items.now)) (optional_in a c.args.condition) (optional_in a c.args.step) (statement_at a c.args.body)) (c.as_slice.ensures.value ∙ c.in_ok-objects.ensures.objects)

pub returns-clause-state : goal.returns-clause-state
returns-clause-state c = λ texts. c.in_ok-n.ensures.state texts ∙ c.in_ok-declarations.ensures.state texts

pub returns-clause-moves : goal.returns-clause-moves
returns-clause-moves c = moves_on c.args.into.now c.add_items.new.into c.add.new.into c.args.s.now c.args.s.now c.args.s.now c.in_ok-declarations.ensures.moves c.in_ok-n.ensures.moves
