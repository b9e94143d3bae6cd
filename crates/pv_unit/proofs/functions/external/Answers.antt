use Rattle.std.proofs.Common.{rules, ◌≡◌, ◌∙◌, ap, Some}
use Rattle.pv_tree.specs.Tables.{tree_at, declaration_at}
use Rattle.pv_check.specs.Open.{Goes}
use Rattle.pv_check.specs.State.{State}
use Rattle.pv_typed.specs.Constants.{and_then}
use Rattle.pv_unit.specs.Functions.{typed_declaration}
use Rattle.pv_unit.specs.FunctionParts.{with_one_external}
use Rattle.pv_unit.specs.Outside.{unit_state}
use Rattle.pv_unit.specs.There.{AreThere}
use Rattle.pv_unit.proofs.Ends.{there_goes}
use Rattle.pv_unit.proofs.FunctionRows.{external_is}
use Rattle.pv_unit.proofs.functions.external.Goals as goal

pub declaration-requires-clause-node : goal.declaration-requires-clause-node
declaration-requires-clause-node c = (c.requires.node.0, external_is (tree_at c.args.u.now.forest c.args.d) c.requires.node.1)

pub returns-clause-entities : goal.returns-clause-entities
returns-clause-entities c =
    let there : AreThere c.declaration.new.into c.declaration.new.outer.entities = search rules in
    let goes : Goes c.declaration.new.into c.count.new.into = search rules in
    there_goes c.declaration.new.into c.count.new.into c.declaration.new.outer.entities goes there

pub returns-clause-answer : goal.returns-clause-answer
returns-clause-answer c =
    let texts = c.args.t.now.texts in
    let o = c.declaration.new.outer in
    let u = unit_state texts c.args.s.now c.args.into.now c.args.outer.now in
    let some : Some (unit_state texts c.declaration.new.s c.declaration.new.into o) ≡ typed_declaration (declaration_at c.args.u.now.forest c.args.d) u = search rules in
    ap (λ (z : State). Some (record { state = z; entities = o.entities; unsized_typedef = o.unsized_typedef })) (c.in_ok-count.ensures.state texts)
    ∙ ap (λ q. and_then q with_one_external) some
