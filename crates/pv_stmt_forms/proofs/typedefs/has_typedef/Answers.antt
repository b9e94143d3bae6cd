use Rattle.std.proofs.Common.{◌∙◌, List, sym, ap}
use Rattle.pv_tree.specs.declared.nodes.NodeId.{NodeId}
use Rattle.pv_tree.specs.Tables.{trees_of}
use Rattle.pv_tree.specs.Units.{has_typedef}
use Rattle.pv_stmt_forms.proofs.AddedNames.{typedef_here, typedef_nowhere}
use Rattle.pv_stmt_forms.proofs.typedefs.has_typedef.Goals as goal

pub returns-then-is_typedef : goal.returns-then-is_typedef
returns-then-is_typedef c =
    let f = c.args.unit.now.forest in
    sym (ap (λ (ns : List NodeId). has_typedef (trees_of f ns)) (sym c.list-specifiers.ensures) ∙ typedef_here f c.list-specifiers.result.now c.loop-n.n-index _ c.loop-n-test.true (sym c.is_typedef.ensures ∙ c.if-is_typedef.true) c.loop-n.invariant)

pub returns : goal.returns
returns c =
    let f = c.args.unit.now.forest in
    sym (ap (λ (ns : List NodeId). has_typedef (trees_of f ns)) (sym c.list-specifiers.ensures) ∙ typedef_nowhere f c.list-specifiers.result.now c.loop-n.n-index c.loop-n-test.false c.loop-n.invariant)
