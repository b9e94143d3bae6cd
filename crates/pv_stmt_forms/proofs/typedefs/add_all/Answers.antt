use Rattle.std.proofs.Common.{◌∙◌, ◌||◌, List, ap, nat_eq}
use Rattle.indexmap.specs.IndexSet.{contains}
use Rattle.pv_tree.specs.declared.nodes.NodeId.{NodeId}
use Rattle.pv_tree.specs.Tables.{trees_of}
use Rattle.pv_tree.specs.Units.{any_declares}
use Rattle.pv_stmt_forms.proofs.AddedNames.{names_end}
use Rattle.pv_stmt_forms.proofs.typedefs.add_all.Goals as goal

pub returns : goal.returns
returns c = λ m.
    let f = c.args.unit.now.forest in
    names_end f c.list-declarators.result.now c.loop-n.n-index (contains nat_eq c.args.types.now m) (contains nat_eq c.loop-n.types m) m c.loop-n-test.false (c.loop-n.invariant m)
    ∙ ap (λ (ns : List NodeId). contains nat_eq c.args.types.now m || any_declares (trees_of f ns) m) c.list-declarators.ensures
