use Rattle.pv_unit.specs.Switching.{labels_of, HasKeys}
use Rattle.pv_unit.proofs.LabelRows.{Along}
use Rattle.pv_unit.proofs.labels.all_labels.Given as goal

abbrev pub invariant-loop-node : goal.invariant-loop-node
invariant-loop-node l =
    Along l.t.texts l.kind l.u.forest l.nodes (labels_of l.fn.labels.all.items) l.fn.s l.fn.into l.node-index l.s l.into l.labels.all.items × HasKeys l.labels
