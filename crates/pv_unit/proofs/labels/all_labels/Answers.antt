use Rattle.std.proofs.Common.{rules, ◌≡◌, ◌∙◌, ◌<◌, ap, length, get_or, arith, true, false, None}
use Rattle.pv_tree.specs.declared.nodes.NodeId.{NodeId}
use Rattle.pv_tree.specs.Tables.{tree_at, trees_of, statement_at, is_statement}
use Rattle.pv_check.specs.Open.{state_of}
use Rattle.pv_typed.specs.Constants.{and_then}
use Rattle.pv_unit.specs.Stated.{Moves}
use Rattle.pv_unit.specs.Statements.{typed_label, typed_labels}
use Rattle.pv_unit.specs.Switching.{labels_of, labels_if, behind_labels, with_label}
use Rattle.pv_unit.proofs.LabelRows.{along_start, along_next, along_stop, along_done}
use Rattle.pv_unit.proofs.labels.all_labels.Goals as goal

abbrev no_id : NodeId
no_id = record { 0 = 0 }

pub loop-node-init : goal.loop-node-init
loop-node-init c =
    (along_start c.args.t.now.texts c.args.kind c.args.u.now.forest c.list-nodes.result.now c.args.s.now c.args.into.now c.args.labels.now.all.items c.requires.opened, c.requires.same)

pub returns-then-not-branch-clause-typed : goal.returns-then-not-branch-clause-typed
returns-then-not-branch-clause-typed c =
    let f = c.args.u.now.forest in
    let texts = c.args.t.now.texts in
    let ns = c.list-nodes.result.now in
    let lt : c.loop-node.node-index < length ns = omega arith in
    let kind : is_statement (tree_at f (get_or ns c.loop-node.node-index no_id)) ≡ true = search rules in
    let held : None ≡ and_then (typed_label c.args.kind (statement_at f (get_or ns c.loop-node.node-index no_id)) (state_of texts false c.loop-node.s c.loop-node.into)) (with_label (labels_of c.loop-node.labels.all.items)) = search rules in
    along_stop texts c.args.kind f ns (labels_of c.args.labels.now.all.items) c.args.s.now c.loop-node.s c.args.into.now c.loop-node.into c.loop-node.node-index c.loop-node.labels.all.items no_id c.loop-node.invariant.0 lt kind held
    ∙ ap (λ xs. behind_labels (labels_of c.args.labels.now.all.items) (typed_labels c.args.kind (labels_of c.args.labels.now.all.items) (trees_of f xs) (state_of texts false c.args.s.now c.args.into.now))) c.list-nodes.ensures

pub loop-node-preserved : goal.loop-node-preserved
loop-node-preserved c =
    let f = c.args.u.now.forest in
    let texts = c.args.t.now.texts in
    let ns = c.list-nodes.result.now in
    let lt : c.loop-node.node-index < length ns = omega arith in
    let kind : is_statement (tree_at f (get_or ns c.loop-node.node-index no_id)) ≡ true = search rules in
    let held : labels_if texts c.further.new.s c.further.new.into c.further.new.labels.all.items true ≡ and_then (typed_label c.args.kind (statement_at f (get_or ns c.loop-node.node-index no_id)) (state_of texts false c.loop-node.s c.loop-node.into)) (with_label (labels_of c.loop-node.labels.all.items)) = search rules in
    let moves : Moves c.loop-node.into c.loop-node.s c.further.new.into c.further.new.s = search rules in (
      along_next texts c.args.kind f ns (labels_of c.args.labels.now.all.items) c.args.s.now c.loop-node.s c.further.new.s c.args.into.now c.loop-node.into c.further.new.into c.loop-node.node-index c.loop-node.labels.all.items c.further.new.labels.all.items no_id
          c.loop-node.invariant.0 lt kind held moves,
      c.in_ok-further.ensures.same,
    )

pub returns-clause-typed : goal.returns-clause-typed
returns-clause-typed c =
    let f = c.args.u.now.forest in
    let texts = c.args.t.now.texts in
    along_done texts c.args.kind f c.list-nodes.result.now (labels_of c.args.labels.now.all.items) c.args.s.now c.loop-node.s c.args.into.now c.loop-node.into c.loop-node.node-index c.loop-node.labels.all.items c.loop-node.invariant.0 (omega arith)
    ∙ ap (λ xs. behind_labels (labels_of c.args.labels.now.all.items) (typed_labels c.args.kind (labels_of c.args.labels.now.all.items) (trees_of f xs) (state_of texts false c.args.s.now c.args.into.now))) c.list-nodes.ensures
