use Rattle.std.proofs.Common.{rules, ◌≡◌, ◌∙◌, ◌<◌, ap, length, get_or, arith, true, false}
use Rattle.pv_tree.specs.declared.nodes.NodeId.{NodeId}
use Rattle.pv_tree.specs.Tables.{tree_at, trees_of}
use Rattle.pv_check.specs.Open.{IsOpen, Goes}
use Rattle.pv_unit.specs.Declarations.{file_declarators, file_init_declarator}
use Rattle.pv_unit.specs.DeclaredIn.{specified_in}
use Rattle.pv_unit.specs.Outside.{unit_state, unit_if}
use Rattle.pv_unit.specs.There.{AreThere}
use Rattle.pv_unit.proofs.FileLists.{along_next, along_stop}
use Rattle.pv_unit.proofs.outside.file_declarators.Goals as goal

abbrev no_id : NodeId
no_id = record { 0 = 0 }

pub loop-n-preserved : goal.loop-n-preserved
loop-n-preserved c =
    let f = c.args.u.now.forest in
    let ns = c.list-nodes.result.now in
    let lt : c.loop-n.n-index < length ns = omega arith in
    let held : unit_if c.args.t.now.texts c.file_init_declarator.new.s c.file_init_declarator.new.into c.file_init_declarator.new.outer true ≡ file_init_declarator (specified_in c.loop-n.into.known c.args.x) (tree_at f (get_or ns c.loop-n.n-index no_id)) (unit_state c.args.t.now.texts c.loop-n.s c.loop-n.into c.loop-n.outer) = search rules in
    let opened : IsOpen c.file_init_declarator.new.into c.file_init_declarator.new.s = search rules in
    let goes : Goes c.loop-n.into c.file_init_declarator.new.into = search rules in
    let entities : AreThere c.file_init_declarator.new.into c.file_init_declarator.new.outer.entities = search rules in (
      along_next c.args.t.now.texts c.args.x f ns c.args.s.now c.loop-n.s c.file_init_declarator.new.s c.args.into.now c.loop-n.into c.file_init_declarator.new.into c.args.outer.now c.loop-n.outer c.file_init_declarator.new.outer c.loop-n.n-index no_id
          c.loop-n.invariant.0 lt c.requires.known held opened goes,
      entities,
    )

pub returns-then-not-branch-clause-answer : goal.returns-then-not-branch-clause-answer
returns-then-not-branch-clause-answer c =
    let f = c.args.u.now.forest in
    let ns = c.list-nodes.result.now in
    let lt : c.loop-n.n-index < length ns = omega arith in
    let held : unit_if c.args.t.now.texts c.file_init_declarator.new.s c.file_init_declarator.new.into c.file_init_declarator.new.outer false ≡ file_init_declarator (specified_in c.loop-n.into.known c.args.x) (tree_at f (get_or ns c.loop-n.n-index no_id)) (unit_state c.args.t.now.texts c.loop-n.s c.loop-n.into c.loop-n.outer) = search rules in
    along_stop c.args.t.now.texts c.args.x f ns c.args.s.now c.loop-n.s c.file_init_declarator.new.s c.args.into.now c.loop-n.into c.file_init_declarator.new.into c.args.outer.now c.loop-n.outer c.file_init_declarator.new.outer c.loop-n.n-index no_id
    c.loop-n.invariant.0 lt c.requires.known held
    ∙ ap (λ xs. file_declarators (trees_of f xs) (specified_in c.args.into.now.known c.args.x) (unit_state c.args.t.now.texts c.args.s.now c.args.into.now c.args.outer.now)) c.list-nodes.ensures
