use Rattle.std.proofs.Common.{rules, ◌≡◌, ◌∙◌, ◌<◌, false, ap, length, get_or, arith, true}
use Rattle.pv_tree.specs.declared.nodes.NodeId.{NodeId}
use Rattle.pv_tree.specs.Tables.{tree_at, trees_of}
use Rattle.pv_types.specs.Known.{tree}
use Rattle.pv_check.specs.Open.{state_of, IsOpen, Goes}
use Rattle.pv_unit.specs.Blocks.{block_declarators, block_init_declarator}
use Rattle.pv_unit.specs.Reaching.{reached_in, reached_if, AreReached}
use Rattle.pv_unit.proofs.BlockLists.{along_next, along_stop}
use Rattle.pv_unit.proofs.blocks.block_declarators.Goals as goal

abbrev no_id : NodeId
no_id = record { 0 = 0 }

pub loop-n-preserved : goal.loop-n-preserved
loop-n-preserved c =
    let f = c.args.u.now.forest in
    let ns = c.list-nodes.result.now in
    let new = c.block_init_declarator.new in
    let lt : c.loop-n.n-index < length ns = omega arith in
    let held : reached_if c.args.t.now.texts c.block_init_declarator.new.s c.block_init_declarator.new.into c.block_init_declarator.new.all.items true ≡ block_init_declarator c.args.lasting (tree c.loop-n.into.known c.args.base.0) (tree_at f (get_or ns c.loop-n.n-index no_id)) (reached_in c.args.t.now.texts c.loop-n.s c.loop-n.into c.loop-n.all.items) = search rules in
    let opened : IsOpen c.block_init_declarator.new.into c.block_init_declarator.new.s = search rules in
    let goes : Goes c.loop-n.into c.block_init_declarator.new.into = search rules in
    let there : AreReached c.block_init_declarator.new.into c.block_init_declarator.new.all.items = search rules in
    along_next c.args.t.now.texts c.args.lasting c.args.base.0 f ns c.args.s.now c.loop-n.s c.block_init_declarator.new.s c.args.into.now c.loop-n.into c.block_init_declarator.new.into c.loop-n.all.items c.block_init_declarator.new.all.items c.loop-n.n-index no_id
    c.loop-n.invariant lt c.requires.known held opened goes there

pub returns-then-not-branch-clause-answer : goal.returns-then-not-branch-clause-answer
returns-then-not-branch-clause-answer c =
    let f = c.args.u.now.forest in
    let ns = c.list-nodes.result.now in
    let lt : c.loop-n.n-index < length ns = omega arith in
    let held : reached_if c.args.t.now.texts c.block_init_declarator.new.s c.block_init_declarator.new.into c.block_init_declarator.new.all.items false ≡ block_init_declarator c.args.lasting (tree c.loop-n.into.known c.args.base.0) (tree_at f (get_or ns c.loop-n.n-index no_id)) (reached_in c.args.t.now.texts c.loop-n.s c.loop-n.into c.loop-n.all.items) = search rules in
    along_stop c.args.t.now.texts c.args.lasting c.args.base.0 f ns c.args.s.now c.loop-n.s c.block_init_declarator.new.s c.args.into.now c.loop-n.into c.block_init_declarator.new.into c.loop-n.all.items c.block_init_declarator.new.all.items c.loop-n.n-index no_id
    c.loop-n.invariant lt c.requires.known held
    ∙ ap (λ xs. block_declarators (trees_of f xs) c.args.lasting (tree c.args.into.now.known c.args.base.0) (state_of c.args.t.now.texts false c.args.s.now c.args.into.now)) c.list-nodes.ensures
