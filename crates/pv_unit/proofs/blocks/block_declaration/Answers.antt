use Rattle.std.proofs.Common.{List, [], ◌≡◌, ◌<◌, ◌≤◌, IfOk, Option, false, length, sym, ap, subst, ◌∙◌}
use Rattle.pv_tree.specs.declared.nodes.NodeId.{NodeId}
use Rattle.pv_tree.specs.TreeLines.{tree_line}
use Rattle.pv_tree.specs.Syntax.{Declaration, NoTrees}
use Rattle.pv_tree.specs.Tables.{tree_at, trees_at, list_at, declaration_at, as_declaration}
use Rattle.pv_check.specs.Open.{state_of}
use Rattle.pv_check.specs.State.{After}
use Rattle.pv_unit.specs.Blocks.{Reached, block_declaration}
use Rattle.pv_unit.specs.declared.blocks.Reached.{Reached as KeptReached}
use Rattle.pv_unit.specs.Reaching.{reached_if}
use Rattle.pv_unit.proofs.BlockLists.{declared_is}
use Rattle.pv_unit.proofs.BlockRows.{no_list}
use Rattle.pv_unit.proofs.blocks.block_declaration.Goals as goal

pub returns-then-declarators-gt0-clause-answer : goal.returns-then-declarators-gt0-clause-answer
returns-then-declarators-gt0-clause-answer c =
    let f = c.args.u.now.forest in
    let line = tree_line (tree_at f c.args.n) in
    let s = state_of c.args.t.now.texts false c.args.s.now c.args.into.now in
    let some : 0 < length (list_at f c.in-Declaration.declared) = subst (λ (xs : List NodeId). 0 < length xs) c.list-declarators.ensures c.if-declarators-gt0.true in
    let at : declaration_at f c.args.n ≡ Declaration line (trees_at f c.in-Declaration.specs) (trees_at f c.in-Declaration.declared) = ap as_declaration c.in-Declaration.ensures.tree in
    subst (λ (y : Option (After (List Reached))). IfOk c.block_declared.result (λ b. reached_if c.args.t.now.texts c.block_declared.new.s c.block_declared.new.into c.block_declared.new.all.items b ≡ y))
    (declared_is line (trees_at f c.in-Declaration.specs) f (list_at f c.in-Declaration.declared) s some ∙ ap (λ d. block_declaration d s) (sym at)) c.block_declared.ensures.answer

pub returns-else-declarators-gt0-clause-answer : goal.returns-else-declarators-gt0-clause-answer
returns-else-declarators-gt0-clause-answer c =
    let f = c.args.u.now.forest in
    let line = tree_line (tree_at f c.args.n) in
    let s = state_of c.args.t.now.texts false c.args.s.now c.args.into.now in
    let specs = trees_at f c.in-Declaration.specs in
    let none : length (list_at f c.in-Declaration.declared) ≤ 0 = subst (λ (xs : List NodeId). length xs ≤ 0) c.list-declarators.ensures c.if-declarators-gt0.false in
    let at : declaration_at f c.args.n ≡ Declaration line specs NoTrees = ap as_declaration c.in-Declaration.ensures.tree ∙ ap (Declaration line specs) (no_list f (list_at f c.in-Declaration.declared) none) in
    subst (λ (xs : List KeptReached). IfOk c.block_alone.result (λ b. reached_if c.args.t.now.texts c.block_alone.new.s c.block_alone.new.into xs b ≡ block_declaration (declaration_at f c.args.n) s)) (sym c.requires.none)
    (subst (λ (y : Option (After (List Reached))). IfOk c.block_alone.result (λ b. reached_if c.args.t.now.texts c.block_alone.new.s c.block_alone.new.into [] b ≡ y)) (ap (λ d. block_declaration d s) (sym at)) c.block_alone.ensures.answer)
