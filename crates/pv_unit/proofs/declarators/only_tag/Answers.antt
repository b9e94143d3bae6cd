use Rattle.std.proofs.Common.{◌≢◌, length, ap, ◌∙◌, arith}
use Rattle.pv_tree.specs.Tables.{trees_of}
use Rattle.pv_unit.specs.Declarations.{only_tag}
use Rattle.pv_unit.proofs.DeclaredRows.{no_tag}
use Rattle.pv_unit.proofs.declarators.only_tag.Goals as goal

pub returns-then-nodes-ne1 : goal.returns-then-nodes-ne1
returns-then-nodes-ne1 c =
    let f = c.args.u.now.forest in
    let other : length c.list-nodes.result.now ≢ 1 = omega arith in
    no_tag f c.list-nodes.result.now other ∙ ap (λ xs. only_tag (trees_of f xs)) c.list-nodes.ensures
