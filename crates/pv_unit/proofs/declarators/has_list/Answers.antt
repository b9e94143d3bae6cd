use Rattle.std.proofs.Common.{rules, ◌≡◌, ◌<◌, length, get_or, true, ap, ◌∙◌, arith}
use Rattle.pv_tree.specs.declared.nodes.NodeId.{NodeId}
use Rattle.pv_tree.specs.Tables.{tree_at, trees_of, specifier_at, is_specifier}
use Rattle.pv_unit.specs.Declarations.{is_listed, has_list}
use Rattle.pv_unit.proofs.DeclaredRows.{listed_at}
use Rattle.pv_unit.proofs.declarators.has_list.Goals as goal

abbrev no_id : NodeId
no_id = record { 0 = 0 }

pub returns-then-is_listed : goal.returns-then-is_listed
returns-then-is_listed c =
    let f = c.args.u.now.forest in
    let ns = c.list-nodes.result.now in
    let lt : c.loop-n.n-index < length ns = omega arith in
    let kind : is_specifier (tree_at f (get_or ns c.loop-n.n-index no_id)) ≡ true = search rules in
    let here : is_listed (specifier_at f (get_or ns c.loop-n.n-index no_id)) ≡ true = search rules in
    listed_at f ns c.loop-n.n-index no_id lt kind here ∙ ap (λ xs. has_list (trees_of f xs)) c.list-nodes.ensures
