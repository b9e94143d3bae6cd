use Rattle.std.proofs.Common.{◌≡◌, ◌≤◌, ◌+◌, ◌-◌, ◌*◌, All, length, drop}
use Rattle.pv_tree.specs.Depths.{expression_depth}
use Rattle.pv_tree.specs.Syntax.{NoArguments}
use Rattle.pv_tree.specs.Tables.{expression_at, arguments_of, is_expression, Is, Extends}
use Rattle.pv_expr_forms.specs.Reader.{read, longest_tree, arguments}
use Rattle.pv_expr_forms.specs.Sources.{known_names, AreKnown}
use Rattle.pv_expr.proofs.reading.+reading.Given as goal

abbrev pub decreases-read_tree : goal.decreases-read_tree
decreases-read_tree g l = 6 * l.depth

abbrev pub decreases-read_head : goal.decreases-read_head
decreases-read_head g l = 6 * l.below + 3

abbrev pub decreases-grow : goal.decreases-grow
decreases-grow g l = 6 * l.below + 4

abbrev pub decreases-extend : goal.decreases-extend
decreases-extend g l = 6 * l.below + 3

abbrev pub decreases-ask : goal.decreases-ask
decreases-ask g l = 6 * l.below + 1

abbrev pub decreases-arguments : goal.decreases-arguments
decreases-arguments g l = 6 * l.below + 1

abbrev pub invariant-grow-loop-longer : goal.invariant-grow-loop-longer
invariant-grow-loop-longer g l =
    let tokens = l.source.tokens.now.tokens in
    let names = known_names g.R.TypeReader.types l.source l.fn.into in
    record {
      node : Is l.into is_expression l.left;
      place : l.next ≤ length tokens;
      keeps : Extends l.fn.into l.into;
      tied : AreKnown g.R.TypeReader.types l.source l.into;
      same : longest_tree names (read names l.below) l.level l.below (expression_at l.into.forest l.left) (drop l.next tokens) ≡ longest_tree names (read names l.below) l.level l.below (expression_at l.fn.into.forest l.fn.first) (drop l.fn.at tokens);
    }

abbrev pub decreases-grow-loop-longer : goal.decreases-grow-loop-longer
decreases-grow-loop-longer g l = l.below + 1 - expression_depth (expression_at l.into.forest l.left)

abbrev pub invariant-arguments-loop-list : goal.invariant-arguments-loop-list
invariant-arguments-loop-list g l =
    let tokens = l.source.tokens.now.tokens in
    let names = known_names g.R.TypeReader.types l.source l.fn.into in
    record {
      nodes : All (λ n. Is l.into is_expression n) l.list.items;
      place : l.next ≤ length tokens;
      keeps : Extends l.fn.into l.into;
      tied : AreKnown g.R.TypeReader.types l.source l.into;
      same : arguments (read names l.below) (arguments_of l.into.forest l.list.items) (drop l.next tokens) ≡ arguments (read names l.below) NoArguments (drop l.fn.at tokens);
    }

abbrev pub decreases-arguments-loop-list : goal.decreases-arguments-loop-list
decreases-arguments-loop-list g l = length l.source.tokens.now.tokens - l.next
