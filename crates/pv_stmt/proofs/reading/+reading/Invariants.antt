use Rattle.std.proofs.Common.{◌≡◌, ◌≤◌, ◌+◌, ◌-◌, ◌*◌, All, length, drop}
use Rattle.pv_tree.specs.Syntax.{NoTrees}
use Rattle.pv_tree.specs.Tables.{trees_of, is_item, Is, Extends}
use Rattle.pv_decl_forms.specs.Pieces.{row}
use Rattle.pv_stmt_forms.specs.Parts.{item_in}
use Rattle.pv_expr_forms.specs.Sources.{known_names, AreKnown}
use Rattle.pv_stmt.proofs.reading.+reading.Given as goal

abbrev pub decreases-statement : goal.decreases-statement
decreases-statement g l = 6 * l.depth

abbrev pub decreases-selection : goal.decreases-selection
decreases-selection g l = 6 * l.below + 2

abbrev pub decreases-chosen : goal.decreases-chosen
decreases-chosen g l = 6 * l.below + 1

abbrev pub decreases-while_loop : goal.decreases-while_loop
decreases-while_loop g l = 6 * l.below + 1

abbrev pub decreases-do_loop : goal.decreases-do_loop
decreases-do_loop g l = 6 * l.below + 1

abbrev pub decreases-for_loop : goal.decreases-for_loop
decreases-for_loop g l = 6 * l.below + 1

abbrev pub decreases-switch : goal.decreases-switch
decreases-switch g l = 6 * l.below + 2

abbrev pub decreases-braced : goal.decreases-braced
decreases-braced g l = 6 * l.below + 5

abbrev pub decreases-items : goal.decreases-items
decreases-items g l = 6 * l.depth + 4

abbrev pub decreases-item : goal.decreases-item
decreases-item g l = 6 * l.depth + 3

abbrev pub decreases-labelled : goal.decreases-labelled
decreases-labelled g l = 6 * l.depth + 2

abbrev pub invariant-items-loop-items : goal.invariant-items-loop-items
invariant-items-loop-items g l =
    let tokens = l.source.tokens.now.tokens in
    let part = item_in l.within (known_names g.R.TypeReader.types l.source l.fn.into) l.depth in
    record {
      nodes : All (λ n. Is l.into is_item n) l.items.items;
      place : l.next ≤ length tokens;
      keeps : Extends l.fn.into l.into;
      tied : AreKnown g.R.TypeReader.types l.source l.into;
      same : row part (trees_of l.into.forest l.items.items) (drop l.next tokens) ≡ row part NoTrees (drop l.fn.at tokens);
    }

abbrev pub decreases-items-loop-items : goal.decreases-items-loop-items
decreases-items-loop-items g l = length l.source.tokens.now.tokens - l.next
