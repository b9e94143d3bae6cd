use Rattle.std.proofs.Common.{◌≡◌, ◌≤◌, ◌-◌, All, length, drop}
use Rattle.pv_tree.specs.Syntax.{NoTrees}
use Rattle.pv_tree.specs.Tables.{trees_of, is_statement, Is, Extends}
use Rattle.pv_decl_forms.specs.Pieces.{row}
use Rattle.pv_stmt_forms.specs.Statements.{label}
use Rattle.pv_expr_forms.specs.Sources.{known_names, AreKnown}
use Rattle.pv_stmt.proofs.parts.labels.Given as goal

abbrev pub invariant-loop-labels : goal.invariant-loop-labels
invariant-loop-labels g l =
    let tokens = l.source.tokens.now.tokens in
    let part = label (known_names g.R.TypeReader.types l.source l.fn.into) l.depth in
    record {
      nodes : All (λ n. Is l.into is_statement n) l.labels.items;
      place : l.next ≤ length tokens;
      keeps : Extends l.fn.into l.into;
      tied : AreKnown g.R.TypeReader.types l.source l.into;
      same : row part (trees_of l.into.forest l.labels.items) (drop l.next tokens) ≡ row part NoTrees (drop l.fn.at tokens);
    }

abbrev pub decreases-loop-labels : goal.decreases-loop-labels
decreases-loop-labels g l = length l.source.tokens.now.tokens - l.next
