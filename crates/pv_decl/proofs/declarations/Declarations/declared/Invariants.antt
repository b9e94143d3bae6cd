use Rattle.std.proofs.Common.{◌≡◌, ◌≤◌, ◌-◌, All, length, drop}
use Rattle.pv_tree.specs.Places.{InitDeclarators}
use Rattle.pv_tree.specs.Syntax.{NoTrees, Then}
use Rattle.pv_tree.specs.Tables.{tree_at, trees_of, is_declaration, Is, Extends}
use Rattle.pv_decl_forms.specs.Pieces.{row, after_comma}
use Rattle.pv_decl_forms.specs.Reader.{readers}
use Rattle.pv_expr_forms.specs.Sources.{known_names}
use Rattle.pv_decl.specs.Sources.{AreKnown}
use Rattle.pv_decl.proofs.declarations.Declarations.declared.Given as goal

abbrev pub invariant-loop-next : goal.invariant-loop-next
invariant-loop-next g l =
    let tokens = l.self.source.tokens.now.tokens in
    let part = after_comma (readers (known_names g.R.TypeReader.types l.self.source l.fn.into) l.below InitDeclarators) in
    record {
      nodes : All (λ n. Is l.into is_declaration n) l.declared.items;
      place : l.behind ≤ length tokens;
      keeps : Extends l.fn.into l.into;
      tied : AreKnown g.R.TypeReader.types l.self l.into;
      same : row part (trees_of l.into.forest l.declared.items) (drop l.behind tokens) ≡ row part (Then NoTrees (tree_at l.fn.into.forest l.fn.first)) (drop l.fn.at tokens);
    }

abbrev pub decreases-loop-next : goal.decreases-loop-next
decreases-loop-next g l = length l.self.source.tokens.now.tokens - l.behind
