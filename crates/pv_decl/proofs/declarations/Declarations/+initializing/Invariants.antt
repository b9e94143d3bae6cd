use Rattle.std.proofs.Common.{◌≡◌, ◌≤◌, ◌+◌, ◌-◌, ◌*◌, All, length, drop}
use Rattle.pv_tree.specs.Places.{Initializers}
use Rattle.pv_tree.specs.Tables.{trees_of, is_initializer, Is, Extends}
use Rattle.pv_decl_forms.specs.Pieces.{row_on, row, after_comma, comma_list}
use Rattle.pv_decl_forms.specs.Reader.{readers}
use Rattle.pv_expr_forms.specs.Sources.{known_names}
use Rattle.pv_decl.specs.Sources.{AreKnown}
use Rattle.pv_decl.proofs.declarations.Declarations.+initializing.Given as goal

abbrev pub decreases-initializer : goal.decreases-initializer
decreases-initializer g l = 2 * l.depth

abbrev pub decreases-initializers : goal.decreases-initializers
decreases-initializers g l = 2 * l.depth + 1

abbrev pub invariant-initializers-loop-parts : goal.invariant-initializers-loop-parts
invariant-initializers-loop-parts g l =
    let tokens = l.self.source.tokens.now.tokens in
    let part = readers (known_names g.R.TypeReader.types l.self.source l.fn.into) l.depth Initializers in
    record {
      nodes : All (λ n. Is l.into is_initializer n) l.parts.items;
      place : l.next ≤ length tokens;
      where_behind : l.behind ≤ length tokens;
      keeps : Extends l.fn.into l.into;
      tied : AreKnown g.R.TypeReader.types l.self l.into;
      same : row_on (row (after_comma part)) (trees_of l.into.forest l.parts.items) (drop l.behind tokens) (part (drop l.next tokens)) ≡ comma_list part (drop l.fn.at tokens);
    }

abbrev pub decreases-initializers-loop-parts : goal.decreases-initializers-loop-parts
decreases-initializers-loop-parts g l = length l.self.source.tokens.now.tokens - l.next
