use Rattle.std.proofs.Common.{◌≡◌, ◌≤◌, ◌+◌, ◌-◌, ◌*◌, ℕ, All, length, drop}
use Rattle.pv_tree.specs.Depths.{declarator_depth}
use Rattle.pv_tree.specs.Syntax.{NoTrees}
use Rattle.pv_tree.specs.Tables.{tree_at, declarator_at, trees_of, is_declarator, Is, Extends}
use Rattle.pv_decl_forms.specs.declared.forms.Part.{Part}
use Rattle.pv_decl_forms.specs.declared.forms.Part.TheVariants as part
use Rattle.pv_decl_forms.specs.Declarators.{longest_declarator}
use Rattle.pv_decl_forms.specs.Parts.{kind_of_part, place_of_part}
use Rattle.pv_decl_forms.specs.Pieces.{row_on, row, after_comma, comma_list}
use Rattle.pv_decl_forms.specs.Reader.{readers}
use Rattle.pv_expr_forms.specs.Sources.{known_names}
use Rattle.pv_decl.specs.Sources.{AreKnown}
use Rattle.pv_decl.proofs.declarations.Declarations.+reading.Given as goal

-- a member is read by its specifiers and declarators, at its own depth
abbrev pub height : Part → ℕ
height part.Member = 8
height _ = 4

abbrev pub decreases-read : goal.decreases-read
decreases-read g l = 12 * l.depth + height l.part

abbrev pub decreases-row : goal.decreases-row
decreases-row g l = 12 * l.depth + height l.part + 1

abbrev pub decreases-listed : goal.decreases-listed
decreases-listed g l = 12 * l.depth + height l.part + 1

abbrev pub decreases-specifier : goal.decreases-specifier
decreases-specifier g l = 12 * l.depth + 2

abbrev pub decreases-braced : goal.decreases-braced
decreases-braced g l = 12 * l.depth

abbrev pub decreases-member : goal.decreases-member
decreases-member g l = 12 * l.depth + 7

abbrev pub decreases-parameter : goal.decreases-parameter
decreases-parameter g l = 12 * l.depth

abbrev pub decreases-declarator : goal.decreases-declarator
decreases-declarator g l = 12 * l.depth

abbrev pub decreases-grow : goal.decreases-grow
decreases-grow g l = 12 * l.below + 9

abbrev pub decreases-extend : goal.decreases-extend
decreases-extend g l = 12 * l.below + 8

abbrev pub decreases-parameters : goal.decreases-parameters
decreases-parameters g l = 12 * l.below + 7

abbrev pub decreases-head : goal.decreases-head
decreases-head g l = 12 * l.below + 9

abbrev pub decreases-pointer : goal.decreases-pointer
decreases-pointer g l = 12 * l.below + 5

abbrev pub decreases-opened : goal.decreases-opened
decreases-opened g l = 12 * l.below + 8

abbrev pub invariant-row-loop-parts : goal.invariant-row-loop-parts
invariant-row-loop-parts g l =
    let tokens = l.self.source.tokens.now.tokens in
    let part = readers (known_names g.R.TypeReader.types l.self.source l.fn.into) l.depth (place_of_part l.part) in
    record {
      nodes : All (λ n. Is l.into (kind_of_part l.part) n) l.parts.items;
      place : l.next ≤ length tokens;
      keeps : Extends l.fn.into l.into;
      tied : AreKnown g.R.TypeReader.types l.self l.into;
      same : row part (trees_of l.into.forest l.parts.items) (drop l.next tokens) ≡ row part NoTrees (drop l.fn.at tokens);
    }

abbrev pub decreases-row-loop-parts : goal.decreases-row-loop-parts
decreases-row-loop-parts g l = length l.self.source.tokens.now.tokens - l.next

abbrev pub invariant-listed-loop-parts : goal.invariant-listed-loop-parts
invariant-listed-loop-parts g l =
    let tokens = l.self.source.tokens.now.tokens in
    let part = readers (known_names g.R.TypeReader.types l.self.source l.fn.into) l.depth (place_of_part l.part) in
    record {
      nodes : All (λ n. Is l.into (kind_of_part l.part) n) l.parts.items;
      place : l.next ≤ length tokens;
      where_behind : l.behind ≤ length tokens;
      keeps : Extends l.fn.into l.into;
      tied : AreKnown g.R.TypeReader.types l.self l.into;
      same : row_on (row (after_comma part)) (trees_of l.into.forest l.parts.items) (drop l.behind tokens) (part (drop l.next tokens)) ≡ comma_list part (drop l.fn.at tokens);
    }

abbrev pub decreases-listed-loop-parts : goal.decreases-listed-loop-parts
decreases-listed-loop-parts g l = length l.self.source.tokens.now.tokens - l.next

abbrev pub invariant-grow-loop-longer : goal.invariant-grow-loop-longer
invariant-grow-loop-longer g l =
    let tokens = l.self.source.tokens.now.tokens in
    let below = readers (known_names g.R.TypeReader.types l.self.source l.fn.into) l.below in
    record {
      node : Is l.into is_declarator l.left;
      place : l.next ≤ length tokens;
      keeps : Extends l.fn.into l.into;
      tied : AreKnown g.R.TypeReader.types l.self l.into;
      same : longest_declarator below l.below l.line (tree_at l.into.forest l.left) (drop l.next tokens) ≡ longest_declarator below l.below l.line (tree_at l.fn.into.forest l.fn.first) (drop l.fn.at tokens);
    }

abbrev pub decreases-grow-loop-longer : goal.decreases-grow-loop-longer
decreases-grow-loop-longer g l = l.below + 1 - declarator_depth (declarator_at l.into.forest l.left)
