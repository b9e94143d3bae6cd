use Rattle.std.proofs.Common.{◌≡◌, ℕ, [], ◌∷◌, ap, ◌∙◌, arith}
use Rattle.pv_tree.specs.Syntax.{TypeName, OfDeclaration, Absent}
use Rattle.pv_tree.specs.Tables.{tree_at, trees_of}
use Rattle.pv_tree.specs.TreeLines.{tree_line}
use Rattle.pv_decl.proofs.word_names.word_of.Goals as goal

pub line-here-requires : goal.line-here-requires
line-here-requires c = c.requires.0

pub is_word_on-requires : goal.is_word_on-requires
is_word_on-requires c = c.in-Some.ensures.specifier

pub returns-then-is_word_on-clause-specifier : goal.returns-then-is_word_on-clause-specifier
returns-then-is_word_on-clause-specifier c = c.in-Some.ensures.specifier

pub returns-then-is_word_on-clause-word : goal.returns-then-is_word_on-clause-word
returns-then-is_word_on-clause-word c = c.is_word_on.ensures c.if-is_word_on.true

pub returns-then-is_word_on-clause-tree : goal.returns-then-is_word_on-clause-tree
returns-then-is_word_on-clause-tree c =
    let same : tree_line (tree_at c.args.unit.now.forest c.args.name) ≡ c.args.line = omega (arith, c.line-here.ensures, c.if-here-line.false) in
    c.in-Some.ensures.tree ∙ ap (λ (l : ℕ). OfDeclaration (TypeName l (trees_of c.args.unit.now.forest (c.in-Some.spec ∷ [])) Absent)) same
