use Rattle.std.proofs.Common.{arith}
use Rattle.pv_tree.specs.Tables.{tree_at}
use Rattle.pv_tree.specs.TreeLines.{tree_line}
use Rattle.pv_decl.proofs.WordNodes.{word_plain}
use Rattle.pv_decl.proofs.word_names.is_word_on.Goals as goal

pub returns : goal.returns
returns c = λ e is_type ts.
    word_plain c.args.unit.now.forest c.args.n c.spec-spec.result c.args.word (tree_line (tree_at c.args.unit.now.forest c.args.n)) c.args.line c.spec-spec.ensures.tree (omega (arith, c.line-here.ensures, c.if-here-line.false))
    (c.is_word.ensures.same e) (c.is_word.ensures.plain e) is_type ts
