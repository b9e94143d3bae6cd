use Rattle.std.proofs.Common.{sym, ◌∙◌, arith}
use Rattle.pv_decl.proofs.WordNodes.{one_specifier, one_word}
use Rattle.pv_decl.proofs.word_names.lone_specifier.Goals as goal

pub list-nodes-requires : goal.list-nodes-requires
list-nodes-requires c = c.in-TypeName.ensures.children.0.0

pub returns-then-nodes-eq1-clause-specifier : goal.returns-then-nodes-eq1-clause-specifier
returns-then-nodes-eq1-clause-specifier c =
    one_specifier c.args.unit.now c.in-TypeName.specs c.list-nodes.result.now _ c.list-nodes.ensures (omega (arith, c.if-nodes-eq1.true)) c.args.name.0 c.requires.0 c.in-TypeName.ensures.children.0

pub returns-then-nodes-eq1-clause-tree : goal.returns-then-nodes-eq1-clause-tree
returns-then-nodes-eq1-clause-tree c =
    one_word c.args.unit.now c.in-TypeName.specs c.list-nodes.result.now _ c.list-nodes.ensures (omega (arith, c.if-nodes-eq1.true)) c.args.name _ c.in-TypeName.declarator (sym c.is_some.ensures ∙ c.if-is_some.false) c.in-TypeName.ensures.tree
