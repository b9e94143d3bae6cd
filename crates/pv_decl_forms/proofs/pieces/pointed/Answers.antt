use Rattle.pv_tree.proofs.Kept.{extends_same}
use Rattle.pv_decl_forms.proofs.pieces.pointed.Goals as goal

pub returns-then-not-allows_abstract-clause-keeps : goal.returns-then-not-allows_abstract-clause-keeps
returns-then-not-allows_abstract-clause-keeps c = extends_same _

pub found_declarator-requires-clause-place : goal.found_declarator-requires-clause-place
found_declarator-requires-clause-place c = c.requires.place

pub returns-in_default-clause-keeps : goal.returns-in_default-clause-keeps
returns-in_default-clause-keeps c = c.found_declarator.ensures.keeps

pub returns-clause-keeps : goal.returns-clause-keeps
returns-clause-keeps c = c.found_declarator-2.ensures.keeps
