use Rattle.pv_tree.proofs.Kept.{extends_same}
use Rattle.pv_decl_forms.proofs.pieces.array_of.Goals as goal

pub after-requires : goal.after-requires
after-requires c = c.requires.place

pub returns-in_default-clause-keeps : goal.returns-in_default-clause-keeps
returns-in_default-clause-keeps c = extends_same _

pub found_declarator-requires-clause-place : goal.found_declarator-requires-clause-place
found_declarator-requires-clause-place c = c.in-Some.ensures.1

pub returns-clause-keeps : goal.returns-clause-keeps
returns-clause-keeps c = c.found_declarator.ensures.keeps
