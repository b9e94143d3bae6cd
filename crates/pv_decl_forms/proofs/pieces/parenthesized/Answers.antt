use Rattle.pv_tree.proofs.Kept.{extends_same}
use Rattle.pv_decl_forms.proofs.pieces.parenthesized.Goals as goal

pub returns-in_default-clause-keeps : goal.returns-in_default-clause-keeps
returns-in_default-clause-keeps c = extends_same _

pub returns-in_default-after-clause-keeps : goal.returns-in_default-after-clause-keeps
returns-in_default-after-clause-keeps c = extends_same _

pub returns-clause-keeps : goal.returns-clause-keeps
returns-clause-keeps c = c.found_declarator.ensures.keeps
