use Rattle.pv_tree.proofs.Kept.{extends_same}
use Rattle.pv_decl_forms.proofs.pieces.plain.Goals as goal

pub returns-then-not-is_type-clause-keeps : goal.returns-then-not-is_type-clause-keeps
returns-then-not-is_type-clause-keeps c = extends_same _

pub found_specifier-requires-clause-place : goal.found_specifier-requires-clause-place
found_specifier-requires-clause-place c = c.requires

pub found_specifier-requires-in-Some-clause-place : goal.found_specifier-requires-in-Some-clause-place
found_specifier-requires-in-Some-clause-place c = c.requires

pub returns-else-not-is_type-clause-keeps : goal.returns-else-not-is_type-clause-keeps
returns-else-not-is_type-clause-keeps c = c.found_specifier.ensures.keeps

pub returns-in-Some-clause-keeps : goal.returns-in-Some-clause-keeps
returns-in-Some-clause-keeps c = c.found_specifier-in-Some.ensures.keeps

pub returns-in-None-clause-keeps : goal.returns-in-None-clause-keeps
returns-in-None-clause-keeps c = extends_same _
