use Rattle.std.proofs.Common.{rules}
use Rattle.pv_tree.proofs.Kept.{extends_same}
use Rattle.pv_decl.proofs.declarations.Declarations.abstract_array.Goals as goal

pub array-requires-clause-ready : goal.array-requires-clause-ready
array-requires-clause-ready g c = c.requires

pub array-requires-clause-left : goal.array-requires-clause-left
array-requires-clause-left g c = tt

pub returns-then-allows_abstract : goal.returns-then-allows_abstract
returns-then-allows_abstract g c = record { keeps = c.array.ensures.keeps; answer = search rules }

pub returns-else-allows_abstract : goal.returns-else-allows_abstract
returns-else-allows_abstract g c = record { keeps = extends_same _; answer = search rules }
