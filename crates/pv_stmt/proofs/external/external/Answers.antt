use Rattle.pv_tree.proofs.Kept.{extends_then}
use Rattle.pv_stmt.proofs.external.external.Goals as goal

pub returns-in_err-found-clause-keeps : goal.returns-in_err-found-clause-keeps
returns-in_err-found-clause-keeps c = c.read_up_to.ensures.keeps

pub returns-then-is_some-clause-keeps : goal.returns-then-is_some-clause-keeps
returns-then-is_some-clause-keeps c = c.read_up_to.ensures.keeps

pub returns-clause-keeps : goal.returns-clause-keeps
returns-clause-keeps c = extends_then c.args.into.now c.read_up_to.new.into c.read_up_to-2.new.into c.read_up_to.ensures.keeps c.read_up_to-2.ensures.keeps
