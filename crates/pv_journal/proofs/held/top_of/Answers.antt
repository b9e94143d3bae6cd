use Rattle.std.proofs.Common.{sym, arith}
use Rattle.std.proofs.lemmas.List.{get_or_past}
use Rattle.pv_journal.proofs.held.top_of.Goals as goal

pub returns-else-name-tops : goal.returns-else-name-tops
returns-else-name-tops c = sym (get_or_past c.args.tops.now c.args.name 0 (omega arith))
