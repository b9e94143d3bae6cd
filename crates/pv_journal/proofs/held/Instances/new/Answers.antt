use Rattle.pv_journal.proofs.Indexing.{indexed_new}
use Rattle.pv_journal.proofs.held.Instances.new.Goals as goal

pub invariant_of-result : goal.invariant_of-result
invariant_of-result c = indexed_new c.new.result.items c.new-3.result.items c.new-4.result.entries c.new.ensures.items c.new-3.ensures.items c.new-4.ensures.empty
