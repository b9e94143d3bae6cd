use Rattle.pv_seq.proofs.Finding.{begins_later}
use Rattle.pv_seq.proofs.index.search_from.Goals as goal

pub returns-then-rules_out-clause-same : goal.returns-then-rules_out-clause-same
returns-then-rules_out-clause-same c = begins_later c.args.a c.args.accesses.now c.args.start c.middle-middle.result c.args.end c.middle-middle.ensures.order c.middle-middle.ensures.end c.requires.end (c.rules_out.ensures c.if-rules_out.true)
