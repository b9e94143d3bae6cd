use Rattle.pv_journal.proofs.Indexing.{is_less, not_less}
use Rattle.pv_journal.proofs.held.below.Goals as goal

pub returns-in-Some-clause-greatest : goal.returns-in-Some-clause-greatest
returns-in-Some-clause-greatest c = λ q l known.
    not_less c.in-Some.base.now q ((c.range.ensures.in_range tt).4 (c.in-Some.base.now, c.in-Some.end.now) c.next_back.new.self c.in-Some.ensures.steps q (tt, is_less q c.args.a l) known)
