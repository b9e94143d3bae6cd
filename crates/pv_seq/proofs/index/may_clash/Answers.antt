use Rattle.pv_seq.proofs.Finding.{none_clash}
use Rattle.pv_seq.proofs.index.may_clash.Goals as goal

pub returns : goal.returns
returns c = λ none. none_clash c.args.index.now c.deref.result.now c.args.accesses.now c.args.a c.args.start c.args.end c.deref.ensures.value c.requires.found c.requires.end (c.are_touched.ensures c.if-are_touched.false) (c.are_read.ensures c.if-are_read.false) (c.some_clash.ensures none)
