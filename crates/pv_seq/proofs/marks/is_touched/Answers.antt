use Rattle.std.proofs.Common.{◌∙◌, sym}
use Rattle.std.specs.Map.Iter.{deref}
use Rattle.std.proofs.lemmas.Map.Iter.{rest_all}
use Rattle.pv_seq.proofs.Marking.{none_is, within}
use Rattle.pv_seq.proofs.marks.is_touched.Goals as goal

pub returns : goal.returns
returns c = λ none n le lt.
    let all = rest_all deref c.range.result c.next.new.self c.next.result (none_is c.next.result (sym c.is_some.ensures ∙ none)) c.next.ensures.steps in
    (c.range.ensures.in_range tt).5 all (c.args.byte, n) (within c.args.byte c.args.start c.args.end n le lt)
