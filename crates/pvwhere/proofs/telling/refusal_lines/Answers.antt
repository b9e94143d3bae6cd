use Rattle.pv_serve.specs.Loading.{refusal_of}
use Rattle.pvwhere.proofs.PlaceLemmas.{place_within}
use Rattle.pvwhere.proofs.AnswerLemmas.{is_refused, gets_lines}
use Rattle.pvwhere.proofs.telling.refusal_lines.Goals as goal

pub lines-requires-clause-within : goal.lines-requires-clause-within
lines-requires-clause-within c =
    place_within c.first_bytes-first.result.now (refusal_of c.args.refused.now) c.in_ok-at.at
    (is_refused c.args.source.now c.first_bytes-first.result.now (refusal_of c.args.refused.now) c.requires c.first_bytes-first.ensures.first) c.in_ok-at.ensures

pub returns : goal.returns
returns c =
    gets_lines c.args.name.now c.args.source.now c.first_bytes-first.result.now c.in_ok-text.text.items c.word.result.now (refusal_of c.args.refused.now) c.in_ok-at.at
    c.requires c.first_bytes-first.ensures.first c.in_ok-at.ensures c.word.ensures
    (rw (← c.as_bytes.ensures.value, ← c.as_bytes-2.ensures.value) c.in_ok-text.ensures)
