use Rattle.pvwhere.proofs.PlaceLemmas.{first_whole, first_cut, first_short, first_full}
use Rattle.std.proofs.Common.{length, ◌<◌, arith}
use Rattle.pvwhere.proofs.places.first_bytes.Goals as goal

pub slice_bounds-result-end : goal.slice_bounds-result-end
slice_bounds-result-end c = let long : 1048576 < length c.args.source.now = omega (arith, c.if-source-le-SOURCE_LIMIT.false) in first_full c.args.source.now long

pub returns-then-source-le-SOURCE_LIMIT-clause-first : goal.returns-then-source-le-SOURCE_LIMIT-clause-first
returns-then-source-le-SOURCE_LIMIT-clause-first c = first_whole c.args.source.now c.if-source-le-SOURCE_LIMIT.true

pub returns-else-source-le-SOURCE_LIMIT-clause-first : goal.returns-else-source-le-SOURCE_LIMIT-clause-first
returns-else-source-le-SOURCE_LIMIT-clause-first c = first_cut c.args.source.now

pub returns-else-source-le-SOURCE_LIMIT-clause-short : goal.returns-else-source-le-SOURCE_LIMIT-clause-short
returns-else-source-le-SOURCE_LIMIT-clause-short c = first_short c.args.source.now
