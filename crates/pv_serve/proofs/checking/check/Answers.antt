use Rattle.pv_serve.proofs.ComesLemmas.{too_long, short_enough}
use Rattle.pv_serve.proofs.checking.check.Goals as goal

pub returns-then-source-gt-SOURCE_LIMIT-clause-reads : goal.returns-then-source-gt-SOURCE_LIMIT-clause-reads
returns-then-source-gt-SOURCE_LIMIT-clause-reads c = too_long _ c.if-source-gt-SOURCE_LIMIT.true

pub returns-clause-reads : goal.returns-clause-reads
returns-clause-reads c = short_enough _ _ c.if-source-gt-SOURCE_LIMIT.false c.typed.ensures.comes
