use Rattle.std.proofs.Common.{sym}
use Rattle.pv_serve.proofs.RunLemmas.{within}
use Rattle.pv_serve.proofs.LoadLemmas.{too_long}
use Rattle.pv_serve.proofs.loading.load.Goals as goal

pub returns-then-source-gt-SOURCE_LIMIT : goal.returns-then-source-gt-SOURCE_LIMIT
returns-then-source-gt-SOURCE_LIMIT c = too_long _ _ c.if-source-gt-SOURCE_LIMIT.true

pub load_source-requires : goal.load_source-requires
load_source-requires c = c.if-source-gt-SOURCE_LIMIT.false

pub returns-in-Ok : goal.returns-in-Ok
returns-in-Ok c = c.load_source.ensures c.args.script.now (sym c.in-Ok.ensures)

pub returns-in-Err : goal.returns-in-Err
returns-in-Err c = c.script_refused.ensures c.args.source.now c.args.script.now (within _ c.if-source-gt-SOURCE_LIMIT.false) c.in-Err.ensures
