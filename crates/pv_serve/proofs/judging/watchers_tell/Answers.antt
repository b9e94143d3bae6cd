use Rattle.pv_serve.proofs.WatchingLemmas as watching
use Rattle.pv_serve.proofs.judging.watchers_tell.Goals as goal

pub returns : goal.returns
returns c = watching.watchers_tell
