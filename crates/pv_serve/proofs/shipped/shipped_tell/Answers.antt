use Rattle.pv_serve.proofs.WatchingLemmas as watching
use Rattle.pv_serve.proofs.shipped.shipped_tell.Goals as goal

pub returns : goal.returns
returns c = watching.shipped_tell
