use Rattle.pvwhere.proofs.TokenLemmas.{start_here}
use Rattle.pvwhere.proofs.places.start_at.Goals as goal

pub returns-then-index-len : goal.returns-then-index-len
returns-then-index-len c = start_here c.args.end c.args.tokens.now.tokens c.args.index c.at.result c.at.ensures
