use Rattle.pvwhere.proofs.PlaceLemmas.{none_missing}
use Rattle.pvwhere.proofs.places.behind.Goals as goal

pub unwrap-index-requires : goal.unwrap-index-requires
unwrap-index-requires c = none_missing c.args.source.now c.in_ok-tokens.tokens c.args.count _ c.in_ok-tokens.ensures.lexed c.requires.begins c.in_ok-begins.ensures.none
