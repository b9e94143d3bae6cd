use Rattle.std.proofs.Common.{◌≡◌, drop}
use Rattle.pvwhere.specs.Places as specified
use Rattle.pvwhere.proofs.places.first_named.Given as goal

abbrev pub invariant-loop-index : goal.invariant-loop-index
invariant-loop-index l =
    specified.first_named l.end l.tokens.names l.name (drop l.index l.tokens.tokens) ≡ specified.first_named l.end l.tokens.names l.name l.tokens.tokens
