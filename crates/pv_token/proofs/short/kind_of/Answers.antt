use Rattle.std.proofs.Common.{length, subst}
use Rattle.pv_token.specs.Short.{IsThere}
use Rattle.pv_token.proofs.short.kind_of.Goals as goal

pub bounds-values-place : goal.bounds-values-place
bounds-values-place c = subst (IsThere (length c.args.values.now)) c.in-Large.is c.requires
