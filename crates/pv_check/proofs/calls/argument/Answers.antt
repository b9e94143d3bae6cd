use Rattle.std.proofs.Common.{◌<◌, length, arith}
use Rattle.pv_types.specs.declared.terms.TypeId.{TypeId}
use Rattle.pv_types.proofs.Compared.{at_below}
use Rattle.pv_check.proofs.calls.argument.Goals as goal

abbrev first : TypeId
first = record { 0 = 0 }

pub assigned-requires-clause-target : goal.assigned-requires-clause-target
assigned-requires-clause-target c =
    let lt : c.args.i < length c.args.types.now = omega arith in
    at_below (length c.args.into.now.known.terms) c.args.types.now c.args.i first c.requires.types lt
