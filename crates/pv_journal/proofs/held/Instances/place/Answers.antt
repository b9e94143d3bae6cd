use Rattle.std.proofs.Common.{sym, subst}
use Rattle.pv_journal.specs.Indexed.{AreDistinct}
use Rattle.pv_journal.proofs.held.Instances.place.Goals as goal

pub place_of-requires : goal.place_of-requires
place_of-requires c = subst AreDistinct (sym c.as_slice.ensures.value) c.self.invariant.distinct
