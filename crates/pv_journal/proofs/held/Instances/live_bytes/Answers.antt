use Rattle.std.proofs.Common.{sum_by, ap, ◌∙◌}
use Rattle.pv_journal.specs.Keyed.{live_size}
use Rattle.pv_journal.proofs.held.Instances.live_bytes.Goals as goal

pub returns : goal.returns
returns c = c.self.invariant.sum ∙ ap (sum_by live_size) c.self.view_is
