use Rattle.std.proofs.Common.{ap, ◌∙◌}
use Rattle.std.specs.List.{list_any}
use Rattle.pv_journal.specs.Keyed.{shares_bytes}
use Rattle.pv_journal.proofs.Indices.{none_overlaps, last_overlaps}
use Rattle.pv_journal.proofs.held.Instances.overlaps_any.Goals as goal

pub returns-in-Some : goal.returns-in-Some
returns-in-Some c =
    last_overlaps c.self.inside.made.items c.self.inside.living.entries c.args.base c.args.size c.in-Some.entry.0 c.in-Some.entry.1 c.self.invariant.living c.in-Some.ensures.there c.in-Some.ensures.low
    c.in-Some.ensures.greatest
    ∙ ap (list_any (shares_bytes c.args.base c.args.size)) c.self.view_is

pub returns-in-None : goal.returns-in-None
returns-in-None c =
    none_overlaps c.self.inside.made.items c.self.inside.living.entries c.args.base c.args.size c.self.invariant.living c.in-None.ensures.none
    ∙ ap (list_any (shares_bytes c.args.base c.args.size)) c.self.view_is
