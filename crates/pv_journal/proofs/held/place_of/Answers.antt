use Rattle.std.proofs.Common.{sym, ◌∙◌}
use Rattle.pv_journal.proofs.Indices.{stands_at}
use Rattle.pv_journal.proofs.held.place_of.Goals as goal

pub returns-then-same_key-clause-place : goal.returns-then-same_key-clause-place
returns-then-same_key-clause-place c =
    sym (stands_at c.args.held.now c.args.key c.in-Some.i c.held_in-x.result c.requires c.held_in-x.ensures (sym c.same_key.ensures ∙ c.if-same_key.true))
