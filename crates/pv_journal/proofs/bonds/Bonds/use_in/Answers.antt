use Rattle.std.proofs.Common.{ap, ◌∙◌}
use Rattle.pv_journal.specs.Standing.{is_heap}
use Rattle.pv_journal.proofs.Changed.{used_in}
use Rattle.pv_journal.proofs.bonds.Bonds.use_in.Goals as goal

pub returns : goal.returns
returns c =
    used_in c.args.held.now (is_heap c.args.names.now) c.args.self.now c.args.i c.args.test c.args.first c.args.second c.bond_in-b.result c.in-Some.kept c.keep_if.result c.keep_if.new.self
    c.bond_in-b.ensures c.if-not-b.false c.if-not-b-2.false c.in-Some.ensures
    (c.keep_if.ensures (is_heap c.args.names.now) (c.is_heap-heap.ensures ∙ ap (is_heap c.args.names.now) c.asked.ensures))
