use Rattle.std.proofs.Common.{length}
use Rattle.pv_tree.proofs.Shortened.{row_added, short_added}
use Rattle.pv_tree.proofs.rows.Rows.push.Goals as goal

pub invariant_of-self-in-Some : goal.invariant_of-self-in-Some
invariant_of-self-in-Some c = short_added c.self.inside.whole.items c.self.inside.short.items c.args.self.now c.self.view_is c.self.invariant c.push.new.self.items c.args.row.node c.args.row.line c.args.row.depth
    c.in-Some.node c.in_ok-push-in-Some.ensures.items (c.in-Some.ensures.among (length c.self.inside.whole.items))

pub returns-in_ok-push-in-Some-clause-added : goal.returns-in_ok-push-in-Some-clause-added
returns-in_ok-push-in-Some-clause-added c = row_added c.self.inside.whole.items c.self.inside.short.items c.args.self.now c.self.view_is c.self.invariant c.push.new.self.items c.args.row.node c.args.row.line c.args.row.depth
    c.in-Some.node c.in_ok-push-in-Some.ensures.items (c.in-Some.ensures.node c.self.inside.whole.items)
