use Rattle.pv_typed.specs.TypedStatement.{Declare}
use Rattle.pv_unit.proofs.BlockMade.{one_behind}
use Rattle.pv_unit.proofs.Moving.{are_append, statements_stay}
use Rattle.pv_unit.proofs.adding.declare_one.Goals as goal

pub returns-clause-there : goal.returns-clause-there
returns-clause-there c =
    let a = c.args.into.now in
    let b = c.add.new.into in
    rw c.in_ok-push.ensures.items (are_append b c.args.items.now.items c.in_ok-n.n (statements_stay a b c.args.items.now.items c.in_ok-n.ensures.moves.goes c.requires.items) c.in_ok-n.ensures.there)

pub returns-clause-items : goal.returns-clause-items
returns-clause-items c =
    one_behind c.args.into.now c.add.new.into c.args.items.now.items c.push.new.self.items c.in_ok-n.n (Declare c.args.x.line c.args.x.object) c.in_ok-n.ensures.moves.goes c.requires.items c.in_ok-push.ensures.items c.in_ok-n.ensures.tree
