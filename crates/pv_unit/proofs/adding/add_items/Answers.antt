use Rattle.pv_check.proofs.Literals.{goes_same_types}
use Rattle.pv_unit.proofs.Moving.{moves_tables}
use Rattle.pv_unit.proofs.adding.add_items.Goals as goal

pub returns-clause-moves : goal.returns-clause-moves
returns-clause-moves c =
    moves_tables c.args.into.now c.add_list.new.self c.args.s.now c.requires.opened (goes_same_types c.args.into.now c.add_list.new.self c.in_ok-l.ensures.grown c.in_ok-l.ensures.types)
