use Rattle.pv_check.proofs.ArmLaws.{open_kept, row_given}
use Rattle.pv_check.proofs.calls.call.Goals as goal

pub returns-clause-open : goal.returns-clause-open
returns-clause-open c = open_kept c.args.into.now c.call_by.new.into c.args.s.now c.in_ok-r.r c.in_ok-r.ensures.kept c.requires.open c.in_ok-r.ensures.node

pub returns-clause-typed : goal.returns-clause-typed
returns-clause-typed c = λ texts.
    row_given texts c.args.hidden c.args.into.now c.call_by.new.into c.args.s.now c.in_ok-r.r _ c.in_ok-r.ensures.kept c.requires.open c.in_ok-r.ensures.typed
