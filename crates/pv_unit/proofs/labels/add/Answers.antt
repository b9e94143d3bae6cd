use Rattle.pv_unit.proofs.LabelRows.{added_is}
use Rattle.pv_unit.proofs.labels.add.Goals as goal

pub returns-in_ok-push-clause-new : goal.returns-in_ok-push-clause-new
returns-in_ok-push-clause-new c =
    added_is c.in_ok-added.added c.args.l c.key_of.result c.args.labels.now.keys.keys c.args.labels.now.all.items c.in_ok-added.ensures.added c.key_of.ensures c.requires.same

pub returns-else-added-clause-new : goal.returns-else-added-clause-new
returns-else-added-clause-new c =
    added_is c.in_ok-added.added c.args.l c.key_of.result c.args.labels.now.keys.keys c.args.labels.now.all.items c.in_ok-added.ensures.added c.key_of.ensures c.requires.same
