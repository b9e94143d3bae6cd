use Rattle.std.proofs.Common.{refl}
use Rattle.pv_shown.specs.Shown.{shown_from}
use Rattle.pv_shown.specs.Views.{run_view}
use Rattle.pv_shown.proofs.Walks.{shown_next, walk_ends}
use Rattle.pv_shown.proofs.walking.add_shown.Goals as goal

pub loop-command-preserved : goal.loop-command-preserved
loop-command-preserved c =
    shown_next (run_view c.args.ran.now) c.args.commands.now c.loop-command.command-index c.loop-command.n _ _ c.loop-command.text.items c.add_one.new.text.items _
    c.loop-command-test.true c.moved-n.ensures c.in_ok-add_one.ensures c.loop-command.invariant

pub returns : goal.returns
returns c =
    walk_ends (shown_from (run_view c.args.ran.now) c.loop-command.n) c.args.commands.now c.loop-command.command-index c.loop-command.text.items _ c.loop-command-test.false refl c.loop-command.invariant
