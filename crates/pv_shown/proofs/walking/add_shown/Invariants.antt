use Rattle.std.proofs.Common.{◌≡◌, ◌++◌, drop}
use Rattle.pv_shown.specs.Shown.{shown_from}
use Rattle.pv_shown.specs.Views.{run_view}
use Rattle.pv_shown.proofs.walking.add_shown.Given as goal

abbrev pub invariant-loop-command : goal.invariant-loop-command
invariant-loop-command l =
    l.text.items ++ shown_from (run_view l.ran) l.n (drop l.command-index l.commands) ≡ l.fn.text.items ++ shown_from (run_view l.ran) 1 l.commands
