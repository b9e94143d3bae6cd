use Rattle.std.proofs.Common.{true}
use Rattle.std.specs.Prelude.{None}
use Rattle.pv_shown.specs.Commands.{last_position}
use Rattle.pv_step.proofs.PositionLemmas.{took_so, took_only, same_run}
use Rattle.pv_step.proofs.positions.positions_are_bounds.Goals as goal

pub returns-clause-running : goal.returns-clause-running
returns-clause-running c = λ u script e line rows n le whole.
    let law = c.lesser_bound_tells_first_events.ensures.turns u None true script n last_position le in
    (λ h. law.1 (took_so u script e n whole line rows h), λ h. took_only u script e n whole line rows (law.0 h))

pub returns-clause-same : goal.returns-clause-same
returns-clause-same c = λ u script n le other. same_run u script n last_position (c.lesser_bound_cuts.ensures.cut u None true script n last_position le) other

pub returns-clause-events : goal.returns-clause-events
returns-clause-events c = λ u script n le. c.lesser_bound_tells_first_events.ensures.events u None true script n last_position le
