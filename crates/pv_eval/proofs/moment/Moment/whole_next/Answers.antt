use Rattle.std.proofs.Common.{ap, ◌∙◌}
use Rattle.pv_eval.specs.Moments.{Moment}
use Rattle.pv_eval.proofs.moment.Moment.whole_next.Goals as goal

pub returns-in-Some-clause-some : goal.returns-in-Some-clause-some
returns-in-Some-clause-some c = rw (← c.self.view_is) c.in-Some.ensures.some

pub returns-in-Some-clause-cut : goal.returns-in-Some-clause-cut
returns-in-Some-clause-cut c = rw (← c.self.view_is) c.in-Some.ensures.cut

pub returns-in-None-clause-none : goal.returns-in-None-clause-none
returns-in-None-clause-none c = rw (← c.self.view_is) (ap (λ (m : Moment). record m { taken = c.self.inside.taken }) (c.self-2.view_is ∙ c.in-None.ensures.none))
