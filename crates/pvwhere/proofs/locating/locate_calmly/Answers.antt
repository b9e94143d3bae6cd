use Rattle.pv_serve.proofs.OwedLemmas.{no_rise}
use Rattle.pv_serve.proofs.RepliesLemmas.{replied_calmly}
use Rattle.pvwhere.specs.Answers.{service}
use Rattle.pvwhere.proofs.locating.locate_calmly.Goals as goal

pub returns : goal.returns
returns c = replied_calmly service _ (λ name rose. no_rise rose) (λ rose. no_rise rose) c.locate.ensures.answered
