use Rattle.pv_serve.proofs.OwedLemmas.{no_rise, none_rose}
use Rattle.pv_serve.proofs.RepliesLemmas.{replied_calmly}
use Rattle.pv_step.specs.Answers.{service}
use Rattle.pv_step.specs.Words.{files_of}
use Rattle.pv_step.proofs.calling.step_calmly.Goals as goal

pub returns : goal.returns
returns g c = replied_calmly service _ (λ j rose. none_rose (files_of j) rose) (λ rose. no_rise rose) c.step.ensures.answered
