use Rattle.pv_serve.proofs.OwedLemmas.{no_rise, none_rose}
use Rattle.pv_serve.proofs.RepliesLemmas.{replied_calmly}
use Rattle.pv_replay.specs.Answers.{files_of, service}
use Rattle.std.specs.Prelude.{Some}
use Rattle.pv_script.specs.Calm.{calm_held}
use Rattle.pv_replay.proofs.calling.replay_calmly.Goals as goal

pub returns : goal.returns
returns g c = replied_calmly service _ (λ j rose. none_rose (files_of j (λ n. Some (calm_held c.args.files.now n))) rose) (λ rose. no_rise rose) c.replay.ensures.answered
