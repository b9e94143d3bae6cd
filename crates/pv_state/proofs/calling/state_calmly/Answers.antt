use Rattle.std.specs.Prelude.{Some}
use Rattle.pv_script.specs.Calm.{calm_held}
use Rattle.pv_serve.specs.Answer.{files_read}
use Rattle.pv_serve.proofs.OwedLemmas.{no_rise, none_rose}
use Rattle.pv_serve.proofs.RepliesLemmas.{replied_calmly}
use Rattle.pv_state.specs.Answers.{service}
use Rattle.pv_state.proofs.calling.state_calmly.Goals as goal

pub returns : goal.returns
returns c =
    replied_calmly service _ (λ j rose. none_rose (files_read j.file j.script (λ n. Some (calm_held c.args.files.now n))) rose) (λ rose. no_rise rose) c.state.ensures.answered
