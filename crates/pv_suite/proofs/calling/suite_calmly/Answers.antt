use Rattle.std.specs.Prelude.{Some}
use Rattle.pv_script.specs.Calm.{calm_held}
use Rattle.pv_serve.proofs.OwedLemmas.{no_rise}
use Rattle.pv_serve.proofs.RepliesLemmas.{replied_calmly}
use Rattle.pv_suite.specs.Causes.{service}
use Rattle.pv_suite.proofs.CauseLemmas.{list_calm}
use Rattle.pv_suite.proofs.calling.suite_calmly.Goals as goal

pub returns : goal.returns
returns c = replied_calmly service _ (λ name rose. list_calm name (λ n. Some (calm_held c.args.files.now n)) rose) (λ rose. no_rise rose) c.suite.ensures.answered
