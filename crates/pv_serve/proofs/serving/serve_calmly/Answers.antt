use Rattle.pv_serve.proofs.OwedLemmas.{no_rise, none_rose}
use Rattle.pv_serve.proofs.CausesLemmas.{served_calmly}
use Rattle.pv_serve.proofs.serving.serve_calmly.Goals as goal

pub returns : goal.returns
returns g c = served_calmly _ (λ names rose. none_rose names rose) (λ rose. no_rise rose) (λ rose. no_rise rose) c.serve.ensures.served
