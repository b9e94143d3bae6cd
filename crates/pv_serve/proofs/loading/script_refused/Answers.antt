use Rattle.pv_serve.proofs.LoadLemmas.{refused_script}
use Rattle.pv_serve.proofs.loading.script_refused.Goals as goal

pub returns-in_default : goal.returns-in_default
returns-in_default c = λ source script short is. refused_script source script _ c.in_default.not-NoMemory short is
