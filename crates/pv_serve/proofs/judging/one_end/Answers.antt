use Rattle.pv_exec.specs.Run.{setting_of, run_of}
use Rattle.pv_serve.proofs.JudgedLemmas as judged
use Rattle.pv_serve.proofs.judging.one_end.Goals as goal

pub returns : goal.returns
returns c = λ u lines bound zap sides names e f. judged.one_end (run_of (setting_of u bound sides zap) lines) names e f
