use Rattle.pv_laws.proofs.Bytes.{run-bytes}
use Rattle.pv_laws.proofs.laws.bytes_are_of_live_instances.Goals as goal

pub returns : goal.returns
returns c = record { bytes = λ u sides zap script n. run-bytes u sides zap script n }
