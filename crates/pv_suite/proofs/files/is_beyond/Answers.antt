use Rattle.std.proofs.Common.{length}
use Rattle.pv_suite.proofs.FilesLemmas.{long_is}
use Rattle.pv_suite.proofs.files.is_beyond.Goals as goal

pub returns : goal.returns
returns c = long_is (length c.args.output.now)
