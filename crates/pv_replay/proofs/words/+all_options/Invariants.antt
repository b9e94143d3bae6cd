use Rattle.std.proofs.Common.{length}
use Rattle.pv_replay.proofs.words.+all_options.Given as goal

abbrev pub decreases-all_options : goal.decreases-all_options
decreases-all_options l = length l.words.now
