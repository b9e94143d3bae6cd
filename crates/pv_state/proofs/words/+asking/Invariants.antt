use Rattle.std.proofs.Common.{◌+◌, ◌*◌, length}
use Rattle.pv_state.proofs.words.+asking.Given as goal

abbrev pub decreases-asked_by : goal.decreases-asked_by
decreases-asked_by l = length l.words.now * 2

abbrev pub decreases-with_value : goal.decreases-with_value
decreases-with_value l = length l.words.now * 2 + 1
