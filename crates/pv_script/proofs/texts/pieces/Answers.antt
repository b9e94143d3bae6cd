use Rattle.std.proofs.Common.{rules, tests, Ok, ℕ}
use Rattle.std.proofs.lemmas.Iterator.Consumers.{map_from_collect}
use Rattle.std.proofs.lemmas.Iterator.Splits.{YieldsList-from_slice_split}
use Rattle.pv_script.proofs.texts.pieces.Goals as goal

pub returns-in-Ok : goal.returns-in-Ok
returns-in-Ok c = map_from_collect {E = ℕ} (Ok c.in-Ok.cut) c.in-Ok.ensures.ran (YieldsList-from_slice_split _ _ c.args.text.now c.split.ensures.rest c.split.ensures.done c.split.ensures.closure (λ x r q k. search (rules, tests)))
