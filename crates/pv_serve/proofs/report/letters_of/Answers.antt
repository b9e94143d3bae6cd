use Rattle.std.proofs.Common.{arith}
use Rattle.pv_serve.proofs.SidesLemmas.{next_letter}
use Rattle.pv_serve.proofs.report.letters_of.Goals as goal

pub sides-preserved : goal.sides-preserved
sides-preserved c = record {
  letters = next_letter _ _ _ _ _ _ c.at.ensures c.letter_of.ensures c.sides.invariant.letters c.in_ok-push.ensures.items;
  within = omega (arith, c.sides-test.true);
}
