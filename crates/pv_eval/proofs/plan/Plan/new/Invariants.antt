use Rattle.std.proofs.Common.{◌≡◌, length}
use Rattle.pv_eval.specs.Codes.{AreCodes}
use Rattle.pv_eval.proofs.plan.Plan.new.Given as goal

abbrev pub invariant-loop-n : goal.invariant-loop-n
invariant-loop-n l = record {
  codes : AreCodes l.unit l.codes.items;
  place : length l.codes.items ≡ l.n;
}
