use Rattle.std.proofs.Common.{◌≤◌}
use Rattle.pv_stmt_forms.proofs.RegionSteps.{Known}
use Rattle.pv_stmt_forms.proofs.regions.region_end.Given as goal

abbrev pub invariant-loop-at : goal.invariant-loop-at
invariant-loop-at l = record {
  few : l.scan.braces ≤ l.at;
  place : l.from ≤ l.at;
  known : Known l.tokens.tokens l.from l.at l.scan.braces;
}
