use Rattle.std.proofs.Common.{◌≡◌, ◌≤◌, ◌-◌}
use Rattle.std.specs.Prelude.{take, map}
use Rattle.pv_serve.specs.Report.{letter_of}
use Rattle.pv_serve.proofs.report.letters_of.Given as goal

abbrev pub invariant-sides : goal.invariant-sides
invariant-sides l = record {
  letters : l.letters.items ≡ map letter_of (take l.k l.sides);
  within : l.k ≤ l.count;
}

abbrev pub decreases-sides : goal.decreases-sides
decreases-sides l = l.count - l.k
