use Rattle.std.proofs.Common.{◌≡◌, ℕ, ◌≤◌, List, map}
use Rattle.pv_cases.specs.Views.{case_view, told_view}
use Rattle.pv_suite.proofs.WalkLemmas.{Leads, Reaches}
use Rattle.pv_suite.proofs.walking.walk.Given as goal

-- the cases that are left lead where all of them lead, and none before them was refused
abbrev pub invariant-loop-i : goal.invariant-loop-i
invariant-loop-i g l = record {
  leads : Leads (g.F.Files.held l.fn.files) (map case_view l.cases) l.i (map told_view l.told.items);
  reaches : Reaches (g.F.Files.held l.fn.files) (map case_view l.cases) l.i;
  same : (n : List ℕ) → g.F.Files.held l.files n ≡ g.F.Files.held l.fn.files n;
  later : (n : List ℕ) → g.F.Files.faults l.fn.files n ≤ g.F.Files.faults l.files n;
}
