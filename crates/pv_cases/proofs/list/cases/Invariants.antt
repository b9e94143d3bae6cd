use Rattle.std.proofs.Common.{◌≡◌, ◌+◌, drop, map, [], All}
use Rattle.pv_cases.specs.Cases.{after_lines}
use Rattle.pv_cases.specs.Views.{case_view, IsBounded}
use Rattle.pv_cases.proofs.list.cases.Given as goal

-- the lines that are left lead where all of them lead
abbrev pub invariant-loop-i : goal.invariant-loop-i
invariant-loop-i l = record {
  lead : after_lines (l.i + 1) (drop l.i (map (λ x. x.now) l.lines.items)) (map case_view l.cases.items) ≡ after_lines 1 (map (λ x. x.now) l.lines.items) [];
  bounds : All IsBounded l.cases.items;
}
