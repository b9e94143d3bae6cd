use Rattle.std.proofs.Common.{◌≡◌, ◌++◌, drop}
use Rattle.std.specs.List.{flat_map}
use Rattle.pv_cases.proofs.reporting.case_lines.Given as goal

abbrev pub invariant-loop-case : goal.invariant-loop-case
invariant-loop-case l = l.text.items ++ flat_map (λ t. t.line.items) (drop l.case-index l.told) ≡ flat_map (λ t. t.line.items) l.told
