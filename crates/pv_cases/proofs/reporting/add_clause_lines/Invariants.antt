use Rattle.std.proofs.Common.{◌≡◌, ◌++◌, drop, map}
use Rattle.std.specs.List.{flat_map}
use Rattle.pv_cases.specs.Suites.{clause_line, cases_by}
use Rattle.pv_cases.specs.Views.{told_view}
use Rattle.pv_cases.proofs.reporting.add_clause_lines.Given as goal

abbrev pub invariant-loop-clause : goal.invariant-loop-clause
invariant-loop-clause l =
    l.text.items ++ flat_map (λ k. clause_line k.now (cases_by k.now (map told_view l.told))) (drop l.clause-index l.clauses)
    ≡ l.fn.text.items ++ flat_map (λ k. clause_line k.now (cases_by k.now (map told_view l.told))) l.clauses
