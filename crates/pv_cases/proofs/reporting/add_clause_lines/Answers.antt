use Rattle.std.proofs.Common.{ℕ, List, Bor, map, arith}
use Rattle.pv_cases.specs.Suites.{clause_line, cases_by}
use Rattle.pv_cases.specs.Views.{told_view}
use Rattle.pv_cases.proofs.Walks.{all_told}
use Rattle.pv_cases.proofs.reporting.add_clause_lines.Goals as goal

pub returns : goal.returns
returns c =
    all_told (λ (k : Bor (List ℕ)). clause_line k.now (cases_by k.now (map told_view c.args.told.now))) c.args.clauses.now c.loop-clause.clause-index c.loop-clause.text.items _ (omega (arith, c.loop-clause-test.false)) c.loop-clause.invariant
