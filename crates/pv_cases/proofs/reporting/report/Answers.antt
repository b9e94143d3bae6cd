use Rattle.std.proofs.Common.{ℕ, List, ◌++◌, map, length, ap, ◌∙◌}
use Rattle.pv_cases.specs.Suites.{all_clauses, clause_lines, total_line, passed_in}
use Rattle.pv_cases.specs.Views.{told_view}
use Rattle.pv_cases.proofs.reporting.report.Goals as goal

pub returns-in-Ok : goal.returns-in-Ok
unfolding all_clauses
returns-in-Ok c =
    let ts = map told_view c.args.told.now in
    c.in-Ok.ensures ∙ ap (λ (text : List ℕ). text ++ total_line (length ts) (passed_in ts))
    (c.in_ok-add_clause_lines.ensures ∙ ap (λ (text : List ℕ). text ++ clause_lines all_clauses ts) c.in_ok-text.ensures)
