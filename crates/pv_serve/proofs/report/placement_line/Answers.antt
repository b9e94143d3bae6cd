use Rattle.std.proofs.Common.{◌∙◌, ap, codes, ℕ, Vec, Global}
use Rattle.std.specs.Fmt.{decimal}
use Rattle.pv_serve.specs.Report.{line_feed}
use Rattle.pv_serve.proofs.ReportLemmas.{placed}
use Rattle.pv_serve.proofs.report.placement_line.Goals as goal

pub returns : goal.returns
returns c =
    rw (← c.text-reason.ensures)
    (placed _ _ _ _ (codes "placement reason=") c.text-reason.result.now (codes " name=") c.args.name.now (codes " k=") (decimal c.args.k) (codes " line=") (decimal c.args.line) (codes " turn=") (decimal c.args.turns) line_feed
    (ap (λ (v : Vec ℕ Global). v.items) c.into_bytes-text.ensures.value ∙ c.in_ok-format.ensures.ok) c.in_ok-extend_from_slice.ensures.items (c.as_bytes.ensures.value ∙ c.in_ok-rest.ensures.ok) c.in_ok-extend_from_slice-2.ensures.items)
