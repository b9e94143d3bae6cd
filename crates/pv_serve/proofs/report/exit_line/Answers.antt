use Rattle.std.proofs.Common.{◌≡◌, ℤ, ◌++◌, sym, ap, ◌∙◌, codes, w32, to_z, of_z}
use Rattle.std.proofs.Math.Facts.{to_z-of_z}
use Rattle.std.specs.Fmt.{decimal, signed_decimal}
use Rattle.pv_serve.specs.Report.{line_feed}
use Rattle.pv_serve.proofs.ReportLemmas.{five}
use Rattle.pv_serve.proofs.report.exit_line.Goals as goal

pub returns : goal.returns
returns c =
    let same : to_z w32 (of_z w32 c.args.status) ≡ c.args.status = to_z-of_z {w = w32} {z = c.args.status} c.ranges.status in
    c.in_ok-format.ensures.ok
    ∙ (ap (λ (z : ℤ). codes "exit status=" ++ (signed_decimal z ++ (codes " turn=" ++ (decimal c.args.turns ++ line_feed)))) same
    ∙ sym (five (codes "exit status=") (signed_decimal c.args.status) (codes " turn=") (decimal c.args.turns) line_feed))
