use Rattle.std.specs.Int.{w128}
use Rattle.std.specs.Prelude.{ℤ}
use Rattle.std.proofs.Common.{refl, sym, ap, ◌∙◌}
use Rattle.std.proofs.lemmas.Int.{to_z-of_z}
use Rattle.pv_exec.specs.LabelParts.{some_case}
use Rattle.pv_exec.specs.Tasks.{statements_from}
use Rattle.pv_exec.proofs.Finding.{reaches-default}
use Rattle.pv_exec.proofs.switches.target.Goals as goal

pub returns-in-None : goal.returns-in-None
returns-in-None c =
    let u = c.args.unit.now in
    let l = c.args.l in
    let same = to_z-of_z w128 c.args.v c.ranges.v in
    let none = sym (ap (λ (n : ℤ). some_case n (statements_from u l 0)) same) ∙ c.in-None.ensures.none refl in
    reaches-default u l c.args.v c.find_label-in-None.result none c.find_label-in-None.ensures.none c.find_label-in-None.ensures.some
