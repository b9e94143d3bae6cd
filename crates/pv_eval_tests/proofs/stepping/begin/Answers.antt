use Rattle.std.proofs.Common.{List, sym, subst}
use Rattle.pv_eval.specs.Machines.{Started}
use Rattle.pv_eval.specs.MachineSteps.{Fit}
use Rattle.pv_eval_tests.proofs.stepping.begin.Goals as goal

pub returns : goal.returns
returns c =
    let u = c.args.unit.now in
    c.start.ensures.fit u c.requires.node (subst (λ (es : List Started). Fit u es) (sym c.requires.none) tt)
