use Rattle.std.specs.Int.{w128}
use Rattle.std.proofs.Common.{subst}
use Rattle.std.specs.Prelude.{ℤ}
use Rattle.std.proofs.lemmas.Int.{to_z-of_z}
use Rattle.pv_exec.specs.Switches.{selection_in, Reaches}
use Rattle.std.proofs.Common.{Some, None}
use Rattle.pv_exec.proofs.Selecting.{no-jump, jump-leads}
use Rattle.pv_exec.proofs.switches.jump_to.Goals as goal

pub returns-in-None-clause-led : goal.returns-in-None-clause-led
returns-in-None-clause-led c = λ b k es s lt.
    let u = c.args.unit.now in
    let same = to_z-of_z w128 c.args.v c.ranges.v in
    no-jump b u k c.args.v (selection_in u c.args.parts).block es s lt (subst (λ (n : ℤ). Reaches u c.args.parts.items n None) same c.in-None.ensures)

pub returns-in-Some-clause-led : goal.returns-in-Some-clause-led
returns-in-Some-clause-led c = λ b k es s lt.
    let u = c.args.unit.now in
    let same = to_z-of_z w128 c.args.v c.ranges.v in
    let r = subst (λ (n : ℤ). Reaches u c.args.parts.items n (Some c.in-Some.i)) same c.in-Some.ensures in
    jump-leads b u k c.args.v c.args.parts c.in-Some.i es s lt r.0 r.1
