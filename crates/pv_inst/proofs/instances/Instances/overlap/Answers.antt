use Rattle.std.proofs.Common.{◌≤◌, refl, arith}
use Rattle.pv_inst.proofs.Apartness.{none_behind}
use Rattle.pv_inst.proofs.instances.Instances.overlap.Goals as goal

pub returns-then-self-base : goal.returns-then-self-base
returns-then-self-base c =
    let far : c.self.inside.top ≤ c.args.base = omega arith in
    let none = none_behind c.self.inside.instances.items c.self.inside.top c.args.base c.args.size c.self.invariant.below far in
    rw (← c.self.view_is, none) refl
