use Rattle.std.proofs.Common.{IfSome, subst}
use Rattle.pv_shadow.specs.Readings.{HasDigits}
use Rattle.pv_object.specs.Memory.{Mem}
use Rattle.pv_object.proofs.memory.Memory.digits.Goals as goal

pub returns : goal.returns
returns c =
    let P : Mem → Type 0 = λ M. IfSome c.digits.result (HasDigits M.bytes c.args.a c.args.n) in
    subst P c.self.view_is c.digits.ensures
