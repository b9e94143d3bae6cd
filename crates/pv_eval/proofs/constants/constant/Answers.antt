use Rattle.std.proofs.Common.{◌≡◌, arith}
use Rattle.std.proofs.lemmas.Int.{to_z-of_z}
use Rattle.pv_world.specs.Worths.{int}
use Rattle.pv_world.specs.Coming.{worth_of}
use Rattle.pv_eval.proofs.constants.constant.Goals as goal

pub returns-in-Int : goal.returns-in-Int
returns-in-Int c =
    let e : worth_of c.integer.result ≡ int c.in-Int.n = grind (arith, to_z-of_z) in
    rw c.in-Int.is e
