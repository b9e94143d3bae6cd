use Rattle.std.proofs.Common.{refl}
use Rattle.pv_shown.specs.Recorded.{Somebody, is_of}
use Rattle.pv_shown.proofs.Places.{at_is}
use Rattle.pv_shown.proofs.past.Past.end.Goals as goal

pub returns-in-Some-clause-lives : goal.returns-in-Some-clause-lives
returns-in-Some-clause-lives c =
    let at = rw c.as_slice.ensures.value at c.life_in-x.ensures in
    Somebody c.in-Some.i c.life_in-x.result at (at_is (is_of c.args.names.now c.args.key) c.args.self.now.lives.items c.in-Some.i c.life_in-x.result c.in-Some.ensures.found at) refl
