use Rattle.std.proofs.Common.{refl}
use Rattle.pv_serve.specs.Comes.{Typed}
use Rattle.pv_serve.proofs.TypedLemmas.{untyped}
use Rattle.pv_serve.proofs.checking.of_unit.Goals as goal

pub returns-in-Ok-clause-comes : goal.returns-in-Ok-clause-comes
returns-in-Ok-clause-comes c = Typed _ c.in-Ok.ensures.typed refl

pub returns-in-Ok-clause-parts : goal.returns-in-Ok-clause-parts
returns-in-Ok-clause-parts c = λ source lexed. tt

pub returns-in-Ok-clause-ready : goal.returns-in-Ok-clause-ready
returns-in-Ok-clause-ready c = record { known = c.in-Ok.ensures.known; main = c.in-Ok.ensures.main; small = c.in-Ok.ensures.small; filled = c.in-Ok.ensures.filled }

pub name_of-requires : goal.name_of-requires
name_of-requires c = c.in-Err.ensures.named

pub returns-in_ok-name-in-Err-clause-comes : goal.returns-in_ok-name-in-Err-clause-comes
returns-in_ok-name-in-Err-clause-comes c = untyped _ _ _ _ c.in-Err.ensures.refused c.in_ok-name-in-Err.ensures

pub returns-in_ok-name-in-Err-clause-parts : goal.returns-in_ok-name-in-Err-clause-parts
returns-in_ok-name-in-Err-clause-parts c = λ source lexed. record { tokens = c.args.tokens.now; lexed = lexed; is = c.in_ok-name-in-Err.ensures }
