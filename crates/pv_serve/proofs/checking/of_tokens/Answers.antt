use Rattle.std.proofs.Common.{refl}
use Rattle.pv_serve.proofs.ComesLemmas.{spelled_if, no_unit}
use Rattle.pv_serve.proofs.checking.of_tokens.Goals as goal

pub returns-in-Ok-clause-comes : goal.returns-in-Ok-clause-comes
returns-in-Ok-clause-comes c = spelled_if _ _ _ c.in-Ok.ensures.spelled c.of_unit.ensures.comes

pub returns-in-Ok-clause-parts : goal.returns-in-Ok-clause-parts
returns-in-Ok-clause-parts c = c.of_unit.ensures.parts

pub returns-in-Err-Syntax-clause-comes : goal.returns-in-Err-Syntax-clause-comes
returns-in-Err-Syntax-clause-comes c = no_unit _ _ _ _ c.in-Err-Syntax.ensures.syntax c.in-Err-Syntax.field-0-is (rw c.in-Err-Syntax.field-0-is refl)

pub returns-in-Err-Syntax-clause-parts : goal.returns-in-Err-Syntax-clause-parts
returns-in-Err-Syntax-clause-parts c = λ source lexed. tt
