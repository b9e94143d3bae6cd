use Rattle.std.proofs.Common.{◌≡◌, drop}
use Rattle.pv_types.specs.Known.{env}
use Rattle.pv_unit.specs.HeadParts.{may_define}
use Rattle.pv_check.specs.Declarators.{parameters_shown}
use Rattle.pv_unit.proofs.heads.may_define.Given as goal

abbrev pub invariant-loop-p : goal.invariant-loop-p
invariant-loop-p l = may_define (env l.types) (parameters_shown l.types (drop l.p-index l.parameters)) ≡ may_define (env l.types) (parameters_shown l.types l.parameters)
